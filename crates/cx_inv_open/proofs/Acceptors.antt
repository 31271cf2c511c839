-- An acceptor keeps what it may keep, and reports votes in the window of its watermark.
use Rattle.cx_inv_run.proofs.Common.{◌≡◌, ℕ, ◌+◌, ◌<◌, ◌≤◌, ◌&&◌, ◌||◌, true, false, nat_le, nat_lt, List, refl, subst, inl, arith}
use Rattle.cx_inv_run.proofs.Common.{and_parts, and_from, nat_tests, Cluster, RoleId, Round, role, same_role, is_before, same_round, Vote}
use Rattle.cx_inv_run.proofs.Common.{Letter, letter, Input, KeptRecord, Msg, AcceptorDurable, acceptor_rules, acceptor_row, acceptor_takes}
use Rattle.cx_inv_run.proofs.Common.{is_of_round, vote_at, Member, names, names_body, names_role, names_round, names_value, Outcome}
use Rattle.cx_inv_run.proofs.Common.{by_test, IsFit, Lands, State, Given, plain, durable_of}
use Rattle.cx_base.specs.declared.role.Kind.TheVariants as kind
use Rattle.cx_field.specs.Fields.{in_window}
use Rattle.cx_letter.specs.declared.input.Input.TheVariants as input
use Rattle.cx_letter.specs.declared.message.Msg.TheVariants as msg
use Rattle.cx_inv_match.specs.Facts.{Facts}
use Rattle.cx_inv_open.specs.Fits.{Fitting}
use Rattle.cx_inv_open.proofs.Keep.{AllInWindow, none_in, one_in, new_fits, lands, vote_window}

-- a round that is neither before another nor the same is after it
is_after : (a b : Round) → is_before a b ≡ false → same_round a b ≡ false → is_before b a ≡ true
is_after a b before same = grind (arith, nat_tests)

is_new : (a b : Round) (n k : ℕ) → is_before a b ≡ false → (same_round a b && nat_le n k) ≡ false → (is_before b a || nat_lt k n) ≡ true
is_new a b n k before new = grind (arith, nat_tests)

not_below : (n k : ℕ) → nat_lt n k ≡ false → nat_le k n ≡ true
not_below n k h = grind (arith, nat_tests)

within : (cw s : ℕ) → cw ≤ s → s < cw + 32 → in_window cw s ≡ true
within cw s low high = and_from (nat_le cw s) (nat_lt s (cw + 32)) (grind (arith, nat_tests)) (grind (arith, nat_tests))

-- what it is asked to vote for lies in the window
abbrev AsksInWindow : Msg → Type 0
AsksInWindow (msg.Phase2A i s cw v) = in_window cw s ≡ true
AsksInWindow other = Unit {0}

module _ (c : Cluster) (me : RoleId) (d : AcceptorDurable) (votes : (u : Vote) → Member u d.votes → u.slot < d.cw + 32) where
  abbrev Fine : Outcome (Unit {0}) → Type 0
  Fine o = IsFit acceptor_rules c me d o.kept × AllInWindow o.sends

  takes_fine : (from : RoleId) (m : Msg) → AsksInWindow m → names_body c m ≡ true → Fine (acceptor_takes me d from m)
  takes_fine from (msg.Phase1A i) asks named =
      by_test Fine (is_before i d.promise) _ _ (λ t. (tt, one_in _ tt))
      (λ high. by_test Fine (same_round i d.promise) _ _ (λ t. (tt, one_in _ votes))
      (λ new. ((rw (named, is_after i d.promise high new) refl, refl), one_in _ votes)))
  takes_fine from (msg.Phase2A i s cw v) asks named =
      let a = and_parts (names_round c i) (names_value c v) named in
      by_test Fine (is_before i d.promise) _ _ (λ t. (tt, one_in _ tt))
      (λ high. by_test Fine (nat_lt s d.cw) _ _ (λ t. (tt, none_in))
      (λ from_cw. by_test Fine (is_of_round i (vote_at s d.votes)) _ _ (λ t. (tt, one_in _ tt))
      (λ new. ((rw (a.0, a.1, high, not_below s d.cw from_cw, asks, new) refl, refl), one_in _ tt))))
  takes_fine from (msg.Inform i cw) asks named =
      by_test Fine (is_before i d.promise) _ _ (λ t. (tt, one_in _ tt))
      (λ high. by_test Fine (same_round i d.promise && nat_le cw d.cw) _ _ (λ t. (tt, one_in _ tt))
      (λ new. ((rw (named, high) (is_new i d.promise cw d.cw high new), refl), one_in _ tt)))
  takes_fine from (msg.PreRead t w) asks named = (tt, one_in _ tt)
  takes_fine from other asks named = (tt, none_in)

  row_fine : (i : Input) → ((x : Letter) → i ≡ input.Take x → AsksInWindow x.msg) → Fine (acceptor_row c me d tt i)
  row_fine (input.Take x) asks =
      by_test Fine (same_role x.to me && names c x) _ _
      (λ is. let a = and_parts (same_role x.to me) (names c x) is in
      takes_fine x.from x.msg (asks x refl) (and_parts (names_role c x.from && names_role c x.to) (names_body c x.msg) a.1).1)
      (λ f. (tt, none_in))
  row_fine input.Tick asks = (tt, none_in)
  row_fine (input.Order order) asks = (tt, none_in)

module _ (c : Cluster) (history : List KeptRecord) (sent : List Letter) (states : RoleId → State) (facts : Facts c history sent states)
    (h : Fitting c history sent states) (a : ℕ) where
  abbrev me : RoleId
  me = role kind.Acceptor a

  -- each vote is in the window of its own watermark, and so of a greater one
  reports : (u : Vote) → Member u (durable_of acceptor_rules me history).votes → u.slot < (durable_of acceptor_rules me history).cw + 32
  reports u m =
      let acceptor = facts.acceptors me in
      let voted = (acceptor.only u m).0 in
      let window = vote_window c history h.fit me u.round u.slot voted.0 u.value voted.1 in
      let low = acceptor.mark u.round voted.0 (inl (u.slot, u.value, voted.1)) in
      omega arith

  asked : (from to : RoleId) (m : Msg) → Member (letter from to m) sent → AsksInWindow m
  asked from to (msg.Phase2A i s cw v) x = within cw s (facts.says _ x).1 (h.says _ x)
  asked from to other x = tt

  given : (i : Input) → Given sent me i → (x : Letter) → i ≡ input.Take x → AsksInWindow x.msg
  given (input.Take y) g x e = let same : y ≡ x = cc in subst (λ (z : Letter). AsksInWindow z.msg) same (asked y.from y.to y.msg g.1)
  given input.Tick g x e = cc
  given (input.Order order) g x e = cc

  pub acceptor_lands : (i : Input) → Given sent me i
      → Lands (Fitting c) history sent states me plain (acceptor_row c me (durable_of acceptor_rules me history) tt i)
  acceptor_lands i g =
      let fine = row_fine c me (durable_of acceptor_rules me history) reports i (given i g) in
      lands c history sent states h me plain _ (new_fits acceptor_rules c history me (λ r x. x) _ fine.0) tt fine.1
