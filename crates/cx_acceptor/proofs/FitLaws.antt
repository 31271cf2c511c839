-- An acceptor keeps a vote that it may keep.
use Rattle.std.proofs.lemmas.Bool.{le-leb, ltb-false}
use Rattle.cx_role.proofs.Common.{◌≡◌, ℕ, ◌&&◌, true, nat_lt, refl, and_parts, Value, RoleId, Round, same_role, is_before, in_window}
use Rattle.cx_role.proofs.Common.{Letter, Take, names, names_round, names_value, by_test, Running, outcome_of, MayKeep, acceptor_rules}
use Rattle.cx_role.proofs.Common.{is_of_round, vote_at}
use Rattle.cx_role.proofs.Common.msg
use Rattle.cx_role.proofs.Named.{body_named}
use Rattle.cx_letter.specs.LetterParts.{PartsFit}
use Rattle.cx_model.specs.Acceptor.{AcceptorDurable, phase2a_row}

module _ (s : Running AcceptorDurable (Unit {0})) (i : Round) (n cw : ℕ) (v : Value) where
  phase2a_fit : (from : RoleId) → names_round s.cluster i ≡ true → names_value s.cluster v ≡ true
      → in_window cw n ≡ true → MayKeep acceptor_rules s (phase2a_row s.me s.durable from i n cw v)
  phase2a_fit from named values inside =
      let Fits = MayKeep acceptor_rules s in
      by_test Fits (is_before i s.durable.promise) _ _ (λ _. tt) (λ high.
      by_test Fits (nat_lt n s.durable.cw) _ _ (λ _. tt) (λ low.
      by_test Fits (is_of_round i (vote_at n s.durable.votes)) _ _ (λ _. tt) (λ new.
      (rw (named, values, high, le-leb s.durable.cw n (ltb-false n s.durable.cw low), inside, new) refl, refl))))

  -- the record of a vote that was asked for is one that the acceptor may append
  pub vote_fit : (l : Letter) → l.msg ≡ msg.Phase2A i n cw v → PartsFit l.from l.to l.msg
      → MayKeep acceptor_rules s (outcome_of acceptor_rules s (Take l))
  vote_fit l is parts =
      by_test (MayKeep acceptor_rules s) (same_role l.to s.me && names s.cluster l) _ _ (λ ours.
      let named = and_parts (names_round s.cluster i) (names_value s.cluster v) (rw is at (body_named s.cluster s.me l ours)) in
      let fit = rw is at parts in
      rw is (phase2a_fit l.from named.0 named.1 fit.4)) (λ _. tt)
