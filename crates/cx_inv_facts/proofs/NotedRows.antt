-- Each row of a leader and of a proxy leader leaves what it notes with a datagram that it came in.
use Rattle.cx_inv_run.proofs.Common.{◌≡◌, ℕ, zero, suc, ◌+◌, ◌≤◌, true, false, not, ◌&&◌, ◌||◌, ◌==◌, ◌⊎◌, List, [], ◌∷◌, ◌++◌, filter, max}
use Rattle.cx_inv_run.proofs.Common.{Option, None, Some, ap, sym, subst, ◌∙◌, refl, inl, inr, arith, nat_le, nat_lt, length, slice_index_or}
use Rattle.cx_inv_run.proofs.Common.{slice_set, true≢false, and_parts, not-false, leb-true, ltb-false, cases_Bool, nat_tests, Cluster}
use Rattle.cx_inv_run.proofs.Common.{Command, Placed, Value, Noop, Lead, Collect, Replace, RoleId, Round, Why, Shape, is_in, role}
use Rattle.cx_inv_run.proofs.Common.{same_role, is_before, same_round, no_round, lead_after, change_after, is_above, Entry, Vote}
use Rattle.cx_inv_run.proofs.Common.{column_whole, with_mark, Letter, letter, Input, Take, Tick, Order, KeptRecord, Msg, MatchAnswer, Mode}
use Rattle.cx_inv_run.proofs.Common.{Idle, Matching, Phase1, Leading, Pending, Promised, Collecting, Retired, Collection, collection_from}
use Rattle.cx_inv_run.proofs.Common.{with_informed, with_forgotten, is_off, is_informing, is_collecting, is_retired, LeaderWasTold}
use Rattle.cx_inv_run.proofs.Common.{LeaderDurable, LeaderVolatile, round_of, is_own, is_idle, is_matching, is_promising, is_leading}
use Rattle.cx_inv_run.proofs.Common.{begin_in, finish, is_changed, matched_by, match_counted, promise_counted, with_seen, propose_in}
use Rattle.cx_inv_run.proofs.Common.{collect_in, informed_counted, informed_in, forgotten_counted, is_past_window, is_settled}
use Rattle.cx_inv_run.proofs.Common.{count_reaching, greatest_of, held_by, raised_to, set_learnt, leader_takes, tick_in, order_row}
use Rattle.cx_inv_run.proofs.Common.{leader_row, has_no_room, enough, is_counted, live_entries, is_member_of, rows_whole, Member, names}
use Rattle.cx_inv_run.proofs.Common.{names_grid, Outcome, only_word, replied, by_test, either_way, promised_by, has_promised, votes_told}
use Rattle.cx_inv_run.proofs.Common.{greatest_cw, best_vote, voted_value, plan, placed_from, ProxyVolatile, pending_at, propose_over}
use Rattle.cx_inv_run.proofs.Common.{vote_for, proxy_takes, proxy_tick, proxy_row, Kinds, State, Given, Member-cases, Member-one}
use Rattle.cx_inv_run.proofs.Common.{Member-filter, Member-is_in, same_round-true}
use Rattle.cx_base.specs.declared.command.Value.TheVariants.{Batch}
use Rattle.cx_base.specs.declared.event.Order.{Order as OrderOf}
use Rattle.cx_base.specs.declared.event.Order.TheVariants.{Change, Offer}
use Rattle.cx_base.specs.declared.role.Kind.TheVariants as kind
use Rattle.cx_base.specs.declared.why.Why.TheVariants as why
use Rattle.cx_letter.specs.declared.message.Msg.TheVariants as msg
use Rattle.cx_model.specs.Proxy as proxy
use Rattle.cx_inv_match.specs.Facts.{AreOnce}
use Rattle.cx_inv_vote.proofs.Moves.{is_informing-stage, is_collecting-stage}
use Rattle.cx_inv_vote.proofs.Searches.{mark-cases, votes_from, Greatest, best_is_greatest, placed_at}
use Rattle.cx_inv_facts.specs.Sources.{Came, IsNamedByRefusal, IsPromised, IsReported, LeaderNotes, ProxyNotes}

-- one that isn't counted is counted once
once_marked : (a : ℕ) (ms : List ℕ) → (Member a ms → ⊥) → AreOnce ms → AreOnce (with_mark a ms)
once_marked a [] new once = (λ m. m, tt)
once_marked a (m ∷ ms) new once =
    either_way AreOnce (a == m) _ _ once
    (either_way AreOnce (nat_lt a m) _ _ (new, once)
    (λ k. elim (mark-cases m a ms k) [ inl e ↦ new (inl (sym e)) | inr n ↦ once.0 n ], once_marked a ms (λ k. new (inr k)) once.1))

not_in : (a : ℕ) (ms : List ℕ) → is_in a ms ≡ false → Member a ms → ⊥
not_in a ms f m = true≢false (sym (Member-is_in a ms m) ∙ f)

-- what replicas reported

-- a greater number in one place reaches no less
reach_more : (k : ℕ) (held : List ℕ) (p n : ℕ) → slice_index_or held p 0 ≤ n → count_reaching k held ≤ count_reaching k (slice_set held p n)
reach_more k [] p n l = omega arith
reach_more k (x ∷ xs) zero n l = elim (cases_Bool (nat_le k x)) [
  | inl t ↦ (let u : nat_le k n ≡ true = grind (arith, nat_tests) in rw (t, u) (omega arith))
  | inr f ↦ (elim (cases_Bool (nat_le k n)) [ inl t ↦ rw (f, t) (omega arith) | inr g ↦ rw (f, g) (omega arith) ])
]
reach_more k (x ∷ xs) (suc p) n l = let r = reach_more k xs p n l in elim (cases_Bool (nat_le k x)) [
  | inl t ↦ rw t (omega arith)
  | inr f ↦ rw f r
]

greatest_there : (ns : List ℕ) → (greatest_of ns ≡ 0) ⊎ Member (greatest_of ns) ns
greatest_there [] = inl refl
greatest_there (n ∷ ns) = elim (cases_Bool (nat_le (greatest_of ns) n)) [
  | inl t ↦ (let e : max n (greatest_of ns) ≡ n = grind (arith, nat_tests) in inr (inl e))
  | inr f ↦ (let e : max n (greatest_of ns) ≡ greatest_of ns = grind (arith, nat_tests) in elim (greatest_there ns) [
    | inl z ↦ inl (e ∙ z)
    | inr m ↦ inr (inr (subst (λ x. Member x ns) (sym e) m))
  ])
]

held_reached : (count : ℕ) (held : List ℕ) → (held_by count held ≡ 0) ⊎ (count ≤ count_reaching (held_by count held) held)
held_reached count held = elim (greatest_there (filter (λ n. nat_le count (count_reaching n held)) held)) [
  | inl z ↦ inl z
  | inr m ↦ inr (leb-true count (count_reaching (held_by count held) held)
      (Member-filter (λ n. nat_le count (count_reaching n held)) (held_by count held) held m).1)
]

-- what acceptors reported

cw_told : (low : ℕ) (promises : List Promised)
    → (greatest_cw low promises ≡ low) ⊎ ((q : Promised) × Member q promises × (greatest_cw low promises ≡ q.cw))
cw_told low [] = inl refl
cw_told low (p ∷ promises) = elim (cases_Bool (nat_le (greatest_cw low promises) p.cw)) [
  | inl t ↦ (let e : max p.cw (greatest_cw low promises) ≡ p.cw = grind (arith, nat_tests) in inr (p, inl refl, e))
  | inr f ↦
      (let e : max p.cw (greatest_cw low promises) ≡ greatest_cw low promises = grind (arith, nat_tests) in elim (cw_told low promises) [
        | inl z ↦ inl (e ∙ z)
        | inr r ↦ inr (r.0, inr r.1, e ∙ r.2)
      ])
]

module _ (c : Cluster) (history : List KeptRecord) (sent : List Letter) (states : RoleId → State) (kinds : Kinds history sent states)
    (me : RoleId) (d : LeaderDurable) (v : LeaderVolatile) (told : LeaderWasTold sent me (round_of d.own) v)
    (notes : LeaderNotes c sent me (round_of d.own) v) where
  abbrev Noted : LeaderVolatile → Type 0
  Noted u = LeaderNotes c sent me (round_of d.own) u

  -- in the round that the leader has after the row, which is another one only where it keeps a record
  pub record NotesOn (o : Outcome LeaderVolatile) : Type 0 where
    pub after : (j : Round) → (o.kept ≡ None → j ≡ round_of d.own) → LeaderNotes c sent me j o.volatile

  goes_on : (w : Why) (u : LeaderVolatile) (ds : List Letter) → Noted u → NotesOn (replied w u ds)
  goes_on w u ds h = record { after = λ j same. subst (λ r. LeaderNotes c sent me r u) (sym (same refl)) h }

  stays : (w : Why) → NotesOn (only_word w v)
  stays w = goes_on w v [] notes

  -- what else changes doesn't matter
  alike : (mode : Mode) (told : List MatchAnswer) (promises : List Promised) (next end : ℕ) (chosen : List ℕ)
      → Noted (record v { mode = mode; told = told; promises = promises; next = next; end = end; chosen = chosen })
  alike mode told promises next end chosen =
      record { seen = notes.seen; proposed = notes.proposed; cw = notes.cw; once = notes.once; retired = notes.retired }

  moded : (mode : Mode) (u : LeaderVolatile) → Noted u → Noted (record u { mode = mode })
  moded mode u h = record { seen = h.seen; proposed = h.proposed; cw = h.cw; once = h.once; retired = h.retired }

  bypassed : (u : LeaderVolatile) → Noted u → Noted (record u { mode = Leading; end = u.next; chosen = [] })
  bypassed u h = record { seen = h.seen; proposed = h.proposed; cw = h.cw; once = h.once; retired = h.retired }

  -- a round that it heard of
  heard : (mode : Mode) (j : Round) → IsNamedByRefusal sent me j → Noted (record (with_seen j v) { mode = mode })
  heard mode j named = record {
    seen = either_way (λ (r : Round). (r ≡ no_round) ⊎ IsNamedByRefusal sent me r) (is_before v.seen j) j v.seen (inr named) notes.seen;
    proposed = notes.proposed;
    cw = notes.cw;
    once = notes.once;
    retired = notes.retired;
  }

  begun : (g : Shape) (o : Option Round) → NotesOn (begin_in c me v g o)
  begun g None = stays why.End
  begun g (Some i) = record {
    after = λ j same. record { seen = notes.seen; proposed = notes.proposed; cw = notes.cw; once = tt; retired = λ t. cc };
  }

  -- the end of the first phase

  abbrev AreTold : List Promised → Type 0
  AreTold promises = (q : Promised) → Member q promises → (i : Round) × Came sent me (msg.Phase1B i q.cw q.votes)

  old_told : AreTold v.promises
  old_told q m = (round_of d.own, (role kind.Acceptor q.acceptor, told.promises q m))

  planned : (promises : List Promised) → AreTold promises → (s : ℕ) (p : Placed) → p.slot ≡ s → (o : Option Vote)
      → best_vote s (votes_told promises) ≡ o → p.value ≡ voted_value o → (p.value ≡ Noop) ⊎ IsReported sent me p
  planned promises h s p slot None e same = inl same
  planned promises h s p slot (Some u) e same =
      let best = subst (λ (o : Option Vote). Greatest s (votes_told promises) o) e (best_is_greatest s (votes_told promises)) in
      let from = votes_from promises u best.member in
      let came = h from.0 from.1 in
      inr record {
        round = came.0;
        cw = (from.0).cw;
        votes = (from.0).votes;
        came = came.1;
        vote = u;
        member = from.2;
        slot = best.slot ∙ sym slot;
        value = sym same;
      }

  finished_by : (own : Entry) (u : LeaderVolatile) → Noted u → AreTold u.promises → NotesOn (finish c me own u)
  finished_by own u h promises =
      let p = plan u.cw u.promises in
      goes_on why.Leads
      (record u { mode = Leading; promises = []; cw = p.cw; next = p.end; end = p.end; proposed = placed_from p.cw p.values; chosen = [] })
      _ record {
        seen = h.seen;
        proposed = λ x m.
            let r = placed_at (λ s. voted_value (best_vote s (votes_told u.promises))) p.cw _ x m in
            elim (planned u.promises promises x.slot x refl (best_vote x.slot (votes_told u.promises)) refl
            r.2) [ inl e ↦ inl e | inr k ↦ inr (inl k) ];
        cw = elim (cw_told u.cw u.promises) [
          | inl e ↦ subst (λ n. (n ≡ 0) ⊎ (IsPromised sent me n ⊎ (enough c ≤ count_reaching n u.held))) (sym e) h.cw
          | inr q ↦ (let came = promises q.0 q.1 in
              inr (inl (subst (λ n. IsPromised sent me n) (sym q.2) (came.0, (q.0).votes, came.1))))
        ];
        once = h.once;
        retired = h.retired;
      }

  matched : (own : Entry) (u : LeaderVolatile) → Noted u → AreTold u.promises → (es : List Entry) → NotesOn (matched_by c me own u es)
  matched own u h promises [] = finished_by own u h promises
  matched own u h promises (e ∷ es) = goes_on why.Phase1 (record u { mode = Phase1 }) _ (moded Phase1 u h)

  answers_counted : (o : Option Entry) (u : LeaderVolatile) → Noted u → AreTold u.promises → NotesOn (match_counted c me o u)
  answers_counted None u h promises = goes_on why.Old u [] h
  answers_counted (Some own) u h promises =
      either_way NotesOn (nat_lt (length u.told) (enough c)) _ _ (goes_on why.Counted u [] h) (either_way NotesOn (is_changed own.round)
      _ _ (goes_on why.Bypassed (record u { mode = Leading; end = u.next; chosen = [] }) _ (bypassed u h))
      (matched own u h promises (live_entries u.told)))

  promises_counted : (o : Option Entry) (u : LeaderVolatile) → Noted u → AreTold u.promises → NotesOn (promise_counted c me o u)
  promises_counted None u h promises = goes_on why.Old u [] h
  promises_counted (Some own) u h promises = either_way NotesOn (rows_whole (live_entries u.told) (promised_by u.promises))
      _ _ (finished_by own u h promises) (goes_on why.Counted u [] h)

  -- while it leads

  proposed : (commands : List Command) → Came sent me (msg.Batch commands) → (o : Option Entry) → NotesOn (propose_in c me v commands o)
  proposed commands came None = stays why.Idle
  proposed commands came (Some own) =
      let placed : Placed = record { slot = v.next; value = Batch commands } in
      either_way NotesOn (is_past_window v) _ _ (stays why.Window)
      (goes_on why.Proposed (record v { next = v.next + 1; proposed = v.proposed ++ placed ∷ [] }) _
      record {
        seen = notes.seen;
        proposed = λ p m. elim (Member-cases p v.proposed (placed ∷ []) m) [
          | inl k ↦ notes.proposed p k
          | inr k ↦ Member-one (λ (x : Placed).
              (x.value ≡ Noop) ⊎ (IsReported sent me x ⊎ ((ks : List Command) × (x.value ≡ Batch ks) × Came sent me (msg.Batch ks))))
              placed (inr (inr (commands, refl, came))) p k
        ];
        cw = notes.cw;
        once = notes.once;
        retired = notes.retired;
      })

  raised : (p n : ℕ) → nat_le n (slice_index_or v.held p 0) ≡ false
      → Noted (raised_to (held_by (enough c) (slice_set v.held p n)) (record v { held = slice_set v.held p n }))
  raised p n more =
      let held = slice_set v.held p n in
      let reached = held_by (enough c) held in
      let cw = max v.cw reached in
      record {
        seen = notes.seen;
        proposed = λ x m. notes.proposed x (Member-filter (λ (q : Placed). nat_le cw q.slot) x v.proposed m).0;
        cw = elim (cases_Bool (nat_le reached v.cw)) [
          | inl t ↦ (let e : max v.cw reached ≡ v.cw = grind (arith, nat_tests) in
              subst (λ k. (k ≡ 0) ⊎ (IsPromised sent me k ⊎ (enough c ≤ count_reaching k held))) (sym e) still)
          | inr f ↦ (let e : max v.cw reached ≡ reached = grind (arith, nat_tests) in
              subst (λ k. (k ≡ 0) ⊎ (IsPromised sent me k ⊎ (enough c ≤ count_reaching k held))) (sym e)
              (elim (held_reached (enough c) held) [ inl z ↦ inl z | inr l ↦ inr (inr l) ]))
        ];
        once = notes.once;
        retired = notes.retired;
      }
    where
      still : (v.cw ≡ 0) ⊎ (IsPromised sent me v.cw ⊎ (enough c ≤ count_reaching v.cw (slice_set v.held p n)))
      still = elim notes.cw [
        | inl z ↦ inl z
        | inr k ↦ (elim k [
          | inl q ↦ inr (inl q)
          | inr l ↦ (let less : slice_index_or v.held p 0 ≤ n = grind (arith, nat_tests) in
              let r = reach_more v.cw v.held p n less in inr (inr (omega arith)))
        ])
      ]

  -- how far retiring is

  collects : (w : Why) (k : Collection) (ds : List Letter) → AreOnce k.counted
      → (is_retired k.stage ≡ true → (enough c ≤ length k.counted)
      × ((m : ℕ) → Member m k.counted → Member (letter (role kind.Matchmaker m) me (msg.GarbageB (round_of d.own))) sent))
      → NotesOn (replied w (record v { collection = k }) ds)
  collects w k ds once retired = goes_on w (record v { collection = k }) ds
      record { seen = notes.seen; proposed = notes.proposed; cw = notes.cw; once = once; retired = retired }

  collection_begun : (o : Option Entry) → NotesOn (collect_in c me v o)
  collection_begun None = stays why.Idle
  collection_begun (Some own) =
      either_way NotesOn (not (is_off v.collection.stage)) _ _ (stays why.Same)
      (either_way NotesOn (not (is_settled v)) _ _ (stays why.Waiting) (collects why.Informing (collection_from v.cw) _ tt (λ t. cc)))

  informed : (from : ℕ) (own : Entry) → is_informing v.collection.stage ≡ true → is_in from v.collection.counted ≡ false
      → NotesOn (informed_counted c me own v (with_informed own.grid from v.collection))
  informed from own informing new =
      either_way (λ k. NotesOn (informed_counted c me own v k)) (column_whole own.grid (with_mark from v.collection.counted)) _ _
      (collects why.Collecting (record v.collection { stage = Collecting; counted = [] }) _ tt (λ t. cc))
      (either_way NotesOn (is_collecting v.collection.stage) _ _ (counts why.Collecting _) (counts why.Counted []))
    where
      counts : (w : Why) (ds : List Letter)
          → NotesOn (replied w (record v { collection = record v.collection { counted = with_mark from v.collection.counted } }) ds)
      counts w ds =
          collects w (record v.collection { counted = with_mark from v.collection.counted }) ds
          (once_marked from v.collection.counted (not_in from v.collection.counted new) notes.once)
          (λ t. absurd (true≢false (sym t ∙ ap is_retired (is_informing-stage v.collection.stage informing))))

  informed_by : (from : RoleId) → is_informing v.collection.stage ≡ true → (o : Option Entry) → NotesOn (informed_in c me v from o)
  informed_by from informing None = stays why.Old
  informed_by from informing (Some own) =
      either_way NotesOn (not (is_in from.index own.grid.members)) _ _ (stays why.Unasked)
      (by_test NotesOn (is_in from.index v.collection.counted) _ _ (λ t. stays why.Same) (λ f. informed from.index own informing f))

  forgotten : (m : ℕ) → is_collecting v.collection.stage ≡ true → is_in m v.collection.counted ≡ false
      → Member (letter (role kind.Matchmaker m) me (msg.GarbageB (round_of d.own))) sent
      → NotesOn (forgotten_counted v (with_forgotten (enough c) m v.collection))
  forgotten m collecting new is_sent =
      let marks = with_mark m v.collection.counted in
      let once = once_marked m v.collection.counted (not_in m v.collection.counted new) notes.once in
      by_test (λ k. NotesOn (forgotten_counted v k)) (nat_lt (length marks) (enough c)) _ _
      (λ t. collects _ (record v.collection { counted = marks }) [] once
      (λ r. absurd (true≢false (sym r ∙ ap is_retired (is_collecting-stage v.collection.stage collecting)))))
      (λ f. collects _ (record v.collection { stage = Retired; counted = marks }) [] once
      (λ r. (ltb-false (length marks) (enough c) f, forgot)))
    where
      forgot : (n : ℕ) → Member n (with_mark m v.collection.counted)
          → Member (letter (role kind.Matchmaker n) me (msg.GarbageB (round_of d.own))) sent
      forgot n k = elim (mark-cases n m v.collection.counted k) [
        | inl e ↦ subst (λ x. Member (letter (role kind.Matchmaker x) me (msg.GarbageB (round_of d.own))) sent) (sym e) is_sent
        | inr o ↦ told.forgotten n collecting o
      ]

  -- it learns a set

  known_as : (s : List ℕ) (told : List MatchAnswer) → Noted (record v { set = s; told = told })
  known_as s told = record { seen = notes.seen; proposed = notes.proposed; cw = notes.cw; once = notes.once; retired = notes.retired }

  learnt : (s : List ℕ) (m : Mode) (o : Option Entry) → NotesOn (set_learnt me (record v { set = s }) m o)
  learnt s Matching (Some own) = goes_on why.Learnt (record v { set = s; told = [] }) _ (known_as s [])
  learnt s Leading (Some own) =
      by_test NotesOn (is_collecting v.collection.stage) _ _
      (λ t. goes_on why.Learnt (record v { set = s; collection = record v.collection { counted = [] } }) _ record {
        seen = notes.seen;
        proposed = notes.proposed;
        cw = notes.cw;
        once = tt;
        retired = λ r. absurd (true≢false (sym r ∙ ap is_retired (is_collecting-stage v.collection.stage t)));
      })
      (λ f. goes_on why.Learnt (record v { set = s }) [] (known_as s v.told))
  learnt s m o = goes_on why.Learnt (record v { set = s }) [] (known_as s v.told)

  -- by the input

  took : (from : RoleId) (m : Msg) → Member (letter from me m) sent → NotesOn (leader_takes c me d v from m)
  took from (msg.MatchB j w es) is_sent =
      either_way NotesOn (not (is_matching v.mode && is_own d j && is_in from.index v.set)) _ _ (stays why.Old)
      (either_way NotesOn (is_counted from.index v.told) _ _ (stays why.Same)
      (answers_counted d.own _ (alike v.mode _ v.promises v.next v.end v.chosen) old_told))
  took from (msg.MatchNack j reason other) is_sent =
      let named : IsNamedByRefusal sent me other = inr (j, reason, (from, is_sent)) in
      either_way NotesOn (is_idle v.mode || not (is_own d j) || not (is_in from.index v.set))
      _ _ (goes_on why.Old _ [] (heard v.mode other named))
      (either_way NotesOn (has_no_room reason) _ _ (goes_on why.Full _ [] (heard v.mode other named))
      (goes_on why.Nacked _ [] (heard Idle other named)))
  took from (msg.Phase1B j low votes) is_sent =
      either_way NotesOn (not (is_promising v.mode && is_own d j)) _ _ (stays why.Old)
      (either_way NotesOn (not (is_member_of (live_entries v.told) from.index)) _ _ (stays why.Unasked)
      (either_way NotesOn (has_promised from.index v.promises) _ _ (stays why.Same)
      (promises_counted d.own _ (alike v.mode v.told _ v.next v.end v.chosen) now_told)))
    where
      one : Promised
      one = record { acceptor = from.index; cw = low; votes = votes }

      now_told : AreTold (v.promises ++ one ∷ [])
      now_told q k = elim (Member-cases q v.promises (one ∷ []) k) [
        | inl o ↦ old_told q o
        | inr n ↦ Member-one (λ (x : Promised). (i : Round) × Came sent me (msg.Phase1B i x.cw x.votes)) one (j, (from, is_sent)) q n
      ]
  took from (msg.Nack j promise) is_sent =
      let named : IsNamedByRefusal sent me promise = inl (j, (from, is_sent)) in
      either_way NotesOn (is_idle v.mode || not (is_own d j)) _ _ (goes_on why.Old _ [] (heard v.mode promise named))
      (goes_on why.Nacked _ [] (heard Idle promise named))
  took from (msg.Batch commands) is_sent =
      either_way NotesOn (is_leading v.mode) _ _ (proposed commands (from, is_sent) d.own) (stays why.Idle)
  took from (msg.ChosenIn j s) is_sent =
      either_way NotesOn (not (is_leading v.mode && is_own d j)) _ _ (stays why.Old)
      (either_way NotesOn (nat_lt s v.cw) _ _ (stays why.Past)
      (either_way NotesOn (nat_le v.next s) _ _ (stays why.Unasked)
      (either_way NotesOn (is_in s v.chosen) _ _ (stays why.Same)
      (goes_on why.Chosen _ [] (alike v.mode v.told v.promises v.next v.end _)))))
  took from (msg.Held n) is_sent = by_test NotesOn (nat_le n (slice_index_or v.held from.index 0)) _ _ (λ t. stays why.Same)
      (λ f. goes_on why.Held _ [] (raised from.index n f))
  took from (msg.Informed j n) is_sent = by_test NotesOn
      (not (is_leading v.mode && is_own d j && is_informing v.collection.stage && nat_le v.collection.mark n)) _ _ (λ t. stays why.Old)
      (λ f.
      let p = and_parts (is_leading v.mode && is_own d j && is_informing v.collection.stage) (nat_le v.collection.mark n) (not-false _ f) in
      informed_by from (and_parts (is_leading v.mode && is_own d j) (is_informing v.collection.stage) p.0).1 d.own)
  took from (msg.GarbageB j) is_sent = by_test NotesOn
      (not (is_leading v.mode && is_own d j && is_collecting v.collection.stage && is_in from.index v.set)) _ _ (λ t. stays why.Old)
      (λ f.
      let o = and_parts (is_leading v.mode && is_own d j && is_collecting v.collection.stage) (is_in from.index v.set) (not-false _ f) in
      let p = and_parts (is_leading v.mode && is_own d j) (is_collecting v.collection.stage) o.0 in
      let q = and_parts (is_leading v.mode) (is_own d j) p.0 in
      by_test NotesOn (is_in from.index v.collection.counted) _ _ (λ t. stays why.Same)
      (λ g. forgotten from.index p.1 g
      (subst (λ r. Member (letter (role kind.Matchmaker from.index) me (msg.GarbageB r)) sent) (same_round-true j (round_of d.own) q.1)
      (subst (λ k. Member (letter (role k from.index) me (msg.GarbageB j)) sent) (kinds.senders _ is_sent) is_sent))))
  took from (msg.Sets s) is_sent = either_way NotesOn (is_above s v.set) _ _ (learnt s v.mode d.own) (stays why.Old)
  took from other is_sent = stays why.Stranger

  ticked : (m : Mode) → (o : Option Entry) → NotesOn (tick_in c me v m o)
  ticked m None = stays why.Idle
  ticked Idle (Some own) = stays why.Idle
  ticked Matching (Some own) = goes_on why.Resent v _ notes
  ticked Phase1 (Some own) = goes_on why.Resent v _ notes
  ticked Leading (Some own) = goes_on why.Resent v _ notes

  ordered : (order : OrderOf) → NotesOn (order_row c me d v order)
  ordered (Lead g) = either_way NotesOn (names_grid c g) _ _ (begun g (lead_after (round_of d.own) v.seen me.index)) (stays why.Stranger)
  ordered (Change g) =
      either_way NotesOn (not (names_grid c g)) _ _ (stays why.Stranger)
      (either_way NotesOn (not (is_leading v.mode)) _ _ (stays why.Idle) (begun g (change_after (round_of d.own))))
  ordered Collect = either_way NotesOn (is_leading v.mode) _ _ (collection_begun d.own) (stays why.Idle)
  ordered (Replace s) = stays why.Stranger
  ordered (Offer to s) = stays why.Stranger

  pub notes_on : (j : Input) → Given sent me j → NotesOn (leader_row c me d v j)
  notes_on (Take x) given = either_way NotesOn (same_role x.to me && names c x)
      _ _ (took x.from x.msg (subst (λ a. Member (letter x.from a x.msg) sent) given.0 given.1)) (stays why.Stranger)
  notes_on Tick given = ticked v.mode d.own
  notes_on (Order order) given = ordered order

-- a proxy leader

module _ (c : Cluster) (sent : List Letter) (me : RoleId) (v : ProxyVolatile) (notes : ProxyNotes sent me v) where
  abbrev ProxyNoted : Outcome ProxyVolatile → Type 0
  ProxyNoted o = ProxyNotes sent me o.volatile

  abbrev IsKnown : ℕ → Type 0
  IsKnown n = (n ≡ 0) ⊎ ((i : Round) × (g : Shape) × (s : ℕ) × (u : Value) × Came sent me (msg.Propose i g s n u))

  heard_of : (i : Round) (g : Shape) (s cw : ℕ) (u : Value) → Came sent me (msg.Propose i g s cw u)
      → ProxyNotes sent me (proxy.raised_to cw v)
  heard_of i g s cw u came = elim (cases_Bool (nat_le cw v.known)) [
    | inl t ↦ (let e : max v.known cw ≡ v.known = grind (arith, nat_tests) in subst IsKnown (sym e) notes)
    | inr f ↦ (let e : max v.known cw ≡ cw = grind (arith, nat_tests) in subst IsKnown (sym e) (inr (i, g, s, u, came)))
  ]

  proposed_over : (w : ProxyVolatile) (p : Pending) (o : Option Pending) → ProxyNotes sent me w → ProxyNoted (propose_over c me w p o)
  proposed_over w p None h = h
  proposed_over w p (Some old) h =
      either_way ProxyNoted (is_before p.round old.round) _ _ h (either_way ProxyNoted (same_round old.round p.round) _ _ h h)

  voted_for : (a : ℕ) (i : Round) (o : Option Pending) → ProxyNoted (vote_for c me v a i o)
  voted_for a i None = notes
  voted_for a i (Some p) =
      either_way ProxyNoted (not (same_round p.round i && is_in a p.grid.members)) _ _ notes
      (either_way ProxyNoted p.done _ _ notes
      (either_way ProxyNoted (is_in a p.marks) _ _ notes
      (either_way ProxyNoted (column_whole p.grid (with_mark a p.marks)) _ _ notes notes)))

  proxy_took : (from : RoleId) (m : Msg) → Member (letter from me m) sent → ProxyNoted (proxy_takes c me v from m)
  proxy_took from (msg.Propose i g s cw u) is_sent =
      let w = proxy.raised_to cw v in
      let h = heard_of i g s cw u (from, is_sent) in
      either_way ProxyNoted (nat_lt s w.known) _ _ h (proposed_over w (proxy.pending_of i g s cw u) (pending_at s w.pending) h)
  proxy_took from (msg.Phase2B i s) is_sent = voted_for from.index i (pending_at s v.pending)
  proxy_took from other is_sent = notes

  proxy_ticked : (ps : List Pending) → ProxyNoted (proxy_tick c me v ps)
  proxy_ticked [] = notes
  proxy_ticked (p ∷ ps) = notes

  pub proxy_notes : (j : Input) → Given sent me j → ProxyNoted (proxy_row c me tt v j)
  proxy_notes (Take x) given = either_way ProxyNoted (same_role x.to me && names c x)
      _ _ (proxy_took x.from x.msg (subst (λ a. Member (letter x.from a x.msg) sent) given.0 given.1)) notes
  proxy_notes Tick given = proxy_ticked v.pending
  proxy_notes (Order order) given = notes
