-- The reads of a run that were answered, in the order of their first answers.
use Rattle.cx_inv_run.proofs.Common.{◌≡◌, ◌⊎◌, ℕ, ◌+◌, ◌<◌, ◌≤◌, Bool, true, false, not, ◌&&◌, ◌==◌, List, [], ◌∷◌, ◌++◌, length, take}
use Rattle.cx_inv_run.proofs.Common.{Option, None, Some, inl, inr, ap, sym, subst, ◌∙◌, refl, arith, slice_get, if◌then◌else◌, append_assoc}
use Rattle.cx_inv_run.proofs.Common.{append-nil, length-append, and_parts, and_from, not-true, both_ways, number_itself}
use Rattle.cx_inv_run.proofs.Common.{same_number, Cluster, Cut, Event, Happened, RoleId, Token, Value}
use Rattle.cx_inv_run.proofs.Common.{Msg, letter, fold, text_at, chosen_prefix}
use Rattle.cx_inv_run.proofs.Common.{make_token}
use Rattle.cx_inv_run.proofs.Common.{Member, Member-any, Member-at, Member-cases, Member-first, by_test, run, WasRead, WasSession}
use Rattle.cx_base.specs.declared.event.Event.TheVariants as event
use Rattle.cx_base.specs.declared.why.Why.TheVariants as why
use Rattle.cx_letter.specs.declared.message.Msg.TheVariants as msg
use Rattle.cx_inv_list.proofs.Answers.{reads_tell}
use Rattle.cx_linear.specs.Linearizable.{CallEvent}
use Rattle.cx_linear.specs.Linearizable.{Get, Replied, Found, Invoke, Respond}
use Rattle.cx_linear.specs.History.{told_by, seen_as, is_session_of, was_session, counts}
use Rattle.cx_linear.proofs.Calls.{response_delivered}
use Rattle.cx_linear.proofs.Logs.{mark_of}
use Rattle.cx_linear.proofs.Runs.{happens, cut_run, heard_then}
use Rattle.cx_inv_list.proofs.Once.{Member-in}
use Rattle.cx_linear.proofs.Seen.{IsSeen}
use Rattle.cx_linear.proofs.Weave.{Item, IsGet, Sorted}

found_parts : (t u : Token) (x y : Option (List ℕ)) → Some (Respond t (Found x)) ≡ Some (Respond u (Found y)) → (t ≡ u) × (x ≡ y)
found_parts t u x y e = (cc, cc)

told_text : (client : ℕ) (m : Msg) (t : Token) (found : Option (List ℕ)) → told_by client m ≡ Some (Respond t (Found found))
    → (n : ℕ) × (m ≡ msg.ReadAnswer t.seq n found) × (client ≡ t.client)
told_text client (msg.Answer seq at reply) t found h = cc
told_text client (msg.ReadAnswer seq n other) t found h =
    let e = found_parts (make_token client seq) t other found h in
    (n, (λ i. msg.ReadAnswer ((e.0 i).seq) n (e.1 i)), ap (λ (u : Token). u.client) e.0)
told_text client m t found h = cc

module _ (c : Cluster) (es : List Event) where
  abbrev pub values : List Value
  values = chosen_prefix (run c es).kept

  abbrev pub IsSeenHere : CallEvent → Type 0
  IsSeenHere x = IsSeen (run c es).sent (run c es).events x

  pub record Text : Type 0 where
    pub token : Token
    pub found : Option (List ℕ)
    pub seen : IsSeenHere (Respond token (Found found))
    pub number : ℕ
    pub cut : Cut
    pub now_is : seen.now ≡ happens (event.Deliver number cut) why.Heard
    pub from : RoleId
    pub to : RoleId
    pub n : ℕ
    pub there : slice_get (run c es).sent number ≡ Some (letter from to (msg.ReadAnswer token.seq n found))
    pub client_is : to.index ≡ token.client
    pub key : List ℕ
    pub asked : WasRead (run c es).events token.client token.seq key
    pub found_is : found ≡ text_at key (fold (take n values))

  -- no session asked with the token of a response that counts
  no_session : (before : List Happened) (now : Happened) (t : Token) (x : Bool) (key : List ℕ) → now.why ≡ why.Heard
      → (not (was_session t before) && x) ≡ true
      → WasSession (before ++ now ∷ []) t.client t.seq key → ⊥
  no_session before now t x key heard counted (floor, replica, m) = elim (Member-cases _ before (now ∷ []) m) [
    | inl p ↦ both_ways (was_session t before) (not-true (was_session t before) (and_parts (not (was_session t before)) x counted).0)
        (Member-any (λ (h : Happened). is_session_of t h.why h.event) _ before p
        (and_from _ _ (number_itself t.client) (number_itself t.seq)))
    | inr p ↦ elim p [ inl e ↦ never (ap (λ (h : Happened). h.why) e ∙ heard) | inr e ↦ e ]
  ]
    where
      never : why.Sent ≡ why.Heard → ⊥
      never e = cc

  read_here : (a b : List Happened) (s : ℕ) (t : ℕ) (key : List ℕ) → (run c es).events ≡ a ++ b → WasRead a s t key
      → WasRead (run c es).events s t key
  read_here a b s t key e (floor, reader, replica, m) =
      let h = happens (event.Read s t floor reader replica key) why.Sent in
      (floor, reader, replica, subst (λ l. Member h l) (sym e) (Member-first h a b m))

  text_of : (t : Token) (found : Option (List ℕ)) (s : IsSeenHere (Respond t (Found found)))
      → (r : Text) × (r.seen.before ≡ s.before) × (r.seen.now ≡ s.now)
  text_of t found s =
      let w = run c es in
      let d = response_delivered w.sent s.now.why s.now.event t (Found found) s.seen in
      let m = told_text d.letter_is.to.index d.letter_is.msg t found d.tells in
      let now : s.now ≡ happens (event.Deliver d.number d.cut) why.Heard = (λ i. record { event = d.event_is i; why = d.why_is i }) in
      let letter_is : d.letter_is ≡ letter d.letter_is.from d.letter_is.to (msg.ReadAnswer t.seq m.0 found) =
      ap (λ x. letter d.letter_is.from d.letter_is.to x) m.1 in
      let there : slice_get w.sent d.number ≡ Some (letter d.letter_is.from d.letter_is.to (msg.ReadAnswer t.seq m.0 found)) =
      d.there ∙ ap (λ x. Some x) letter_is in
      let split : w.events ≡ (s.before ++ s.now ∷ []) ++ s.later = s.split ∙ sym (append_assoc s.before (s.now ∷ []) s.later) in
      let q = cut_run c es (s.before ++ s.now ∷ []) s.later split in
      let there_then = subst (λ l. slice_get (run c l).sent d.number
      ≡ Some (letter d.letter_is.from d.letter_is.to (msg.ReadAnswer t.seq m.0 found))) q.split there in
      let heard : Member (happens (event.Deliver d.number d.cut) why.Heard) (run c q.then).events =
      subst (λ l. Member (happens (event.Deliver d.number d.cut) why.Heard) l) (sym q.events_are)
      (subst (λ h. Member h (s.before ++ s.now ∷ [])) now (Member-in s.now s.before [])) in
      let sent_then = heard_then c q.then q.later d.number d.cut _ heard there_then in
      let first = reads_tell c q.then d.letter_is.from d.letter_is.to t.seq m.0 found sent_then in
      let right = reads_tell c es d.letter_is.from d.letter_is.to t.seq m.0 found (Member-at _ w.sent d.number there) in
      let wants = subst (λ l. WasRead l t.client t.seq first.key ⊎ WasSession l t.client t.seq first.key) q.events_are
      (subst (λ k. WasRead (run c q.then).events k t.seq first.key ⊎ WasSession (run c q.then).events k t.seq first.key) m.2 first.asked) in
      let asked : WasRead w.events t.client t.seq first.key = elim wants [
        | inl r ↦ read_here (s.before ++ s.now ∷ []) s.later t.client t.seq first.key split r
        | inr r ↦ absurd (no_session s.before s.now t _ first.key d.why_is s.counted r)
      ] in
      let key_is : first.key ≡ right.key =
      right.one_key first.key (inl (subst (λ k. WasRead w.events k t.seq first.key) (sym m.2) asked)) in (
        record {
          token = t;
          found = found;
          seen = s;
          number = d.number;
          cut = d.cut;
          now_is = now;
          from = d.letter_is.from;
          to = d.letter_is.to;
          n = m.0;
          there = there;
          client_is = m.2;
          key = first.key;
          asked = asked;
          found_is = right.found_is ∙ ap (λ k. text_at k (fold (take m.0 values))) (sym key_is);
        },
        refl,
        refl,
      )

  -- all of them

  abbrev NoText : List Happened → Happened → Type 0
  NoText a h = (t : Token) (found : Option (List ℕ)) → seen_as (run c es).sent h.why h.event ≡ Some (Respond t (Found found))
      → counts (run c es).sent a (Respond t (Found found)) ≡ true → ⊥

  abbrev IsPick : List Happened → Happened → Type 0
  IsPick a h = ((r : Text) × (r.seen.before ≡ a) × (r.seen.now ≡ h)) ⊎ NoText a h

  pick_counted : (a : List Happened) (h : Happened) (b : List Happened) → (run c es).events ≡ a ++ h ∷ b → (t : Token)
      (found : Option (List ℕ)) → seen_as (run c es).sent h.why h.event ≡ Some (Respond t (Found found))
      → (k : Bool) → counts (run c es).sent a (Respond t (Found found)) ≡ k → IsPick a h
  pick_counted a h b e t found q true k =
      inl (text_of t found (record { before = a; now = h; later = b; split = e; seen = q; counted = k }))
  pick_counted a h b e t found q false k =
      inr (λ u other p l. both_ways _ k (subst (λ o. counted_as o ≡ true) (sym p ∙ q) l))
    where
      counted_as : Option CallEvent → Bool
      counted_as None = false
      counted_as (Some x) = counts (run c es).sent a x

  pick_seen : (a : List Happened) (h : Happened) (b : List Happened) → (run c es).events ≡ a ++ h ∷ b → (o : Option CallEvent)
      → seen_as (run c es).sent h.why h.event ≡ o → IsPick a h
  pick_seen a h b e None q = inr (λ t found p k. let never : None ≡ Some (Respond t (Found found)) = sym q ∙ p in cc)
  pick_seen a h b e (Some (Invoke x)) q =
      inr (λ t found p k. let never : Some (Invoke x) ≡ Some (Respond t (Found found)) = sym q ∙ p in cc)
  pick_seen a h b e (Some (Respond u (Replied r))) q =
      inr (λ t found p k. let never : Some (Respond u (Replied r)) ≡ Some (Respond t (Found found)) = sym q ∙ p in cc)
  pick_seen a h b e (Some (Respond u (Found f))) q = pick_counted a h b e u f q (counts (run c es).sent a (Respond u (Found f))) refl

  abbrev picked : (a : List Happened) (h : Happened) → IsPick a h → List Text → List Text
  picked a h (inl r) rs = r.0 ∷ rs
  picked a h (inr n) rs = rs

  next_split : (a b : List Happened) (h : Happened) → (run c es).events ≡ a ++ h ∷ b → (run c es).events ≡ (a ++ h ∷ []) ++ b
  next_split a b h e = e ∙ sym (append_assoc a (h ∷ []) b)

  texts_from : (rest a : List Happened) → (run c es).events ≡ a ++ rest → List Text
  texts_from [] a e = []
  texts_from (h ∷ rest) a e =
      picked a h (pick_seen a h rest e (seen_as (run c es).sent h.why h.event) refl) (texts_from rest (a ++ h ∷ []) (next_split a rest h e))

  pub texts : List Text
  texts = texts_from (run c es).events [] refl

  abbrev HasText : List Happened → Happened → List Text → Type 0
  HasText a h rs = (r : Text) × Member r rs × (r.seen.before ≡ a) × (r.seen.now ≡ h)

  picked_has : (a : List Happened) (h : Happened) (o : IsPick a h) (rs : List Text) → (NoText a h → ⊥) → HasText a h (picked a h o rs)
  picked_has a h (inl r) rs some = (r.0, inl refl, r.1, r.2)
  picked_has a h (inr n) rs some = absurd (some n)

  picked_had : (a : List Happened) (h : Happened) (o : IsPick a h) (rs : List Text) (b : List Happened) (g : Happened)
      → HasText b g rs → HasText b g (picked a h o rs)
  picked_had a h (inl q) rs b g r = (r.0, inr r.1, r.2, r.3)
  picked_had a h (inr n) rs b g r = r

  from_has : (rest a : List Happened) (e : (run c es).events ≡ a ++ rest) (d : List Happened) (h : Happened) (b : List Happened)
      → rest ≡ d ++ h ∷ b → (NoText (a ++ d) h → ⊥) → HasText (a ++ d) h (texts_from rest a e)
  unfolding texts_from
  from_has [] a e [] h b q some = cc
  from_has [] a e (y ∷ d) h b q some = cc
  from_has (z ∷ rest) a e [] h b q some =
      let p : z ≡ h = cc in
      subst (λ l. HasText l h (texts_from (z ∷ rest) a e)) (sym (append-nil a)) (subst (λ u. HasText a u (texts_from (z ∷ rest) a e)) p
      (picked_has a z (pick_seen a z rest e (seen_as (run c es).sent z.why z.event) refl)
      (texts_from rest (a ++ z ∷ []) (next_split a rest z e))
      (λ n. some (subst (λ l. NoText l h) (sym (append-nil a)) (subst (λ u. NoText a u) p n)))))
  from_has (z ∷ rest) a e (y ∷ d) h b q some =
      let p : z ≡ y = cc in
      let k : rest ≡ d ++ h ∷ b = cc in
      let l : (a ++ z ∷ []) ++ d ≡ a ++ y ∷ d = append_assoc a (z ∷ []) d ∙ ap (λ u. a ++ u ∷ d) p in
      subst (λ x. HasText x h (texts_from (z ∷ rest) a e)) l
      (picked_had a z (pick_seen a z rest e (seen_as (run c es).sent z.why z.event) refl)
      (texts_from rest (a ++ z ∷ []) (next_split a rest z e)) ((a ++ z ∷ []) ++ d) h
      (from_has rest (a ++ z ∷ []) (next_split a rest z e) d h b k (λ n. some (subst (λ x. NoText x h) l n))))

  -- each read that was answered is one
  pub texts_have : (t : Token) (found : Option (List ℕ)) (s : IsSeenHere (Respond t (Found found)))
      → (r : Text) × Member r texts × (r.seen.before ≡ s.before) × (r.seen.now ≡ s.now)
  unfolding texts
  texts_have t found s = from_has (run c es).events [] refl s.before s.now s.later s.split (λ n. n t found s.seen s.counted)

  abbrev turn_of : Text → ℕ
  turn_of r = length r.seen.before

  abbrev Rising : List Text → Type 0
  Rising [] = Unit {0}
  Rising (r ∷ rs) = ((q : Text) → Member q rs → turn_of r < turn_of q) × Rising rs

  picked_least : (a : List Happened) (h : Happened) (o : IsPick a h) (rs : List Text)
      → ((q : Text) → Member q rs → length a < turn_of q) → (q : Text) → Member q (picked a h o rs) → length a ≤ turn_of q
  picked_least a h (inl r) rs least q (inl e) =
      let p = ap (λ (l : List Happened). length l) (sym (r.1) ∙ ap (λ (x : Text). x.seen.before) (sym e)) in omega arith
  picked_least a h (inl r) rs least q (inr m) = let l = least q m in omega arith
  picked_least a h (inr n) rs least q m = let l = least q m in omega arith

  from_least : (rest a : List Happened) (e : (run c es).events ≡ a ++ rest) (q : Text) → Member q (texts_from rest a e)
      → length a ≤ turn_of q
  unfolding texts_from
  from_least [] a e q m = absurd m
  from_least (h ∷ rest) a e q m =
      picked_least a h _ _ (λ r k. let l = from_least rest (a ++ h ∷ []) (next_split a rest h e) r k in
      omega (arith, l, length-append a (h ∷ []))) q m

  picked_rises : (a : List Happened) (h : Happened) (o : IsPick a h) (rs : List Text)
      → ((q : Text) → Member q rs → length a < turn_of q) → Rising rs → Rising (picked a h o rs)
  picked_rises a h (inl r) rs least rises =
      (λ q m. let p = ap (λ (l : List Happened). length l) r.1 in let l = least q m in omega arith, rises)
  picked_rises a h (inr n) rs least rises = rises

  from_rises : (rest a : List Happened) (e : (run c es).events ≡ a ++ rest) → Rising (texts_from rest a e)
  unfolding texts_from
  from_rises [] a e = tt
  from_rises (h ∷ rest) a e =
      picked_rises a h _ _ (λ r k. let l = from_least rest (a ++ h ∷ []) (next_split a rest h e) r k in
      omega (arith, l, length-append a (h ∷ []))) (from_rises rest (a ++ h ∷ []) (next_split a rest h e))

  -- those behind a number of commands

  abbrev pub text_item : Text → Item
  text_item r = record {
    rank = mark_of r.n values + mark_of r.n values;
    turn = turn_of r;
    call = record { token = r.token; operation = Get r.key };
  }

  abbrev at_mark : ℕ → List Text → List Item
  at_mark k [] = []
  at_mark k (r ∷ rs) = if mark_of r.n values == k then text_item r ∷ at_mark k rs else at_mark k rs

  abbrev pub reads : ℕ → List Item
  reads k = at_mark k texts

  abbrev IsTextAt : ℕ → List Text → Item → Type 0
  IsTextAt k rs x = (r : Text) × Member r rs × (x ≡ text_item r) × (mark_of r.n values ≡ k)

  mark_has : (k : ℕ) (rs : List Text) (x : Item) → Member x (at_mark k rs) → IsTextAt k rs x
  mark_has k [] x m = absurd m
  mark_has k (r ∷ rs) x m = by_test (λ l. Member x l → IsTextAt k (r ∷ rs) x) (mark_of r.n values == k) (text_item r ∷ at_mark k rs)
      (at_mark k rs) (λ t n. elim n [
        | inl e ↦ (r, inl refl, e, same_number (mark_of r.n values) k t)
        | inr p ↦ (let q = mark_has k rs x p in (q.0, inr q.1, q.2, q.3))
      ]) (λ t p. let q = mark_has k rs x p in (q.0, inr q.1, q.2, q.3)) m

  mark_gives : (rs : List Text) (r : Text) → Member r rs → Member (text_item r) (at_mark (mark_of r.n values) rs)
  mark_gives [] r m = absurd m
  mark_gives (q ∷ rs) r (inl e) =
      subst (λ x. Member (text_item r) (at_mark (mark_of r.n values) (x ∷ rs))) e (rw (number_itself (mark_of r.n values)) (inl refl))
  mark_gives (q ∷ rs) r (inr m) =
      by_test (λ l. Member (text_item r) l) (mark_of q.n values == mark_of r.n values) (text_item q ∷ at_mark (mark_of r.n values) rs)
      (at_mark (mark_of r.n values) rs) (λ t. inr (mark_gives rs r m)) (λ t. mark_gives rs r m)

  mark_sorted : (k : ℕ) (rs : List Text) → Rising rs → Sorted (at_mark k rs)
  mark_sorted k [] s = tt
  mark_sorted k (r ∷ rs) s = by_test (λ l. Sorted l) (mark_of r.n values == k) (text_item r ∷ at_mark k rs) (at_mark k rs)
      (λ t. (
        λ y m.
            let q = mark_has k rs y m in
            let l = s.0 q.0 q.1 in
            let e = same_number (mark_of r.n values) k t in
            let f = q.3 in
            inr (subst (λ (z : Item). ((text_item r).rank ≡ z.rank) × ((text_item r).turn < z.turn)) (sym q.2) (omega arith, l)),
        mark_sorted k rs s.1,
      )) (λ t. mark_sorted k rs s.1)

  pub reads_sorted : (k : ℕ) → Sorted (reads k)
  unfolding texts
  reads_sorted k = mark_sorted k texts (from_rises (run c es).events [] refl)

  pub reads_are : (k : ℕ) (x : Item) → Member x (reads k) → IsTextAt k texts x
  reads_are k x m = mark_has k texts x m

  pub reads_ranked : (k : ℕ) (x : Item) → Member x (reads k) → x.rank ≡ k + k
  reads_ranked k x m =
      let q = mark_has k texts x m in let e = q.3 in ap (λ (z : Item). z.rank) q.2 ∙ (omega arith)

  pub reads_get : (k : ℕ) (x : Item) → Member x (reads k) → IsGet x
  reads_get k x m = let q = mark_has k texts x m in ((q.0).key, ap (λ (z : Item). z.call.operation) q.2)

  pub reads_have : (r : Text) → Member r texts → Member (text_item r) (reads (mark_of r.n values))
  reads_have r m = mark_gives texts r m
