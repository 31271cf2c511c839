-- What stands in the history of a list of events: which event it is, after which others.
use Rattle.cx_inv_run.proofs.Common.{◌≡◌, ◌⊎◌, ℕ, zero, suc, ◌<◌, ◌≤◌, Bool, true, false, not, List, [], ◌∷◌, ◌++◌, length, Option}
use Rattle.cx_inv_run.proofs.Common.{None, Some, inl, inr, ap, sym, subst, ◌∙◌, refl, arith, slice_get, append_assoc, append-nil, same_Some}
use Rattle.cx_inv_run.proofs.Common.{length-append, and_parts, and_from, not-true, both_ways, number_itself}
use Rattle.cx_inv_run.proofs.Common.{Happened, Token, Letter, Member}
use Rattle.cx_inv_run.proofs.Common.{Member-first, Member-second, Member-any}
use Rattle.cx_inv_list.proofs.Once.{Member-in}
use Rattle.cx_linear.specs.Linearizable.{Response, CallEvent}
use Rattle.cx_linear.specs.Linearizable.{Respond}
use Rattle.cx_linear.specs.History.{seen_as, is_response_to, was_session, was_answered, counts, if_counts, history_from}

-- one list cut at two of its elements
pub cuts : {X : Type 0} (a b c d : List X) (h g : X) → a ++ h ∷ b ≡ c ++ g ∷ d
    → ((a ≡ c) × (h ≡ g)) ⊎ (((m : List X) × (c ≡ a ++ h ∷ m)) ⊎ ((m : List X) × (a ≡ c ++ g ∷ m)))
cuts [] b [] d h g e = inl (refl, cc)
cuts [] b (z ∷ c) d h g e = let p : h ≡ z = cc in inr (inl (c, ap (λ w. w ∷ c) (sym p)))
cuts (z ∷ a) b [] d h g e = let p : z ≡ g = cc in inr (inr (a, ap (λ w. w ∷ a) p))
cuts (y ∷ a) b (z ∷ c) d h g e =
    let p : y ≡ z = cc in
    let q : a ++ h ∷ b ≡ c ++ g ∷ d = cc in
    elim (cuts a b c d h g q) [
      | inl r ↦ inl (ap (λ w. w ∷ a) p ∙ ap (λ l. z ∷ l) r.0, r.1)
      | inr r ↦ elim r [
        | inl k ↦ inr (inl (k.0, ap (λ w. w ∷ c) (sym p) ∙ ap (λ l. y ∷ l) k.1))
        | inr k ↦ inr (inr (k.0, ap (λ w. w ∷ a) p ∙ ap (λ l. z ∷ l) k.1))
      ]
    ]

module _ (sent : List Letter) where
  -- an event that the history has as this
  pub record IsSeen (events : List Happened) (x : CallEvent) : Type 0 where
    pub before : List Happened
    pub now : Happened
    pub later : List Happened
    pub split : events ≡ before ++ now ∷ later
    pub seen : seen_as sent now.why now.event ≡ Some x
    pub counted : counts sent before x ≡ true

  counted_if : (done : List Happened) (z : CallEvent) (b : Bool) → counts sent done z ≡ b
      → (if_counts sent done (Some z) ≡ []) ⊎ ((counts sent done z ≡ true) × (if_counts sent done (Some z) ≡ z ∷ []))
  counted_if done z true e = inr (e, rw e refl)
  counted_if done z false e = inl (rw e refl)

  counted_cases : (done : List Happened) (o : Option CallEvent) → (if_counts sent done o ≡ [])
      ⊎ ((z : CallEvent) × (o ≡ Some z) × (counts sent done z ≡ true) × (if_counts sent done o ≡ z ∷ []))
  counted_cases done None = inl refl
  counted_cases done (Some z) = elim (counted_if done z (counts sent done z) refl) [
    | inl e ↦ inl e
    | inr r ↦ inr (z, refl, r.0, r.1)
  ]

  module _ (all : List Happened) where
    next_split : (done rest : List Happened) (h : Happened) → all ≡ done ++ h ∷ rest → all ≡ (done ++ h ∷ []) ++ rest
    next_split done rest h e = e ∙ sym (append_assoc done (h ∷ []) rest)

    seen_here : (done rest : List Happened) (h : Happened) (x z : CallEvent) → all ≡ done ++ h ∷ rest → seen_as sent h.why h.event ≡ Some z
        → counts sent done z ≡ true → z ≡ x → (s : IsSeen all x) × (length s.before ≡ length done)
    seen_here done rest h x z e q t p = (
      record {
        before = done;
        now = h;
        later = rest;
        split = e;
        seen = q ∙ ap (λ u. Some u) p;
        counted = subst (λ u. counts sent done u ≡ true) p t;
      },
      refl,
    )

    abbrev IsFrom : ℕ → CallEvent → Type 0
    IsFrom n x = (s : IsSeen all x) × (n ≤ length s.before)

    from_next : (done : List Happened) (h : Happened) (x : CallEvent) → IsFrom (length (done ++ h ∷ [])) x → IsFrom (suc (length done)) x
    from_next done h x r = let l = r.1 in (r.0, omega (arith, l, length-append done (h ∷ [])))

    abbrev rests : List Happened → Happened → List Happened → List CallEvent
    rests done h rest = history_from sent (done ++ h ∷ []) rest

    weaker : (done : List Happened) (h : Happened) (x : CallEvent) → IsFrom (length (done ++ h ∷ [])) x → IsFrom (length done) x
    weaker done h x r = let p = from_next done h x r in let l = p.1 in (p.0, omega arith)

    at_here : (done rest : List Happened) (h : Happened) (x : CallEvent) → all ≡ done ++ h ∷ rest
        → ((i : ℕ) → slice_get (rests done h rest) i ≡ Some x → IsFrom (length (done ++ h ∷ [])) x) → (k : ℕ) (z : CallEvent)
        → seen_as sent h.why h.event ≡ Some z → counts sent done z ≡ true → slice_get (z ∷ rests done h rest) k ≡ Some x
        → IsFrom (length done) x
    at_here done rest h x e next zero z q t p =
        let r = seen_here done rest h x z e q t (same_Some z x p) in let l = r.1 in (r.0, omega arith)
    at_here done rest h x e next (suc k) z q t p = weaker done h x (next k p)

    seen_at : (rest done : List Happened) → all ≡ done ++ rest → (i : ℕ) (x : CallEvent)
        → slice_get (history_from sent done rest) i ≡ Some x → IsFrom (length done) x
    seen_at [] done e i x g = cc
    seen_at (h ∷ rest) done e i x g = elim (counted_cases done (seen_as sent h.why h.event)) [
      | inl q ↦ weaker done h x (seen_at rest (done ++ h ∷ []) (next_split done rest h e) i x
          (subst (λ l. slice_get (l ++ rests done h rest) i ≡ Some x) q g))
      | inr r ↦ at_here done rest h x e (λ k p. seen_at rest (done ++ h ∷ []) (next_split done rest h e) k x p) i r.0 r.1 r.2
          (subst (λ l. slice_get (l ++ rests done h rest) i ≡ Some x) r.3 g)
    ]

    -- two of the history, in their order
    abbrev InOrder : CallEvent → CallEvent → Type 0
    InOrder x y = (s : IsSeen all x) × (t : IsSeen all y) × (length s.before < length t.before)

    both_here : (done rest : List Happened) (h : Happened) (x y : CallEvent) → all ≡ done ++ h ∷ rest
        → ((i j : ℕ) → slice_get (rests done h rest) i ≡ Some x → slice_get (rests done h rest) j ≡ Some y → i < j → InOrder x y)
        → (m n : ℕ) (z : CallEvent) → seen_as sent h.why h.event ≡ Some z → counts sent done z ≡ true
        → slice_get (z ∷ rests done h rest) m ≡ Some x → slice_get (z ∷ rests done h rest) n ≡ Some y → m < n → InOrder x y
    both_here done rest h x y e next m zero z q t p k b = absurd (omega arith)
    both_here done rest h x y e next zero (suc n) z q t p k b =
        let later = from_next done h y (seen_at rest (done ++ h ∷ []) (next_split done rest h e) n y k) in
        let now = seen_here done rest h x z e q t (same_Some z x p) in
        let l = later.1 in
        let o = now.1 in
        (now.0, later.0, omega arith)
    both_here done rest h x y e next (suc m) (suc n) z q t p k b = next m n p k (omega arith)

    pub seen_both : (rest done : List Happened) → all ≡ done ++ rest → (i j : ℕ) (x y : CallEvent)
        → slice_get (history_from sent done rest) i ≡ Some x → slice_get (history_from sent done rest) j ≡ Some y → i < j → InOrder x y
    seen_both [] done e i j x y g k l = cc
    seen_both (h ∷ rest) done e i j x y g k l = elim (counted_cases done (seen_as sent h.why h.event)) [
      | inl q ↦ seen_both rest (done ++ h ∷ []) (next_split done rest h e) i j x y
          (subst (λ l. slice_get (l ++ rests done h rest) i ≡ Some x) q g)
          (subst (λ l. slice_get (l ++ rests done h rest) j ≡ Some y) q k) l
      | inr r ↦ both_here done rest h x y e
          (λ m n p o b. seen_both rest (done ++ h ∷ []) (next_split done rest h e) m n x y p o b) i j r.0 r.1 r.2
          (subst (λ l. slice_get (l ++ rests done h rest) i ≡ Some x) r.3 g)
          (subst (λ l. slice_get (l ++ rests done h rest) j ≡ Some y) r.3 k) l
    ]

    pub seen_one : (i : ℕ) (x : CallEvent) → slice_get (history_from sent [] all) i ≡ Some x → IsSeen all x
    seen_one i x g = (seen_at all [] refl i x g).0

  -- what is seen and counts stands there
  pub seen_stands : (a : List Happened) (h : Happened) (b done : List Happened) (x : CallEvent) → seen_as sent h.why h.event ≡ Some x
      → counts sent (done ++ a) x ≡ true → Member x (history_from sent done (a ++ h ∷ b))
  seen_stands [] h b done x q t =
      Member-first x (if_counts sent done (seen_as sent h.why h.event)) (history_from sent (done ++ h ∷ []) b)
      (let e : counts sent done x ≡ true = ap (λ l. counts sent l x) (sym (append-nil done)) ∙ t in
      subst (λ o. Member x (if_counts sent done o)) (sym q) (rw e (inl refl)))
  seen_stands (z ∷ a) h b done x q t =
      Member-second x (if_counts sent done (seen_as sent z.why z.event)) (history_from sent (done ++ z ∷ []) (a ++ h ∷ b))
      (seen_stands a h b (done ++ z ∷ []) x q (ap (λ l. counts sent l x) (append_assoc done (z ∷ []) a) ∙ t))

  response_true : (t : Token) (r : Response) (h : Happened) → seen_as sent h.why h.event ≡ Some (Respond t r)
      → is_response_to t (seen_as sent h.why h.event) ≡ true
  response_true t r h e =
      ap (λ o. is_response_to t o) e ∙ and_from _ _ (number_itself t.client) (number_itself t.seq)

  -- a response isn't counted after another one
  not_again : (t : Token) (r q : Response) (before m : List Happened) (h : Happened) → seen_as sent h.why h.event ≡ Some (Respond t q)
      → counts sent (before ++ h ∷ m) (Respond t r) ≡ true → ⊥
  not_again t r q before m h e k =
      let all = before ++ h ∷ m in
      both_ways (was_answered sent t all)
      (not-true (was_answered sent t all) (and_parts (not (was_session t all)) (not (was_answered sent t all)) k).1)
      (Member-any (λ (x : Happened). is_response_to t (seen_as sent x.why x.event)) h all (Member-in h before m) (response_true t q h e))

  -- so a call has one response
  pub one_response : (events : List Happened) (t : Token) (r q : Response) (s : IsSeen events (Respond t r))
      (u : IsSeen events (Respond t q))
      → (s.before ≡ u.before) × (s.now ≡ u.now)
  one_response events t r q s u = elim (cuts s.before s.later u.before u.later s.now u.now (sym s.split ∙ u.split)) [
    | inl e ↦ e
    | inr e ↦ elim e [
      | inl k ↦ absurd (not_again t q r s.before k.0 s.now s.seen (subst (λ l. counts sent l (Respond t q) ≡ true) k.1 u.counted))
      | inr k ↦ absurd (not_again t r q u.before k.0 u.now u.seen (subst (λ l. counts sent l (Respond t r) ≡ true) k.1 s.counted))
    ]
  ]
