-- The three parts of a turn, as acts.
use Rattle.cx_role.proofs.Common.{◌≡◌, ◌⊎◌, ◌≤◌, ◌<◌, ◌+◌, ◌==◌, ◌%◌, ◌||◌, ℕ, zero, suc, length, arith, inl, inr, Bool, true, false, List}
use Rattle.cx_role.proofs.Common.{[], ◌∷◌, Option, None, Some, Result, Ok, Err, slice_get, if◌then◌else◌, refl, sym, ap, ◌∙◌, subst}
use Rattle.cx_role.proofs.Common.{Cluster, role, Letter}
use Rattle.cx_seat.specs.Prelude.{LinkHistory, Changing, Doing, Give, Snap, AreReady, hosted_in, Course, Moved, does_at, stays, then_do}
use Rattle.cx_seat.specs.Prelude.{took, all_do, at_place, brought, first_do, grid_of, idle_at, lead_at, hosted_place, Numbered, Recorded}
use Rattle.cx_base.specs.declared.event.Order.TheVariants as order
use Rattle.cx_base.specs.declared.role.Kind.TheVariants as kind
use Rattle.cx_msg.specs.Decoding.{decoded}
use Rattle.cx_msg.specs.Decodes.{Decodes}
use Rattle.cx_msg.specs.declared.fault.WireFault.{WireFault}
use Rattle.cx_msg.specs.declared.fault.WireFault.TheVariants as faults
use Rattle.cx_letter.specs.declared.input.Input.TheVariants as input
use Rattle.cx_node.specs.declared.come.Come.{Come}
use Rattle.cx_node.specs.declared.come.Come.TheVariants as come
use Rattle.cx_seat.specs.declared.guest.Guest.{Guest}
use Rattle.cx_node.specs.declared.node.Stop.{Stop}
use Rattle.cx_node.specs.declared.node.Stop.TheVariants.{LinkFault, NoMemory, RecordFull, StoreFault, WriteFault}
use Rattle.cx_node.specs.Acts.{Acts, ActsOnce, Receives, come_of, read_as}
use Rattle.cx_node.specs.Doing.{Scene, course_in, scene}
use Rattle.cx_course.specs.Run.{brings, comes, ordered, prepared, snaps, spelled, ticked, node_turn}
use Rattle.cx_node.proofs.Actions.{Done, acts_before, acts_cut, acts_none, acts_nothing, acts_then, acts_took, course}

-- what comes of what a take gave
abbrev pub letter_comes : Come → Course → Moved Course
letter_comes come.Nothing s = stays s
letter_comes come.Foreign s = stays s
letter_comes (come.Letter n d) s = at_place (hosted_place d.to s.hosted) (Give n (input.Take d)) s

read_comes : (o : Option Numbered) (s : Course) → brings o s ≡ letter_comes (read_as o) s
read_comes None s = refl
read_comes (Some x) s = refl

comes_is : (what : Option (List ℕ)) (s : Course) → comes what s ≡ took what (letter_comes (come_of s.recorded what) s)
unfolding comes
comes_is None s = refl
comes_is (Some bytes) s = ap (took (Some bytes)) (read_comes (brought s.recorded bytes) s)

foreign : (bytes : List ℕ) {e : WireFault} → decoded bytes ≡ Err e → come_of None (Some bytes) ≡ come.Foreign
foreign bytes h = ap (λ (r : Result Letter WireFault). read_as (spelled r)) h

-- bytes that are no datagram
pub none_read : (bytes : List ℕ) (e : WireFault) → (e ≡ faults.NoMemory → ⊥) → Decodes (Err e) (decoded bytes)
    → come_of None (Some bytes) ≡ come.Foreign
none_read bytes faults.NoMemory other h = absurd (other refl)
none_read bytes (faults.Short need have) other h = foreign bytes h
none_read bytes faults.Magic other h = foreign bytes h
none_read bytes (faults.Version v) other h = foreign bytes h
none_read bytes (faults.Kind k) other h = foreign bytes h
none_read bytes (faults.Length said have) other h = foreign bytes h
none_read bytes (faults.Trailing place) other h = foreign bytes h
none_read bytes (faults.Field k place) other h = foreign bytes h

module _ {K : Type 0} (gives : Changing K) (c : Cluster) where
  pub lead_none : (o : Option ℕ) (a : Scene K) → o ≡ None → AreReady c a.guests
      → Acts gives c [] (lead_at c o (course_in a)) (Ok tt) a a
  lead_none o a e ready =
      subst (λ x. Acts gives c [] (lead_at c x (course_in a)) (Ok tt) a a) (sym e)
      (acts_nothing gives c a ready)

  pub lead_busy : (o : Option ℕ) (i : ℕ) (a : Scene K) → o ≡ Some i
      → idle_at (slice_get (hosted_in a.guests) i) ≡ false → AreReady c a.guests
      → Acts gives c [] (lead_at c o (course_in a)) (Ok tt) a a
  lead_busy o i a e busy ready =
      let s = course_in a in
      let is : lead_at c o s ≡ stays s = ap (λ x. lead_at c x s) e
      ∙ ap (λ (t : Bool). if t then does_at i (Give 0 (input.Order (order.Lead (grid_of c)))) s
      else stays s) busy in
      subst (λ (m : Moved Course). Acts gives c [] m (Ok tt) a a) (sym is) (acts_nothing gives c a ready)

  pub lead_idle : (o : Option ℕ) (i : ℕ) (r : Done) (a b : Scene K) → o ≡ Some i
      → idle_at (slice_get (hosted_in a.guests) i) ≡ true
      → Acts gives c [] (does_at i (Give 0 (input.Order (order.Lead (grid_of c)))) (course_in a)) r a b
      → Acts gives c [] (lead_at c o (course_in a)) r a b
  lead_idle o i r a b e idle p =
      let s = course_in a in
      let is : lead_at c o s ≡ does_at i (Give 0 (input.Order (order.Lead (grid_of c)))) s = ap
      (λ x. lead_at c x s) e ∙ ap (λ (t : Bool). if t then does_at i (Give 0 (input.Order (order.Lead
      (grid_of c)))) s else stays s) idle in
      subst (λ (m : Moved Course). Acts gives c [] m r a b) (sym is) p

  pub order_due : (n : ℕ) (r : Done) (a b : Scene K) → ((n == 1) || (n % 4096 == 0)) ≡ true
      → Acts gives c [] (lead_at c (hosted_place (role kind.Leader 0) (hosted_in a.guests)) (course_in a)) r a b
      → Acts gives c [] (ordered c n (course_in a)) r a b
  unfolding ordered
  order_due n r a b due p =
      let s = course_in a in
      subst (λ (t : Bool). Acts gives c [] (if t then lead_at c (hosted_place (role kind.Leader 0) s.hosted) s
      else stays s) r a b) (sym due) p

  pub order_none : (n : ℕ) (a : Scene K) → ((n == 1) || (n % 4096 == 0)) ≡ false → AreReady c a.guests
      → Acts gives c [] (ordered c n (course_in a)) (Ok tt) a a
  unfolding ordered
  order_none n a none ready =
      let s = course_in a in
      subst (λ (t : Bool). Acts gives c [] (if t then lead_at c (hosted_place (role kind.Leader 0) s.hosted) s else stays s)
      (Ok tt) a a) (sym none) (acts_nothing gives c a ready)

  pub snap_due : (n : ℕ) (r : Done) (a b : Scene K) → (n % 4096 == 0) ≡ true
      → Acts gives c [] (all_do Snap (course_in a)) r a b → Acts gives c [] (snaps n (course_in a)) r a b
  unfolding snaps
  snap_due n r a b due p =
      let s = course_in a in
      subst (λ (t : Bool). Acts gives c [] (if t then all_do Snap s else stays s) r a b) (sym due) p

  pub snap_none : (n : ℕ) (a : Scene K) → (n % 4096 == 0) ≡ false → AreReady c a.guests
      → Acts gives c [] (snaps n (course_in a)) (Ok tt) a a
  unfolding snaps
  snap_none n a none ready =
      let s = course_in a in
      subst (λ (t : Bool). Acts gives c [] (if t then all_do Snap s else stays s) (Ok tt) a a) (sym none)
      (acts_nothing gives c a ready)

  pub prepare_order : (n : ℕ) (e : Stop) (a b : Scene K) → Acts gives c [] (ordered c n (course_in a)) (Err e) a b
      → Acts gives c [] (prepared c n (course_in a)) (Err e) a b
  unfolding prepared
  prepare_order n e a b p = acts_before gives c [] [] (ordered c n (course_in a)) (λ led. snaps n led) e a b p

  pub prepare_snap : (n : ℕ) (r : Done) (a b d : Scene K) → Acts gives c [] (ordered c n (course_in a)) (Ok tt) a b
      → Acts gives c [] (snaps n (course_in b)) r b d → Acts gives c [] (prepared c n (course_in a)) r a d
  unfolding prepared
  prepare_snap n r a b d p q = acts_then gives c [] [] (ordered c n (course_in a)) (λ led. snaps n led) r a b d p q

  pub tick_due : (n : ℕ) (r : Done) (a b : Scene K) → (n % 64 == 0) ≡ true
      → Acts gives c [] (all_do (Give 0 input.Tick) (course_in a)) r a b
      → Acts gives c [] (ticked n (course_in a)) r a b
  unfolding ticked
  tick_due n r a b due p =
      let s = course_in a in
      subst (λ (t : Bool). Acts gives c [] (if t then all_do (Give 0 input.Tick) s else stays s) r a b) (sym due) p

  pub tick_none : (n : ℕ) (a : Scene K) → (n % 64 == 0) ≡ false → AreReady c a.guests
      → Acts gives c [] (ticked n (course_in a)) (Ok tt) a a
  unfolding ticked
  tick_none n a none ready =
      let s = course_in a in
      subst (λ (t : Bool). Acts gives c [] (if t then all_do (Give 0 input.Tick) s else stays s) (Ok tt) a a)
      (sym none) (acts_nothing gives c a ready)

  -- a datagram came, or none
  pub take_some : (n : ℕ) (d : Letter) (gs : List (Guest K)) (known : Option Recorded) (link mid : Option LinkHistory)
      (out : Option (List ℕ)) (r : Done) (b : Scene K) → AreReady c gs → Receives known link mid (Ok (come.Letter n d))
      → Acts gives c [] (at_place (hosted_place d.to (hosted_in gs)) (Give n (input.Take d)) (course gs known)) r
      (scene gs known mid out) b
      → ActsOnce gives c (λ what. comes what (course gs known)) r (scene gs known link out) b
  take_some n d gs known link mid out r b ready got p =
      let s = course gs known in
      let what = got.0 in (
        what,
        subst (λ (m : Moved Course). Acts gives c (what ∷ []) m r (scene gs known link out) b)
            (sym (comes_is what s ∙ ap (λ o. took what (letter_comes o s)) got.2))
            (acts_then gives c (what ∷ []) [] (took what (stays s))
            (λ after. at_place (hosted_place d.to after.hosted) (Give n (input.Take d)) after) r (scene gs known link out)
            (scene gs known mid out) b (acts_took gives c what gs known link mid out got.1 ready) p),
      )

  pub take_none : (o : Come) (gs : List (Guest K)) (known : Option Recorded) (link mid : Option LinkHistory) (out : Option (List ℕ))
      → letter_comes o (course gs known) ≡ stays (course gs known) → AreReady c gs → Receives known link mid (Ok o)
      → ActsOnce gives c (λ what. comes what (course gs known)) (Ok tt) (scene gs known link out) (scene gs known mid out)
  take_none o gs known link mid out none ready got =
      let s = course gs known in
      let what = got.0 in (
        what,
        subst (λ (m : Moved Course). Acts gives c (what ∷ []) m (Ok tt) (scene gs known link out) (scene gs known mid out))
            (sym (comes_is what s ∙ ap (λ x. took what (letter_comes x s)) got.2 ∙ ap (took what) none))
            (acts_took gives c what gs known link mid out got.1 ready),
      )

  pub take_stops : (gs : List (Guest K)) (known : Option Recorded) (link mid : Option LinkHistory) (out : Option (List ℕ)) (e : Stop)
      → AreReady c gs → Receives known link mid (Err e)
      → ActsOnce gives c (λ what. comes what (course gs known)) (Err e) (scene gs known link out) (scene gs known mid out)
  take_stops gs known link mid out LinkFault ready got = (
    None,
    subst (λ k. Acts gives c (None ∷ []) (comes None (course gs known)) (Err LinkFault) (scene gs known link out)
        (scene gs known k out)) (sym got)
        (subst (λ (m : Moved Course). Acts gives c (None ∷ []) m (Err LinkFault) (scene gs known link out)
        (scene gs known link out)) (sym (comes_is None (course gs known)))
        (acts_cut gives c (None ∷ []) (stays (course gs known)) (scene gs known link out))),
  )
  take_stops gs known link mid out NoMemory ready got =
      let what = got.0 in (
        what,
        subst (λ (m : Moved Course). Acts gives c (what ∷ []) m (Err NoMemory) (scene gs known link out)
            (scene gs known mid out)) (sym (comes_is what (course gs known)))
            (acts_then gives c (what ∷ []) [] (took what (stays (course gs known)))
            (λ after. letter_comes (come_of known what) after) (Err NoMemory) (scene gs known link out) (scene gs known mid out)
            (scene gs known mid out)
            (acts_took gives c what gs known link mid out got.1 ready)
            (acts_none gives c [] (letter_comes (come_of known what) (course gs known)) (scene gs known mid out))),
      )
  take_stops gs known link mid out WriteFault ready got = absurd got
  take_stops gs known link mid out RecordFull ready got = absurd got
  take_stops gs known link mid out (StoreFault role) ready got = absurd got

  -- the first of them stopped, and the others did nothing
  stopped_at : (what : Doing) (s : Course) (e : Stop) (a b : Scene K) (m n : ℕ) → n ≤ m
      → Acts gives c [] (first_do n what s) (Err e) a b → Acts gives c [] (first_do m what s) (Err e) a b
  stopped_at what s e a b zero n le p =
      let none : n ≡ 0 = omega (arith, le) in subst (λ k. Acts gives c [] (first_do k what s) (Err e) a b) none p
  stopped_at what s e a b (suc m) n le p = go (λ less. stopped_at what s e a b m n less p) (cases le)
    where
      cases : n ≤ suc m → (n ≡ suc m) ⊎ (n ≤ m)
      cases h = grind (arith, h)

      go : (n ≤ m → Acts gives c [] (first_do m what s) (Err e) a b) → (n ≡ suc m) ⊎ (n ≤ m)
          → Acts gives c [] (first_do (suc m) what s) (Err e) a b
      go earlier (inl same) = subst (λ k. Acts gives c [] (first_do k what s) (Err e) a b) same p
      go earlier (inr less) =
          acts_before gives c [] [] (first_do m what s) (λ after. does_at m what after) e a b (earlier less)

  pub next_done : (what : Doing) (s : Course) (n : ℕ) (a b d : Scene K)
      → Acts gives c [] (first_do n what s) (Ok tt) a b
      → Acts gives c [] (does_at n what (course_in b)) (Ok tt) b d
      → Acts gives c [] (first_do (n + 1) what s) (Ok tt) a d
  next_done what s n a b d p q =
      let next : suc n ≡ n + 1 = omega arith in
      subst (λ k. Acts gives c [] (first_do k what s) (Ok tt) a d) next
      (acts_then gives c [] [] (first_do n what s) (λ after. does_at n what after) (Ok tt) a b d p q)

  pub next_stopped : (what : Doing) (s : Course) (n : ℕ) (e : Stop) (a b d : Scene K) → n < length s.hosted
      → Acts gives c [] (first_do n what s) (Ok tt) a b
      → Acts gives c [] (does_at n what (course_in b)) (Err e) b d
      → Acts gives c [] (all_do what s) (Err e) a d
  next_stopped what s n e a b d more p q =
      stopped_at what s e a d (length s.hosted) (suc n) (omega (arith, more))
      (acts_then gives c [] [] (first_do n what s) (λ after. does_at n what after) (Err e) a b d p q)

  -- one part of a turn after another
  pub turn_prepare : (n : ℕ) (e : Stop) (a b : Scene K) → Acts gives c [] (prepared c n (course_in a)) (Err e) a b
      → ActsOnce gives c (λ what. node_turn c n what (course_in a)) (Err e) a b
  unfolding node_turn
  turn_prepare n e a b p = (
    None,
    acts_before gives c [] (None ∷ []) (prepared c n (course_in a))
        (λ after. then_do (comes None after) (λ last. ticked n last)) e a b p,
  )

  pub turn_take : (n : ℕ) (e : Stop) (a b d : Scene K)
      → Acts gives c [] (prepared c n (course_in a)) (Ok tt) a b
      → ActsOnce gives c (λ what. comes what (course_in b)) (Err e) b d
      → ActsOnce gives c (λ what. node_turn c n what (course_in a)) (Err e) a d
  unfolding node_turn
  turn_take n e a b d p q =
      let what = q.0 in (
        what,
        acts_then gives c [] (what ∷ []) (prepared c n (course_in a))
            (λ after. then_do (comes what after) (λ last. ticked n last)) (Err e) a b d p
            (acts_before gives c (what ∷ []) [] (comes what (course_in b)) (λ last. ticked n last) e b d q.1),
      )

  pub turn_tick : (n : ℕ) (r : Done) (a b d f : Scene K)
      → Acts gives c [] (prepared c n (course_in a)) (Ok tt) a b
      → ActsOnce gives c (λ what. comes what (course_in b)) (Ok tt) b d
      → Acts gives c [] (ticked n (course_in d)) r d f
      → ActsOnce gives c (λ what. node_turn c n what (course_in a)) r a f
  unfolding node_turn
  turn_tick n r a b d f p q t =
      let what = q.0 in (
        what,
        acts_then gives c [] (what ∷ []) (prepared c n (course_in a))
            (λ after. then_do (comes what after) (λ last. ticked n last)) r a b f p
            (acts_then gives c (what ∷ []) [] (comes what (course_in b)) (λ last. ticked n last) r b d f q.1 t),
      )
