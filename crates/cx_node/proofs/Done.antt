-- Actions that were done, some after others.
use Rattle.std.proofs.Common.{pred}
use Rattle.std.proofs.KnownBytes.{Appends-trans}
use Rattle.cx_role.proofs.Common.{◌≡◌, ◌||◌, ℕ, zero, suc, List, [], ◌∷◌, ◌++◌, length, map, take, arith, Option, None, Some, option_map}
use Rattle.cx_role.proofs.Common.{slice_get, refl, sym, ap, ◌∙◌, subst, inl, Appends-nil, flat_map-append, list_any-append, none-some}
use Rattle.cx_role.proofs.Common.{same_Some, slice_get-map, Appends, list_any, Cluster}
use Rattle.cx_seat.specs.Prelude.{Action, Filled, Kept, Took, is_filled, kept_in, printed_in, StoreChange, Changing, GuestGrows, Rests}
use Rattle.cx_seat.specs.Prelude.{keeper_of, who, Course, Moved, stays, then_do}
use Rattle.cx_seat.specs.declared.guest.Guest.{Guest}
use Rattle.cx_node.specs.declared.node.Stop.{Stop}
use Rattle.cx_node.specs.declared.node.Stop.TheVariants as stop
use Rattle.cx_course.specs.Action.{kept_as, printed_by}
use Rattle.cx_node.specs.Doing.{Did, DidPart, Does, GuestsGrow, GuestsRest, Scene, StopsAt, course_in, scene}
use Rattle.cx_node.proofs.Asked.{linked_nothing, linked_then}
use Rattle.cx_node.proofs.Grown.{before, behind, grows_none, guest_then}

-- what stands at a place of a list of the same length
pub stands_at : {X Y : Type 0} (xs : List X) (ys : List Y) (i : ℕ) (x : X) → length ys ≡ length xs
    → slice_get xs i ≡ Some x → (y : Y) × (slice_get ys i ≡ Some y)
stands_at [] ys i x len e = absurd (none-some x e)
stands_at (z ∷ xs) [] i x len e = let none : ⊥ = omega (arith, len) in absurd none
stands_at (z ∷ xs) (y ∷ ys) zero x len e = (y, refl)
stands_at (z ∷ xs) (y ∷ ys) (suc i) x len e = stands_at xs ys i x (ap pred len) e

-- what stands at one place of two lists that a function makes the same
pub same_at : {X Y : Type 0} (f : X → Y) (xs ys : List X) (i : ℕ) (x y : X) → map f ys ≡ map f xs
    → slice_get xs i ≡ Some x → slice_get ys i ≡ Some y → f y ≡ f x
same_at f xs ys i x y same p q =
    same_Some (f y) (f x) (ap (option_map f) (sym q) ∙ sym (slice_get-map f ys i) ∙ ap (λ l. slice_get l i) same
    ∙ slice_get-map f xs i ∙ ap (option_map f) p)

module _ {K : Type 0} (gives : Changing K) where
  guests_then : (ks ls : List StoreChange) (gs bs ds : List (Guest K)) → map who bs ≡ map who gs
      → GuestsGrow gives ks gs bs → GuestsGrow gives ls bs ds → GuestsGrow gives (ks ++ ls) gs ds
  guests_then ks ls gs bs ds same p q = (
    q.0 ∙ p.0,
    λ i a d e f.
        let b = stands_at gs bs i a p.0 e in
        guest_then gives ks ls a b.0 d (same_at who gs bs i a b.0 same e b.1) (p.1 i a b.0 e b.1) (q.1 i b.0 d b.1 f),
  )

  guests_none : (gs : List (Guest K)) → GuestsGrow gives [] gs gs
  guests_none gs = (
    refl,
    λ i a b e f. subst (λ (g : Guest K). GuestGrows gives [] a g) (same_Some a b (sym e ∙ f))
        (grows_none gives (keeper_of a)),
  )

  pub rests_itself : (o : Option K) → Rests gives o o
  rests_itself None = tt
  rests_itself (Some k) = inl refl

  pub guests_rest : (gs : List (Guest K)) → GuestsRest gives gs gs
  guests_rest gs = (
    refl,
    λ i a b e f. subst (λ (g : Guest K). (who g ≡ who a) × Rests gives (keeper_of a) (keeper_of g))
        (same_Some a b (sym e ∙ f)) (refl, rests_itself (keeper_of a)),
  )

  module _ (c : Cluster) where
    pub did_nothing : (a : Scene K) → Did gives c [] a a
    did_nothing a =
        record {
          names = refl;
          kept = guests_none a.guests;
          link = linked_nothing c a.link;
          printed = Appends-nil a.out;
          made = refl;
        }

    pub did_then : (xs ys : List Action) (a b d : Scene K) → Did gives c xs a b → Did gives c ys b d
        → Did gives c (xs ++ ys) a d
    did_then xs ys a b d p q =
        record {
          names = q.names ∙ p.names;
          kept =
              subst (λ ks. GuestsGrow gives ks a.guests d.guests) (sym (flat_map-append kept_as xs ys))
              (guests_then (kept_in xs) (kept_in ys) a.guests b.guests d.guests p.names p.kept q.kept);
          link = linked_then c xs ys a.link b.link d.link p.link q.link;
          printed =
              subst (Appends a.out d.out) (sym (flat_map-append printed_by xs ys))
              (Appends-trans a.out b.out d.out (printed_in xs) (printed_in ys) p.printed q.printed);
          made = list_any-append is_filled xs ys ∙ ap (λ t. t || list_any is_filled ys) p.made ∙ q.made;
        }

    pub does_nothing : (a : Scene K) → Does gives c (stays (course_in a)) a a
    does_nothing a = record { course = refl; did = did_nothing a }

    pub does_then : (m : Moved Course) (f : Course → Moved Course) (a b d : Scene K)
        → Does gives c m a b → Does gives c (f m.next) b d → Does gives c (then_do m f) a d
    does_then m f a b d p q =
        record { course = q.course; did = did_then m.actions ((f m.next).actions) a b d p.did q.did }

    stops_as : (e : Stop) (o n : Option Action) (gs bs : List (Guest K)) → ((x : Action) → o ≡ Some x → n ≡ Some x)
        → StopsAt gives e o gs bs → StopsAt gives e n gs bs
    stops_as stop.NoMemory o n gs bs more s = s
    stops_as stop.WriteFault o n gs bs more s = s
    stops_as stop.LinkFault o n gs bs more s = ((s.0.0, more (Took s.0.0) s.0.1), s.1)
    stops_as stop.RecordFull o n gs bs more s = (more Filled s.0, s.1)
    stops_as (stop.StoreFault role) o n gs bs more s = (s.0, more (Kept (record { role = role; change = s.0 })) s.1, s.2)

    -- it stopped, and what was to come wasn't done
    pub part_then : (xs ys : List Action) (e : Stop) (a b : Scene K) → DidPart gives c xs e a b
        → DidPart gives c (xs ++ ys) e a b
    part_then xs ys e a b p =
        let k = before xs ys p.count in
        record {
          count = k.0;
          mid = p.mid;
          did = subst (λ l. Did gives c l a (scene p.mid b.recorded b.link b.out)) (sym k.1) p.did;
          stops = stops_as e (slice_get xs p.count) (slice_get (xs ++ ys) k.0) p.mid b.guests k.2 p.stops;
        }

    -- it stopped after what was done before
    pub then_part : (xs ys : List Action) (e : Stop) (a b d : Scene K) → Did gives c xs a b → DidPart gives c ys e b d
        → DidPart gives c (xs ++ ys) e a d
    then_part xs ys e a b d p q =
        let k = behind xs ys q.count in
        record {
          count = k.0;
          mid = q.mid;
          did =
              subst (λ l. Did gives c l a (scene q.mid d.recorded d.link d.out)) (sym k.1)
              (did_then xs (take q.count ys) a b (scene q.mid d.recorded d.link d.out) p q.did);
          stops = subst (λ o. StopsAt gives e o q.mid d.guests) (sym k.2) q.stops;
        }
