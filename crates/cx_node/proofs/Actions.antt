-- A part of a run that was done or stopped, with what came before it, and after it.
use Rattle.cx_role.proofs.Common.{◌≡◌, ℕ, List, [], ◌∷◌, ◌++◌, Option, None, option_map, Result, Ok, Err, refl, sym, ap₂, ◌∙◌, subst}
use Rattle.cx_role.proofs.Common.{Appends-nil, flat_map-append, Rises, Cluster}
use Rattle.cx_seat.specs.Prelude.{LinkHistory, with_taken, Changing, Action, AreTakesOf, Took, AreReady, hosted_in, TakeResults, Course}
use Rattle.cx_seat.specs.Prelude.{Moved, stays, then_do, took, Recorded}
use Rattle.cx_seat.specs.declared.guest.Guest.{Guest}
use Rattle.cx_node.specs.declared.node.Stop.{Stop}
use Rattle.cx_node.specs.declared.node.Stop.TheVariants.{LinkFault, NoMemory, WriteFault}
use Rattle.cx_course.specs.Action.{bound_by, taken_by}
use Rattle.cx_node.specs.Acts.{Acts, Blames, Failures}
use Rattle.cx_node.specs.Doing.{Linked, Scene, course_in, scene}
use Rattle.cx_node.proofs.Asked.{linked_took}
use Rattle.cx_node.proofs.Done.{did_nothing, does_nothing, does_then, guests_rest, part_then, then_part}

-- these hosted roles with what is known of their record
abbrev pub course : {K : Type 0} → List (Guest K) → Option Recorded → Course
course gs known = record { hosted = hosted_in gs; recorded = known }

abbrev pub Done : Type 0
Done = Result (Unit {0}) Stop

abbrev pub OfOk : Done → Type 0
OfOk (Ok u) = Unit {0}
OfOk (Err e) = ⊥

pub not_failed : (e : Stop) → ◌≡◌ {A = Done} (Ok tt) (Err e) → ⊥
not_failed e p = subst OfOk p tt

pub no_blame : (a : Failures) → Blames (Ok tt) a a
no_blame a =
    record {
      written = λ e. absurd (not_failed WriteFault e);
      unwritten = λ other. refl;
      linked = λ e. absurd
          (not_failed LinkFault e);
      unlinked = λ other. refl;
    }

-- nothing was blamed before
pub blames_then : (r : Done) (a b d : Failures) → Blames (Ok tt) a b → Blames r b d → Blames r a d
blames_then r a b d p q =
    let out = p.unwritten (not_failed WriteFault) in
    let link = p.unlinked (not_failed LinkFault) in
    record {
      written = λ e. subst (λ n. Rises n d.out) out (q.written e);
      unwritten = λ other. q.unwritten other ∙ out;
      linked = λ e. subst (λ n. Rises n d.link) link (q.linked e);
      unlinked = λ other. q.unlinked other ∙ link;
    }

-- the takes of actions, some after others
taken_then : (ts us : TakeResults) (xs ys : List Action) → AreTakesOf ts xs → AreTakesOf us ys → AreTakesOf (ts ++ us) (xs ++ ys)
taken_then ts us xs ys p q = (
  flat_map-append bound_by xs ys ∙ ap₂ (λ k l. k ++ l) p.0 q.0,
  flat_map-append taken_by xs ys
      ∙ ap₂ (λ k l. k ++ l) p.1 q.1,
)

module _ {K : Type 0} (gives : Changing K) (c : Cluster) where
  then_more : (ts us : TakeResults) (m : Moved Course) (f : Course → Moved Course) (r : Done)
      (a b d : Scene K)
      → Acts gives c ts m (Ok tt) a b → Acts gives c us (f m.next) r b d → Acts gives c (ts ++ us) (then_do m f) r a d
  then_more ts us m f (Ok u) a b d p q =
      record {
        done = does_then gives c m f a b d p.done q.done;
        taken = taken_then ts us m.actions ((f m.next).actions) p.taken q.taken;
        ready = q.ready;
        part = tt;
      }
  then_more ts us m f (Err e) a b d p q =
      record {
        done = tt;
        taken = tt;
        ready = tt;
        part = then_part gives c m.actions
            ((f m.next).actions) e a b d p.done.did q.part;
      }

  pub acts_then : (ts us : TakeResults) (m : Moved Course) (f : Course → Moved Course) (r : Done)
      (a b d : Scene K)
      → Acts gives c ts m (Ok tt) a b → Acts gives c us (f (course_in b)) r b d
      → Acts gives c (ts ++ us) (then_do m f) r a d
  acts_then ts us m f r a b d p q =
      then_more ts us m f r a b d p (subst (λ s. Acts gives c us (f s) r b d) p.done.course q)

  -- it stopped, and what was to come didn't
  pub acts_before : (ts us : TakeResults) (m : Moved Course) (f : Course → Moved Course) (e : Stop)
      (a b : Scene K)
      → Acts gives c ts m (Err e) a b → Acts gives c (ts ++ us) (then_do m f) (Err e) a b
  acts_before ts us m f e a b p =
      record {
        done = tt;
        taken = tt;
        ready = tt;
        part = part_then gives c m.actions
            ((f m.next).actions) e a b p.part;
      }

  -- nothing was to be done
  pub acts_nothing : (a : Scene K) → AreReady c a.guests → Acts gives c [] (stays (course_in a)) (Ok tt) a a
  acts_nothing a ready = record { done = does_nothing gives c a; taken = (refl, refl); ready = ready; part = tt }

  -- memory ran out before anything was done
  pub acts_none : (ts : TakeResults) (m : Moved Course) (a : Scene K) → Acts gives c ts m (Err NoMemory) a a
  acts_none ts m a =
      record {
        done = tt;
        taken = tt;
        ready = tt;
        part = record { count = 0; mid = a.guests; did = did_nothing gives c a; stops = guests_rest gives a.guests };
      }

  -- a take failed
  pub acts_cut : (ts : TakeResults) (m : Moved Course) (a : Scene K)
      → Acts gives c ts (took None m) (Err LinkFault) a a
  acts_cut ts m a =
      record {
        done = tt;
        taken = tt;
        ready = tt;
        part = record {
          count = 0;
          mid = a.guests;
          did = did_nothing gives c a;
          stops = ((None, refl), guests_rest gives a.guests);
        };
      }

  -- the link gave something at one take, or nothing
  pub acts_took : (what : Option (List ℕ)) (gs : List (Guest K)) (known : Option Recorded) (link after : Option LinkHistory)
      (out : Option (List ℕ))
      → after ≡ option_map (with_taken what) link → AreReady c gs
      → Acts gives c (what ∷ []) (took what (stays (course gs known))) (Ok tt) (scene gs known link out)
      (scene gs known after out)
  acts_took what gs known link after out same_link ready =
      let none = did_nothing gives c (scene gs known link out) in
      record {
        done = record {
          course = refl;
          did =
              record {
                names = refl;
                kept = none.kept;
                link = subst (Linked c (Took what ∷ []) link) (sym same_link)
                    (linked_took c what link);
                printed = Appends-nil out;
                made = refl;
              };
        };
        taken = (refl, refl);
        ready = ready;
        part = tt;
      }
