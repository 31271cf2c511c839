-- What is left of a depot by the opening of one role.
use Rattle.cx_role.proofs.Common.{◌≡◌, ◌≤◌, ◌⊎◌, ℕ, arith, true, false, List, ◌++◌, Some, Result, Ok, Err, inl, inr, sym, ap, subst, ◌∙◌}
use Rattle.cx_role.proofs.Common.{cases_Bool, RoleId, same_role, same_role-true}
use Rattle.cx_seat.specs.Prelude.{shelf, Shelf, files_records, files_of}
use Rattle.cx_edge.specs.declared.depot.Depot.{Ghosts as DepotGhosts}
use Rattle.cx_seat.specs.declared.opening.OpenStop.{OpenStop}
use Rattle.cx_seat.specs.declared.opening.OpenStop.TheVariants as open_stop
use Rattle.cx_seat.specs.Opening.{LendsFor}
use Rattle.cx_seat.proofs.Lent.{none_falls, others_differ, records_stay, same_records}

-- Nothing of another role changes, and this one's count doesn't fall.
pub record IsApart {D S : Type 0} (by : DepotGhosts D S) (me : RoleId) (old new : D) : Type 0 where
  pub tells_same : by.tells new ≡ by.tells old
  pub stored : (place : Shelf) → (place.role ≡ me → ⊥) → by.stored new place ≡ by.stored old place
  pub later : by.faults old me ≤ by.faults new me
  pub others : (a : RoleId) → (a ≡ me → ⊥) → by.faults new a ≡ by.faults old a

module _ {D S : Type 0} (by : DepotGhosts D S) (me : RoleId) where
  pub apart_then : (old mid new : D) → IsApart by me old mid → IsApart by me mid new → IsApart by me old new
  apart_then old mid new p q = record {
    tells_same = q.tells_same ∙ p.tells_same;
    stored = λ place other. q.stored place other ∙ p.stored place other;
    later = omega (arith, p.later, q.later);
    others = λ a other. q.others a other ∙ p.others a other;
  }

  -- one of its stores was opened, or could not be
  pub apart_opened : (old new : D) → by.tells new ≡ by.tells old
      → ((place : Shelf) → by.stored new place ≡ by.stored old place) → by.faults old me ≤ by.faults new me
      → ((a : RoleId) → (a ≡ me → ⊥) → by.faults new a ≡ by.faults old a) → IsApart by me old new
  apart_opened old new tells_same stored later others = record {
    tells_same = tells_same;
    stored = λ place other. stored place;
    later = later;
    others = others;
  }

  -- one was given back
  pub apart_closed : (side : ℕ) (old new : D) → by.tells new ≡ by.tells old
      → ((place : Shelf) → (place ≡ shelf me side → ⊥) → by.stored new place ≡ by.stored old place)
      → by.faults old me ≤ by.faults new me
      → ((a : RoleId) → (a ≡ me → ⊥) → by.faults new a ≡ by.faults old a) → IsApart by me old new
  apart_closed side old new tells_same stored later others = record {
    tells_same = tells_same;
    stored = λ place other. stored place (λ e. other (ap (λ (p : Shelf). p.role) e));
    later = later;
    others = others;
  }

  module _ {X : Type 0} (lent : X → List Shelf) where
    -- nothing is lent
    pub lends_none : (e : OpenStop) (old new : D) → IsApart by me old new → by.out new ≡ by.out old
        → (by.tells old ≡ true → files_records (Some (files_of (by.stored new) me)) ≡ files_records
        (Some (files_of (by.stored old) me)))
        → ((e ≡ open_stop.StoreFault me → ⊥) → by.faults new me ≡ by.faults old me) → LendsFor by me (Err e) lent old new
    lends_none e old new apart out own still = record {
      out = tt;
      given_back = out;
      tells_same = apart.tells_same;
      stays = tt;
      stored = λ t. records_stay me (by.stored old) (by.stored new) (own t) apart.stored;
      later = none_falls me (by.faults old) (by.faults new) apart.later apart.others;
      others = λ a none. by_name a none (cases_Bool (same_role a me));
      apart = λ a other. (λ side. apart.stored (shelf a side) other, apart.others a other);
    }
      where
        by_name : (a : RoleId) → (◌≡◌ {A = Result X OpenStop} (Err e) (Err (open_stop.StoreFault a)) → ⊥)
            → (same_role a me ≡ true) ⊎ (same_role a me ≡ false) → by.faults new a ≡ by.faults old a
        by_name a none (inl is) =
            let own : a ≡ me = same_role-true a me is in
            subst (λ (b : RoleId). by.faults new b ≡ by.faults old b) (sym own)
            (still (λ e. none (ap Err (e ∙ ap open_stop.StoreFault (sym own)))))
        by_name a none (inr other) = apart.others a (others_differ a me other)

    -- these places are lent, and nothing else changes
    pub lends_these : (x : X) (old new : D) → by.out new ≡ by.out old ++ lent x → by.tells new ≡ by.tells old
        → ((place : Shelf) → by.stored new place ≡ by.stored old place)
        → ((a : RoleId) → by.faults new a ≡ by.faults old a) → LendsFor by me (Ok x) lent old new
    lends_these x old new out tells_same stored still = record {
      out = out;
      given_back = tt;
      tells_same = tells_same;
      stays = stored;
      stored = λ t. same_records (by.stored old) (by.stored new) stored;
      later = λ a. omega (arith, still a);
      others = λ a none. still a;
      apart = λ a other. (λ side. stored (shelf a side), still a);
    }
