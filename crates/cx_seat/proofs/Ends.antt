-- What a step or a snap of a role that ended early is for its seat.
use Rattle.cx_role.proofs.Common.{◌≡◌, ◌⊎◌, Bool, List, [], Option, Some, Err, refl, sym, ap, subst, inl, inr, slice_get, option_map}
use Rattle.cx_role.proofs.Common.{RoleId, Append, KeeperChange, Renewal, KeepFault, Failed, Outcome, ReplicaDurable, ReplicaVolatile}
use Rattle.cx_role.proofs.Common.{replica_renewed, replica_rules, Rules, Running, Letter, Record}
use Rattle.cx_keep.specs.declared.keeper.KeepFault.TheVariants.{NoMemory}
use Rattle.cx_role.specs.Role.{Appending, IsStep, Refuses as RefusesAppend}
use Rattle.cx_role.specs.Snap.{IsSnap, Renewing, snap_of}
use Rattle.cx_seat.specs.declared.guest.Guest.TheVariants as guest
use Rattle.cx_course.specs.Changing.{changed_by, changes_of}
use Rattle.cx_course.proofs.Stores.{first_change}
use Rattle.cx_seat.specs.Changing.{Changing, Refuses, changing}
use Rattle.cx_seat.specs.Guest.{HasChangeFailed, MakesRow, Performs}
use Rattle.cx_course.specs.Hosted.{ReplicaAt, snapped}

module _ {K : Type 0} (append_gives : Appending K) (renew_gives : Renewing K) (tells : K → Bool) (old new : K)
    (sent : List Letter) where
  abbrev gives : Changing K
  gives = changing append_gives renew_gives

  fails_first : (me : RoleId) (c : KeeperChange) (o : Option KeeperChange) → o ≡ Some c → gives old c (Err Failed) new
      → HasChangeFailed gives (slice_get (changes_of me (changed_by me o)) 0) old new
  fails_first me c o is failed =
      subst (λ x. HasChangeFailed gives (slice_get (changes_of me (changed_by me x)) 0) old new) (sym is)
      (subst (λ x. HasChangeFailed gives x old new) (sym (first_change me (Some c))) failed)

  module _ {D V : Type 0} (rules : Rules D V) (before after : Running D V) (row : Outcome V) where
    refused : RefusesAppend append_gives old new → Refuses gives old new
    refused (inl same) = inl same
    refused (inr p) = inr (Append p.0, p.1)

    pub step_ends : (e : KeepFault) → IsStep append_gives tells rules before row (Err e) after old new sent
        → MakesRow gives rules before row (Err e) after old new sent
    step_ends NoMemory step = record {
      state = tt;
      kept = tt;
      sends = tt;
      rests = λ is. refused (step.no_memory refl).kept;
      failed = λ is. cc;
      name = λ live. ap (λ (s : Running D V). s.me) (step.no_memory refl).state;
    }
    step_ends Failed step =
        let p = (step.failed refl).append in
        record {
          state = tt;
          kept = tt;
          sends = tt;
          rests = λ is. cc;
          failed = λ is. fails_first before.me (Append p.0) (option_map Append row.kept) (ap (option_map Append) p.1) p.2;
          name = λ live. (step.keeps refl).me;
        }

  module _ (before after : Running ReplicaDurable ReplicaVolatile) where
    unrenewed : (new ≡ old) ⊎ ((records : List Record) × renew_gives old records (Err NoMemory) new)
        → Refuses gives old new
    unrenewed (inl same) = inl same
    unrenewed (inr p) = inr (Renewal p.0, p.1)

    pub snap_ends : (e : KeepFault)
        → IsSnap renew_gives tells replica_rules before (snap_of replica_rules before) (Err e) after old new sent
        → Performs gives (snapped (ReplicaAt before)) (Err e) (guest.Replica before old) (guest.Replica after new) sent []
    snap_ends NoMemory snap = record {
      role = tt;
      kept = tt;
      sends = tt;
      text = tt;
      live = tt;
      rests = λ is. unrenewed (snap.no_memory refl).list;
      failed = λ is. cc;
    }
    snap_ends Failed snap =
        let p = (snap.failed refl).renewal in
        let asked : ReplicaDurable → KeeperChange = λ d. Renewal (replica_renewed d p.0) in
        record {
          role = tt;
          kept = tt;
          sends = tt;
          text = tt;
          live = tt;
          rests = λ is. cc;
          failed = λ is.
              fails_first before.me (asked before.durable)
              (option_map (λ b. Renewal (replica_renewed before.durable b)) (snap_of replica_rules before))
              (ap (option_map (λ b. Renewal (replica_renewed before.durable b))) p.1) p.2;
        }
