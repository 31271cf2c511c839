-- How the stop of a role within a change of its store is a crash of the model's run.
use Rattle.std.specs.Prelude.{◌≡◌, ℕ, true, is_some, List, [], ◌∷◌, ◌++◌, Option, Some, Ok}
use Rattle.cx_model.specs.Prelude.{Cluster, Cut, Whole, Event, RoleId, change, kept_by, run, Written}
use Rattle.cx_base.specs.declared.event.Event.TheVariants as event
use Rattle.cx_base.specs.declared.role.Kind.TheVariants as kind
use Rattle.cx_journal.specs.Files.{Files, files_image, files_records}
use Rattle.cx_journal.specs.Store.{store_told, store_whole}
use Rattle.cx_journal.specs.declared.store.RecordStore.{RecordStore}
use Rattle.cx_inv_open.specs.Reopened.{stored_as}
use Rattle.cx_promises.specs.Lawful.{IsLawful}
use Rattle.cx_seat.specs.Stores.{has_second, is_two}

-- the same event, with its role cut so within the change of its store
abbrev pub with_cut : Cut → Event → Event
with_cut cut (event.Deliver n other) = event.Deliver n cut
with_cut cut (event.Order l order other) = event.Order l order cut
with_cut cut (event.Replace x set other) = event.Replace x set cut
with_cut cut (event.Offer replica to slot) = event.Offer replica to slot
with_cut cut (event.Snap who other) = event.Snap who cut
with_cut cut (event.Write command batcher) = event.Write command batcher
with_cut cut (event.Read client seq floor reader replica key) = event.Read client seq floor reader replica key
with_cut cut (event.Session client seq floor replica key) = event.Session client seq floor replica key
with_cut cut (event.Tick r) = event.Tick r
with_cut cut (event.Crash r) = event.Crash r
with_cut cut (event.Restart r) = event.Restart r

-- the events in which a role of a node may change its store: only a replica puts its list anew there
abbrev pub MayChange : Event → Type 0
MayChange (event.Deliver n cut) = Unit {0}
MayChange (event.Order l order cut) = Unit {0}
MayChange (event.Replace x set cut) = Unit {0}
MayChange (event.Offer replica to slot) = ⊥
MayChange (event.Snap who cut) = who.kind ≡ kind.Replica
MayChange (event.Write command batcher) = ⊥
MayChange (event.Read client seq floor reader replica key) = ⊥
MayChange (event.Session client seq floor replica key) = ⊥
MayChange (event.Tick r) = ⊥
MayChange (event.Crash r) = ⊥
MayChange (event.Restart r) = ⊥

-- A role's store has the list that a run leaves in it, and in the next event, if it is whole, the role changes it so.
pub record IsNextChange {D : Type 0} (seen : D → Option (List ℕ)) (c : Cluster) (es : List Event) (e : Event)
    (me : RoleId) (what : Written) (store : RecordStore D) : Type 0 where
  pub may_change : MayChange e
  pub whole : store_whole store ≡ true
  pub sides : is_two store ≡ has_second me.kind
  pub is_seen : is_some (store_told seen store) ≡ true
  pub records : files_records (store_told seen store) ≡ stored_as me (run c es).kept me.kind
  pub next : (change (run c es) (with_cut Whole e)).kept ≡ kept_by me (Some what)

-- The bytes are a store, as a role of this kind opens it, of the list that a run with this event cut so leaves in it, and
-- that run is lawful.
pub record IsOfRun (c : Cluster) (es : List Event) (e : Event) (cut : Cut) (me : RoleId) (files : Files) : Type 0 where
  pub stored : files_image (Some me.kind) files ≡ Ok (stored_as me (run c (es ++ with_cut cut e ∷ [])).kept me.kind)
  pub lawful : IsLawful c (es ++ with_cut cut e ∷ [])
