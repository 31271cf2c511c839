-- What a cut event keeps, and the store of its run.
use Rattle.cx_inv_run.proofs.Common.{◌≡◌, ◌∙◌, ℕ, Bool, true, false, List, [], ◌∷◌, ◌++◌, Option, None, Some, ap, sym, refl, subst, inl}
use Rattle.cx_inv_run.proofs.Common.{inr, append-nil, ◌-◌, drop, length, map, slice_get, list_all, option_map, list_all-append, cases_Bool}
use Rattle.cx_inv_run.proofs.Common.{true≢false}
use Rattle.cx_inv_run.proofs.Common.{Cluster, Cut, Whole, Torn, Kept, Event, Kind, RoleId, role, same_role, same_role-true, Member, Outcome}
use Rattle.cx_inv_run.proofs.Common.{ReplicaDurable, acceptor_rules, batcher_rules, leader_rules, matchmaker_rules, proxy_rules}
use Rattle.cx_inv_run.proofs.Common.{reader_rules, replacer_rules, unbatcher_rules, list_of}
use Rattle.cx_inv_run.proofs.Common.{held, replica_renewed, replica_rules, Rules, folded, snap_turn, turn, turn_with, World}
use Rattle.cx_inv_run.proofs.Common.{act_of, change, come, durable_part, kept_by, list_after, run, State, IsKeeper}
use Rattle.cx_inv_run.proofs.Common.{kinds_are_so, Member-second, run_append, Letter, Act, Give, Snap, Input, KeptRecord, Written, Record}
use Rattle.cx_journal.proofs.Common.{Result, is_some, fits, record_shape, all_kept_by, is_kept_by, may_keep, all_kept-push, both_so}
use Rattle.cx_role.specs.Prelude.{notes_of, pieces, Append, KeeperChange, Renewal, KeepFault}
use Rattle.cx_seat.specs.Prelude.{Files, files_records, IsStoreChange, store_told, RecordStore, One, Two, has_second, is_two}
use Rattle.cx_base.specs.declared.event.Event.TheVariants as event
use Rattle.cx_base.specs.declared.event.Order.TheVariants as order
use Rattle.cx_base.specs.declared.role.Kind.TheVariants as kind
use Rattle.cx_model.specs.World.{list_after_kept, step}
use Rattle.cx_inv_open.specs.Reopened.{stored_as}
use Rattle.cx_inv_run.specs.Kinds.{IsWriter}
use Rattle.cx_letter.specs.declared.input.Input.TheVariants as input
use Rattle.cx_letter.specs.declared.input.Written.TheVariants as written
use Rattle.cx_letter.specs.declared.kept.Record.TheVariants as kept_record
use Rattle.cx_disk.specs.declared.disk.Disk.{Ghosts as DiskGhosts}
use Rattle.cx_journal.specs.Files.{IsFilesImageOf, one_told}
use Rattle.cx_journal.specs.StoreLaw.{both_records, one_records, one_tells}
use Rattle.cx_journal.proofs.Stores.{two_tell}
use Rattle.cx_keep.specs.Keeper.{list_after as change_after}
use Rattle.cx_promises.proofs.Lawful.{lawful}
use Rattle.cx_course.specs.Changing.{change_for}
use Rattle.cx_course.proofs.Roles.{MayWrite, acts_by}
use Rattle.cx_course.proofs.Stores.{own_written}
use Rattle.cx_seat.specs.Stops.{IsOfRun, MayChange, with_cut}

-- cut events keep nothing, or the change
pub record CutKeeps (me : RoleId) (what : Written) (torn kept : List KeptRecord) : Type 0 where
  pub lost : torn ≡ []
  pub kept_too : kept ≡ kept_by me (Some what)

-- what a row keeps, as a change
abbrev kept_as : RoleId → Option Record → List KeptRecord
kept_as to o = kept_by to (option_map written.Record o)

cut_row : {V : Type 0} (to me : RoleId) (what : Written) (k : Option Record) (o : Outcome V) → o.kept ≡ k
    → kept_by to ((turn_with Whole k o).kept) ≡ kept_by me (Some what)
    → CutKeeps me what (kept_by to ((turn_with Torn k o).kept)) (kept_by to ((turn_with Kept k o).kept))
cut_row to me what None o is h =
    let nothing : [] ≡ kept_by me (Some what) = sym (ap (kept_as to) is) ∙ h in
    cc
cut_row to me what (Some own) o is h = record { lost = refl; kept_too = sym (ap (kept_as to) is) ∙ h }

-- what an act leaves that is cut, where the whole one changes the store so
abbrev Cuts : {D V : Type 0} → Rules D V → Cluster → RoleId → RoleId → Written → D → (Cut → Act) → Type 0
Cuts {D} {V} rules c to me what d act =
    (running : Option V) → kept_by to ((turn rules c to d (act Whole) running).kept) ≡ kept_by me (Some what)
    → CutKeeps me what (kept_by to ((turn rules c to d (act Torn) running).kept))
    (kept_by to ((turn rules c to d (act Kept) running).kept))

cut_given : {D V : Type 0} (rules : Rules D V) (c : Cluster) (to me : RoleId) (what : Written) (d : D) (i : Input)
    → Cuts rules c to me what d (Give i)
cut_given rules c to me what d i None h = cc
cut_given rules c to me what d i (Some v) h =
    cut_row to me what ((rules.row c to d v i).kept) (rules.row c to d v i) refl h

cut_snapped : {D V : Type 0} (rules : Rules D V) (c : Cluster) (to me : RoleId) (what : Written) (d : D)
    → Cuts rules c to me what d Snap
cut_snapped {D} {V} rules c to me what d None h = cc
cut_snapped {D} {V} rules c to me what d (Some v) h = go (rules.snap c to d v) h
  where
    go : (o : Option ℕ) → kept_by to ((snap_turn Whole v o).kept) ≡ kept_by me (Some what)
        → CutKeeps me what (kept_by to ((snap_turn Torn v o).kept)) (kept_by to ((snap_turn Kept v o).kept))
    go None h = cc
    go (Some first) h = record { lost = refl; kept_too = h }

none_kept : {A : Type 0} (me : RoleId) (what : Written) → [] ≡ kept_by me (Some what) → A
none_kept me what h = cc

cut_act : (c : Cluster) (roles : RoleId → State) (kept : List KeptRecord) (i : Input) (to me : RoleId) (what : Written)
    (k : Kind) → (act_of c roles kept (Give i Whole) to k).kept ≡ kept_by me (Some what)
    → CutKeeps me what ((act_of c roles kept (Give i Torn) to k).kept) ((act_of c roles kept (Give i Kept) to k).kept)
cut_act c roles kept i to me what k =
    acts_by (λ at. (at (Give i Whole)).kept ≡ kept_by me (Some what) → CutKeeps me what ((at (Give i Torn)).kept) ((at (Give i Kept)).kept))
    c roles kept to k
    (λ h. none_kept me what h) (λ D V rules make running h. cut_given rules c to me what (durable_part rules to kept) i running h)

cut_anew : (c : Cluster) (roles : RoleId → State) (kept : List KeptRecord) (to me : RoleId) (what : Written)
    (k : Kind) → (act_of c roles kept (Snap Whole) to k).kept ≡ kept_by me (Some what)
    → CutKeeps me what ((act_of c roles kept (Snap Torn) to k).kept) ((act_of c roles kept (Snap Kept) to k).kept)
cut_anew c roles kept to me what k =
    acts_by (λ at. (at (Snap Whole)).kept ≡ kept_by me (Some what) → CutKeeps me what ((at (Snap Torn)).kept) ((at (Snap Kept)).kept))
    c roles kept to k
    (λ h. none_kept me what h) (λ D V rules make running h. cut_snapped rules c to me what (durable_part rules to kept) running h)

cut_come : (w : World) (me : RoleId) (what : Written) (o : Option Letter)
    → (come w Whole o).kept ≡ kept_by me (Some what)
    → CutKeeps me what ((come w Torn o).kept) ((come w Kept o).kept)
cut_come w me what None h = cc
cut_come w me what (Some d) h = cut_act w.cluster w.roles w.kept (input.Take d) d.to me what d.to.kind h

pub cut_change : (w : World) (e : Event) (me : RoleId) (what : Written) → MayChange e
    → (change w (with_cut Whole e)).kept ≡ kept_by me (Some what)
    → CutKeeps me what ((change w (with_cut Torn e)).kept) ((change w (with_cut Kept e)).kept)
cut_change w (event.Deliver n cut) me what may h = cut_come w me what (slice_get w.sent n) h
cut_change w (event.Order l order cut) me what may h =
    cut_act w.cluster w.roles w.kept (input.Order order) (role kind.Leader l) me what kind.Leader h
cut_change w (event.Replace x set cut) me what may h =
    cut_act w.cluster w.roles w.kept (input.Order (order.Replace set)) (role kind.Replacer x) me what kind.Replacer h
cut_change w (event.Snap who cut) me what may h = cut_anew w.cluster w.roles w.kept who me what who.kind h
cut_change w (event.Offer replica to slot) me what may h = absurd may
cut_change w (event.Write command batcher) me what may h = absurd may
cut_change w (event.Read client seq floor reader replica key) me what may h = absurd may
cut_change w (event.Session client seq floor replica key) me what may h = absurd may
cut_change w (event.Tick who) me what may h = absurd may
cut_change w (event.Crash who) me what may h = absurd may
cut_change w (event.Restart who) me what may h = absurd may

-- the list in a role's store, after a change of its own

no_keeper : {A : Type 0} (r : Record) → IsKeeper kind.Client r → A
no_keeper (kept_record.Promise i) is = cc
no_keeper other is = cc

-- only the snap of a role puts its list anew

abbrev Anew : RoleId → List KeptRecord → ℕ → Type 0
Anew me kept first = kept ≡ kept_by me (Some (written.Snap first))

is_anew : Written → Bool
is_anew (written.Record r) = false
is_anew (written.Snap first) = true

begins_anew : List KeptRecord → Bool
begins_anew [] = false
begins_anew (k ∷ ks) = is_anew k.what

no_row : (to me : RoleId) (o : Option Record) (first : ℕ) → Anew me (kept_as to o) first → ⊥
unfolding begins_anew is_anew
no_row to me None first h = true≢false (sym (ap begins_anew h))
no_row to me (Some r) first h = true≢false (sym (ap begins_anew h))

no_turn : {V : Type 0} (to me : RoleId) (k : Option Record) (o : Outcome V) (first : ℕ) → o.kept ≡ k
    → Anew me (kept_by to ((turn_with Whole k o).kept)) first → ⊥
no_turn to me None o first is h = no_row to me o.kept first h
no_turn to me (Some r) o first is h = no_row to me o.kept first h

no_given : {D V : Type 0} (rules : Rules D V) (c : Cluster) (to me : RoleId) (d : D) (i : Input) (running : Option V) (first : ℕ)
    → Anew me (kept_by to ((turn rules c to d (Give i Whole) running).kept)) first → ⊥
no_given rules c to me d i None first h = cc
no_given rules c to me d i (Some v) first h = no_turn to me ((rules.row c to d v i).kept) (rules.row c to d v i) first refl h

no_act : (c : Cluster) (roles : RoleId → State) (kept : List KeptRecord) (i : Input) (to me : RoleId) (first : ℕ) (k : Kind)
    → Anew me ((act_of c roles kept (Give i Whole) to k).kept) first → ⊥
no_act c roles kept i to me first k =
    acts_by (λ at. Anew me ((at (Give i Whole)).kept) first → ⊥) c roles kept to k
    (λ h. none_kept me (written.Snap first) h)
    (λ D V rules make running h. no_given rules c to me (durable_part rules to kept) i running first h)

no_come : (w : World) (me : RoleId) (first : ℕ) (o : Option Letter) → Anew me ((come w Whole o).kept) first → ⊥
no_come w me first None h = cc
no_come w me first (Some d) h = no_act w.cluster w.roles w.kept (input.Take d) d.to me first d.to.kind h

first_role : RoleId → List KeptRecord → RoleId
first_role me [] = me
first_role me (k ∷ ks) = k.role

own_kept_by : (to me : RoleId) (o : Option Written) (what : Written) → kept_by to o ≡ kept_by me (Some what) → to ≡ me
unfolding first_role
own_kept_by to me None what h = none_kept me what h
own_kept_by to me (Some other) what h = ap (first_role me) h

own_snap : (c : Cluster) (roles : RoleId → State) (kept : List KeptRecord) (to me : RoleId) (what : Written) (k : Kind)
    → (act_of c roles kept (Snap Whole) to k).kept ≡ kept_by me (Some what) → to ≡ me
own_snap c roles kept to me what k =
    acts_by (λ at. (at (Snap Whole)).kept ≡ kept_by me (Some what) → to ≡ me) c roles kept to k (λ h. none_kept me what h)
    (λ D V rules make running h. own_kept_by to me ((turn rules c to (durable_part rules to kept) (Snap Whole) running).kept) what h)

replica_anew : (w : World) (e : Event) (me : RoleId) (first : ℕ) → MayChange e → Anew me ((change w (with_cut Whole e)).kept) first
    → me.kind ≡ kind.Replica
replica_anew w (event.Deliver n cut) me first may h = absurd (no_come w me first (slice_get w.sent n) h)
replica_anew w (event.Order l order cut) me first may h =
    absurd (no_act w.cluster w.roles w.kept (input.Order order) (role kind.Leader l) me first kind.Leader h)
replica_anew w (event.Replace x set cut) me first may h =
    absurd (no_act w.cluster w.roles w.kept (input.Order (order.Replace set)) (role kind.Replacer x) me first kind.Replacer h)
replica_anew w (event.Snap who cut) me first may h =
    subst (λ (r : RoleId). r.kind ≡ kind.Replica) (own_snap w.cluster w.roles w.kept who me (written.Snap first) who.kind h) may
replica_anew w (event.Offer replica to slot) me first may h = absurd may
replica_anew w (event.Write command batcher) me first may h = absurd may
replica_anew w (event.Read client seq floor reader replica key) me first may h = absurd may
replica_anew w (event.Session client seq floor replica key) me first may h = absurd may
replica_anew w (event.Tick who) me first may h = absurd may
replica_anew w (event.Crash who) me first may h = absurd may
replica_anew w (event.Restart who) me first may h = absurd may

may_write : (w : World) (e : Event) (me : RoleId) (what : Written) → MayChange e
    → (change w (with_cut Whole e)).kept ≡ kept_by me (Some what) → IsWriter me.kind what → MayWrite me.kind (Some what)
may_write w e me (written.Record r) may h is = λ client. no_keeper r (subst (λ (j : Kind). IsKeeper j r) client is)
may_write w e me (written.Snap first) may h is = replica_anew w e me first may h

kept_next : (c : Cluster) (es : List Event) (e : Event) → (run c (es ++ e ∷ [])).kept ≡ (run c es).kept
    ++ (change (run c es) e).kept
unfolding step
kept_next c es e = ap (λ (w : World). w.kept) (run_append c es (e ∷ []))

-- the tags of the records that a kind of role keeps are those that its journal may have
own_tag : (k : Kind) (r : Record) → IsKeeper k r → may_keep (Some k) (record_shape r).tag ≡ true
own_tag k (kept_record.Promise i) is = subst (λ (own : Kind). may_keep (Some own) 1 ≡ true) (sym is) refl
own_tag k (kept_record.Vote i s cw v) is = subst (λ (own : Kind). may_keep (Some own) 2 ≡ true) (sym is) refl
own_tag k (kept_record.Water i cw) is = subst (λ (own : Kind). may_keep (Some own) 3 ≡ true) (sym is) refl
own_tag k (kept_record.Match i g) is = subst (λ (own : Kind). may_keep (Some own) 4 ≡ true) (sym is) refl
own_tag k (kept_record.Garbage i g) is = subst (λ (own : Kind). may_keep (Some own) 5 ≡ true) (sym is) refl
own_tag k (kept_record.Round i g) is = subst (λ (own : Kind). may_keep (Some own) 6 ≡ true) (sym is) refl
own_tag k (kept_record.Log values) is = subst (λ (own : Kind). may_keep (Some own) 7 ≡ true) (sym is) refl
own_tag k (kept_record.Ballot b) is = subst (λ (own : Kind). may_keep (Some own) 12 ≡ true) (sym is) refl
own_tag k (kept_record.Stop b) is = subst (λ (own : Kind). may_keep (Some own) 13 ≡ true) (sym is) refl
own_tag k (kept_record.Next b s) is = subst (λ (own : Kind). may_keep (Some own) 14 ≡ true) (sym is) refl
own_tag k (kept_record.Boot s w es) is = subst (λ (own : Kind). may_keep (Some own) 15 ≡ true) (sym is) refl
own_tag k (kept_record.Turn n) is = subst (λ (own : Kind). may_keep (Some own) 16 ≡ true) (sym is) refl
own_tag k other is = cc

-- whether a journal of this kind may have the tags of these records
abbrev are_tagged : Kind → List Record → Bool
are_tagged k rs = list_all (λ (r : Record). may_keep (Some k) (record_shape r).tag) rs

tagged_both : (k : Kind) (rs ss : List Record) → are_tagged k rs ≡ true → are_tagged k ss ≡ true → are_tagged k (rs ++ ss) ≡ true
tagged_both k rs ss p q =
    list_all-append (λ (r : Record). may_keep (Some k) (record_shape r).tag) rs ss ∙ rw (p, q) refl

tagged_each : {X : Type 0} (k : Kind) (make : X → Record) (xs : List X) → ((x : X) → may_keep (Some k) (record_shape (make x)).tag ≡ true)
    → are_tagged k (map make xs) ≡ true
tagged_each k make [] is = refl
tagged_each k make (x ∷ xs) is = rw (is x, tagged_each k make xs is) refl

-- a renewed list has tags of a replica's
renewed_tagged : (d : ReplicaDurable) (first : ℕ) → are_tagged kind.Replica (replica_renewed d first) ≡ true
renewed_tagged d first =
    let base = kept_record.Base first (held d) (length d.machine.map) (length d.machine.table.floors) ∷ [] in
    let pairs = map (λ ps. kept_record.Pairs ps) (pieces 255 d.machine.map) in
    let notes = map (notes_of d.machine.table) d.machine.table.floors in
    let tail = map (λ vs. kept_record.Tail vs) (pieces 32 (drop (first - d.first) d.log)) in
    tagged_both kind.Replica (base ++ pairs ++ notes) tail
    (tagged_both kind.Replica (base ++ pairs) notes (tagged_both kind.Replica base pairs refl
    (tagged_each kind.Replica (λ ps. kept_record.Pairs ps) (pieces 255 d.machine.map) (λ ps. refl)))
    (tagged_each kind.Replica (notes_of d.machine.table) d.machine.table.floors (λ f. refl)))
    (tagged_each kind.Replica (λ vs. kept_record.Tail vs) (pieces 32 (drop (first - d.first) d.log)) (λ vs. refl))

-- a role's changes are of its own kind, so its kind's journal may have the tags of its list
module _ {D V : Type 0} (rules : Rules D V) (me : RoleId)
    (renews : (d : D) (first : ℕ) → are_tagged me.kind (rules.renewed d first) ≡ true) where
  tagged_after : (list : List Record) (w : Written) → IsWriter me.kind w → are_tagged me.kind list ≡ true
      → are_tagged me.kind (list_after rules list w) ≡ true
  tagged_after list (written.Record r) is h = tagged_both me.kind list (r ∷ []) h (rw (own_tag me.kind r is) refl)
  tagged_after list (written.Snap first) is h = renews (folded rules list) first

  tagged_from : (list : List Record) (ks : List KeptRecord) → ((k : KeptRecord) → Member k ks → IsWriter k.role.kind k.what)
      → are_tagged me.kind list ≡ true → are_tagged me.kind (list_after_kept rules me list ks) ≡ true
  tagged_from list [] are h = h
  tagged_from list (k ∷ ks) are h = elim (cases_Bool (same_role me k.role)) [
    | inl own ↦
        let is : IsWriter me.kind k.what =
        subst (λ (who : RoleId). IsWriter who.kind k.what) (sym (same_role-true me k.role own)) (are k (inl refl)) in
        rw own (tagged_from (list_after rules list k.what) ks (λ other m. are other (inr m)) (tagged_after list k.what is h))
    | inr other ↦ rw other (tagged_from list ks (λ x m. are x (inr m)) h)
  ]

by_rules : {D V : Type 0} (rules : Rules D V) (me : RoleId) (ks : List KeptRecord)
    → ((k : KeptRecord) → Member k ks → IsWriter k.role.kind k.what) → (k : Kind) → me.kind ≡ k
    → ((d : D) (first : ℕ) → are_tagged k (rules.renewed d first) ≡ true) → are_tagged me.kind (list_of rules me ks) ≡ true
by_rules rules me ks are k is renews = tagged_from rules me
    (λ d first. subst (λ (own : Kind). are_tagged own (rules.renewed d first) ≡ true) (sym is) (renews d first)) [] ks are refl

stored_tagged : (me : RoleId) (ks : List KeptRecord) → ((k : KeptRecord) → Member k ks → IsWriter k.role.kind k.what) → (k : Kind)
    → me.kind ≡ k → are_tagged me.kind (stored_as me ks k) ≡ true
stored_tagged me ks are kind.Client is = refl
stored_tagged me ks are kind.Batcher is = by_rules batcher_rules me ks are kind.Batcher is (λ d first. refl)
stored_tagged me ks are kind.Leader is = by_rules leader_rules me ks are kind.Leader is (λ d first. refl)
stored_tagged me ks are kind.Proxy is = by_rules proxy_rules me ks are kind.Proxy is (λ d first. refl)
stored_tagged me ks are kind.Acceptor is = by_rules acceptor_rules me ks are kind.Acceptor is (λ d first. refl)
stored_tagged me ks are kind.Matchmaker is = by_rules matchmaker_rules me ks are kind.Matchmaker is (λ d first. refl)
stored_tagged me ks are kind.Replica is = by_rules replica_rules me ks are kind.Replica is renewed_tagged
stored_tagged me ks are kind.Unbatcher is = by_rules unbatcher_rules me ks are kind.Unbatcher is (λ d first. refl)
stored_tagged me ks are kind.Reader is = by_rules reader_rules me ks are kind.Reader is (λ d first. refl)
stored_tagged me ks are kind.Replacer is = by_rules replacer_rules me ks are kind.Replacer is (λ d first. refl)

-- so it may have the list, where the fields of its records are in their ranges
own_kept : (k : Kind) (rs : List Record) → are_tagged k rs ≡ true → all_kept_by None rs ≡ true → all_kept_by (Some k) rs ≡ true
own_kept k [] tagged fit = refl
own_kept k (r ∷ rs) tagged fit =
    let tags = both_so (may_keep (Some k) (record_shape r).tag) (are_tagged k rs) tagged in
    let parts = both_so (is_kept_by None r) (all_kept_by None rs) fit in
    let one = both_so (fits r) true parts.0 in
    rw (one.0, tags.0, own_kept k rs tags.1 parts.1) refl

-- the files have the list of a run after which the event changed it so
of_run : (c : Cluster) (es : List Event) (e : Event) (cut : Cut) (me : RoleId) (files : Files) (records : List Record)
    → stored_as me ((run c es).kept ++ (change (run c es) (with_cut cut e)).kept) me.kind ≡ records
    → all_kept_by None records ≡ true → IsFilesImageOf records files → IsOfRun c es e cut me files
of_run c es e cut me files records is fit stored =
    let all = es ++ with_cut cut e ∷ [] in
    let here : stored_as me ((run c all).kept) me.kind ≡ records =
    ap (λ (ks : List KeptRecord). stored_as me ks me.kind) (kept_next c es (with_cut cut e)) ∙ is in
    let own = own_kept me.kind (stored_as me (run c all).kept me.kind)
    (stored_tagged me (run c all).kept (kinds_are_so.keepers c all) me.kind refl)
    (subst (λ (rs : List Record). all_kept_by None rs ≡ true) (sym here) fit) in
    record {
      stored = subst (λ (rs : List Record). IsFilesImageOf rs files) (sym here) stored (Some me.kind) own;
      lawful = lawful c all;
    }

module _ (c : Cluster) (es : List Event) (e : Event) (me : RoleId) (what : Written) (files : Files)
    (next : (change (run c es) (with_cut Whole e)).kept ≡ kept_by me (Some what)) where
  abbrev list : List Record
  list = stored_as me (run c es).kept me.kind

  -- the change is one of the role's kind, since the event is one of a run
  own_writer : IsWriter me.kind what
  own_writer =
      let k : KeptRecord = record { role = me; what = what } in
      kinds_are_so.keepers c (es ++ with_cut Whole e ∷ []) k
      (subst (λ (ks : List KeptRecord). Member k ks) (sym (kept_next c es (with_cut Whole e)))
      (Member-second k (run c es).kept (change (run c es) (with_cut Whole e)).kept
      (subst (λ (ks : List KeptRecord). Member k ks) (sym next) (inl refl))))

  pub writes : MayChange e → MayWrite me.kind (Some what)
  writes may = may_write (run c es) e me what may next own_writer

  changed : MayChange e → (cut : Cut) → (change (run c es) (with_cut cut e)).kept ≡ kept_by me (Some what)
      → all_kept_by None (change_after list (change_for list what)) ≡ true
      → IsFilesImageOf (change_after list (change_for list what)) files → IsOfRun c es e cut me files
  changed may cut kept fit stored =
      of_run c es e cut me files _ (ap (λ (ks : List KeptRecord). stored_as me ((run c es).kept ++ ks) me.kind) kept
      ∙ own_written me (run c es).kept what me.kind (writes may)) fit stored

  pub lost_of_run : MayChange e → all_kept_by None list ≡ true → IsFilesImageOf list files → IsOfRun c es e Torn me files
  lost_of_run may fit stored =
      let keeps = cut_change (run c es) e me what may next in
      of_run c es e Torn me files _
      (ap (λ (ks : List KeptRecord). stored_as me ((run c es).kept ++ ks) me.kind) keeps.lost
      ∙ ap (λ (ks : List KeptRecord). stored_as me ks me.kind) (append-nil (run c es).kept)) fit stored

  pub kept_of_run : MayChange e → all_kept_by None (change_after list (change_for list what)) ≡ true
      → IsFilesImageOf (change_after list (change_for list what)) files → IsOfRun c es e Kept me files
  kept_of_run may = changed may Kept (cut_change (run c es) e me what may next).kept_too

  pub whole_of_run : MayChange e → all_kept_by None (change_after list (change_for list what)) ≡ true
      → IsFilesImageOf (change_after list (change_for list what)) files → IsOfRun c es e Whole me files
  whole_of_run may = changed may Whole next

-- only a list over two disks is put anew
pub renews_two : (list : List Record) (what : Written) (k : Kind) (two : Bool) → MayWrite k (Some what) → two ≡ has_second k
    → (records : List Record) → change_for list what ≡ Renewal records → two ≡ true
renews_two list (written.Record r) k two is sides records e = cc
renews_two list (written.Snap first) k two is sides records e = sides ∙ ap has_second is

-- where the list's records are in their ranges, they are after a change
module _ {D : Type 0} (by : DiskGhosts D) where
  abbrev seen_files : RecordStore D → Option Files
  seen_files s = store_told by.seen s

  pub store_fits : (old : RecordStore D) (ask : KeeperChange) (answer : Result (Unit {0}) KeepFault) (new : RecordStore D)
      → IsStoreChange by old ask answer new → is_some (seen_files old) ≡ true
      → ((records : List Record) → ask ≡ Renewal records → is_two old ≡ true)
      → (all_kept_by None (files_records (seen_files old)) ≡ true)
      × (all_kept_by None (change_after (files_records (seen_files old)) ask) ≡ true)
  store_fits (One old) (Append r) answer (One new) is known two =
      let fit : all_kept_by None (files_records (one_told (by.seen old.disk))) ≡ true =
      ap (λ rs. all_kept_by None rs) (one_records (by.seen old.disk))
      ∙ is.old_fit (sym (one_tells (by.seen old.disk)) ∙ known) in
      let one : is_kept_by None r ≡ true = rw is.new_fits refl in
      (fit, all_kept-push None (files_records (one_told (by.seen old.disk))) r fit one)
  store_fits (One old) (Renewal records) answer (One new) is known two = absurd (differ (two records refl))
    where
      differ : ◌≡◌ {A = Bool} false true → ⊥
      differ e = cc
  store_fits (Two old) ask answer (Two new) is known two =
      let both = two_tell by.seen old known in
      let same = both_records (by.seen old.first) (by.seen old.second) in (
        ap (λ rs. all_kept_by None rs) same ∙ is.fit both,
        ap (λ rs. all_kept_by None (change_after rs ask)) same ∙ is.fit_after both,
      )
  store_fits (One old) ask answer (Two new) is known two = absurd is
  store_fits (Two old) ask answer (One new) is known two = absurd is
