-- What hosting came to, from what binding, opening, running and giving back came to.
use Rattle.cx_role.proofs.Common.{◌≡◌, ◌⊎◌, ◌≤◌, ◌<◌, ◌||◌, ℕ, zero, suc, Bool, true, false, List, [], ◌∷◌, ◌++◌, length, map, take, arith}
use Rattle.cx_role.proofs.Common.{Option, None, Some, option_map, Result, Ok, Err, refl, sym, ap, ◌∙◌, subst, append-nil, inl, inr, IfErr}
use Rattle.cx_role.proofs.Common.{IfOk, IfSome, is_some, slice_get, Appends, list_any, Appends-nil, flat_map-append, length-map, take-map}
use Rattle.cx_role.proofs.Common.{none-some, same_Some, Cluster, Event, RoleId, Rises, Record}
use Rattle.cx_seat.specs.Prelude.{ClientOptions, LinkHistory, Shelf, files_records, RecordStore, Recorded, Action, Bound, Filled}
use Rattle.cx_seat.specs.Prelude.{AreTakesOf, Kept, Printed, Took, is_filled, kept_in, printed_in, StoreChange, changes_of, lists_after}
use Rattle.cx_seat.specs.Prelude.{Course, course_of, Hosted, TakeResults, node_run, who, GivesBack, AreApart, AreOpened, IsBadAs}
use Rattle.cx_seat.specs.Prelude.{IsFirstBad, IsFirstUsed, disks_in, is_durable, is_store_used, files_of, is_two}
use Rattle.cx_base.specs.declared.status.Status.TheVariants as status
use Rattle.cx_disk.specs.declared.disk.Disk.{Ghosts as DiskGhosts}
use Rattle.cx_course.specs.Action.{kept_as, printed_by}
use Rattle.cx_seat.specs.declared.guest.Guest.{Guest}
use Rattle.cx_node.specs.declared.node.RunEnd.{RunEnd}
use Rattle.cx_node.specs.declared.node.RunEnd.TheVariants as end
use Rattle.cx_node.specs.declared.node.Stop.{Stop}
use Rattle.cx_node.specs.declared.node.Stop.TheVariants as stop
use Rattle.cx_seat.specs.declared.opening.OpenStop.{OpenStop}
use Rattle.cx_seat.specs.declared.opening.OpenStop.TheVariants as open_stop
use Rattle.cx_node.specs.Acts.{failures}
use Rattle.cx_node.specs.Doing.{Did as DidNode, DidPart, Linked, Scene, course_in, scene}
use Rattle.cx_node.specs.Hosting.{HasOpened, HasRun, HostAnswered, HostBinding, HostDid, HostEnds, HostEndsAt, HostEndsAtChange}
use Rattle.cx_node.specs.Hosting.{HostEndsEarly, Ran, RunsBehind, RunsPartBehind, ended_status, known_first, unopened_status, with_binds}
use Rattle.cx_node.specs.Node.{IsEnd, IsUnderway}
use Rattle.cx_node.specs.Ports.{bind_of}
use Rattle.cx_node.specs.Serving.{Did, IsRecordedRun, Outside, ServedPart, begun_with, record_head, hosts, recorded_header, run_of}
use Rattle.cx_node.specs.Serving.{records_in_files}
use Rattle.cx_node.proofs.Asked.{binds_kept, binds_printed, linked_binds, linked_nothing, linked_then}
use Rattle.cx_node.proofs.ClosedStores.{ran_still, ran_stores, stops_rises, stops_still, stops_stores, told_whole, unhosted}
use Rattle.cx_node.proofs.Grown.{behind, behind_next}
use Rattle.cx_node.proofs.Recovered.{AreOpenedFrom, AreTold, hosts_opened, told_opened}
use Rattle.cx_seat.proofs.OpenedRoles.{get_beside, good_opened, name_is}
use Rattle.cx_node.proofs.SteadySeats.{IsSteady, steady_did, steady_stops, steady_then}
use Rattle.cx_node.proofs.StoredRecords.{gives, shape_stays, take_next}
use Rattle.cx_node.proofs.Turned.{no_end}

-- nothing is kept or printed among binds
only_kept : (rs : List RoleId) → kept_in (map Bound rs) ≡ []
only_kept [] = refl
only_kept (r ∷ rs) = only_kept rs

only_printed : (rs : List RoleId) → printed_in (map Bound rs) ≡ []
only_printed [] = refl
only_printed (r ∷ rs) = only_printed rs

-- the first of a list, also where more comes
first_of : {X : Type 0} (xs ys : List X) (n : ℕ) → (k : ℕ) × (take k (xs ++ ys) ≡ take n xs) × (k ≤ length xs)
first_of [] ys zero = (0, refl, omega arith)
first_of [] ys (suc n) = (0, refl, omega arith)
first_of (x ∷ xs) ys zero = (0, refl, omega arith)
first_of (x ∷ xs) ys (suc n) = let p = first_of xs ys n in (suc p.0, ap (λ l. x ∷ l) p.1, omega (arith, p.2))

-- a role that isn't hosted
abbrev IsUnhosted : List RoleId → RoleId → Type 0
IsUnhosted roles me = (i : ℕ) → slice_get roles i ≡ Some me → ⊥

module _ (tend : Option ℕ) (header : Option (List ℕ)) (c : Cluster) (options : ClientOptions) (events : List Event) (turns : ℕ)
    (roles : List RoleId) (old new : Outside) where
  -- only binds were made, and the stores hold what they had
  binds_did : (n : ℕ) → new.link ≡ option_map (with_binds (map (bind_of c) (take n roles))) old.link
      → new.out ≡ old.out
      → (old.tells ≡ true → (i : ℕ) (me : RoleId) → slice_get roles i ≡ Some me → is_durable me.kind ≡ true
      → files_records (Some (new.stored me)) ≡ files_records (Some (old.stored me)))
      → ((me : RoleId) → IsUnhosted roles me → (new.stored me ≡ old.stored me) × (new.stores me ≡ old.stores me))
      → new.tells ≡ old.tells
      → Did roles c (map Bound (take n roles)) old new
  binds_did n link out stays others tells = record {
    link = linked_binds c (take n roles) old.link new.link link;
    printed =
        subst (λ bytes. Appends old.out new.out bytes) (sym (only_printed (take n roles)))
        (subst (λ o. Appends old.out o []) (sym out) (Appends-nil old.out));
    stores = λ t i me here durable.
        stays t i me here durable
        ∙ ap (λ ks. lists_after (files_records (Some (old.stored me))) (changes_of me ks)) (sym (only_kept (take n roles)));
    others = others;
    tells = tells;
  }

  pub host_binding : (n : ℕ) → new.link ≡ option_map (with_binds (map (bind_of c) (take n roles))) old.link
      → new.out ≡ old.out
      → (old.tells ≡ true → (i : ℕ) (me : RoleId) → slice_get roles i ≡ Some me → is_durable me.kind ≡ true
      → files_records (Some (new.stored me)) ≡ files_records (Some (old.stored me)))
      → ((me : RoleId) → IsUnhosted roles me → (new.stored me ≡ old.stored me) × (new.stores me ≡ old.stores me))
      → new.tells ≡ old.tells
      → HostBinding roles c old new
  host_binding n link out stays others tells = (n, binds_did n link out stays others tells)

  -- so nothing but the first of all was done
  pub host_early : (n : ℕ) → new.link ≡ option_map (with_binds (map (bind_of c) (take n roles))) old.link
      → new.out ≡ old.out
      → (old.tells ≡ true → (i : ℕ) (me : RoleId) → slice_get roles i ≡ Some me → is_durable me.kind ≡ true
      → files_records (Some (new.stored me)) ≡ files_records (Some (old.stored me)))
      → ((me : RoleId) → IsUnhosted roles me → (new.stored me ≡ old.stored me) × (new.stores me ≡ old.stores me))
      → new.tells ≡ old.tells
      → HostEndsEarly roles tend header c options events turns old new
  host_early n link out stays others tells =
      let recovered = records_in_files old.stored in
      let run = map Printed (record_head header) ++ (run_of tend header c options events recovered roles []).actions in
      let k = first_of (map Bound roles) run n in
      let only : take k.0 (map Bound roles ++ run) ≡ map Bound (take n roles) = k.1 ∙ take-map Bound n roles in (
        recovered,
        [],
        k.0,
        record {
          recovered_is = λ t me d. refl;
          did = subst (λ actions. Did roles c actions old new) (sym only) (binds_did n link out stays others tells);
          recorded = λ has more. absurd (no_more k.0 (length roles) (length (map Bound roles)) k.2 (length-map roles Bound) more);
        },
        no_end tend c turns (begun_with header c options events recovered roles),
        tt,
      )
    where
      no_more : (k n m : ℕ) → k ≤ m → m ≡ n → n < k → ⊥
      no_more k n m most same more = omega (arith, most, same, more)

  -- not all roles could be opened
  pub host_unopened : (s : OpenStop) → HostEndsEarly roles tend header c options events turns old new
      → HostBinding roles c old new
      → ((role : RoleId) → s ≡ open_stop.StoreFault role → Rises (old.stores role) (new.stores role))
      → ((role : RoleId) (at : ℕ) → s ≡ open_stop.BadStore role at → old.tells ≡ true
      → IsFirstBad roles c old.stored role at)
      → ((role : RoleId) → s ≡ open_stop.NotFresh role → (is_some header ≡ true) × (new.out ≡ old.out)
      × (old.tells ≡ true → IsFirstUsed roles old.stored role))
      → ((role : RoleId) → s ≡ open_stop.NotFresh role → old.tells ≡ true → (i : ℕ) (me : RoleId) (at : ℕ)
      → slice_get roles i ≡ Some me → IsBadAs c me (old.stored me) at me.kind → ⊥)
      → ((role : RoleId) → (s ≡ open_stop.StoreFault role → ⊥) → new.stores role ≡ old.stores role)
      → new.writes ≡ old.writes → new.links ≡ old.links
      → HostAnswered roles tend header c options events turns old new (unopened_status s)
  host_unopened s early binding failed bad used own stored writes links = record {
    did = did s failed bad used;
    written = λ no. writes;
    linked = λ no. links;
    good = good_all s own;
    unused = λ run. absurd (none_ran s run);
    stored = λ role no. stored role (λ e. no (ap unopened_status e));
  }
    where
      none_ran : (s : OpenStop) → HasRun (unopened_status s) → ⊥
      none_ran open_stop.NoMemory run = run
      none_ran (open_stop.StoreFault role) run = run
      none_ran (open_stop.BadStore role at) run = run
      none_ran (open_stop.NotFresh role) run = run

      good_all : (s : OpenStop) → ((role : RoleId) → s ≡ open_stop.NotFresh role → old.tells ≡ true → (i : ℕ) (me : RoleId) (at : ℕ)
          → slice_get roles i ≡ Some me → IsBadAs c me (old.stored me) at me.kind → ⊥) → HasOpened (unopened_status s)
          → old.tells ≡ true → (i : ℕ) (me : RoleId) (at : ℕ) → slice_get roles i ≡ Some me
          → IsBadAs c me (old.stored me) at me.kind → ⊥
      good_all open_stop.NoMemory own opened = absurd opened
      good_all (open_stop.StoreFault role) own opened = absurd opened
      good_all (open_stop.BadStore role at) own opened = absurd opened
      good_all (open_stop.NotFresh role) own opened = own role refl

      did : (s : OpenStop) → ((role : RoleId) → s ≡ open_stop.StoreFault role
          → Rises (old.stores role) (new.stores role))
          → ((role : RoleId) (at : ℕ) → s ≡ open_stop.BadStore role at → old.tells ≡ true
          → IsFirstBad roles c old.stored role at)
          → ((role : RoleId) → s ≡ open_stop.NotFresh role → (is_some header ≡ true) × (new.out ≡ old.out)
          × (old.tells ≡ true → IsFirstUsed roles old.stored role)) → HostDid roles tend header c options events turns old new
          (unopened_status s)
      did open_stop.NoMemory failed bad used = early
      did (open_stop.StoreFault role) failed bad used = (early, failed role refl, inl binding)
      did (open_stop.BadStore role at) failed bad used = (early, bad role at refl)
      did (open_stop.NotFresh role) failed bad used = let u = used role refl in (early, u.0, u.1, u.2)

-- one change more is made, and nothing else is done
kept_more : (actions : List Action) (n : ℕ) (k : StoreChange) → slice_get actions n ≡ Some (Kept k)
    → kept_in (take (suc n) actions) ≡ kept_in (take n actions) ++ k ∷ []
kept_more actions n k next =
    ap kept_in (take_next actions n (Kept k) next) ∙ flat_map-append kept_as (take n actions) (Kept k ∷ [])

printed_same : (actions : List Action) (n : ℕ) (k : StoreChange) → slice_get actions n ≡ Some (Kept k)
    → printed_in (take (suc n) actions) ≡ printed_in (take n actions)
printed_same actions n k next =
    ap printed_in (take_next actions n (Kept k) next) ∙ flat_map-append printed_by (take n actions) (Kept k ∷ [])
    ∙ append-nil (printed_in (take n actions))

linked_same : (c : Cluster) (actions : List Action) (n : ℕ) (k : StoreChange) (a b : Option LinkHistory)
    → slice_get actions n ≡ Some (Kept k) → Linked c (take n actions) a b → Linked c (take (suc n) actions) a b
linked_same c actions n k a b next linked =
    subst (λ l. Linked c l a b) (sym (take_next actions n (Kept k) next))
    (linked_then c (take n actions) (Kept k ∷ []) a b b linked (linked_nothing c b))

-- what is known of the next action stands where another list has the same
next_here : (xs ys : List Action) (k n : ℕ) (next : Option Action) → slice_get xs k ≡ slice_get ys n
    → IfSome next (λ a. slice_get ys n ≡ Some a) → IfSome next (λ a. slice_get xs k ≡ Some a)
next_here xs ys k n None same here = tt
next_here xs ys k n (Some a) same here = same ∙ here

either : (a b : Bool) → b ≡ true → (a || b) ≡ true
either true b e = refl
either false b e = e

filled_any : (actions : List Action) (n : ℕ) → slice_get actions n ≡ Some Filled → list_any is_filled actions ≡ true
filled_any [] zero e = absurd (none-some Filled e)
filled_any [] (suc n) e = absurd (none-some Filled e)
filled_any (a ∷ rest) zero e = ap (λ x. is_filled x || list_any is_filled rest) (same_Some a Filled e)
filled_any (a ∷ rest) (suc n) e = either (is_filled a) (list_any is_filled rest) (filled_any rest n e)

-- no plain run leaves out a step
abbrev pub NoneFilled : Option ℕ → Cluster → Type 0
NoneFilled tend c =
    (takes : TakeResults) (hs : List Hosted) → list_any is_filled (node_run tend c takes (course_of false hs)).actions ≡ false

-- one that leaves out a step records
filled_records : (tend : Option ℕ) (c : Cluster) (header : Option (List ℕ)) (takes : TakeResults) (hs : List Hosted) (n : ℕ)
    → NoneFilled tend c
    → slice_get (map Printed (record_head header) ++ (node_run tend c takes (course_of (is_some header) hs)).actions) n ≡ Some Filled
    → is_some header ≡ true
filled_records tend c (Some text) takes hs n plain next = refl
filled_records tend c None takes hs n plain next =
    let all = (node_run tend c takes (course_of false hs)).actions in
    absurd (both (list_any is_filled all) (filled_any all n next) (plain takes hs))
  where
    both : (b : Bool) → b ≡ true → b ≡ false → ⊥
    both b is other = cc

-- a node that is to record has a header
pub records_header : (recording : Bool) (text : List ℕ) → is_some (recorded_header recording text) ≡ recording
records_header true text = refl
records_header false text = refl

module _ {D : Type 0} (by : DiskGhosts D) (tend : Option ℕ) (header : Option (List ℕ)) (c : Cluster) (options : ClientOptions)
    (events : List Event) (turns : ℕ) (roles : List RoleId) (old new : Outside) (mid : Option LinkHistory) (mid_links : ℕ)
    (stored_mid stored_after : Shelf → List ℕ) (faults : RoleId → ℕ) (guests after : List (Guest (RecordStore D)))
    (known : Option Recorded) (answer : Result RunEnd Stop)
    (apart : AreApart roles) (all : AreOpened by.seen by.faults c options events old.tells old.stored roles guests)
    (count : length guests ≡ length roles)
    (link : mid ≡ option_map (with_binds (map (bind_of c) roles)) old.link) (links : mid_links ≡ old.links)
    (still : (role : RoleId) → faults role ≡ old.stores role)
    (unopened : (me : RoleId) → IsUnhosted roles me → files_of stored_mid me ≡ old.stored me)
    (holds : (me : RoleId) → new.stored me ≡ files_of stored_after me) (tells : new.tells ≡ old.tells)
    (ran : Ran (gives by) tend c turns (record_head header) answer
    (scene guests (known_first (is_some header)) mid old.out) (scene after known new.link new.out)
    (failures mid_links old.writes) (failures new.links new.writes))
    (back : GivesBack by.seen by.faults (disks_in after) old.tells stored_mid stored_after faults new.stores)
    (plain : NoneFilled tend c) (recorded : (recovered : RoleId → List Record) → AreOpenedFrom by.seen by.faults c options events old.tells
    old.stored recovered roles guests → is_some header ≡ true → (takes : TakeResults)
    → IsRecordedRun roles c recovered (run_of tend header c options events recovered roles takes).actions)
    (unused : is_some header ≡ true → old.tells ≡ true → (i : ℕ) (role : RoleId) → slice_get roles i ≡ Some role
    → is_store_used role (old.stored role) ≡ false) where
  recovered : AreTold by.seen by.faults c options events old.tells old.stored roles guests
  recovered = told_opened by.seen by.faults c options events old.tells old.stored roles guests apart all

  -- as what the roles begin, and what all does, over these takes
  abbrev begun : Course
  begun = begun_with header c options events recovered.0 roles

  abbrev done_over : TakeResults → Course → List Action
  done_over takes s = map Printed (record_head header) ++ (node_run tend c takes s).actions

  abbrev before : Scene (RecordStore D)
  before = scene guests (known_first (is_some header)) mid old.out

  abbrev now : Scene (RecordStore D)
  now = scene after known new.link new.out

  same : course_in before ≡ begun
  same = ap (course_of (is_some header))
      (hosts_opened by.seen by.faults c options events old.tells old.stored recovered.0 roles guests count recovered.2)

  did_whole : (e : RunEnd) (runs : RunsBehind (gives by) tend c turns (record_head header) e before now)
      → DidNode (gives by) c (done_over runs.takes begun) before now
  did_whole e runs = subst (λ (s : Course). DidNode (gives by) c (done_over runs.takes s) before now) same runs.did

  did_part : (e : Stop) (runs : RunsPartBehind (gives by) tend c turns (record_head header) e before now)
      → DidPart (gives by) c (done_over runs.takes begun) e before now
  did_part e runs = subst (λ (s : Course). DidPart (gives by) c (done_over runs.takes s) e before now) same runs.part

  steady_so : (a : Result RunEnd Stop) → IfOk a (λ e. RunsBehind (gives by) tend c turns (record_head header) e before now)
      → IfErr a (λ e. RunsPartBehind (gives by) tend c turns (record_head header) e before now) → IsSteady is_two guests after
  steady_so (Ok e) whole part =
      steady_did (gives by) is_two (shape_stays by) c (done_over whole.takes begun) before now (did_whole e whole)
  steady_so (Err s) whole part =
      let actions = done_over part.takes begun in
      let p = did_part s part in
      steady_then is_two guests p.mid after
      (steady_did (gives by) is_two (shape_stays by) c (take p.count actions) before (scene p.mid known new.link new.out) p.did)
      (steady_stops (gives by) is_two (shape_stays by) s (slice_get actions p.count) p.mid after p.stops)

  steady : IsSteady is_two guests after
  steady = steady_so answer ran.done ran.part

  others : (me : RoleId) → IsUnhosted roles me → (new.stored me ≡ old.stored me) × (new.stores me ≡ old.stores me)
  others me none =
      let stays =
      unhosted by c options events old.tells old.stored stored_mid stored_after faults new.stores roles guests after named back me none in
      (holds me ∙ stays.0 ∙ unopened me none, stays.1 ∙ still me)
    where
      named : (i : ℕ) (h : Guest (RecordStore D)) → slice_get after i ≡ Some h → (me : RoleId)
          × (slice_get roles i ≡ Some me) × (who h ≡ me)
      named i h at =
          let g = get_beside after guests i h (sym steady.count) at in
          let o = all i g.0 g.1 in (
            o.0,
            o.1,
            (steady.each i g.0 h g.1 at).0
                ∙ name_is by.seen by.faults c options events old.tells old.stored o.0 g.0 o.2,
          )

  -- each store has the list after these changes
  abbrev StoresTell : List StoreChange → Type 0
  StoresTell more = old.tells ≡ true → (i : ℕ) (me : RoleId) → slice_get roles i ≡ Some me → is_durable me.kind ≡ true
      → files_records (Some (files_of stored_after me))
      ≡ lists_after (files_records (Some (old.stored me))) (changes_of me more)

  -- the binds, and then these actions
  did_behind : (actions : List Action) → Linked c actions mid new.link → Appends old.out new.out (printed_in actions)
      → StoresTell (kept_in actions) → Did roles c (map Bound roles ++ actions) old new
  did_behind actions linked printed stores =
      record {
        link =
            linked_then c (map Bound roles) actions old.link mid new.link
            (linked_binds c roles old.link mid link) linked;
        printed = subst (Appends old.out new.out) (sym (binds_printed roles actions)) printed;
        stores =
            λ t i me here durable. ap (λ f. files_records (Some f)) (holds me) ∙ stores t i me here durable
            ∙ ap (λ ks. lists_after (files_records (Some (old.stored me))) (changes_of me ks)) (sym (binds_kept roles actions));
        others = others;
        tells = tells;
      }

  whole : (e : RunEnd) → RunsBehind (gives by) tend c turns (record_head header) e before now
      → HostEnds roles tend header c options events turns e old new
  whole e runs =
      let takes = runs.takes in
      let actions = done_over takes begun in
      let did = did_whole e runs in (
        recovered.0,
        takes,
        record {
          recovered_is = recovered.1;
          told_whole = told_whole by c options events old.tells old.stored stored_mid stored_after faults new.stores roles guests
              recovered.0 recovered.2 all count apart (kept_in actions) after did.names did.kept;
          taken = subst (λ (s : Course). AreTakesOf takes ((node_run tend c takes s).actions)) same runs.taken;
          did =
              did_behind actions did.link did.printed (ran_stores by c options events old.tells old.stored stored_mid stored_after faults
              new.stores roles guests recovered.0 recovered.2 all count apart (kept_in actions) after did.names did.kept back);
          recorded = λ has. recorded recovered.0 recovered.2 has takes;
        },
        subst (λ (s : Course). IsEnd tend c turns s takes e) same runs.is_end,
      )

  -- where a change failed and was made all the same, it is one more
  one_more : (actions : List Action) (n : ℕ)
      → ((k : StoreChange) × (slice_get actions n ≡ Some (Kept k)) × StoresTell (kept_in (take n actions) ++ k ∷ []))
      → Linked c (take n actions) mid new.link → Appends old.out new.out (printed_in (take n actions))
      → Did roles c (map Bound roles ++ take (suc n) actions) old new
  one_more actions n more linked printed =
      did_behind (take (suc n) actions) (linked_same c actions n more.0 mid new.link more.1 linked)
      (subst (Appends old.out new.out) (sym (printed_same actions n more.0 more.1)) printed)
      (subst StoresTell (sym (kept_more actions n more.0 more.1)) more.2)

  -- the actions before it stopped; one more, where a change failed and was made all the same
  cut : (actions : List Action) (n : ℕ) → StoresTell (kept_in (take n actions))
      ⊎ ((k : StoreChange) × (slice_get actions n ≡ Some (Kept k)) × StoresTell (kept_in (take n actions) ++ k ∷ []))
      → Linked c (take n actions) mid new.link → Appends old.out new.out (printed_in (take n actions)) → (m : ℕ)
      × Did roles c (map Bound roles ++ take m actions) old new
  cut actions n (inl stores) linked printed = (n, did_behind (take n actions) linked printed stores)
  cut actions n (inr more) linked printed = (suc n, one_more actions n more linked printed)

  -- where the next action is no change, none was made
  uncut : (actions : List Action) (n : ℕ) (a : Action) → ((k : StoreChange) → ◌≡◌ {A = Option Action} (Some a) (Some (Kept k)) → ⊥)
      → slice_get actions n ≡ Some a → StoresTell (kept_in (take n actions))
      ⊎ ((k : StoreChange) × (slice_get actions n ≡ Some (Kept k)) × StoresTell (kept_in (take n actions) ++ k ∷ []))
      → StoresTell (kept_in (take n actions))
  uncut actions n a differ next (inl stores) = stores
  uncut actions n a differ next (inr more) = absurd (differ more.0 (sym next ∙ more.1))

  filled_differs : (k : StoreChange) → ◌≡◌ {A = Option Action} (Some Filled) (Some (Kept k)) → ⊥
  filled_differs k e = cc

  took_differs : (what : Option (List ℕ)) (k : StoreChange) → ◌≡◌ {A = Option Action} (Some (Took what)) (Some (Kept k)) → ⊥
  took_differs what k e = cc

  ended_at : (next : Option Action) (takes : TakeResults) (m : ℕ) → Did roles c (map Bound roles ++ take m (done_over takes begun)) old new
      → IsUnderway tend c turns begun takes → IfSome next (λ a. slice_get (done_over takes begun) m ≡ Some a)
      → HostEndsAt next roles tend header c options events turns old new
  ended_at next takes m did underway here =
      let actions = done_over takes begun in
      let k = behind (map Bound roles) actions m in (
        recovered.0,
        takes,
        k.0,
        record {
          recovered_is = recovered.1;
          did = subst (λ l. Did roles c l old new) (sym k.1) did;
          recorded = λ has more. recorded recovered.0 recovered.2 has takes;
        },
        underway,
        next_here (map Bound roles ++ actions) actions k.0 m next k.2 here,
      )

  underway_so : (e : Stop) (runs : RunsPartBehind (gives by) tend c turns (record_head header) e before now)
      → IsUnderway tend c turns begun runs.takes
  underway_so e runs = subst (λ (s : Course). IsUnderway tend c turns s runs.takes) same runs.underway

  front : (e : Stop) → RunsPartBehind (gives by) tend c turns (record_head header) e before now
      → HostEndsEarly roles tend header c options events turns old new
  front e runs =
      let p = did_part e runs in
      let actions = done_over runs.takes begun in
      let part = cut actions p.count (stops_stores by c options events old.tells old.stored stored_mid stored_after faults new.stores roles
      guests recovered.0 recovered.2 all count apart (kept_in (take p.count actions)) p.mid p.did.names p.did.kept after back e
      (slice_get actions p.count) p.stops) p.did.link p.did.printed in
      ended_at None runs.takes part.0 part.1 (underway_so e runs) tt

  -- the lines of the next step don't fit the record
  full : RunsPartBehind (gives by) tend c turns (record_head header) stop.RecordFull before now
      → HostEndsAt (Some Filled) roles tend header c options events turns old new × (is_some header ≡ true)
  full runs =
      let p = did_part stop.RecordFull runs in
      let actions = done_over runs.takes begun in
      let stores = uncut actions p.count Filled filled_differs p.stops.0 (stops_stores by c options events old.tells old.stored stored_mid
      stored_after faults new.stores roles guests recovered.0 recovered.2 all count apart
      (kept_in (take p.count actions)) p.mid p.did.names p.did.kept after back stop.RecordFull
      (slice_get actions p.count) p.stops) in (
        ended_at (Some Filled) runs.takes p.count (did_behind (take p.count actions) p.did.link p.did.printed stores)
            (underway_so stop.RecordFull runs) p.stops.0,
        filled_records tend c header runs.takes (hosts c options events recovered.0 roles) p.count plain p.stops.0,
      )

  -- a take failed, which was next
  failed_take : RunsPartBehind (gives by) tend c turns (record_head header) stop.LinkFault before now
      → (what : Option (List ℕ)) × HostEndsAt (Some (Took what)) roles tend header c options events turns old new
  failed_take runs =
      let p = did_part stop.LinkFault runs in
      let actions = done_over runs.takes begun in
      let next = p.stops.0 in
      let stores = uncut actions p.count (Took next.0) (took_differs next.0) next.1 (stops_stores by c options events old.tells old.stored
      stored_mid stored_after faults new.stores roles guests recovered.0 recovered.2 all count apart
      (kept_in (take p.count actions)) p.mid p.did.names p.did.kept after back stop.LinkFault
      (slice_get actions p.count) p.stops) in (
        next.0,
        ended_at (Some (Took next.0)) runs.takes p.count (did_behind (take p.count actions) p.did.link p.did.printed stores)
            (underway_so stop.LinkFault runs) next.1,
      )

  -- a change failed, which was next, and was made or not
  failed_change : (role : RoleId) → RunsPartBehind (gives by) tend c turns (record_head header) (stop.StoreFault role) before now
      → HostEndsAtChange role roles tend header c options events turns old new
  failed_change role runs =
      let p = did_part (stop.StoreFault role) runs in
      let actions = done_over runs.takes begun in
      let k = behind (map Bound roles) actions p.count in (
        recovered.0,
        runs.takes,
        k.0,
        p.stops.0,
        parts p.count actions runs.takes refl p.did.link p.did.printed (stops_stores by c options events old.tells old.stored stored_mid
            stored_after faults new.stores roles guests recovered.0 recovered.2 all count apart
            (kept_in (take p.count actions)) p.mid p.did.names p.did.kept after back (stop.StoreFault role)
            (slice_get actions p.count) p.stops),
        underway_so (stop.StoreFault role) runs,
        k.2 ∙ p.stops.1,
      )
    where
      part_at : (takes : TakeResults) (m k : ℕ) → take k (map Bound roles ++ done_over takes begun)
          ≡ map Bound roles ++ take m (done_over takes begun) → Did roles c (map Bound roles ++ take m (done_over takes begun)) old new
          → ServedPart roles tend header c options events recovered.0 takes k old new
      part_at takes m k e did = record {
        recovered_is = recovered.1;
        did = subst (λ l. Did roles c l old new) (sym e) did;
        recorded = λ has more. recorded recovered.0 recovered.2 has takes;
      }

      parts : (n : ℕ) (actions : List Action) (takes : TakeResults) → actions ≡ done_over takes begun
          → Linked c (take n actions) mid new.link → Appends old.out new.out (printed_in (take n actions))
          → StoresTell (kept_in (take n actions))
          ⊎ ((k : StoreChange) × (slice_get actions n ≡ Some (Kept k)) × StoresTell (kept_in (take n actions) ++ k ∷ []))
          → ServedPart roles tend header c options events recovered.0 takes (behind (map Bound roles) (done_over takes begun) n).0 old new
          ⊎ ServedPart roles tend header c options events recovered.0 takes
          (suc (behind (map Bound roles) (done_over takes begun) n).0) old new
      parts n actions takes is linked printed (inl stores) =
          let did = did_behind (take n actions) linked printed stores in
          inl (part_at takes n (behind (map Bound roles) (done_over takes begun) n).0 (behind (map Bound roles) (done_over takes begun) n).1
          (subst (λ l. Did roles c (map Bound roles ++ take n l) old new) is did))
      parts n actions takes is linked printed (inr more) =
          let did = one_more actions n more linked printed in
          inr (part_at takes (suc n) (suc (behind (map Bound roles) (done_over takes begun) n).0)
          (ap (λ k. take k (map Bound roles ++ done_over takes begun)) (sym (behind_next (map Bound roles) (done_over takes begun) n))
          ∙ (behind (map Bound roles) (done_over takes begun) (suc n)).1)
          (subst (λ l. Did roles c (map Bound roles ++ take (suc n) l) old new) is did))

  did_so : (a : Result RunEnd Stop) → answer ≡ a → HostDid roles tend header c options events turns old new (ended_status a)
  did_so (Ok end.Done) e =
      whole end.Done (subst (λ a. IfOk a (λ x. RunsBehind (gives by) tend c turns (record_head header) x before now)) e ran.done)
  did_so (Ok end.Turns) e =
      whole end.Turns (subst (λ a. IfOk a (λ x. RunsBehind (gives by) tend c turns (record_head header) x before now)) e ran.done)
  did_so (Err s) e =
      let runs = subst (λ a. IfErr a (λ x. RunsPartBehind (gives by) tend c turns (record_head header) x before now)) e ran.part in
      stopped s e runs (front s runs)
    where
      stopped : (s : Stop) → answer ≡ Err s → RunsPartBehind (gives by) tend c turns (record_head header) s before now
          → HostEndsEarly roles tend header c options events turns old new
          → HostDid roles tend header c options events turns old new (ended_status (Err s))
      stopped stop.NoMemory e runs early = early
      stopped stop.WriteFault e runs early = (early, ran.written e)
      stopped stop.LinkFault e runs early = (early, subst (λ n. Rises n new.links) links (ran.linked e), inr (failed_take runs))
      stopped stop.RecordFull e runs early = full runs
      stopped (stop.StoreFault role) e runs early =
          let p = did_part (stop.StoreFault role) runs in
          let actions = done_over runs.takes begun in (
            early,
            subst (λ n. Rises n (new.stores role)) (still role) (stops_rises by c options events old.tells old.stored stored_mid
                stored_after faults new.stores roles guests recovered.0 recovered.2 all count apart
                (kept_in (take p.count actions)) p.mid p.did.names p.did.kept after back role
                (slice_get actions p.count) p.stops),
            inr (failed_change role runs),
          )

  -- the count of each role stands, but of one whose store failed
  stored_so : (a : Result RunEnd Stop) → answer ≡ a → (role : RoleId)
      → (ended_status answer ≡ status.StoreFault role → ⊥) → new.stores role ≡ old.stores role
  stored_so (Ok e) is role unsaid =
      let runs = subst (λ a. IfOk a (λ x. RunsBehind (gives by) tend c turns (record_head header) x before now)) is ran.done in
      let did = did_whole e runs in
      ran_still by c options events old.tells old.stored stored_mid stored_after
      faults new.stores roles guests recovered.0 recovered.2 all count apart
      (kept_in (done_over runs.takes begun)) after did.names did.kept back role
      ∙ still role
  stored_so (Err s) is role unsaid =
      let runs = subst (λ a. IfErr a (λ x. RunsPartBehind (gives by) tend c turns (record_head header) x before now)) is ran.part in
      let p = did_part s runs in
      let actions = done_over runs.takes begun in
      stops_still by c options events old.tells old.stored stored_mid stored_after
      faults new.stores roles guests recovered.0 recovered.2 all count apart
      (kept_in (take p.count actions)) p.mid p.did.names p.did.kept after back s
      (slice_get actions p.count) p.stops role (λ e. unsaid (ap ended_status (is ∙ ap Err e)))
      ∙ still role

  -- each store was its role's own
  good_so : old.tells ≡ true → (i : ℕ) (role : RoleId) (at : ℕ) → slice_get roles i ≡ Some role
      → IsBadAs c role (old.stored role) at role.kind → ⊥
  good_so t i role at here bad =
      let g = get_beside roles guests i role count here in
      let o = all i g.0 g.1 in
      good_opened by.seen by.faults c options events old.tells old.stored o.0 g.0 at o.2 t
      (subst (λ r. IsBadAs c r (old.stored r) at r.kind) (same_Some role o.0 (sym here ∙ o.1)) bad)

  -- the roles ran to this answer
  pub host_ran : HostAnswered roles tend header c options events turns old new (ended_status answer)
  host_ran = record {
    did = did_so answer refl;
    written = λ no. ran.unwritten (λ e. no (ap ended_status e));
    linked = λ no. ran.unlinked (λ e. no (ap ended_status e)) ∙ links;
    good = λ opened. good_so;
    unused = λ run. unused;
    stored = stored_so answer refl;
  }
