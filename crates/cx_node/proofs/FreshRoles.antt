-- Roles that are opened from stores without records are fresh.
use Rattle.cx_role.proofs.Common.{◌≡◌, ◌≤◌, ℕ, suc, arith, inl, inr, Bool, true, List, [], ◌∷◌, length, Option, Some, is_some, refl, sym}
use Rattle.cx_role.proofs.Common.{ap, ◌∙◌, subst, slice_get, All, Cluster, Event, Kind, Client, Batcher, Proxy, Unbatcher, RoleId, Member}
use Rattle.cx_role.proofs.Common.{names_role, Rules, Record}
use Rattle.cx_seat.specs.Prelude.{ClientOptions, AreDistinct, course_of, Hosted, TakeResults, node_run, Files, RecordStore, IsRecordable}
use Rattle.cx_seat.specs.Prelude.{IsScript, script_of, AreApart, AreOpened, is_durable, opened_as}
use Rattle.cx_base.specs.Role.{role as a_role}
use Rattle.cx_client.specs.Client.{IsClient, client_opened}
use Rattle.cx_client.proofs.Steps.{opened_is_client}
use Rattle.cx_course.specs.Alike.{AreFresh, IsFresh, IsFreshClient, IsFreshRole}
use Rattle.cx_course.specs.Follows.{FollowsBetween, EachKeptIsNext}
use Rattle.cx_model.specs.Rules.{opened}
use Rattle.cx_seat.specs.declared.guest.Guest.{Guest}
use Rattle.cx_node.specs.Serving.{IsRecordedRun, hosts, run_of}
use Rattle.cx_node.proofs.Recovered.{AreOpenedFrom, hosts_opened}
use Rattle.cx_seat.proofs.OpenedRoles.{distinct_opened, get_beside, get_map}
use Rattle.cx_seat.proofs.Unused.{NoneIsUsed, fresh_opened}

-- what holds of each place holds of each member
all_members : {X : Type 0} (P : X → Type 0) (xs : List X) → All P xs → (x : X) → Member x xs → P x
all_members P [] all x is = absurd is
all_members P (y ∷ ys) all x (inl e) = subst P (sym e) (all 0 y (omega arith))
all_members P (y ∷ ys) all x (inr more) = all_members P ys (λ k d inside. all (suc k) d (omega (arith, inside))) x more

module _ (c : Cluster) (options : ClientOptions) (events : List Event)
    (scripts : (client : ℕ) → IsScript c client (script_of client events))
    (recordable : (client : ℕ) → All (IsRecordable c) (script_of client events)) (some : 1 ≤ options.window)
    (most : options.window ≤ 64) where
  client_fresh : (me : RoleId) → me.kind ≡ Client → names_role c me ≡ true
      → IsFreshClient c (client_opened c me (script_of me.index events) options)
  client_fresh me kind named = record {
    client =
        subst (λ a. IsClient (client_opened c a (script_of me.index events) options)) (ap (λ k. a_role k me.index) (sym kind))
        (opened_is_client c me.index (script_of me.index events) options (scripts me.index) some most);
    cluster = refl;
    named = named;
    lines = all_members (IsRecordable c) (script_of me.index events) (recordable me.index);
    done = refl;
    heard = refl;
  }

  role_fresh : {D V : Type 0} {rules : Rules D V} {me : RoleId} {records : List Record} → records ≡ [] → me.kind ≡ rules.kind
      → names_role c me ≡ true → IsFreshRole rules c (opened rules c me records)
  role_fresh {rules} {me} none kind named = record { opened = ap (opened rules c me) none; kind_is = kind; named = named }

  -- one of this kind
  is_fresh : (me : RoleId) (records : List Record) (k : Kind) → me.kind ≡ k → names_role c me ≡ true
      → (is_durable k ≡ true → records ≡ []) → IsFresh c (opened_as c options events me records k)
  is_fresh me records Client kind named none = client_fresh me kind named
  is_fresh me records Batcher kind named none = role_fresh refl kind named
  is_fresh me records Proxy kind named none = role_fresh refl kind named
  is_fresh me records Unbatcher kind named none = role_fresh refl kind named
  is_fresh me records other kind named none = role_fresh (none refl) kind named

  -- all of them
  pub are_fresh : (recovered : RoleId → List Record) (roles : List RoleId) → AreDistinct (hosts c options events recovered roles)
      → ((i : ℕ) (me : RoleId) → slice_get roles i ≡ Some me → names_role c me ≡ true)
      → ((i : ℕ) (me : RoleId) → slice_get roles i ≡ Some me → is_durable me.kind ≡ true → recovered me ≡ [])
      → AreFresh c (hosts c options events recovered roles)
  are_fresh recovered roles apart named none = record {
    each = λ i h at.
        let r = get_map (λ (me : RoleId). opened_as c options events me (recovered me) me.kind) roles i h at in
        subst (IsFresh c) (sym r.2) (is_fresh r.0 (recovered r.0) r.0.kind refl (named i r.0 r.1) (none i r.0 r.1));
    distinct = apart;
  }

-- ---- a recorded run

-- what is known of recorded runs of fresh roles
pub record IsLaw (c : Cluster) : Type 0 where
  pub follows : (tend : Option ℕ) (takes : TakeResults) (hs : List Hosted) → AreFresh c hs
      → FollowsBetween c (node_run tend c takes (course_of true hs)).actions
  pub in_flight : (tend : Option ℕ) (takes : TakeResults) (hs : List Hosted) → AreFresh c hs
      → EachKeptIsNext c (node_run tend c takes (course_of true hs)).actions

module _ {D : Type 0} (seen : D → Option (List ℕ)) (disk_faults : D → ℕ) (c : Cluster) (options : ClientOptions) (events : List Event)
    (tells : Bool) (stored : RoleId → Files) (roles : List RoleId) (guests : List (Guest (RecordStore D)))
    (apart : AreApart roles) (named : (i : ℕ) (me : RoleId) → slice_get roles i ≡ Some me → names_role c me ≡ true)
    (scripts : (client : ℕ) → IsScript c client (script_of client events))
    (recordable : (client : ℕ) → All (IsRecordable c) (script_of client events)) (some : 1 ≤ options.window) (most : options.window ≤ 64)
    (law : IsLaw c) (all : AreOpened seen disk_faults c options events tells stored roles guests)
    (count : length guests ≡ length roles) (unused : NoneIsUsed guests) (recovered : RoleId → List Record)
    (from : AreOpenedFrom seen disk_faults c options events tells stored recovered roles guests) where
  -- no role was opened from a record
  none_told : (i : ℕ) (me : RoleId) → slice_get roles i ≡ Some me → is_durable me.kind ≡ true → recovered me ≡ []
  none_told i me here durable =
      let g = get_beside roles guests i me count here in
      let o = from i me g.0 here g.1 in
      sym o.1 ∙ fresh_opened seen disk_faults c options events tells stored me g.0 o.0 (unused i g.0 g.1) durable

  fresh : AreFresh c (hosts c options events recovered roles)
  fresh =
      are_fresh c options events scripts recordable some most recovered roles
      (subst AreDistinct (hosts_opened seen disk_faults c options events tells stored recovered roles guests count from)
      (distinct_opened seen disk_faults c options events tells stored roles guests apart all)) named none_told

  pub recorded_run : (tend : Option ℕ) (header : Option (List ℕ)) → is_some header ≡ true → (takes : TakeResults)
      → IsRecordedRun roles c recovered (run_of tend header c options events recovered roles takes).actions
  recorded_run tend header is takes =
      let hs = hosts c options events recovered roles in
      subst (λ b. IsRecordedRun roles c recovered (node_run tend c takes (course_of b hs)).actions) (sym is) (record {
        fresh = none_told;
        follows = law.follows tend takes hs fresh;
        in_flight = law.in_flight tend takes hs fresh;
      })
