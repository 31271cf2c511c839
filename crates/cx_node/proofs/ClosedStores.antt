-- What a depot holds once the stores of roles that were opened, or ran, are given back.
use Rattle.cx_role.proofs.Common.{◌≡◌, ◌⊎◌, ◌==◌, ℕ, Bool, true, false, List, [], ◌∷◌, ◌++◌, length, map, Option, None, Some, is_some}
use Rattle.cx_role.proofs.Common.{append-nil, refl, sym, ap, ap₂, ◌∙◌, subst, inl, inr, slice_get, none-some, same_Some, Cluster, Event}
use Rattle.cx_role.proofs.Common.{RoleId, Rises, same_role, KeeperChange, Renewal, list_after, bool_cases, differ_role, get_set_other}
use Rattle.cx_role.proofs.Common.{get_set_same, not_both, number_itself, same_number, same_role-itself, Record}
use Rattle.cx_seat.specs.Prelude.{ClientOptions, shelf, Shelf, Files, OneFile, files_records, store_told, RecordStore, One, Two, Action}
use Rattle.cx_seat.specs.Prelude.{Kept, StoreChange, changes_of, lists_after, Changing, Refuses, AreChangesMade, HasChangeFailed}
use Rattle.cx_seat.specs.Prelude.{HasChangeFailedIn, Grows, Rests, keeper_of, who, GivesBack, AreApart, AreOpened, IsOpened, disks_in}
use Rattle.cx_seat.specs.Prelude.{is_durable, Lent, disks_of, files_of, has_second, is_two}
use Rattle.cx_disk.specs.declared.disk.Disk.{Ghosts as DiskGhosts}
use Rattle.cx_journal.specs.Files.{TwoFiles, both_told, one_told}
use Rattle.cx_seat.specs.declared.guest.Guest.{Guest}
use Rattle.cx_node.specs.declared.node.Stop.{Stop}
use Rattle.cx_node.specs.declared.node.Stop.TheVariants as stop
use Rattle.cx_node.specs.Doing.{GuestFails, GuestsGrow, GuestsRest, StopsAt}
use Rattle.cx_seat.specs.Stores.{NoneFailed, files_by}
use Rattle.cx_node.proofs.AnyKind.{told_any}
use Rattle.cx_node.proofs.Done.{same_at}
use Rattle.cx_seat.proofs.GivenBack.{lender, lent_at}
use Rattle.cx_node.proofs.Grown.{changes_append}
use Rattle.cx_node.proofs.Recovered.{AreOpenedFrom}
use Rattle.cx_seat.proofs.OpenedRoles.{get_beside, has_records, keeps_store, name_is}
use Rattle.cx_node.proofs.StoredRecords.{changed_still, changed_tells, changed_told, changed_two, failed_tells, failed_told, failed_two}
use Rattle.cx_node.proofs.StoredRecords.{fails_rises, gives, kept, none_failed_at, refused_still, refused_tells, refused_told, refused_two}
use Rattle.cx_node.proofs.StoredRecords.{tells}
use Rattle.cx_seat.proofs.Lent.{role_of_disk}

grows_some : {K : Type 0} (g : Changing K) (cs : List KeeperChange) (o p : Option K) (j : K) → o ≡ Some j → Grows g cs o p
    → (k : K) × (p ≡ Some k) × AreChangesMade g cs j k
grows_some g cs None p j e grow = absurd (none-some j e)
grows_some g cs (Some i) None j e grow = absurd grow
grows_some g cs (Some i) (Some k) j e grow = (k, refl, subst (λ x. AreChangesMade g cs x k) (same_Some i j e) grow)

-- what a keeper is, by what it was, or the other way round
grown_from : {K : Type 0} (g : Changing K) (cs : List KeeperChange) (o p : Option K) (k : K) → p ≡ Some k → Grows g cs o p
    → (j : K) × (o ≡ Some j) × AreChangesMade g cs j k
grown_from g cs o None k e grow = absurd (none-some k e)
grown_from g cs None (Some i) k e grow = absurd grow
grown_from g cs (Some j) (Some i) k e grow = (j, refl, subst (λ x. AreChangesMade g cs j x) (same_Some i k e) grow)

rests_some : {K : Type 0} (g : Changing K) (o p : Option K) (j : K) → o ≡ Some j → Rests g o p → (k : K)
    × (p ≡ Some k) × Refuses g j k
rests_some g None p j e rest = absurd (none-some j e)
rests_some g (Some i) None j e rest = absurd rest
rests_some g (Some i) (Some k) j e rest = (k, refl, subst (λ x. Refuses g x k) (same_Some i j e) rest)

rests_from : {K : Type 0} (g : Changing K) (o p : Option K) (k : K) → p ≡ Some k → Rests g o p → (j : K)
    × (o ≡ Some j) × Refuses g j k
rests_from g o None k e rest = absurd (none-some k e)
rests_from g None (Some i) k e rest = absurd rest
rests_from g (Some j) (Some i) k e rest = (j, refl, subst (λ x. Refuses g j x) (same_Some i k e) rest)

failed_some : {K : Type 0} (g : Changing K) (c : KeeperChange) (o p : Option K) → HasChangeFailedIn g (Some c) o p → (j : K)
    × (k : K) × (o ≡ Some j) × (p ≡ Some k) × HasChangeFailed g (Some c) j k
failed_some g c None p fails = absurd fails
failed_some g c (Some j) None fails = absurd fails
failed_some g c (Some j) (Some k) fails = (j, k, refl, refl, fails)

lists_append : (list : List Record) (cs ds : List KeeperChange) → lists_after list (cs ++ ds)
    ≡ lists_after (lists_after list cs) ds
lists_append list [] ds = refl
lists_append list (c ∷ cs) ds = lists_append (list_after list c) cs ds

-- what is stored at a role's places is what its disks tell
files_held : {D : Type 0} (seen : D → Option (List ℕ)) (stored : Shelf → List ℕ) (me : RoleId) (s : RecordStore D)
    → ((n : ℕ) (l : Lent D) (file : List ℕ) → slice_get (disks_of me (Some s)) n ≡ Some l → seen l.disk ≡ Some file
    → stored l.place ≡ file)
    → is_two s ≡ has_second me.kind → is_some (store_told seen s) ≡ true → Some (files_of stored me) ≡ store_told seen s
files_held seen stored me (One j) back two some = go (seen j.disk) refl some
  where
    go : (o : Option (List ℕ)) → seen j.disk ≡ o → is_some (one_told (seen j.disk)) ≡ true
        → Some (files_of stored me) ≡ one_told (seen j.disk)
    go None e none = absurd (not (subst (λ o. is_some (one_told o) ≡ true) e none))
      where
        not : ◌≡◌ {A = Bool} false true → ⊥
        not e = cc
    go (Some file) e known =
        ap (λ b. Some (files_by b (stored (shelf me 0)) (stored (shelf me 1)))) (sym two)
        ∙ ap (λ f. Some (OneFile f)) (back 0 _ file refl e) ∙ ap one_told (sym e)
files_held seen stored me (Two t) back two some = go (seen t.first) (seen t.second) refl refl some
  where
    go : (a b : Option (List ℕ)) → seen t.first ≡ a → seen t.second ≡ b
        → is_some (both_told (seen t.first) (seen t.second)) ≡ true
        → Some (files_of stored me) ≡ both_told (seen t.first) (seen t.second)
    go None b e f known = absurd (none (subst (λ o. is_some (both_told o (seen t.second)) ≡ true) e known))
      where
        none : ◌≡◌ {A = Bool} false true → ⊥
        none e = cc
    go (Some a) None e f known =
        absurd (none (subst (λ o. is_some (both_told (Some a) o) ≡ true) f
        (subst (λ o. is_some (both_told o (seen t.second)) ≡ true) e known)))
      where
        none : ◌≡◌ {A = Bool} false true → ⊥
        none e = cc
    go (Some a) (Some b) e f known =
        ap (λ x. Some (files_by x (stored (shelf me 0)) (stored (shelf me 1)))) (sym two)
        ∙ ap₂ (λ x y. Some (TwoFiles x y)) (back 0 _ a refl e) (back 1 _ b refl f)
        ∙ sym (ap₂ (λ x y. both_told x y) e f)

module _ {D : Type 0} (by : DiskGhosts D) (c : Cluster) (options : ClientOptions) (events : List Event) (told_by : Bool)
    (stored : RoleId → Files) (stored_mid stored_after : Shelf → List ℕ) (faults faults_after : RoleId → ℕ)
    (roles : List RoleId) (guests : List (Guest (RecordStore D))) where
  abbrev Back : List (Guest (RecordStore D)) → Type 0
  Back gs = GivesBack by.seen by.faults (disks_in gs) told_by stored_mid stored_after faults faults_after

  -- what is stored for a role is what its store holds
  closed_told : (after : List (Guest (RecordStore D))) (i : ℕ) (me : RoleId) (h : Guest (RecordStore D)) (s : RecordStore D)
      → slice_get after i ≡ Some h → who h ≡ me → keeper_of h ≡ Some s → is_two s ≡ has_second me.kind
      → tells by s ≡ true → told_by ≡ true → Back after
      → files_records (Some (files_of stored_after me)) ≡ kept by s
  closed_told after i me h s at name has two some t back =
      ap files_records (files_held by.seen stored_after me s (λ n l file own known.
      let k = lent_at after i h n l at (ap₂ (λ w o. slice_get (disks_of w o) n) name has ∙ own) in
      back.holds t k.0 l file k.1 known) two some)

  -- nothing of a role was given back that isn't among these
  unlent : (gs : List (Guest (RecordStore D))) (me : RoleId)
      → ((k : ℕ) (g : Guest (RecordStore D)) → slice_get gs k ≡ Some g → who g ≡ me → ⊥) → Back gs
      → files_of stored_after me ≡ files_of stored_mid me
  unlent gs me nobody back =
      ap₂ (λ a b. files_by (has_second me.kind) a b) (back.others (shelf me 0) (nowhere 0)) (back.others (shelf me 1)
      (nowhere 1))
    where
      nowhere : (side i : ℕ) (l : Lent D) → slice_get (disks_in gs) i ≡ Some l → l.place ≡ shelf me side → ⊥
      nowhere side i l at same =
          let p = lender gs i l at in
          nobody p.0 p.1 p.3 (sym (role_of_disk (who p.1) (keeper_of p.1) p.2 l p.4)
          ∙ ap (λ (x : Shelf). x.role) same)

  -- a role that was opened keeps what its store had
  pub opened_stays : AreApart roles → AreOpened by.seen by.faults c options events told_by stored roles guests
      → Back guests
      → (told_by ≡ true → (me : RoleId) → files_records (Some (files_of stored_mid me)) ≡ files_records (Some (stored me)))
      → told_by ≡ true → (i : ℕ) (me : RoleId) → slice_get roles i ≡ Some me → is_durable me.kind ≡ true
      → files_records (Some (files_of stored_after me)) ≡ files_records (Some (stored me))
  opened_stays apart all back mid t i me here durable = go (slice_get guests i) refl
    where
      go : (o : Option (Guest (RecordStore D))) → slice_get guests i ≡ o
          → files_records (Some (files_of stored_after me)) ≡ files_records (Some (stored me))
      go (Some h) at =
          let o = all i h at in
          let same : o.0 ≡ me = same_Some o.0 me (sym o.1 ∙ here) in
          let d : is_durable o.0.kind ≡ true = ap (λ m. is_durable m.kind) same ∙ durable in
          let s = keeps_store by.seen by.faults c options events told_by stored o.0 h o.2 d in
          closed_told guests i me h s.0 at (name_is by.seen by.faults c options events told_by stored o.0 h o.2 ∙ same)
          s.1 (s.2.sides ∙ ap (λ (m : RoleId). has_second m.kind) same) (s.2.is_seen t) t back
          ∙ s.2.kept t ∙ sym (told_any o.0.kind (stored o.0) o.2.records (o.2.read t d))
          ∙ ap (λ m. files_records (Some (stored m))) same
      go None none = ap (λ f. files_records (Some f)) (unlent guests me (λ k g at name.
          let o = all k g at in
          let same : o.0 ≡ me = sym (name_is by.seen by.faults c options events told_by stored o.0 g o.2) ∙ name in
          let place = apart k i me (o.1 ∙ ap Some same) here in
          none-some g (sym none ∙ ap (slice_get guests) (sym place) ∙ at)) back)
          ∙ mid t me

  -- ---- counts

  -- a count stands, where no disk of its role's store has failed
  stands : (gs : List (Guest (RecordStore D))) → Back gs → (role : RoleId)
      → ((i : ℕ) (h : Guest (RecordStore D)) (s : RecordStore D) → slice_get gs i ≡ Some h → keeper_of h ≡ Some s → who h ≡ role
      → NoneFailed by.faults s) → faults_after role ≡ faults role
  stands gs back role zeros = back.still role (λ i l at own.
      let p = lender gs i l at in
      let name : who p.1 ≡ role = sym (role_of_disk (who p.1) (keeper_of p.1) p.2 l p.4) ∙ own in
      go p.0 p.1 p.2 l p.3 name (keeper_of p.1) refl p.4)
    where
      go : (k : ℕ) (g : Guest (RecordStore D)) (n : ℕ) (l : Lent D) → slice_get gs k ≡ Some g → who g ≡ role
          → (o : Option (RecordStore D)) → keeper_of g ≡ o → slice_get (disks_of (who g) (keeper_of g)) n ≡ Some l
          → by.faults l.disk ≡ 0
      go k g n l at name None has own =
          absurd (none-some l (subst (λ o. slice_get (disks_of (who g) o) n ≡ Some l) has own))
      go k g n l at name (Some s) has own =
          none_failed_at by.faults (who g) s n l (subst (λ o. slice_get (disks_of (who g) o) n ≡ Some l) has own)
          (zeros k g s at has name)

  has_not_failed : (me : RoleId) (g : Guest (RecordStore D))
      → IsOpened by.seen by.faults c options events told_by (stored me) me g → (s : RecordStore D) → keeper_of g ≡ Some s
      → NoneFailed by.faults s
  has_not_failed me g o s has =
      (has_records by.seen by.faults told_by (has_second me.kind) o.records (is_durable me.kind) (keeper_of g) s has
      o.stored).faultless

  -- roles that were opened, and given back at once
  pub opened_still : AreOpened by.seen by.faults c options events told_by stored roles guests → Back guests
      → (role : RoleId) → faults_after role ≡ faults role
  opened_still all back role =
      stands guests back role (λ i h s at has name. let o = all i h at in has_not_failed o.0 h o.2 s has)

  module _ (recovered : RoleId → List Record)
      (from : AreOpenedFrom by.seen by.faults c options events told_by stored recovered roles guests)
      (all : AreOpened by.seen by.faults c options events told_by stored roles guests)
      (count : length guests ≡ length roles) (apart : AreApart roles) (ks : List StoreChange)
      (mid : List (Guest (RecordStore D))) (names : map who mid ≡ map who guests)
      (grow : GuestsGrow (gives by) ks guests mid) where
    -- what a role was opened from is what its store had
    pub told_whole : told_by ≡ true → (i : ℕ) (me : RoleId) → slice_get roles i ≡ Some me → is_durable me.kind ≡ true
        → files_records (Some (stored me)) ≡ recovered me
    told_whole t i me here durable =
        let g = get_beside roles guests i me count here in
        let o = from i me g.0 here g.1 in
        told_any me.kind (stored me) o.0.records (o.0.read t durable) ∙ o.1

    -- a role's list after these changes
    abbrev list_with : RoleId → List StoreChange → List Record
    list_with me more = lists_after (files_records (Some (stored me))) (changes_of me more)

    -- a role's store once these changes were made
    abbrev GrownAt : ℕ → RoleId → Type 0
    GrownAt i me = (m : Guest (RecordStore D)) × (k : RecordStore D) × (slice_get mid i ≡ Some m) × (who m ≡ me)
        × (keeper_of m ≡ Some k) × (is_two k ≡ has_second me.kind)
        × (told_by ≡ true → (tells by k ≡ true) × (kept by k ≡ list_with me ks))

    grown_at : (i : ℕ) (me : RoleId) → slice_get roles i ≡ Some me → is_durable me.kind ≡ true → GrownAt i me
    grown_at i me here durable =
        let g = get_beside roles guests i me count here in
        let m = get_beside guests mid i g.0 grow.0 g.1 in
        let o = from i me g.0 here g.1 in
        let j = keeps_store by.seen by.faults c options events told_by stored me g.0 o.0 durable in
        let own = name_is by.seen by.faults c options events told_by stored me g.0 o.0 in
        let cs = changes_of (who g.0) ks in
        let k = grows_some (gives by) cs (keeper_of g.0) (keeper_of m.0) j.0 j.1 (grow.1 i g.0 m.0 g.1 m.1) in (
          m.0,
          k.0,
          m.1,
          same_at who guests mid i g.0 m.0 names g.1 m.1 ∙ own,
          k.1,
          changed_two by cs j.0 k.0 k.2 ∙ j.2.sides,
          λ t. (
            changed_tells by cs j.0 k.0 (j.2.is_seen t) k.2,
            changed_told by cs j.0 k.0 (j.2.is_seen t) k.2
                ∙ ap (λ l. lists_after l cs) (j.2.kept t ∙ sym (told_any me.kind (stored me) o.0.records (o.0.read t durable)))
                ∙ ap (λ r. lists_after (files_records (Some (stored me))) (changes_of r ks)) own,
          ),
        )

    -- each store has its list after these changes
    abbrev pub Tells : List StoreChange → Type 0
    Tells more = told_by ≡ true → (i : ℕ) (me : RoleId) → slice_get roles i ≡ Some me → is_durable me.kind ≡ true
        → files_records (Some (files_of stored_after me)) ≡ list_with me more

    mid_zero : (i : ℕ) (m : Guest (RecordStore D)) (s : RecordStore D) → slice_get mid i ≡ Some m → keeper_of m ≡ Some s
        → NoneFailed by.faults s
    mid_zero i m s at has =
        let g = get_beside mid guests i m (sym grow.0) at in
        let o = all i g.0 g.1 in
        let cs = changes_of (who g.0) ks in
        let k = grown_from (gives by) cs (keeper_of g.0) (keeper_of m) s has (grow.1 i g.0 m g.1 at) in
        changed_still by cs k.0 s k.2 (has_not_failed o.0 g.0 o.2 k.0 k.1)

    -- ---- where all roles ran to the end

    pub ran_stores : Back mid → Tells ks
    ran_stores back t i me here durable =
        let m = grown_at i me here durable in
        let recovered = m.6 t in
        closed_told mid i me m.0 m.1 m.2 m.3 m.4 m.5 recovered.0 t back ∙ recovered.1

    pub ran_still : Back mid → (role : RoleId) → faults_after role ≡ faults role
    ran_still back role = stands mid back role (λ i h s at has name. mid_zero i h s at has)

    -- ---- where they stopped

    module _ (after : List (Guest (RecordStore D))) (back : Back after) where
      pub rest_stores : GuestsRest (gives by) mid after → Tells ks
      rest_stores rest t i me here durable =
          let m = grown_at i me here durable in
          let recovered = m.6 t in
          let h = get_beside mid after i m.0 rest.0 m.2 in
          let one = rest.1 i m.0 h.0 m.2 h.1 in
          let k = rests_some (gives by) (keeper_of m.0) (keeper_of h.0) m.1 m.4 one.1 in
          closed_told after i me h.0 k.0 h.1 (one.0 ∙ m.3) k.1 (refused_two by m.1 k.0 k.2 ∙ m.5)
          (refused_tells by m.1 k.0 recovered.0 k.2) t back
          ∙ refused_told by m.1 k.0 k.2 ∙ recovered.1

      rest_still : GuestsRest (gives by) mid after → (role : RoleId) → faults_after role ≡ faults role
      rest_still rest role = stands after back role (λ i h s at has name.
          let m = get_beside after mid i h (sym rest.0) at in
          let j = rests_from (gives by) (keeper_of m.0) (keeper_of h) s has (rest.1 i m.0 h m.1 at).1 in
          refused_still by j.0 s j.2 (mid_zero i m.0 j.0 m.1 j.1))

      module _ (role : RoleId) (ch : KeeperChange) (f : GuestFails (gives by) role ch mid after) where
        at_place : slice_get after f.place ≡ Some f.after
        at_place = ap (λ gs. slice_get gs f.place) f.others ∙ get_set_same mid f.place f.guest f.after f.here

        elsewhere : (i : ℕ) → (i ≡ f.place → ⊥) → slice_get after i ≡ slice_get mid i
        elsewhere i other = ap (λ gs. slice_get gs i) f.others ∙ get_set_other mid f.place i f.after other

        -- the role at that place as it was opened, and its name
        opener : (g : Guest (RecordStore D)) × (o : RoleId) × (slice_get guests f.place ≡ Some g) × (slice_get roles f.place ≡ Some o)
            × IsOpened by.seen by.faults c options events told_by (stored o) o g × (o ≡ role)
        opener =
            let g = get_beside mid guests f.place f.guest (sym grow.0) f.here in
            let o = all f.place g.0 g.1 in (
              g.0,
              o.0,
              g.1,
              o.1,
              o.2,
              sym (name_is by.seen by.faults c options events told_by stored o.0 g.0 o.2)
                  ∙ sym (same_at who guests mid f.place g.0 f.guest names g.1 f.here) ∙ f.name,
            )

        -- the role at that place has this name, and no other
        only_role : (i : ℕ) (me : RoleId) → slice_get roles i ≡ Some me → me ≡ role → i ≡ f.place
        only_role i me here is = apart i f.place me here (opener.3 ∙ ap Some (opener.5 ∙ sym is))

        keepers : (j : RecordStore D) × (k : RecordStore D) × (keeper_of f.guest ≡ Some j) × (keeper_of f.after ≡ Some k)
            × HasChangeFailed (gives by) (Some ch) j k
        keepers = failed_some (gives by) ch (keeper_of f.guest) (keeper_of f.after) f.fails

        others_none : (more : List StoreChange) (me : RoleId) → changes_of me more ≡ [] → list_with me ks
            ≡ list_with me (ks ++ more)
        others_none more me none =
            ap (λ l. lists_after (files_records (Some (stored me))) l)
            (sym (changes_append me ks more ∙ ap (λ l. changes_of me ks ++ l) none ∙ append-nil (changes_of me ks)))

        -- its store has had so much more
        fail_stores : (more : List StoreChange) → kept by keepers.1 ≡ lists_after (kept by keepers.0)
            (changes_of role more)
            → ((me : RoleId) → same_role me role ≡ false → changes_of me more ≡ []) → Tells (ks ++ more)
        fail_stores more own others t i me here durable = go (bool_cases (i == f.place))
          where
            m : GrownAt i me
            m = grown_at i me here durable

            go : ((i == f.place) ≡ true) ⊎ ((i == f.place) ≡ false)
                → files_records (Some (files_of stored_after me)) ≡ list_with me (ks ++ more)
            go (inl same) =
                let place = same_number i f.place same in
                let recovered = m.6 t in
                let guest : m.0 ≡ f.guest = same_Some m.0 f.guest (sym m.2 ∙ ap (slice_get mid) place ∙ f.here) in
                let store : m.1 ≡ keepers.0 = same_Some m.1 keepers.0 (sym m.4 ∙ ap keeper_of guest ∙ keepers.2) in
                let name : role ≡ me = sym f.name ∙ ap who (sym guest) ∙ m.3 in
                let known = subst (λ (j : RecordStore D). tells by j ≡ true) store recovered.0 in
                closed_told after i me f.after keepers.1 (ap (slice_get after) place ∙ at_place)
                (f.same ∙ ap who (sym guest) ∙ m.3) keepers.3
                (failed_two by ch keepers.0 keepers.1 keepers.4 ∙ ap is_two (sym store) ∙ m.5)
                (failed_tells by ch keepers.0 keepers.1 known keepers.4) t back
                ∙ own ∙ ap (λ (j : RecordStore D). lists_after (kept by j) (changes_of role more)) (sym store)
                ∙ ap (λ l. lists_after l (changes_of role more)) recovered.1
                ∙ ap (λ x. lists_after (list_with me ks) (changes_of x more)) name
                ∙ sym (lists_append (files_records (Some (stored me))) (changes_of me ks) (changes_of me more))
                ∙ ap (λ l. lists_after (files_records (Some (stored me))) l) (sym (changes_append me ks more))
            go (inr other) =
                let differs : (i ≡ f.place → ⊥) = λ p. not_both (i == f.place)
                (subst (λ k. (i == k) ≡ true) p (number_itself i)) other in
                let recovered = m.6 t in
                closed_told after i me m.0 m.1 (elsewhere i differs ∙ m.2) m.3 m.4 m.5 recovered.0 t back ∙ recovered.1
                ∙ others_none more me (others me (differ_role me role (λ e. differs (only_role i me here e))))

        own_change : changes_of role (record { role = role; change = ch } ∷ []) ≡ ch ∷ []
        own_change = rw (same_role-itself role) refl

        other_change : (me : RoleId) → same_role me role ≡ false
            → changes_of me (record { role = role; change = ch } ∷ []) ≡ []
        other_change me e = rw e refl

        failed_stores : Tells ks ⊎ Tells (ks ++ record { role = role; change = ch } ∷ [])
        failed_stores = go (failed_told by ch keepers.0 keepers.1 keepers.4)
          where
            go : (kept by keepers.1 ≡ kept by keepers.0) ⊎ (kept by keepers.1 ≡ list_after (kept by keepers.0) ch)
                → Tells ks ⊎ Tells (ks ++ record { role = role; change = ch } ∷ [])
            go (inl lost) = inl (subst Tells (append-nil ks) (fail_stores [] lost (λ me e. refl)))
            go (inr made) =
                inr (fail_stores (record { role = role; change = ch } ∷ [])
                (made ∙ ap (λ l. lists_after (kept by keepers.0) l) (sym own_change)) other_change)

        fail_still : (a : RoleId) → (role ≡ a → ⊥) → faults_after a ≡ faults a
        fail_still a never = stands after back a (λ i h s at has name. go i h s at has name (bool_cases (i == f.place)))
          where
            go : (i : ℕ) (h : Guest (RecordStore D)) (s : RecordStore D) → slice_get after i ≡ Some h
                → keeper_of h ≡ Some s → who h ≡ a → ((i == f.place) ≡ true) ⊎ ((i == f.place) ≡ false)
                → NoneFailed by.faults s
            go i h s at has name (inl same) =
                let h_is : f.after ≡ h = same_Some f.after h
                (sym at_place ∙ ap (slice_get after) (sym (same_number i f.place same)) ∙ at) in
                absurd (never (sym f.name ∙ sym f.same ∙ ap who h_is ∙ name))
            go i h s at has name (inr other) =
                let differs : (i ≡ f.place → ⊥) = λ p. not_both (i == f.place)
                (subst (λ k. (i == k) ≡ true) p (number_itself i)) other in
                mid_zero i h s (sym (elsewhere i differs) ∙ at) has

        -- its count has risen
        fail_rises : Rises (faults role) (faults_after role)
        fail_rises =
            let g = opener.0 in
            let o = opener.4 in
            let cs = changes_of (who g) ks in
            let j = grown_from (gives by) cs (keeper_of g) (keeper_of f.guest) keepers.0 keepers.2
            (grow.1 f.place g f.guest opener.2 f.here) in
            let r = has_records by.seen by.faults told_by (has_second opener.1.kind) o.records (is_durable opener.1.kind)
            (keeper_of g) j.0 j.1 o.stored in
            let two : ((records : List Record) → ch ≡ Renewal records → is_two keepers.0 ≡ true) = λ records is.
            changed_two by cs j.0 keepers.0 j.2 ∙ r.sides ∙ ap (λ (x : RoleId). has_second x.kind) opener.5
            ∙ ap has_second (f.renews records is) in
            let rises = fails_rises by (who f.after) cs ch j.0 keepers.0 keepers.1 r.whole two j.2 keepers.4 in
            let own = ap (λ o. slice_get (disks_of (who f.after) o) rises.0) keepers.3 ∙ rises.2 in
            let k = lent_at after f.place f.after rises.0 rises.1 at_place own in
            subst (λ m. Rises (faults m) (faults_after m))
            (role_of_disk (who f.after) (keeper_of f.after) rises.0 rises.1 own ∙ f.same ∙ f.name)
            (back.failed k.0 rises.1 k.1 rises.3)

      -- each store has had its changes, or one has had the change besides that failed
      pub stops_stores : (e : Stop) (next : Option Action) → StopsAt (gives by) e next mid after
          → Tells ks ⊎ ((k : StoreChange) × (next ≡ Some (Kept k)) × Tells (ks ++ k ∷ []))
      stops_stores stop.NoMemory next s = inl (rest_stores s)
      stops_stores stop.WriteFault next s = inl (rest_stores s)
      stops_stores stop.LinkFault next s = inl (rest_stores s.1)
      stops_stores stop.RecordFull next s = inl (rest_stores s.1)
      stops_stores (stop.StoreFault role) next s = go (failed_stores role s.0 s.2)
        where
          go : Tells ks ⊎ Tells (ks ++ record { role = role; change = s.0 } ∷ []) → Tells ks
              ⊎ ((k : StoreChange) × (next ≡ Some (Kept k)) × Tells (ks ++ k ∷ []))
          go (inl lost) = inl lost
          go (inr made) = inr (record { role = role; change = s.0 }, s.1, made)

      -- the count of each role stands, but of one whose change failed
      pub stops_still : (e : Stop) (next : Option Action) → StopsAt (gives by) e next mid after
          → (a : RoleId) → (e ≡ stop.StoreFault a → ⊥) → faults_after a ≡ faults a
      stops_still stop.NoMemory next s a never = rest_still s a
      stops_still stop.WriteFault next s a never = rest_still s a
      stops_still stop.LinkFault next s a never = rest_still s.1 a
      stops_still stop.RecordFull next s a never = rest_still s.1 a
      stops_still (stop.StoreFault role) next s a never = fail_still role s.0 s.2 a (λ e. never (ap stop.StoreFault e))

      pub stops_rises : (role : RoleId) (next : Option Action) → StopsAt (gives by) (stop.StoreFault role) next mid after
          → Rises (faults role) (faults_after role)
      stops_rises role next s = fail_rises role s.0 s.2

  -- ---- roles that aren't hosted

  -- what is stored of one that isn't among those that were given back, and its count
  pub unhosted : (gs : List (Guest (RecordStore D)))
      → ((i : ℕ) (g : Guest (RecordStore D)) → slice_get gs i ≡ Some g → (me : RoleId)
      × (slice_get roles i ≡ Some me) × (who g ≡ me))
      → Back gs → (me : RoleId) → ((i : ℕ) → slice_get roles i ≡ Some me → ⊥)
      → (files_of stored_after me ≡ files_of stored_mid me) × (faults_after me ≡ faults me)
  unhosted gs named back me none =
      (unlent gs me nobody back, stands gs back me (λ i g s at has name. absurd (nobody i g at name)))
    where
      nobody : (i : ℕ) (g : Guest (RecordStore D)) → slice_get gs i ≡ Some g → who g ≡ me → ⊥
      nobody i g at name = let r = named i g at in none i (r.1 ∙ ap Some (sym r.2 ∙ name))

  -- so it is where they were given back as they were opened
  pub opened_unhosted : AreOpened by.seen by.faults c options events told_by stored roles guests → Back guests
      → (me : RoleId) → ((i : ℕ) → slice_get roles i ≡ Some me → ⊥)
      → (files_of stored_after me ≡ files_of stored_mid me) × (faults_after me ≡ faults me)
  opened_unhosted all back =
      unhosted guests (λ i g at. let o =
      all i g at in (o.0, o.1, name_is by.seen by.faults c options events told_by stored o.0 g o.2)) back
