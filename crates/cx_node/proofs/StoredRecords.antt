-- What a store has after changes, and why one failed.
use Rattle.cx_role.proofs.Common.{◌≡◌, ◌≤◌, ◌⊎◌, ℕ, zero, suc, arith, Bool, true, List, [], ◌∷◌, ◌++◌, take, Some, Result, Ok, Err, refl}
use Rattle.cx_role.proofs.Common.{sym, ap, ◌∙◌, subst, inl, inr, is_some, slice_get, none-some, same_Some, Rises, RoleId, Append}
use Rattle.cx_role.proofs.Common.{KeeperChange, Renewal, list_after, KeepFault, Failed, Record}
use Rattle.cx_seat.specs.Prelude.{shelf, files_records, IsStoreChange, store_told, RecordStore, One, Two, lists_after, Changing, Refuses}
use Rattle.cx_seat.specs.Prelude.{AreChangesMade, HasChangeFailed, Lent, disks_of, is_two}
use Rattle.cx_disk.specs.declared.disk.Disk.{Ghosts as DiskGhosts}
use Rattle.cx_keep.specs.Keeper.{IsKeeperChange}
use Rattle.cx_keep.specs.declared.keeper.KeepFault.TheVariants.{NoMemory}
use Rattle.cx_journal.specs.Store.{store_faults, store_whole}
use Rattle.cx_journal.specs.StoreLaw.{store_change_is}
use Rattle.cx_journal.proofs.Stores.{store_whole_after}
use Rattle.cx_node.specs.Hosting.{store_gives}
use Rattle.cx_seat.specs.Stores.{NoneFailed}

pub take_next : {X : Type 0} (xs : List X) (n : ℕ) (x : X) → slice_get xs n ≡ Some x → take (suc n) xs ≡ take n xs
    ++ x ∷ []
take_next [] n x e = cc
take_next (y ∷ ys) zero x e = cc
take_next (y ∷ ys) (suc n) x e = ap (λ l. y ∷ l) (take_next ys n x e)

pub rises_later : (a b d : ℕ) → a ≤ b → Rises b d → Rises a d
rises_later a b d p (inl q) = inl (omega (arith, p, q))
rises_later a b d p (inr q) = inr q

pub rises_still : (a b d : ℕ) → Rises a b → b ≤ d → Rises a d
rises_still a b d (inl q) p = inl (omega (arith, p, q))
rises_still a b d (inr q) p = inr (omega (arith, p, q))

ok_is_no_fault : ◌≡◌ {A = Result (Unit {0}) KeepFault} (Ok tt) (Err Failed) → ⊥
ok_is_no_fault e = cc

no_memory_is_no_fault : ◌≡◌ {A = Result (Unit {0}) KeepFault} (Err NoMemory) (Err Failed) → ⊥
no_memory_is_no_fault e = cc

-- where none of a store's disks has failed, each has not
pub none_failed_at : {S : Type 0} (disk_faults : S → ℕ) (me : RoleId) (s : RecordStore S) (n : ℕ) (l : Lent S)
    → slice_get (disks_of me (Some s)) n ≡ Some l → NoneFailed disk_faults s → disk_faults l.disk ≡ 0
none_failed_at faults me (One j) zero l at none = ap (λ (l : Lent _). faults l.disk) (sym (same_Some _ l at)) ∙ none
none_failed_at faults me (One j) (suc n) l at none = absurd (none-some l at)
none_failed_at faults me (Two t) zero l at none = ap (λ (l : Lent _). faults l.disk) (sym (same_Some _ l at)) ∙ none.0
none_failed_at faults me (Two t) (suc zero) l at none =
    ap (λ (l : Lent _). faults l.disk) (sym (same_Some _ l at)) ∙ none.1
none_failed_at faults me (Two t) (suc (suc n)) l at none = absurd (none-some l at)

module _ {D : Type 0} (by : DiskGhosts D) where
  abbrev pub gives : Changing (RecordStore D)
  gives = store_gives by

  abbrev pub kept : RecordStore D → List Record
  kept s = files_records (store_told by.seen s)

  abbrev pub tells : RecordStore D → Bool
  tells s = is_some (store_told by.seen s)

  pub change_is : (a : RecordStore D) (change : KeeperChange) (answer : Result (Unit {0}) KeepFault) (b : RecordStore D)
      → gives a change answer b → IsStoreChange by a change answer b
  change_is a (Append r) answer b p = p
  change_is a (Renewal records) answer b p = p

  keeps : (a : RecordStore D) (change : KeeperChange) (answer : Result (Unit {0}) KeepFault) (b : RecordStore D)
      → gives a change answer b → IsKeeperChange tells kept store_faults a change answer b
  keeps a change answer b p = store_change_is by a change answer b (change_is a change answer b p)

  two_stays : (a : RecordStore D) (change : KeeperChange) (answer : Result (Unit {0}) KeepFault) (b : RecordStore D)
      → IsStoreChange by a change answer b → is_two b ≡ is_two a
  two_stays (One a) change answer (One b) p = refl
  two_stays (Two a) change answer (Two b) p = refl
  two_stays (One a) change answer (Two b) p = absurd p
  two_stays (Two a) change answer (One b) p = absurd p

  pub shape_stays : (a : RecordStore D) (change : KeeperChange) (answer : Result (Unit {0}) KeepFault) (b : RecordStore D)
      → gives a change answer b → is_two b ≡ is_two a
  shape_stays a change answer b p = two_stays a change answer b (change_is a change answer b p)

  -- a change that doesn't fail raises no count
  still : (a : RecordStore D) (change : KeeperChange) (answer : Result (Unit {0}) KeepFault) (b : RecordStore D)
      → IsStoreChange by a change answer b → (answer ≡ Err Failed → ⊥) → NoneFailed by.faults a
      → NoneFailed by.faults b
  still (One a) (Append r) answer (One b) p ok none = p.disk_still ok ∙ none
  still (One a) (Renewal records) answer (One b) p ok none = absurd (ok p.failed)
  still (Two a) change answer (Two b) p ok none =
      let same = p.disk_still ok in (same.0 ∙ none.0, same.1 ∙ none.1)
  still (One a) change answer (Two b) p ok none = absurd p
  still (Two a) change answer (One b) p ok none = absurd p

  pub changed_whole : (cs : List KeeperChange) (a b : RecordStore D) → store_whole a ≡ true → AreChangesMade gives cs a b
      → store_whole b ≡ true
  changed_whole [] a b whole p = subst (λ (x : RecordStore D). store_whole x ≡ true) (sym p) whole
  changed_whole (c ∷ cs) a b whole p =
      changed_whole cs p.0 b (store_whole_after by a c p.0 (change_is a c (Ok tt) p.0 p.1)) p.2

  pub changed_tells : (cs : List KeeperChange) (a b : RecordStore D) → tells a ≡ true → AreChangesMade gives cs a b → tells b ≡ true
  changed_tells [] a b is_seen p = subst (λ (x : RecordStore D). tells x ≡ true) (sym p) is_seen
  changed_tells (c ∷ cs) a b is_seen p = changed_tells cs p.0 b ((keeps a c (Ok tt) p.0 p.1).tells_same ∙ is_seen) p.2

  pub changed_told : (cs : List KeeperChange) (a b : RecordStore D) → tells a ≡ true → AreChangesMade gives cs a b
      → kept b ≡ lists_after (kept a) cs
  changed_told [] a b is_seen p = ap kept p
  changed_told (c ∷ cs) a b is_seen p =
      let first = keeps a c (Ok tt) p.0 p.1 in
      changed_told cs p.0 b (first.tells_same ∙ is_seen) p.2 ∙ ap (λ l. lists_after l cs) (first.ok refl is_seen)

  pub changed_two : (cs : List KeeperChange) (a b : RecordStore D) → AreChangesMade gives cs a b → is_two b ≡ is_two a
  changed_two [] a b p = ap is_two p
  changed_two (c ∷ cs) a b p = changed_two cs p.0 b p.2 ∙ two_stays a c (Ok tt) p.0 (change_is a c (Ok tt) p.0 p.1)

  pub changed_still : (cs : List KeeperChange) (a b : RecordStore D) → AreChangesMade gives cs a b → NoneFailed by.faults a
      → NoneFailed by.faults b
  changed_still [] a b p none = subst (NoneFailed by.faults) (sym p) none
  changed_still (c ∷ cs) a b p none =
      changed_still cs p.0 b p.2 (still a c (Ok tt) p.0 (change_is a c (Ok tt) p.0 p.1) ok_is_no_fault none)

  -- a store that keeps what it kept
  pub refused_tells : (a b : RecordStore D) → tells a ≡ true → Refuses gives a b → tells b ≡ true
  refused_tells a b is_seen (inl same) = ap tells same ∙ is_seen
  refused_tells a b is_seen (inr p) = (keeps a p.0 (Err NoMemory) b p.1).tells_same ∙ is_seen

  pub refused_told : (a b : RecordStore D) → Refuses gives a b → kept b ≡ kept a
  refused_told a b (inl same) = ap kept same
  refused_told a b (inr p) = (keeps a p.0 (Err NoMemory) b p.1).no_memory refl

  pub refused_two : (a b : RecordStore D) → Refuses gives a b → is_two b ≡ is_two a
  refused_two a b (inl same) = ap is_two same
  refused_two a b (inr p) = two_stays a p.0 (Err NoMemory) b (change_is a p.0 (Err NoMemory) b p.1)

  pub refused_still : (a b : RecordStore D) → Refuses gives a b → NoneFailed by.faults a → NoneFailed by.faults b
  refused_still a b (inl same) none = subst (NoneFailed by.faults) (sym same) none
  refused_still a b (inr p) none =
      still a p.0 (Err NoMemory) b (change_is a p.0 (Err NoMemory) b p.1) no_memory_is_no_fault none

  -- one whose change failed has the list from before it, or after it
  pub failed_tells : (c : KeeperChange) (a b : RecordStore D) → tells a ≡ true → HasChangeFailed gives (Some c) a b → tells b ≡ true
  failed_tells c a b is_seen fails = (keeps a c (Err Failed) b fails).tells_same ∙ is_seen

  pub failed_told : (c : KeeperChange) (a b : RecordStore D) → HasChangeFailed gives (Some c) a b → (kept b ≡ kept a)
      ⊎ (kept b ≡ list_after (kept a) c)
  failed_told c a b fails = (keeps a c (Err Failed) b fails).failed refl

  pub failed_two : (c : KeeperChange) (a b : RecordStore D) → HasChangeFailed gives (Some c) a b → is_two b ≡ is_two a
  failed_two c a b fails = two_stays a c (Err Failed) b (change_is a c (Err Failed) b fails)

  -- one of its disks has failed then
  abbrev HasFailed : RoleId → RecordStore D → Type 0
  HasFailed me s = (n : ℕ) × (l : Lent D) × (slice_get (disks_of me (Some s)) n ≡ Some l) × Rises 0 (by.faults l.disk)

  from_zero : (a b : ℕ) → Rises a b → Rises 0 b
  from_zero a b rose = rises_later 0 a b (omega arith) rose

  fails_so : (me : RoleId) (c : KeeperChange) (a b : RecordStore D) → store_whole a ≡ true
      → ((records : List Record) → c ≡ Renewal records → is_two a ≡ true) → IsStoreChange by a c (Err Failed) b
      → HasFailed me b
  fails_so me (Append r) (One a) (One b) whole two p =
      (0, record { place = shelf me 0; disk = b.disk }, refl, from_zero _ _ (p.whole_cause refl whole))
  fails_so me (Renewal records) (One a) (One b) whole two p =
      let one : ⊥ = cases (two records refl) in absurd one
    where
      cases : ◌≡◌ {A = Bool} (is_two (One a)) true → ⊥
      cases e = cc
  fails_so me c (Two a) (Two b) whole two p = go (p.whole_cause refl whole)
    where
      go : Rises (by.faults a.first) (by.faults b.first) ⊎ Rises (by.faults a.second) (by.faults b.second)
          → HasFailed me (Two b)
      go (inl rose) = (0, record { place = shelf me 0; disk = b.first }, refl, from_zero _ _ rose)
      go (inr rose) = (1, record { place = shelf me 1; disk = b.second }, refl, from_zero _ _ rose)
  fails_so me c (One a) (Two b) whole two p = absurd p
  fails_so me c (Two a) (One b) whole two p = absurd p

  pub fails_rises : (me : RoleId) (cs : List KeeperChange) (c : KeeperChange) (a mid b : RecordStore D) → store_whole a ≡ true
      → ((records : List Record) → c ≡ Renewal records → is_two mid ≡ true)
      → AreChangesMade gives cs a mid → HasChangeFailed gives (Some c) mid b
      → (n : ℕ) × (l : Lent D) × (slice_get (disks_of me (Some b)) n ≡ Some l) × Rises 0 (by.faults l.disk)
  fails_rises me cs c a mid b whole two front fails =
      fails_so me c mid b (changed_whole cs a mid whole front) two (change_is mid c (Err Failed) b fails)
