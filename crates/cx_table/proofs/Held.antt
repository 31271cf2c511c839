-- What is noted once a client's entry has changed.
use Rattle.std.specs.Cmp.{nat_eq_equiv}
use Rattle.std.specs.List.{IsDistinct}
use Rattle.std.specs.Map.{keys_of, lookup_key, values_of}
use Rattle.indexmap.specs.IndexMap.{IndexMap, IsUnique, insert_entry, set_value_at, with_value_at}
use Rattle.indexmap.proofs.CallerLemmas.{keys-with_value_at, updates-with_value_at}
use Rattle.cx_base.proofs.Common.{◌≡◌, ◌⊎◌, ℕ, zero, suc, ◌+◌, ◌≤◌, true, false, cond, List, [], ◌∷◌, inl, inr, ap, sym, subst, ◌∙◌, refl}
use Rattle.cx_base.proofs.Common.{arith, ◌==◌, nat_eq, slice_get, if◌then◌else◌, None, Some, position_or_len, lookup, cases_Bool, eqb-true}
use Rattle.cx_base.proofs.Common.{nat_tests, same_Some, rises, Table, are_rising, comes_before, floor_of}
use Rattle.cx_table.specs.Entries.{IsEntryAt, AreClientEntries, IsRoomAt, are_above, floor_of_entry, notes_in, of_client, room_in, rooms_in}
use Rattle.cx_table.specs.State.{KeepsRoom, TakesRoom, room_for}
use Rattle.cx_table.specs.declared.entry.ClientEntry.{ClientEntry}

same_test : (a b : ℕ) → (a == b) ≡ nat_eq b a
same_test a b = grind (arith, nat_tests)

-- the room of a client is that of its entry
pub room_is : (k : ℕ) (es : List (ℕ × ClientEntry)) → room_for k (rooms_in es) ≡ room_in (lookup (nat_eq k) es)
room_is k [] = refl
room_is k (e ∷ es) = rw (same_test e.0 k) (go (cases_Bool (nat_eq k e.0)) (room_is k es))
  where
    go : (nat_eq k e.0 ≡ true) ⊎ (nat_eq k e.0 ≡ false) → room_for k (rooms_in es) ≡ room_in (lookup (nat_eq k) es)
        → (if nat_eq k e.0 then room_in (Some e.1) else room_for k (rooms_in es)) ≡ room_in (lookup (nat_eq k) (e ∷ es))
    go (inl t) rest = rw t refl
    go (inr t) rest = rw t rest

-- one client has another entry, and all others have theirs
abbrev pub IsChanged : ℕ → ClientEntry → List (ℕ × ClientEntry) → List (ℕ × ClientEntry) → Type 0
IsChanged client entry es ns = (k : ℕ) → lookup (nat_eq k) ns ≡ cond (nat_eq client k) (Some entry) (lookup (nat_eq k) es)

pub changed_at : {S : Type 0} (m : IndexMap ℕ ClientEntry S) (place client : ℕ) (old new : ClientEntry) → IsUnique nat_eq m
    → slice_get m.entries place ≡ Some (client, old)
    → IsChanged client new m.entries (set_value_at m.entries place new)
changed_at m place client old new unique there = (updates-with_value_at m place new nat_eq_equiv unique client old there).0

module _ (client : ℕ) (entry : ClientEntry) (es ns : List (ℕ × ClientEntry)) (changed : IsChanged client entry es ns) where
  own_entry : (k : ℕ) → nat_eq client k ≡ true → lookup (nat_eq k) ns ≡ Some entry
  own_entry k t = changed k ∙ rw t refl

  other_entry : (k : ℕ) → nat_eq client k ≡ false → lookup (nat_eq k) ns ≡ lookup (nat_eq k) es
  other_entry k t = changed k ∙ rw t refl

  own_key : (k : ℕ) → nat_eq client k ≡ true → lookup (nat_eq client) es ≡ lookup (nat_eq k) es
  own_key k t = (let one : client ≡ k = eqb-true client k t in ap (λ (x : ℕ). lookup (nat_eq x) es) one)

  pub rooms_kept : room_in (lookup (nat_eq client) es) ≤ room_in (Some entry) → KeepsRoom (rooms_in es) (rooms_in ns)
  rooms_kept more k = rw (room_is k es, room_is k ns) (go (cases_Bool (nat_eq client k)))
    where
      go : (nat_eq client k ≡ true) ⊎ (nat_eq client k ≡ false)
          → room_in (lookup (nat_eq k) es) ≤ room_in (lookup (nat_eq k) ns)
      go (inl t) = rw (own_entry k t, ← own_key k t) more
      go (inr t) = rw (other_entry k t) (omega arith)

  pub rooms_taken : room_in (lookup (nat_eq client) es) ≤ room_in (Some entry) + 1
      → TakesRoom client (rooms_in es) (rooms_in ns)
  rooms_taken less k = rw (room_is k es, room_is k ns) (go (cases_Bool (nat_eq client k)))
    where
      go : (nat_eq client k ≡ true) ⊎ (nat_eq client k ≡ false)
          → room_in (lookup (nat_eq k) es) ≤ room_in (lookup (nat_eq k) ns) + (if client == k then 1 else 0)
      go (inl t) = (let same : (client == k) ≡ true = grind (arith, nat_tests, t) in rw (own_entry k t, same, ← own_key k t) less)
      go (inr t) = rw (other_entry k t) (omega arith)

  -- the entry holds what another table has of the client, which has of all others what the old one has
  pub held_by : (t u : Table) → AreClientEntries t es → are_rising 0 u.floors ≡ true → rises comes_before u.notes ≡ true
      → are_above u ≡ true
      → ((k : ℕ) → floor_of k u.floors ≡ (if client == k then entry.floor else floor_of k t.floors))
      → ((k : ℕ) → of_client k u.notes ≡ (if client == k then entry.notes.items else of_client k t.notes)) → AreClientEntries u ns
  held_by t u sound floors_rise notes_rise above floors notes = record {
    floors_rise = floors_rise;
    notes_rise = notes_rise;
    above = above;
    floors = λ k. one_floor k (cases_Bool (nat_eq client k));
    notes = λ k. all_notes k (cases_Bool (nat_eq client k));
  }
    where
      one_floor : (k : ℕ) → (nat_eq client k ≡ true) ⊎ (nat_eq client k ≡ false)
          → floor_of_entry (lookup (nat_eq k) ns) ≡ floor_of k u.floors
      one_floor k (inl t) =
          (let same : (client == k) ≡ true = grind (arith, nat_tests, t) in rw (own_entry k t) (sym (rw same at (floors k))))
      one_floor k (inr t) = (let other : (client == k) ≡ false = grind (arith, nat_tests, t) in rw (other_entry k t)
          (sound.floors k ∙ sym (rw other at (floors k))))

      all_notes : (k : ℕ) → (nat_eq client k ≡ true) ⊎ (nat_eq client k ≡ false)
          → notes_in (lookup (nat_eq k) ns) ≡ of_client k u.notes
      all_notes k (inl t) =
          (let same : (client == k) ≡ true = grind (arith, nat_tests, t) in rw (own_entry k t) (sym (rw same at (notes k))))
      all_notes k (inr t) = (let other : (client == k) ≡ false = grind (arith, nat_tests, t) in rw (other_entry k t)
          (sound.notes k ∙ sym (rw other at (notes k))))

  -- an entry with the same floor and answers holds the same
  pub held_still : (t : Table) (old : ClientEntry) → lookup (nat_eq client) es ≡ Some old → entry.floor ≡ old.floor
      → entry.notes.items ≡ old.notes.items → AreClientEntries t es → AreClientEntries t ns
  held_still t old found same_floor same_notes sound =
      held_by t t sound sound.floors_rise sound.notes_rise sound.above
      (λ k. one_floor k (cases_Bool (client == k)))
      (λ k. all_notes k (cases_Bool (client == k)))
    where
      own_floor : entry.floor ≡ floor_of client t.floors
      own_floor = same_floor ∙ ap floor_of_entry (sym found) ∙ sound.floors client

      own_notes : entry.notes.items ≡ of_client client t.notes
      own_notes = same_notes ∙ ap notes_in (sym found) ∙ sound.notes client

      one_floor : (k : ℕ) → ((client == k) ≡ true) ⊎ ((client == k) ≡ false)
          → floor_of k t.floors ≡ (if client == k then entry.floor else floor_of k t.floors)
      one_floor k (inl s) = rw s (ap (λ (x : ℕ). floor_of x t.floors) (sym (eqb-true client k s)) ∙ sym own_floor)
      one_floor k (inr s) = rw s refl

      all_notes : (k : ℕ) → ((client == k) ≡ true) ⊎ ((client == k) ≡ false)
          → of_client k t.notes ≡ (if client == k then entry.notes.items else of_client k t.notes)
      all_notes k (inl s) = rw s (ap (λ (x : ℕ). of_client x t.notes) (sym (eqb-true client k s)) ∙ sym own_notes)
      all_notes k (inr s) = rw s refl

-- a key that is found is the key
pub key_is : (client k : ℕ) (es : List (ℕ × ClientEntry)) → lookup_key (nat_eq client) es ≡ Some k → k ≡ client
key_is client k [] e = cc
key_is client k (x ∷ es) e = go (cases_Bool (nat_eq client x.0)) (key_is client k es) e
  where
    go : (nat_eq client x.0 ≡ true) ⊎ (nat_eq client x.0 ≡ false)
        → (lookup_key (nat_eq client) es ≡ Some k → k ≡ client) → lookup_key (nat_eq client) (x ∷ es) ≡ Some k
        → k ≡ client
    go (inl t) rest e = (let same : Some x.0 ≡ Some k = rw t at e in let one : client ≡ x.0 = eqb-true client x.0 t in cc)
    go (inr t) rest e = rest (rw t at e)

pub set_there : (es : List (ℕ × ClientEntry)) (place client : ℕ) (old new : ClientEntry) → slice_get es place ≡ Some (client, old)
    → slice_get (set_value_at es place new) place ≡ Some (client, new)
set_there [] place client old new e = cc
set_there (x ∷ es) zero client old new e =
    (let same : x ≡ (client, old) = same_Some x (client, old) e in ap (λ (p : ℕ × ClientEntry). Some (p.0, new)) same)
set_there (x ∷ es) (suc place) client old new e = set_there es place client old new e

value_at : (es : List (ℕ × ClientEntry)) (place client : ℕ) (entry value : ClientEntry) → slice_get es place ≡ Some (client, entry)
    → slice_get (values_of es) place ≡ Some value → entry ≡ value
value_at [] place client entry value e v = cc
value_at (x ∷ es) zero client entry value e v =
    let one : x ≡ (client, entry) = same_Some x (client, entry) e in
    ap (λ (p : ℕ × ClientEntry). p.1) (sym one) ∙ same_Some x.1 value v
value_at (x ∷ es) (suc place) client entry value e v = value_at es place client entry value e v

-- the entry that is read at its place
pub entry_read : (es : List (ℕ × ClientEntry)) (place client : ℕ) (value : ClientEntry) → IsEntryAt client es place
    → slice_get (values_of es) place ≡ Some value
    → (slice_get es place ≡ Some (client, value)) × (lookup (nat_eq client) es ≡ Some value)
entry_read es place client value at v =
    let same : at.entry ≡ value = value_at es place client at.entry value at.there v in
    (at.there ∙ ap (λ (x : ClientEntry). Some (client, x)) same, at.found ∙ ap (λ (x : ClientEntry). Some x) same)

-- the room at a place
pub room_found : (client count : ℕ) (es : List (ℕ × ClientEntry)) (place : ℕ) → IsRoomAt client count es place
    → count ≤ room_for client (rooms_in es)
room_found client count es place is = rw (room_is client es, is.at.found) is.room

pub room_there : (client count : ℕ) (es : List (ℕ × ClientEntry)) (place : ℕ) (value : ClientEntry) → IsRoomAt client count es place
    → slice_get (values_of es) place ≡ Some value → count ≤ room_in (Some value)
room_there client count es place value is v = (let same : is.at.entry ≡ value = value_at es place client is.at.entry value is.at.there v in
    subst (λ (e : ClientEntry). count ≤ room_in (Some e)) same is.room)

-- where an entry's place is found
pub entry_at : (client place k : ℕ) (entry : ClientEntry) (es : List (ℕ × ClientEntry)) → slice_get es place ≡ Some (k, entry)
    → Some k ≡ lookup_key (nat_eq client) es → Some entry ≡ lookup (nat_eq client) es
    → IsEntryAt client es place
entry_at client place k entry es there key found = record {
  entry = entry;
  there = there ∙ ap (λ (x : ℕ). Some (x, entry)) (key_is client k es (sym key));
  found = sym found;
}

-- a client's entry is written at its place
module _ {S : Type 0} (m : IndexMap ℕ ClientEntry S) (place client : ℕ) (old new : ClientEntry) (unique : IsUnique nat_eq m)
    (at : IsEntryAt client m.entries place) (read : slice_get (values_of m.entries) place ≡ Some old) where
  there : slice_get m.entries place ≡ Some (client, old)
  there = (entry_read m.entries place client old at read).0

  pub write_found : lookup (nat_eq client) m.entries ≡ Some old
  write_found = (entry_read m.entries place client old at read).1

  pub write_changed : IsChanged client new m.entries (set_value_at m.entries place new)
  write_changed = changed_at m place client old new unique there

  pub write_unique : IsUnique nat_eq (with_value_at m place new)
  write_unique = subst (λ (ks : List ℕ). IsDistinct nat_eq ks) (sym (keys-with_value_at m place new)) unique

  pub write_there : IsEntryAt client (set_value_at m.entries place new) place
  write_there = record {
    entry = new;
    there = set_there m.entries place client old new there;
    found = write_changed client ∙ (let same : nat_eq client client ≡ true = grind (arith, nat_tests) in rw same refl);
  }

  pub write_room : (count : ℕ) → count ≤ room_in (Some new)
      → IsRoomAt client count (set_value_at m.entries place new) place
  unfolding write_there
  write_room count room = record { at = write_there; room = room }

  pub write_held : new.floor ≡ old.floor → new.notes.items ≡ old.notes.items → (t : Table) → AreClientEntries t m.entries
      → AreClientEntries t (set_value_at m.entries place new)
  write_held same_floor same_notes t sound =
      held_still client new m.entries (set_value_at m.entries place new) write_changed t old write_found same_floor same_notes sound

  pub write_kept : room_in (Some old) ≤ room_in (Some new)
      → KeepsRoom (rooms_in m.entries) (rooms_in (set_value_at m.entries place new))
  write_kept more = rooms_kept client new m.entries (set_value_at m.entries place new) write_changed (rw write_found more)

  pub write_taken : room_in (Some old) ≤ room_in (Some new) + 1
      → TakesRoom client (rooms_in m.entries) (rooms_in (set_value_at m.entries place new))
  write_taken less = rooms_taken client new m.entries (set_value_at m.entries place new) write_changed (rw write_found less)

  pub room_read : room_for client (rooms_in m.entries) ≡ room_in (Some old)
  room_read = room_is client m.entries ∙ ap room_in write_found

-- a new client's entry stands last
placed : (client : ℕ) (entry : ClientEntry) (es : List (ℕ × ClientEntry)) → lookup (nat_eq client) es ≡ None
    → slice_get (insert_entry nat_eq es client entry) (position_or_len (nat_eq client) (keys_of es))
    ≡ Some (client, entry)
placed client entry [] none = refl
placed client entry (x ∷ es) none = go (cases_Bool (nat_eq client x.0)) none (placed client entry es)
  where
    go : (nat_eq client x.0 ≡ true) ⊎ (nat_eq client x.0 ≡ false) → lookup (nat_eq client) (x ∷ es) ≡ None
        → (lookup (nat_eq client) es ≡ None
        → slice_get (insert_entry nat_eq es client entry) (position_or_len (nat_eq client) (keys_of es)) ≡ Some (client, entry))
        → slice_get (insert_entry nat_eq (x ∷ es) client entry) (position_or_len (nat_eq client) (keys_of (x ∷ es)))
        ≡ Some (client, entry)
    go (inl t) none rest = (let never : Some x.1 ≡ None = rw t at none in cc)
    go (inr t) none rest =
        let later : lookup (nat_eq client) es ≡ None = rw t at none in
        let next : 1 + position_or_len (nat_eq client) (keys_of es) ≡ suc (position_or_len (nat_eq client) (keys_of es)) = omega arith in
        rw (t, next) (rest later)

module _ (client : ℕ) (entry : ClientEntry) (es ns : List (ℕ × ClientEntry)) (none : lookup (nat_eq client) es ≡ None)
    (is : ns ≡ insert_entry nat_eq es client entry) (changed : IsChanged client entry es ns) where
  pub enter_room : (count place : ℕ) → place ≡ position_or_len (nat_eq client) (keys_of es)
      → count ≤ room_in (Some entry) → IsRoomAt client count ns place
  enter_room count place at room = record {
    at = record {
      entry = entry;
      there = rw (is, at) (placed client entry es none);
      found = own_entry client entry es ns changed client (grind (arith, nat_tests));
    };
    room = room;
  }

  pub enter_kept : KeepsRoom (rooms_in es) (rooms_in ns)
  enter_kept = rooms_kept client entry es ns changed (rw none (omega arith))
