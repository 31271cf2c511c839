-- When a twin is ready.
use Rattle.cx_journal.proofs.Common.{◌≡◌, ◌<◌, ◌≤◌, ◌⊎◌, inl, inr, ⊎_elim, ℕ, ◌+◌, ◌==◌, not, Bool, true, false, List, [], ◌∷◌, ◌++◌}
use Rattle.cx_journal.proofs.Common.{length, Option, Some, None, Result, Ok, Err, refl, sym, ◌∙◌, ap, subst, take, length-append, IfOk}
use Rattle.cx_journal.proofs.Common.{IfErr, is_some, slice_index, if◌then◌else◌, same_Some, Kind, Record, spelling, LeavesOnly, OpenFault}
use Rattle.cx_journal.proofs.Common.{generation, second_is_live, frames, gates_from, front_of, IsLive, payloads, all_kept_by, has_some}
use Rattle.cx_journal.proofs.Common.{records_or_none, BothTell, seen_pair_records, pair_image, image_chosen, TwoRest, LeavesTwo, SamePair}
use Rattle.cx_journal.proofs.Common.{gates-push, payloads-push}
use Rattle.cx_keep.specs.declared.keeper.OpenFault.TheVariants as fault
use Rattle.cx_journal.specs.Blank.{IsLeftOr, IsSame}
use Rattle.cx_journal.specs.Found.{IsOutside}
use Rattle.cx_journal.specs.Generation.{IsGeneration}
use Rattle.cx_journal.specs.State.{IsUnwritten}
use Rattle.cx_journal.specs.Twin.{TwinState, pair_records, IsPairFault, IsFaultOfPair, PairRests, LeavesSame, IsTwinReady}
use Rattle.cx_journal.specs.declared.image.Found.{Found}
use Rattle.cx_journal.specs.declared.opening.Live.{Live}
use Rattle.cx_journal.proofs.Gates.{gate_at, is_single}
use Rattle.cx_journal.proofs.Images.{same_pair, twin_image}
use Rattle.cx_journal.proofs.Ready.{told_of}
use Rattle.cx_journal.proofs.Told.{told_pair, told_two}

-- a first disk's bytes that are the same, or that have no records either
pub same_told : (o p n : Option (List ℕ)) → is_some n ≡ is_some o → ((a now : List ℕ) → o ≡ Some a → n ≡ Some now → IsSame now a)
    → pair_records n p ≡ pair_records o p
same_told None p None tells same = refl
same_told None p (Some now) tells same = absurd cc
same_told (Some a) p None tells same = absurd cc
same_told (Some a) None (Some now) tells same = refl
same_told (Some a) (Some b) (Some now) tells same = ap records_or_none (same_pair now a b (same a now refl refl) None)

-- beside the same second file
pub same_beside : (c d a b : List ℕ) → IsSame c a → (o : Option (List ℕ)) → o ≡ Some d → o ≡ Some b → SamePair c d a b
same_beside c d a b same o now was k = ap (λ (f : List ℕ). pair_image k c f) (same_Some _ _ (sym now ∙ was)) ∙ same_pair c a b same k

-- what two disks tell stays, where the second tells the same
pub told_still : {D : Type 0} (seen : D → Option (List ℕ)) (first second new_first new_second : D)
    → is_some (seen new_first) ≡ is_some (seen first) → seen new_second ≡ seen second
    → ((a now : List ℕ) → seen first ≡ Some a → seen new_first ≡ Some now → IsSame now a)
    → seen_pair_records seen new_first new_second ≡ seen_pair_records seen first second
told_still seen first second new_first new_second tells second_seen same =
    ap (λ o. pair_records (seen new_first) o) second_seen ∙ same_told (seen first) (seen second) (seen new_first) tells same

-- where the bytes of one are not known, nothing is seen
pub told_or_none : (o p n m : Option (List ℕ)) → is_some n ≡ is_some o → is_some m ≡ is_some p
    → ((is_some o ≡ true) × (is_some p ≡ true)) ⊎ (pair_records n m ≡ pair_records o p)
told_or_none None p None m first second = inr refl
told_or_none None p (Some a) m first second = absurd cc
told_or_none (Some a) p None m first second = absurd cc
told_or_none (Some a) None (Some c) None first second = inr refl
told_or_none (Some a) None (Some c) (Some d) first second = absurd cc
told_or_none (Some a) (Some b) n m first second = inl (refl, refl)

-- two files that have records have no break
never_so : (k : Option Kind) (a b : List ℕ) (records : List Record) (r : Result Bool ℕ) (f : OpenFault) → image_chosen k a b r ≡ Ok records
    → IsPairFault k a b r f → IsOutside f
never_so k a b records (Ok second) (fault.NotJournal at byte) is broken = let no_way : Ok records ≡ Err at = sym is ∙ broken.0 in absurd cc
never_so k a b records (Err bad) (fault.NotJournal at byte) is broken = absurd cc
never_so k a b records r fault.Failed is broken = tt
never_so k a b records r fault.NoMemory is broken = tt

-- and these are read
pub list_so : (k : Option Kind) (a b : List ℕ) (records : List Record) (read : Result (Live × Found) OpenFault) → pair_image k a b
    ≡ Ok records → IfOk read (λ p. pair_image k a b ≡ Ok p.1.records.items) → IfOk read (λ p. p.1.records.items ≡ records)
list_so k a b records (Ok p) has is = ap records_or_none (sym is ∙ has)
list_so k a b records (Err e) has is = tt

pub outside_so : (k : Option Kind) (a b : List ℕ) (records : List Record) (read : Result (Live × Found) OpenFault)
    → pair_image k a b ≡ Ok records → IfErr read (IsFaultOfPair k a b) → IfErr read (λ e. IsOutside e)
outside_so k a b records (Ok p) has broken = tt
outside_so k a b records (Err e) has broken = never_so k a b records (second_is_live (generation a) (generation b)) e has broken

-- one gate more
pub gates_more : (gen : Option ℕ) (old : List Record) (r : Record) (gates now : List ℕ) (next : ℕ)
    → gates ≡ gates_from (length (front_of gen)) (payloads old) → now ≡ gates ++ next ∷ []
    → next ≡ length (front_of gen ++ frames (payloads (old ++ r ∷ [])))
    → now ≡ gates_from (length (front_of gen)) (payloads (old ++ r ∷ []))
gates_more gen old r gates now next are more place =
    let ps : payloads (old ++ r ∷ []) ≡ payloads old ++ spelling r ∷ [] = payloads-push old r in
    let at : next ≡ length (front_of gen) + length (frames (payloads old ++ spelling r ∷ [])) =
    place ∙ length-append (front_of gen) (frames (payloads (old ++ r ∷ []))) ∙ ap (λ qs. length (front_of gen) + length (frames qs)) ps in
    more ∙ ap (λ gs. gs ++ next ∷ []) are ∙ ap (λ (n : ℕ). gates_from (length (front_of gen)) (payloads old) ++ n ∷ []) at
    ∙ sym (gates-push (length (front_of gen)) (payloads old) (spelling r)) ∙ ap (gates_from (length (front_of gen))) (sym ps)

module _ {D : Type 0} (seen : D → Option (List ℕ)) (may_leave : D → List ℕ → Type 0) (size : D → ℕ) where
  abbrev pub Tells : TwinState D → Type 0
  Tells t = BothTell seen t.first t.second

  abbrev pub seen_records : TwinState D → List Record
  seen_records t = seen_pair_records seen t.first t.second

  -- the image of what two disks at rest tell
  rest_image : (s : Bool) (gen : Option ℕ) (records : List Record) (first second : D) → all_kept_by None records ≡ true → TwoRest seen
      may_leave s gen records first second → (a b : List ℕ) → seen first ≡ Some a → seen second ≡ Some b → pair_image None a b ≡ Ok records
  rest_image true gen records first second fit two a b is there =
      ap (λ (x : List ℕ). pair_image None x b) (same_Some _ _ (sym is ∙ two.other.0)) ∙ ap (λ (x : List ℕ). pair_image None two.beside x)
      (same_Some _ _ (sym there ∙ two.rests.0)) ∙ twin_image true records two.file two.beside two.twin None fit
  rest_image false gen records first second fit two a b is there =
      ap (λ (x : List ℕ). pair_image None x b) (same_Some _ _ (sym is ∙ two.rests.0)) ∙ ap (λ (x : List ℕ). pair_image None two.file x)
      (same_Some _ _ (sym there ∙ two.other.0)) ∙ twin_image false records two.file two.beside two.twin None fit

  -- a twin whose records are at rest
  pub ready_from : (t : TwinState D) (records : List Record) → t.gate < (if t.second_lives then size t.second else size t.first)
      → IsGeneration t.generation
      → (Tells t → TwoRest seen may_leave t.second_lives t.generation records t.first t.second)
      → (Tells t → all_kept_by None records ≡ true)
      → (Tells t → t.gate ≡ length (front_of t.generation ++ frames (payloads records)))
      → (Tells t → t.gates ≡ gates_from (length (front_of t.generation)) (payloads records)) → IsTwinReady seen may_leave size t
  ready_from t records below sound rests fit place gates =
      let same : Tells t → seen_records t ≡ records =
      λ h. told_two seen may_leave t.second_lives t.generation records t.first t.second (fit h) (rests h) in
      record {
        below = λ _. below;
        sound = sound;
        rests = λ _ h. subst (λ rs. TwoRest seen may_leave t.second_lives t.generation rs t.first t.second) (sym (same h)) (rests h);
        place = λ _ h. place h ∙ ap (λ rs. length (front_of t.generation ++ frames (payloads rs))) (sym (same h));
        gates_are = λ _ h. gates h ∙ ap (λ rs. gates_from (length (front_of t.generation)) (payloads rs)) (sym (same h));
        fit = λ h. subst (λ rs. all_kept_by None rs ≡ true) (sym (same h)) (fit h);
        reads = λ a b is there.
            let one : is_some (seen t.first) ≡ true = rw is refl in
            let other : is_some (seen t.second) ≡ true = rw there refl in
            rest_image t.second_lives t.generation records t.first t.second (fit (one, other)) (rests (one, other)) a b is there
            ∙ ap Ok (sym (same (one, other)));
      }

  -- a twin that has to be read again
  broken_from : (t : TwinState D) → t.whole ≡ false → IsGeneration t.generation
      → ((a b : List ℕ) → seen t.first ≡ Some a → seen t.second ≡ Some b → (records : List Record) × (all_kept_by None records ≡ true)
      × (pair_image None a b ≡ Ok records)) → IsTwinReady seen may_leave size t
  broken_from t broken sound reads = record {
    below = λ whole. let no_way : false ≡ true = sym broken ∙ whole in absurd cc;
    sound = sound;
    rests = λ whole. let no_way : false ≡ true = sym broken ∙ whole in absurd cc;
    place = λ whole. let no_way : false ≡ true = sym broken ∙ whole in absurd cc;
    gates_are = λ whole. let no_way : false ≡ true = sym broken ∙ whole in absurd cc;
    fit = λ h.
        let a = told_of (seen t.first) h.0 in
        let b = told_of (seen t.second) h.1 in
        let r = reads a.0 b.0 a.1 b.1 in
        subst (λ rs. all_kept_by None rs ≡ true) (sym (told_pair (seen t.first) (seen t.second) a.0 b.0 r.0 a.1 b.1 r.2)) r.1;
    reads = λ a b is there. let r = reads a b is there in r.2 ∙ ap Ok (sym (told_pair (seen t.first) (seen t.second) a b r.0 is there r.2));
  }

  module _ (old t : TwinState D) (ready : IsTwinReady seen may_leave size old) (first_tells : is_some (seen t.first)
      ≡ is_some (seen old.first)) (second_tells : is_some (seen t.second) ≡ is_some (seen old.second)) where
    both : (a b : List ℕ) → seen t.first ≡ Some a → seen t.second ≡ Some b → Tells old
    both a b is there =
        let one : is_some (seen t.first) ≡ true = rw is refl in
        let other : is_some (seen t.second) ≡ true = rw there refl in
        (sym first_tells ∙ one, sym second_tells ∙ other)

    -- after a change that failed
    module _ (moment : D → ℕ) (left_since : D → ℕ → List ℕ → Type 0)
        (counts_now : (disk : D) (n : ℕ) (c : List ℕ) → n ≤ moment disk → may_leave disk c → left_since disk n c)
        (told_is_left : (disk : D) (file : List ℕ) → seen disk ≡ Some file → may_leave disk file) (new : List Record)
        (fit : Tells old → all_kept_by None new ≡ true)
        (leaves : Tells old → LeavesTwo moment left_since old.first old.second t.first t.second (seen_records old) new) where
      either : (a b : List ℕ) → seen t.first ≡ Some a → seen t.second ≡ Some b
          → (pair_image None a b ≡ Ok (seen_records old)) ⊎ (pair_image None a b ≡ Ok new)
      either a b is there =
          let h = both a b is there in
          ⊎_elim (λ i. inl (i None (ready.fit h))) (λ i. inr (i None (fit h)))
          ((leaves h).each a b (counts_now t.first (moment old.first) a (leaves h).first_later (told_is_left t.first a is))
          (counts_now t.second (moment old.second) b (leaves h).second_later (told_is_left t.second b there)))

      pub failed_so : t.whole ≡ false → IsGeneration t.generation → IsTwinReady seen may_leave size t
      failed_so broken sound = broken_from t broken sound (λ a b is there.
          let h = both a b is there in ⊎_elim (λ i. (seen_records old, ready.fit h, i)) (λ i. (new, fit h, i)) (either a b is there))

      pub either_told : Tells old → (seen_records t ≡ seen_records old) ⊎ (seen_records t ≡ new)
      either_told h =
          let a = told_of (seen t.first) (first_tells ∙ h.0) in
          let b = told_of (seen t.second) (second_tells ∙ h.1) in
          ⊎_elim (λ i. inl (told_pair (seen t.first) (seen t.second) a.0 b.0 (seen_records old) a.1 b.1 i))
          (λ i. inr (told_pair (seen t.first) (seen t.second) a.0 b.0 new a.1 b.1 i)) (either a.0 b.0 a.1 b.1)

    -- after a reading that failed
    pub unread_so : ((a b c d : List ℕ) → seen old.first ≡ Some a → seen old.second ≡ Some b → seen t.first ≡ Some c
        → seen t.second ≡ Some d → SamePair c d a b) → t.whole ≡ false → IsGeneration t.generation → IsTwinReady seen may_leave size t
    unread_so same broken sound =
        broken_from t broken sound (λ c d is there.
        let h = both c d is there in
        let a = told_of (seen old.first) h.0 in
        let b = told_of (seen old.second) h.1 in
        (seen_records old, ready.fit h, same a.0 b.0 c d a.1 b.1 is there None ∙ ready.reads a.0 b.0 a.1 b.1))

  -- a disk that nothing was written to
  live_still : (old new : D) (file : List ℕ) → IsUnwritten seen may_leave size old new → IsLive seen may_leave old file
      → IsLive seen may_leave new file
  live_still old new file same live = (same.same_bytes ∙ live.0, λ c left. live.1 c (same.crash c left))

  two_still : (s : Bool) (gen : Option ℕ) (records : List Record) (first second new_first new_second : D)
      → IsUnwritten seen may_leave size first new_first → IsUnwritten seen may_leave size second new_second
      → TwoRest seen may_leave s gen records first second → TwoRest seen may_leave s gen records new_first new_second
  two_still true gen records first second new_first new_second one other two = record {
    file = two.file;
    beside = two.beside;
    rests = live_still second new_second two.file other two.rests;
    other = live_still first new_first two.beside one two.other;
    twin = two.twin;
    gen_is = two.gen_is;
  }
  two_still false gen records first second new_first new_second one other two = record {
    file = two.file;
    beside = two.beside;
    rests = live_still first new_first two.file one two.rests;
    other = live_still second new_second two.beside other two.other;
    twin = two.twin;
    gen_is = two.gen_is;
  }

  -- a twin to whose disks nothing was written
  pub ready_still : (t : TwinState D) (first second : D) → IsTwinReady seen may_leave size t → IsUnwritten seen may_leave size t.first first
      → IsUnwritten seen may_leave size t.second second
      → IsTwinReady seen may_leave size (record {
        first = first;
        second = second;
        second_lives = t.second_lives;
        generation = t.generation;
        gates = t.gates;
        gate = t.gate;
        whole = t.whole;
        faults = t.faults;
      })
  ready_still t first second ready one other =
      let same : seen_records t ≡ seen_pair_records seen first second =
      sym (ap (λ o. pair_records o (seen second)) one.same_bytes ∙ ap (λ o. pair_records (seen t.first) o) other.same_bytes) in
      let tells : BothTell seen first second → Tells t =
      λ h. (sym (ap is_some one.same_bytes) ∙ h.0, sym (ap is_some other.same_bytes) ∙ h.1) in
      record {
        below = λ whole. subst (λ n. t.gate < (if t.second_lives then n else size first)) (sym other.same_size)
            (subst (λ n. t.gate < (if t.second_lives then size t.second else n)) (sym one.same_size) (ready.below whole));
        sound = ready.sound;
        rests = λ whole h. subst (λ rs. TwoRest seen may_leave t.second_lives t.generation rs first second) same
            (two_still t.second_lives t.generation (seen_records t) t.first t.second first second one other (ready.rests whole (tells h)));
        place = λ whole h. ready.place whole (tells h) ∙ ap (λ rs. length (front_of t.generation ++ frames (payloads rs))) same;
        gates_are = λ whole h. ready.gates_are whole (tells h) ∙ ap (λ rs. gates_from (length (front_of t.generation)) (payloads rs)) same;
        fit = λ h. subst (λ rs. all_kept_by None rs ≡ true) same (ready.fit (tells h));
        reads = λ a b is there. ready.reads a b (sym one.same_bytes ∙ is) (sym other.same_bytes ∙ there) ∙ ap Ok same;
      }

  -- two disks that were read
  pub rest_read : (k : Option Kind) (live : Live) (found : Found) (first second : D) → PairRests seen may_leave k live found first second
      → TwoRest seen may_leave live.second live.generation found.records.items first second
  rest_read k live found first second r =
      record { file = r.file; beside = r.beside; rests = r.rests; other = r.other; twin = r.twin; gen_is = r.gen }

  module _ (k : Option Kind) (live : Live) (found : Found) (old_first old_second first second : D)
      (first_tells : is_some (seen first) ≡ is_some (seen old_first)) (second_tells : is_some (seen second) ≡ is_some (seen old_second))
      (read : (a b : List ℕ) → seen old_first ≡ Some a → seen old_second ≡ Some b
      → PairRests seen may_leave k live found first second) where
    read_both : BothTell seen first second → PairRests seen may_leave k live found first second
    read_both h =
        let a = told_of (seen old_first) (sym first_tells ∙ h.0) in
        let b = told_of (seen old_second) (sym second_tells ∙ h.1) in
        read a.0 b.0 a.1 b.1

    pub read_ready : (faults : ℕ) → found.gate < (if live.second then size second else size first) → IsGeneration live.generation
        → all_kept_by None found.records.items ≡ true
        → IsTwinReady seen may_leave size (record {
          first = first;
          second = second;
          second_lives = live.second;
          generation = live.generation;
          gates = found.gates.items;
          gate = found.gate;
          whole = true;
          faults = faults;
        })
    read_ready faults below sound fit = ready_from (record {
      first = first;
      second = second;
      second_lives = live.second;
      generation = live.generation;
      gates = found.gates.items;
      gate = found.gate;
      whole = true;
      faults = faults;
    }) found.records.items below sound (λ h. rest_read k live found first second (read_both h)) (λ _. fit)
        (λ h. let r = read_both h in r.read.gate ∙ ap (λ g. length (front_of g ++ frames (payloads found.records.items))) (sym r.gen))
        (λ h. let r = read_both h in r.read.gates ∙ ap (λ g. gates_from (length (front_of g)) (payloads found.records.items)) (sym r.gen))

  -- where a gate is
  pub twin_place : (t : TwinState D) (i place : ℕ) → IsTwinReady seen may_leave size t → i < length t.gates → place ≡ slice_index t.gates i
      → t.whole ≡ true → Tells t → place ≡ length (front_of t.generation ++ frames (payloads (take i (seen_records t))))
  twin_place t i place ready within got whole h =
      let is = ready.gates_are whole h in
      got ∙ ap (λ gs. slice_index gs i) is ∙ gate_at (length (front_of t.generation)) i (seen_records t)
      (subst (λ gs. i < length gs) is within) ∙ sym (length-append (front_of t.generation) (frames (payloads (take i (seen_records t)))))

  -- whether it has no record
  pub twin_has_none : (t : TwinState D) (single : Bool) → IsTwinReady seen may_leave size t → single ≡ (length t.gates == 1)
      → t.whole ≡ true → Tells t → single ≡ not (has_some (seen_records t))
  twin_has_none t single ready got whole h =
      got ∙ ap (λ (gs : List ℕ). length gs == 1) (ready.gates_are whole h) ∙ is_single (length (front_of t.generation)) (seen_records t)

module _ {D : Type 0} (may_leave : D → List ℕ → Type 0) (moment : D → ℕ) (left_since : D → ℕ → List ℕ → Type 0) where
  -- what a crash leaves while two disks are read
  pub leaves_same : (first second new_first new_second : D) → LeavesOnly moment left_since first new_first (IsLeftOr (may_leave first))
      → LeavesOnly moment left_since second new_second (may_leave second)
      → LeavesSame may_leave moment left_since first second new_first new_second
  leaves_same first second new_first new_second one other = record {
    first_later = one.later;
    second_later = other.later;
    each = λ a b left there. let d = one.each a left in (d.0, b, d.1, other.each b there, same_pair a d.0 b d.2);
  }
