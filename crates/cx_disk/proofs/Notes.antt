-- What is noted stays as it was when more is noted, and what a crash leaves where it fills what was not synced.
use Rattle.std.proofs.Common.{fold}
use Rattle.std.specs.declared.alloc.Global.{Global}
use Rattle.std.proofs.lemmas.List.{length-replicate}
use Rattle.cx_base.proofs.Common.{◌≡◌, ◌+◌, ◌-◌, ◌≤◌, ◌&&◌, ℕ, Bool, true, false, List, [], ◌∷◌, ◌++◌, length, take, drop, refl, sym, ◌∙◌}
use Rattle.cx_base.proofs.Common.{ap, subst, arith, inl, inr, length-append, length-drop, Vec, Result, Ok, Err, IfOk, nat_le, slice_range}
use Rattle.cx_base.proofs.Common.{replicate, drop-append_seam, cases_Bool, nat_tests, take_all, length-take-le, take-append-le}
use Rattle.cx_base.proofs.Common.{drop-append-le, map-append, list_all-append, leb-true}
use Rattle.cx_disk.specs.Disk.{written, Torn}
use Rattle.cx_disk.specs.declared.memory.Call.{Call}
use Rattle.cx_disk.specs.declared.memory.Call.TheVariants as call
use Rattle.cx_disk.specs.MemDisk.{made_write, note_of_call, notes_of_calls, is_within, all_within, DiskState, Reaches, MayLeave, after}
use Rattle.cx_disk.specs.MemDisk.{state_at_open, state_after, UnsyncedCall, write, cut, fill, fill_after, filled}
use Rattle.cx_disk.specs.MemDiskLaws.{reaches-snoc, torn-same, torn-written, cut-same, cut-done}

both_so : (a b : Bool) → (a && b) ≡ true → (a ≡ true) × (b ≡ true)
both_so true b all = (refl, all)
both_so false b all = absurd cc

slice-kept : (from len : ℕ) (flat more : List ℕ) → from + len ≤ length flat
    → slice_range (flat ++ more) from (from + len) ≡ slice_range flat from (from + len)
slice-kept from len flat more within = rw (drop-append-le from flat more (omega (arith, within)))
    (take-append-le (from + len - from) (drop from flat) more (omega (arith, within, length-drop from flat)))

slice-new : (flat bytes : List ℕ) → slice_range (flat ++ bytes) (length flat) (length flat + length bytes) ≡ bytes
slice-new flat bytes = ap (take (length flat + length bytes - length flat)) (drop-append_seam flat bytes)
    ∙ take_all (length flat + length bytes - length flat) bytes (omega arith)

length-slice : (from len : ℕ) (flat : List ℕ) → from + len ≤ length flat → length (slice_range flat from (from + len)) ≡ len
length-slice from len flat within =
    omega (arith, within, length-take-le (from + len - from) (drop from flat) (omega (arith, within, length-drop from flat)))

noted-kept : (flat more : List ℕ) (c : Call) → is_within (length flat) c ≡ true → note_of_call (flat ++ more) c ≡ note_of_call flat c
noted-kept flat more (call.Write at from len) within = ap (made_write at) (slice-kept from len flat more (leb-true _ _ within))
noted-kept flat more (call.WriteFailed at len) within = refl
noted-kept flat more (call.Cut at) within = refl
noted-kept flat more (call.CutFailed at) within = refl
noted-kept flat more call.Sync within = refl

notes-kept : (flat more : List ℕ) (calls : List Call) → all_within (length flat) calls ≡ true
    → notes_of_calls (flat ++ more) calls ≡ notes_of_calls flat calls
notes-kept flat more [] within = refl
notes-kept flat more (c ∷ cs) within =
    let parts = both_so (is_within (length flat) c) (all_within (length flat) cs) within in
    rw (noted-kept flat more c parts.0, notes-kept flat more cs parts.1) refl

within-more : (n m : ℕ) (c : Call) → n ≤ m → is_within n c ≡ true → is_within m c ≡ true
within-more n m (call.Write at from len) le within = let fits = leb-true _ _ within in grind (arith, nat_tests)
within-more n m (call.WriteFailed at len) le within = refl
within-more n m (call.Cut at) le within = refl
within-more n m (call.CutFailed at) le within = refl
within-more n m call.Sync le within = refl

all_within-more : (n m : ℕ) (calls : List Call) → n ≤ m → all_within n calls ≡ true → all_within m calls ≡ true
all_within-more n m [] le within = refl
all_within-more n m (c ∷ cs) le within =
    let parts = both_so (is_within n c) (all_within n cs) within in
    rw (within-more n m c le parts.0, all_within-more n m cs le parts.1) refl

module _ (flat bytes : List ℕ) (calls : List Call) (at : ℕ) (within : all_within (length flat) calls ≡ true) where
  -- a write is noted after the others
  pub write_added : notes_of_calls (flat ++ bytes) (calls ++ call.Write at (length flat) (length bytes) ∷ [])
      ≡ notes_of_calls flat calls ++ made_write at bytes ∷ []
  write_added =
      map-append (λ (c : Call). note_of_call (flat ++ bytes) c) calls (call.Write at (length flat) (length bytes) ∷ [])
      ∙ ap (λ ns. ns ++ made_write at (slice_range (flat ++ bytes) (length flat) (length flat + length bytes)) ∷ [])
      (notes-kept flat bytes calls within) ∙ ap (λ b. notes_of_calls flat calls ++ made_write at b ∷ []) (slice-new flat bytes)

  pub write_within : all_within (length (flat ++ bytes)) (calls ++ call.Write at (length flat) (length bytes) ∷ []) ≡ true
  write_within =
      let n = length (flat ++ bytes) in
      let long : length flat + length bytes ≡ n = sym (length-append flat bytes) in
      let one : nat_le (length flat + length bytes) n ≡ true = grind (arith, nat_tests) in
      list_all-append (λ (c : Call). is_within n c) calls (call.Write at (length flat) (length bytes) ∷ [])
      ∙ rw (all_within-more (length flat) n calls (omega (arith, long)) within, one) refl

-- ---- what was not synced, filled

fill-leaves : (at n : ℕ) (from : List ℕ) (state : DiskState) (file : List ℕ) → Reaches from state.steps file
    → Reaches from (state.steps ++ write at n ∷ []) (fill at n file)
fill-leaves at n from state file left = elim (cases_Bool (nat_le at (length file))) [
  | inl within ↦
      let new = written at (replicate n 255) file in
      let torn : Torn at n file new =
      subst (λ (m : ℕ). Torn at m file new) (length-replicate n 255) (torn-written at (replicate n 255) file (leb-true _ _ within)) in
      rw within (reaches-snoc from state.steps (write at n) file new left torn)
  | inr past ↦ rw past (reaches-snoc from state.steps (write at n) file file left (torn-same at n file))
]

filled-leaves : (flat from : List ℕ) (calls : List Call) (state : DiskState) (file : List ℕ) → all_within (length flat) calls ≡ true
    → Reaches from state.steps file → Reaches from (fold after state (notes_of_calls flat calls)).steps (fold (fill_after from) file calls)
filled-leaves flat from [] state file within left = left
filled-leaves flat from (call.Write at start len ∷ cs) state file within left =
    let parts = both_so (nat_le (start + len) (length flat)) (all_within (length flat) cs) within in
    let long : length (slice_range flat start (start + len)) ≡ len = length-slice start len flat (leb-true _ _ parts.0) in
    filled-leaves flat from cs (after state (made_write at (slice_range flat start (start + len)))) (fill at len file) parts.1
    (subst (λ n. Reaches from (state.steps ++ write at n ∷ []) (fill at len file)) (sym long) (fill-leaves at len from state file left))
filled-leaves flat from (call.WriteFailed at len ∷ cs) state file within left = filled-leaves flat from cs
    (after state (note_of_call flat (call.WriteFailed at len))) (fill at len file) within (fill-leaves at len from state file left)
filled-leaves flat from (call.Cut at ∷ cs) state file within left =
    filled-leaves flat from cs (after state (note_of_call flat (call.Cut at))) (take at file) within
    (reaches-snoc from state.steps (cut at) file _ left (cut-done at file))
filled-leaves flat from (call.CutFailed at ∷ cs) state file within left =
    filled-leaves flat from cs (after state (note_of_call flat (call.CutFailed at))) file within
    (reaches-snoc from state.steps (cut at) file file left (cut-same at file))
filled-leaves flat from (call.Sync ∷ cs) state file within left =
    filled-leaves flat from cs (after state (note_of_call flat call.Sync)) from within refl

-- what was synced last is one of what may be left
lost-leaves : (from : List ℕ) (steps : List UnsyncedCall) → Reaches from steps from
lost-leaves from [] = refl
lost-leaves from (write at n ∷ later) = (from, torn-same at n from, lost-leaves from later)
lost-leaves from (cut at ∷ later) = (from, cut-same at from, lost-leaves from later)

module _ (first flat synced : List ℕ) (calls : List Call) (keeps : synced ≡ (state_after first (notes_of_calls flat calls)).synced) where
  pub lost_left : MayLeave (state_after first (notes_of_calls flat calls)) synced
  lost_left = subst (λ from. Reaches from (state_after first (notes_of_calls flat calls)).steps synced) keeps
      (lost-leaves synced (state_after first (notes_of_calls flat calls)).steps)

  pub filled_left : all_within (length flat) calls ≡ true → MayLeave (state_after first (notes_of_calls flat calls)) (filled synced calls)
  filled_left within = subst (λ from. Reaches from (state_after first (notes_of_calls flat calls)).steps (filled synced calls)) keeps
      (filled-leaves flat synced calls (state_at_open first) synced within refl)

-- a copy of bytes that have a fact
pub ok_has : {E : Type 0} (P : List ℕ → Type 0) (file : List ℕ) (r : Result (Vec ℕ Global) E) → IfOk r (λ v. v.items ≡ file) → P file
    → IfOk r (λ v. P v.items)
ok_has P file (Ok v) is has = subst P (sym is) has
ok_has P file (Err e) is has = tt
