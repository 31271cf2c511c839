-- Why a disk in memory meets the laws of a disk.
use Rattle.std.specs.Prelude.{◌≡◌, ℕ, ◌+◌, ◌<◌, ◌^◌, ◌≤◌, Vec, nat_le, Bool, true, false, List, [], ◌∷◌, ◌++◌, length, take, drop, fold}
use Rattle.std.specs.Prelude.{if◌then◌else◌}
use Rattle.std.proofs.Common.{refl, sym, ◌∙◌, ap, subst, arith, inl, inr, length-append, length-drop, append_assoc}
use Rattle.std.proofs.lemmas.Bool.{cases_Bool, cases_lt}
use Rattle.std.proofs.lemmas.List.{take_all, take_at, drop_at, length-take-le, length-take, take-append-le}
use Rattle.std.specs.declared.alloc.Global.{Global}
use borrow.Author.Tests.{leb-true}
use Rattle.cx_disk.specs.Disk.{written, Torn, TornCut, Elapses, IsAfterStep}
use Rattle.cx_disk.specs.MemDisk.{UnsyncedCall, write, cut, UnsyncedGives, DiskState, Reaches, MayLeave, NotedCall, made_write}
use Rattle.cx_disk.specs.MemDisk.{failed_write, made_cut, failed_cut, made_sync, stepped, after, state_at_open, state_after, LeftSince}

-- one step more, at the end
pub reaches-snoc : (from : List ℕ) (steps : List UnsyncedCall) (s : UnsyncedCall) (d c : List ℕ) → Reaches from steps d
    → UnsyncedGives s d c → Reaches from (steps ++ s ∷ []) c
reaches-snoc from [] s d c is step = (c, subst (λ f. UnsyncedGives s f c) is step, refl)
reaches-snoc from (t ∷ later) s d c reaches step = (reaches.0, reaches.1, reaches-snoc reaches.0 later s d c reaches.2 step)

pub reaches-split : (from : List ℕ) (steps : List UnsyncedCall) (s : UnsyncedCall) (c : List ℕ) → Reaches from (steps ++ s ∷ []) c
    → (d : List ℕ) × Reaches from steps d × UnsyncedGives s d c
reaches-split from [] s c reaches = (from, refl, subst (λ f. UnsyncedGives s from f) (sym reaches.2) reaches.1)
reaches-split from (t ∷ later) s c reaches =
    let rest = reaches-split reaches.0 later s c reaches.2 in
    (rest.0, (reaches.0, reaches.1, rest.1), rest.2)

pub torn-same : (at n : ℕ) (file : List ℕ) → Torn at n file file
torn-same at n file = record { before = refl; after = refl; no_shorter = omega arith; no_longer = omega arith }

take-take : (at : ℕ) (file : List ℕ) → take (length (take at file)) file ≡ take at file
take-take at file = elim (cases_lt at (length file)) [
  | inl within ↦ ap (λ n. take n file) (length-take-le at file (omega arith))
  | inr past ↦ let all : take at file ≡ file = take_all at file past in ap (λ l. take (length l) file) all
      ∙ take_all (length file) file (omega arith) ∙ sym all
]

pub torn-written : (at : ℕ) (bytes file : List ℕ) → at ≤ length file → Torn at (length bytes) file (written at bytes file)
torn-written at bytes file within =
    let rest = drop (at + length bytes) file in
    let front : length (take at file) ≡ at = length-take-le at file within in
    let long : length (take at file ++ bytes) ≡ at + length bytes = omega (arith, front, length-append (take at file) bytes) in
    record {
      before = ap (take at) (append_assoc (take at file) bytes rest) ∙ take_at (take at file) (bytes ++ rest) at front;
      after = drop_at (take at file ++ bytes) rest (at + length bytes) long;
      no_shorter = omega (arith, long, length-append (take at file ++ bytes) rest, length-drop (at + length bytes) file);
      no_longer = omega (arith, long, within, length-append (take at file ++ bytes) rest, length-drop (at + length bytes) file);
    }

pub cut-same : (at : ℕ) (file : List ℕ) → TornCut at file file
cut-same at file = record { no_shorter = omega arith; front = take_all (length file) file (omega arith) }

pub cut-done : (at : ℕ) (file : List ℕ) → TornCut at file (take at file)
cut-done at file = record { no_shorter = omega (arith, length-take at file); front = take-take at file }

-- what is seen after a call is one of what a crash may leave then
after-seen : (state : DiskState) (c : NotedCall) → MayLeave state state.seen → MayLeave (after state c) (after state c).seen
after-seen state (made_write at bytes) left =
    elim (cases_Bool (nat_le at (length state.seen))) [
      | inl within ↦ rw within (reaches-snoc state.synced state.steps (write at (length bytes)) state.seen _ left
          (torn-written at bytes state.seen (leb-true _ _ within)))
      | inr past ↦ rw past (reaches-snoc state.synced state.steps (write at (length bytes)) state.seen state.seen left
          (torn-same at (length bytes) state.seen))
    ]
after-seen state (failed_write at len) left =
    reaches-snoc state.synced state.steps (write at len) state.seen state.seen left (torn-same at len state.seen)
after-seen state (made_cut at) left = reaches-snoc state.synced state.steps (cut at) state.seen _ left (cut-done at state.seen)
after-seen state (failed_cut at) left = reaches-snoc state.synced state.steps (cut at) state.seen state.seen left (cut-same at state.seen)
after-seen state made_sync left = refl

pub seen_is_left : (first : List ℕ) (calls : List NotedCall) → MayLeave (state_after first calls) (state_after first calls).seen
seen_is_left first calls = go (state_at_open first) calls refl
  where
    go : (state : DiskState) (cs : List NotedCall) → MayLeave state state.seen → MayLeave (fold after state cs) (fold after state cs).seen
    go state [] left = left
    go state (c ∷ cs) left = go (after state c) cs (after-seen state c left)

pub left_now : (first : List ℕ) (calls : List NotedCall) (t : ℕ) (c : List ℕ) → t ≤ length calls → MayLeave (state_after first calls) c
    → LeftSince first calls t c
left_now first calls t c le now =
    (length calls, le, omega arith, subst (λ cs. MayLeave (state_after first cs) c) (sym (take_all (length calls) calls (omega arith))) now)

pub left_only_now : (first : List ℕ) (calls : List NotedCall) (c : List ℕ) → LeftSince first calls (length calls) c
    → MayLeave (state_after first calls) c
left_only_now first calls c left = subst (λ cs. MayLeave (state_after first cs) c) (take_all left.0 calls left.1) left.3

-- the state after one call more
pub state_after-more : (first : List ℕ) (calls : List NotedCall) (c : NotedCall)
    → state_after first (calls ++ c ∷ []) ≡ after (state_after first calls) c
state_after-more first calls c = go (state_at_open first) calls
  where
    go : (state : DiskState) (cs : List NotedCall) → fold after state (cs ++ c ∷ []) ≡ after (fold after state cs) c
    go state [] = refl
    go state (d ∷ cs) = go (after state d) cs

take-more : (k : ℕ) (calls : List NotedCall) (c : NotedCall) → k ≤ length calls → take k (calls ++ c ∷ []) ≡ take k calls
take-more k calls c le = take-append-le k calls (c ∷ []) le

pub elapses-more : (first : List ℕ) (calls : List NotedCall) (x : NotedCall) → Elapses (length calls) (length (calls ++ x ∷ []))
    (LeftSince first calls) (LeftSince first (calls ++ x ∷ [])) (MayLeave (state_after first (calls ++ x ∷ [])))
elapses-more first calls x = record {
  later = omega (arith, length-append calls (x ∷ []));
  nothing_else = λ t c le left. elim (cases_lt (length calls) left.0) [
    | inl past ↦ inr (subst (λ cs. MayLeave (state_after first cs) c)
        (take_all left.0 (calls ++ x ∷ []) (omega (arith, length-append calls (x ∷ [])))) left.3)
    | inr within ↦ inl (left.0, left.1, within, subst (λ cs. MayLeave (state_after first cs) c) (take-more left.0 calls x within) left.3)
  ];
  keeps = λ t c le left. (
    left.0,
    left.1,
    omega (arith, left.2, length-append calls (x ∷ [])),
    subst (λ cs. MayLeave (state_after first cs) c) (sym (take-more left.0 calls x left.2)) left.3,
  );
}

pub elapses-same : (first : List ℕ) (calls : List NotedCall)
    → Elapses (length calls) (length calls) (LeftSince first calls) (LeftSince first calls) (MayLeave (state_after first calls))
elapses-same first calls = record { later = omega arith; nothing_else = λ t c le left. inl left; keeps = λ t c le left. left }

pub vec_small : (v : Vec ℕ Global) → length v.items < 2 ^ 63
vec_small v = omega (arith, v.ok.0, v.ok.1, v.small)

-- ---- the clauses on a crash

pub torn_more : (first : List ℕ) (calls : List NotedCall) (x : NotedCall) (at n : ℕ) (seen : List ℕ)
    → after (state_after first calls) x ≡ stepped (state_after first calls) seen (write at n)
    → IsAfterStep (Torn at n) (MayLeave (state_after first calls)) (MayLeave (state_after first (calls ++ x ∷ [])))
torn_more first calls x at n seen is =
    λ c left. reaches-split _ _ (write at n) c (subst (λ s. MayLeave s c) (state_after-more first calls x ∙ is) left)

pub cut_more : (first : List ℕ) (calls : List NotedCall) (x : NotedCall) (at : ℕ) (seen : List ℕ)
    → after (state_after first calls) x ≡ stepped (state_after first calls) seen (cut at)
    → IsAfterStep (TornCut at) (MayLeave (state_after first calls)) (MayLeave (state_after first (calls ++ x ∷ [])))
cut_more first calls x at seen is =
    λ c left. reaches-split _ _ (cut at) c (subst (λ s. MayLeave s c) (state_after-more first calls x ∙ is) left)

pub synced_more : (first : List ℕ) (calls : List NotedCall) (c : List ℕ) → MayLeave (state_after first (calls ++ made_sync ∷ [])) c
    → c ≡ (state_after first calls).seen
synced_more first calls c left = subst (λ s. MayLeave s c) (state_after-more first calls made_sync) left

-- ---- the same, of a call that was noted or for which no room was left

module _ (first : List ℕ) (calls now : List NotedCall) (x : NotedCall) (b : Bool) (added : b ≡ true → now ≡ calls ++ x ∷ [])
    (same : b ≡ false → now ≡ calls) where
  by_case : (P : List NotedCall → Type 0) → P (calls ++ x ∷ []) → P calls → P now
  by_case P more less =
      elim (cases_Bool b) [ inl yes_noted ↦ subst P (sym (added yes_noted)) more | inr not_noted ↦ subst P (sym (same not_noted)) less ]

  pub torn_noted : (at n : ℕ) (seen : List ℕ) → after (state_after first calls) x ≡ stepped (state_after first calls) seen (write at n)
      → IsAfterStep (Torn at n) (MayLeave (state_after first calls)) (MayLeave (state_after first now))
  torn_noted at n seen is = by_case (λ cs. IsAfterStep (Torn at n) (MayLeave (state_after first calls)) (MayLeave (state_after first cs)))
      (torn_more first calls x at n seen is) (λ c left. (c, left, torn-same at n c))

  pub cut_noted : (at : ℕ) (seen : List ℕ) → after (state_after first calls) x ≡ stepped (state_after first calls) seen (cut at)
      → IsAfterStep (TornCut at) (MayLeave (state_after first calls)) (MayLeave (state_after first now))
  cut_noted at seen is = by_case (λ cs. IsAfterStep (TornCut at) (MayLeave (state_after first calls)) (MayLeave (state_after first cs)))
      (cut_more first calls x at seen is) (λ c left. (c, left, cut-same at c))

  pub elapses_noted : Elapses (length calls) (length now) (LeftSince first calls) (LeftSince first now) (MayLeave (state_after first now))
  elapses_noted = by_case (λ cs. Elapses (length calls) (length cs) (LeftSince first calls) (LeftSince first cs)
      (MayLeave (state_after first cs))) (elapses-more first calls x) (elapses-same first calls)

  pub write_noted : (at : ℕ) (bytes : List ℕ) → x ≡ made_write at bytes
      → IsAfterStep (Torn at (length bytes)) (MayLeave (state_after first calls)) (MayLeave (state_after first now))
  write_noted at bytes is =
      let state = state_after first calls in
      let seen = if nat_le at (length state.seen) then written at bytes state.seen else state.seen in
      torn_noted at (length bytes) seen (ap (after state) is)

  pub sync_noted : x ≡ made_sync → (c : List ℕ) → MayLeave (state_after first now) c → MayLeave (state_after first calls) c
  sync_noted is =
      by_case (λ cs. (c : List ℕ) → MayLeave (state_after first cs) c → MayLeave (state_after first calls) c)
      (λ c left. subst (MayLeave (state_after first calls)) (sym (synced_more first calls c
      (subst (λ y. MayLeave (state_after first (calls ++ y ∷ [])) c) is left))) (seen_is_left first calls)) (λ c left. left)
