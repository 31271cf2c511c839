-- Which numbers of clients a client table knows to be used.
use Rattle.std.proofs.Common.{inl, inr, ap, sym, subst, ◌∙◌, arith}
use Rattle.std.proofs.lemmas.Bool.{cases_Bool, and_parts, eqb-true, both_ways}
use Rattle.std.proofs.lemmas.Bool.Decides.{nat_tests}
use Rattle.std.proofs.lemmas.List.Folds.{list_any-append}
use Rattle.cx_base.specs.Prelude.{◌≡◌, ◌⊎◌, ℕ, ◌+◌, Bool, true, false, not, ◌&&◌, ◌||◌, List, [], ◌∷◌, ◌++◌, refl, ◌==◌, nat_le, nat_lt}
use Rattle.cx_base.specs.Prelude.{max, None, list_any, overtakes, Table, are_rising, comes_before, floor_of, is_answer_of, is_done}
use Rattle.cx_base.specs.Prelude.{is_answer_done, is_used, still_noted, with_answer, with_floor, with_note, with_told}
use Rattle.cx_base.specs.declared.command.Answered.{Answered}
use Rattle.cx_base.specs.declared.command.Command.{Command}
use Rattle.cx_base.specs.declared.command.Floor.{Floor}
use Rattle.cx_base.specs.declared.command.Reply.{Reply}

-- Booleans

pub or_false : (b : Bool) → (b || false) ≡ b
or_false true = refl
or_false false = refl

and_not_true : (a : Bool) → (a && false) ≡ false
and_not_true true = refl
and_not_true false = refl

told_or : (d n q : Bool) → ((d || q) || (n && not q)) ≡ ((d || n) || q)
told_or true n q = refl
told_or false true true = refl
told_or false true false = refl
told_or false false true = refl
told_or false false false = refl

own_or : (u own q : Bool) → ((u || own) || q) ≡ (u || (own || q))
own_or true own q = refl
own_or false own q = refl

spread : (same own q : Bool) → (same && (own || q)) ≡ ((same && own) || (same && q))
spread true own q = refl
spread false own q = refl

-- floors

pub same_client : (a x y : ℕ) (b : Bool) → x ≡ y → (y == a) ≡ b → (x == a) ≡ b
same_client a x y b e h = rw e h

pub turned_test : (a b : ℕ) → (a == b) ≡ (b == a)
turned_test a b = grind (arith, nat_tests)

-- a client before all of these has told none
none_rising : (client n : ℕ) (floors : List Floor) → are_rising n floors ≡ true → nat_lt client n ≡ true → floor_of client floors ≡ None
none_rising client n [] h l = refl
none_rising client n (f ∷ floors) h l =
    let p = and_parts (nat_le n f.client) (are_rising (f.client + 1) floors) h in
    let least = p.0 in
    let apart : (f.client == client) ≡ false = grind (arith, nat_tests, least, l) in
    let after : nat_lt client (f.client + 1) ≡ true = grind (arith, nat_tests, least, l) in
    rw apart (none_rising client (f.client + 1) floors p.1 after)

pub still_rising : (client floor n : ℕ) (floors : List Floor) → are_rising n floors ≡ true → nat_le n client ≡ true
    → are_rising n (with_floor client floor floors) ≡ true
still_rising client floor n [] h l = rw l refl
still_rising client floor n (f ∷ floors) h l = go (cases_Bool (f.client == client)) (cases_Bool (nat_lt client f.client))
    (and_parts (nat_le n f.client) (are_rising (f.client + 1) floors) h) (still_rising client floor (f.client + 1) floors)
  where
    go : ((f.client == client) ≡ true) ⊎ ((f.client == client) ≡ false) → (nat_lt client f.client ≡ true) ⊎ (nat_lt client f.client ≡ false)
        → (nat_le n f.client ≡ true) × (are_rising (f.client + 1) floors ≡ true) → (are_rising (f.client + 1) floors ≡ true
        → nat_le (f.client + 1) client ≡ true → are_rising (f.client + 1) (with_floor client floor floors) ≡ true)
        → are_rising n (with_floor client floor (f ∷ floors)) ≡ true
    go (inl s) t p more = (let rest : are_rising (client + 1) floors ≡ true =
        subst (λ (k : ℕ). are_rising (k + 1) floors ≡ true) (eqb-true f.client client s) p.1 in rw (s, l, rest) refl)
    go (inr s) (inl t) p more =
        (let next : nat_le (client + 1) f.client ≡ true = grind (arith, nat_tests, t) in rw (s, t, l, next, p.1) refl)
    go (inr s) (inr t) p more =
        (let next : nat_le (f.client + 1) client ≡ true = grind (arith, nat_tests, s, t) in rw (s, t, p.0, more p.1 next) refl)

pub none_placed : (client : ℕ) (f : Floor) (floors : List Floor) → (f.client == client) ≡ false → nat_lt client f.client ≡ true
    → are_rising (f.client + 1) floors ≡ true → floor_of client (f ∷ floors) ≡ None
none_placed client f floors s t h = (let after : nat_lt client (f.client + 1) ≡ true = grind (arith, nat_tests, t) in rw s
    (none_rising client (f.client + 1) floors h after))

done_with : (client floor n : ℕ) (floors : List Floor) → are_rising n floors ≡ true → (k m : ℕ)
    → is_done m (floor_of k (with_floor client floor floors)) ≡ (is_done m (floor_of k floors) || (client == k && nat_le m floor))
done_with client floor n [] r k m = go (cases_Bool (client == k))
  where
    go : ((client == k) ≡ true) ⊎ ((client == k) ≡ false)
        → is_done m (floor_of k (with_floor client floor [])) ≡ (client == k && nat_le m floor)
    go (inl e) = rw e refl
    go (inr e) = rw e refl
done_with client floor n (f ∷ floors) r k m = go (cases_Bool (f.client == client)) (cases_Bool (nat_lt client f.client))
    (cases_Bool (client == k)) (cases_Bool (f.client == k)) (done_with client floor (f.client + 1) floors rest k m)
  where
    rest : are_rising (f.client + 1) floors ≡ true
    rest = (and_parts (nat_le n f.client) (are_rising (f.client + 1) floors) r).1

    greater : nat_le m (max f.floor floor) ≡ (nat_le m f.floor || nat_le m floor)
    greater = grind (arith, nat_tests)

    go : ((f.client == client) ≡ true) ⊎ ((f.client == client) ≡ false) → (nat_lt client f.client ≡ true) ⊎ (nat_lt client f.client ≡ false)
        → ((client == k) ≡ true) ⊎ ((client == k) ≡ false) → ((f.client == k) ≡ true) ⊎ ((f.client == k) ≡ false)
        → is_done m (floor_of k (with_floor client floor floors)) ≡ (is_done m (floor_of k floors) || (client == k && nat_le m floor))
        → is_done m (floor_of k (with_floor client floor (f ∷ floors)))
        ≡ (is_done m (floor_of k (f ∷ floors)) || (client == k && nat_le m floor))
    go (inl s) b (inl t) u h = rw (s, t, same_client k f.client client true (eqb-true f.client client s) t) greater
    go (inl s) b (inr t) u h =
        rw (s, t, same_client k f.client client false (eqb-true f.client client s) t) (sym (or_false (is_done m (floor_of k floors))))
    go (inr s) (inl b) (inl t) u h =
        let none : floor_of k (f ∷ floors) ≡ None =
        subst (λ (x : ℕ). floor_of x (f ∷ floors) ≡ None) (eqb-true client k t) (none_placed client f floors s b rest) in
        rw (s, b, none, t) refl
    go (inr s) (inl b) (inr t) u h = rw (s, b, t) (sym (or_false (is_done m (floor_of k (f ∷ floors)))))
    go (inr s) (inr b) (inl t) (inl u) h =
        absurd (both_ways (f.client == client) s (same_client client f.client k true (eqb-true f.client k u) (turned_test k client ∙ t)))
    go (inr s) (inr b) (inr t) (inl u) h = rw (s, b, t, u) (sym (or_false (nat_le m f.floor)))
    go (inr s) (inr b) t (inr u) h = rw (s, b, u) h

-- answers

any_more : (k n : ℕ) (a : Answered) (notes : List Answered)
    → list_any (is_answer_of k n) (with_note a notes) ≡ (list_any (is_answer_of k n) notes || is_answer_of k n a)
any_more k n a [] = or_false (is_answer_of k n a)
any_more k n a (b ∷ notes) = go (cases_Bool (comes_before a b)) (any_more k n a notes)
  where
    turned : (p q r : Bool) → (p || (q || r)) ≡ ((q || r) || p)
    turned true true r = refl
    turned true false true = refl
    turned true false false = refl
    turned false true r = refl
    turned false false true = refl
    turned false false false = refl

    go : (comes_before a b ≡ true) ⊎ (comes_before a b ≡ false)
        → list_any (is_answer_of k n) (with_note a notes) ≡ (list_any (is_answer_of k n) notes || is_answer_of k n a)
        → list_any (is_answer_of k n) (with_note a (b ∷ notes))
        ≡ ((is_answer_of k n b || list_any (is_answer_of k n) notes) || is_answer_of k n a)
    go (inl e) h = rw e (turned (is_answer_of k n a) (is_answer_of k n b) (list_any (is_answer_of k n) notes))
    go (inr e) h = rw (e, h) (sym (own_or (is_answer_of k n b) (list_any (is_answer_of k n) notes) (is_answer_of k n a)))

-- an answer that a client isn't done with stays, and so does every other client's
any_still : (client floor : ℕ) (notes : List Answered) (k n : ℕ) → list_any (is_answer_of k n) (still_noted client floor notes)
    ≡ (list_any (is_answer_of k n) notes && not (client == k && nat_le n floor))
any_still client floor [] k n = refl
any_still client floor (a ∷ notes) k n =
    go (cases_Bool (is_answer_of k n a)) (cases_Bool (is_answer_done client floor a)) (any_still client floor notes k n)
  where
    -- whether the client is done with an answer to this very number
    own : is_answer_of k n a ≡ true → is_answer_done client floor a ≡ (client == k && nat_le n floor)
    own e =
        let p = and_parts (a.client == k) (a.seq == n) e in
        rw (eqb-true a.client k p.0, eqb-true a.seq n p.1) (ap (λ b. b && nat_le n floor) (turned_test k client))

    go : (is_answer_of k n a ≡ true) ⊎ (is_answer_of k n a ≡ false)
        → (is_answer_done client floor a ≡ true) ⊎ (is_answer_done client floor a ≡ false)
        → list_any (is_answer_of k n) (still_noted client floor notes)
        ≡ (list_any (is_answer_of k n) notes && not (client == k && nat_le n floor))
        → list_any (is_answer_of k n) (still_noted client floor (a ∷ notes))
        ≡ ((is_answer_of k n a || list_any (is_answer_of k n) notes) && not (client == k && nat_le n floor))
    go (inl e) (inl s) h =
        let t : (client == k && nat_le n floor) ≡ true = sym (own e) ∙ s in
        let none : (list_any (is_answer_of k n) notes && not (client == k && nat_le n floor)) ≡ false =
        rw t (and_not_true (list_any (is_answer_of k n) notes)) in
        rw (s, e, t) (h ∙ none)
    go (inl e) (inr s) h = let t : (client == k && nat_le n floor) ≡ false = sym (own e) ∙ s in rw (s, e, t) refl
    go (inr e) (inl s) h = rw (s, e) h
    go (inr e) (inr s) h = rw (s, e) h

-- which numbers are used

used_told : (client floor : ℕ) (t : Table) → are_rising 0 t.floors ≡ true → (k n : ℕ)
    → is_used k n (with_told client floor t) ≡ (is_used k n t || (client == k && nat_le n floor))
used_told client floor t r k n =
    rw (done_with client floor 0 t.floors r k n, any_still client floor t.notes k n)
    (told_or (is_done n (floor_of k t.floors)) (list_any (is_answer_of k n) t.notes) (client == k && nat_le n floor))

used_answer : (a : Answered) (floor : ℕ) (t : Table) → are_rising 0 t.floors ≡ true → (k n : ℕ)
    → is_used k n (with_answer a floor t) ≡ (is_used k n t || (is_answer_of k n a || (a.client == k && nat_le n floor)))
used_answer a floor t r k n =
    used_told a.client floor (record t { notes = with_note a t.notes }) r k n
    ∙ ap (λ b. (is_done n (floor_of k t.floors) || b) || (a.client == k && nat_le n floor)) (any_more k n a t.notes)
    ∙ grouped (is_done n (floor_of k t.floors)) (list_any (is_answer_of k n) t.notes) (is_answer_of k n a) (a.client == k && nat_le n floor)
  where
    grouped : (d n own q : Bool) → ((d || (n || own)) || q) ≡ ((d || n) || (own || q))
    grouped true n own q = refl
    grouped false true own q = refl
    grouped false false own q = refl

-- The table knows what commands have used: then it does after one command more, whose answer is noted, or whose number was used already.
module _ (before : List Command) (t : Table) (c : Command) (rising : are_rising 0 t.floors ≡ true)
    (knows : (k n : ℕ) → list_any (overtakes k n) before ≡ is_used k n t) where
  any_behind : (k n : ℕ) → list_any (overtakes k n) (before ++ c ∷ [])
      ≡ (is_used k n t || ((c.client == k && c.seq == n) || (c.client == k && nat_le n c.floor)))
  any_behind k n =
      list_any-append (overtakes k n) before (c ∷ [])
      ∙ ap (λ b. list_any (overtakes k n) before || b) (or_false (overtakes k n c) ∙ spread (c.client == k) (c.seq == n) (nat_le n c.floor))
      ∙ ap (λ b. b || ((c.client == k && c.seq == n) || (c.client == k && nat_le n c.floor))) (knows k n)

  pub used_noted : (at : ℕ) (reply : Reply) (k n : ℕ) → list_any (overtakes k n) (before ++ c ∷ [])
      ≡ is_used k n (with_answer (record { client = c.client; seq = c.seq; at = at; reply = reply }) c.floor t)
  used_noted at reply k n =
      any_behind k n ∙ sym (used_answer (record { client = c.client; seq = c.seq; at = at; reply = reply }) c.floor t rising k n)

  pub used_again : is_used c.client c.seq t ≡ true → (k n : ℕ)
      → list_any (overtakes k n) (before ++ c ∷ []) ≡ is_used k n (with_told c.client c.floor t)
  used_again h k n = any_behind k n ∙ own_used (cases_Bool (c.client == k && c.seq == n)) ∙ sym (used_told c.client c.floor t rising k n)
    where
      own_used : ((c.client == k && c.seq == n) ≡ true) ⊎ ((c.client == k && c.seq == n) ≡ false)
          → (is_used k n t || ((c.client == k && c.seq == n) || (c.client == k && nat_le n c.floor)))
          ≡ (is_used k n t || (c.client == k && nat_le n c.floor))
      own_used (inl e) =
          let p = and_parts (c.client == k) (c.seq == n) e in
          let u : is_used k n t ≡ true = subst (λ (x : ℕ). is_used x n t ≡ true) (eqb-true c.client k p.0)
          (subst (λ (x : ℕ). is_used c.client x t ≡ true) (eqb-true c.seq n p.1) h) in
          rw u refl
      own_used (inr e) = rw e refl

  -- the floors still rise
  pub rising_behind : are_rising 0 (with_floor c.client c.floor t.floors) ≡ true
  rising_behind = (let least : nat_le 0 c.client ≡ true = grind (arith, nat_tests) in still_rising c.client c.floor 0 t.floors rising least)
