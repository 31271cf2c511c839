-- Which acceptors were counted, and the rows that they make.
use Rattle.cx_role.proofs.Common.{◌≡◌, ℕ, ◌==◌, Bool, ◌&&◌, ◌||◌, false, List, [], ◌∷◌, ◌++◌, refl, ap, sym, ◌∙◌, arith, nat_lt, list_all}
use Rattle.cx_role.proofs.Common.{list_any, list_any-append, nat_tests, is_in, below, Entry, rows_whole, acked_by, has_acked}
use Rattle.cx_model.specs.declared.states.Acked.{Acked}
use Rattle.cx_grid.specs.Quorum.{row_of, with_mark}

-- whole rows depend on which acceptors were counted alone
pub rows_alike : (es : List Entry) (xs ys : List ℕ) → ((id : ℕ) → is_in id xs ≡ is_in id ys)
    → rows_whole es xs ≡ rows_whole es ys
rows_alike es xs ys same =
    λ j. list_all (λ (e : Entry). nat_lt 0 e.grid.cols
    && list_any (λ a. list_all (λ id. same id j) (row_of e.grid a)) (below e.grid.rows)) es

-- a set with one more number has it, and those that it had
in_with_mark : (id n : ℕ) (ms : List ℕ) → is_in id (with_mark n ms) ≡ ((n == id) || is_in id ms)
in_with_mark id n [] = refl
in_with_mark id n (m ∷ ms) = grind (arith, nat_tests, in_with_mark id n ms)

-- one more is counted
pub acked_more : (ms : List ℕ) (acks : List Acked) (a : Acked) → ((id : ℕ) → is_in id ms ≡ has_acked id acks) → (id : ℕ)
    → is_in id (with_mark a.acceptor ms) ≡ has_acked id (acks ++ a ∷ [])
acked_more ms acks a same id =
    let last : (b c : Bool) → (b || c) ≡ (c || (b || false)) = λ b c. grind (arith, nat_tests) in
    in_with_mark id a.acceptor ms ∙ ap (λ (b : Bool). (a.acceptor == id) || b) (same id)
    ∙ last (a.acceptor == id) (has_acked id acks)
    ∙ sym (list_any-append (λ (x : Acked). x.acceptor == id) acks (a ∷ []))

-- whoever was counted is one of those
pub acked_are : (id : ℕ) (acks : List Acked) → has_acked id acks ≡ is_in id (acked_by acks)
acked_are id [] = refl
acked_are id (a ∷ acks) = ap (λ (b : Bool). (a.acceptor == id) || b) (acked_are id acks)
