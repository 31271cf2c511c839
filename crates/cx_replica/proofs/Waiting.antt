-- The map of the reads that wait, as their list.
use Rattle.cx_role.proofs.Common.{◌≡◌, ◌+◌, ℕ, suc, zero, List, [], ◌∷◌, ◌++◌, Bool, true, false, ◌==◌, ◌&&◌, drop, filter, refl, ap}
use Rattle.cx_role.proofs.Common.{nat_lt, Option, Some, arith, list_any, by_test, still_deferred, Deferred, Token}
use Rattle.cx_role.proofs.Common.{Letter, Pair, RoleId, append_assoc, ◌∙◌, nat_le}
use Rattle.std.specs.Prelude.{slice_get, is_some}
use Rattle.std.specs.Map.{lookup}
use Rattle.std.proofs.lemmas.Option.{slice_get-map}
use Rattle.indexmap.specs.IndexMap.{insert_entry}
use Rattle.cx_model.specs.Request.{same_read}
use Rattle.cx_replica.specs.Answering.{answer_at, answers_at}
use Rattle.cx_replica.specs.Waiting.{deferred_by, deferred_number, deferred_question, deferred_in}
use Rattle.cx_replica.specs.declared.deferred.Number.{Number}
use Rattle.cx_replica.specs.declared.deferred.Question.{Question}

-- what `==` of two keys answers
abbrev is_equal_number : Number → Number → Bool
is_equal_number a b = (a.client == b.client) && (a.seq == b.seq)

abbrev Waiting : Type 0
Waiting = List (Number × Question)

drop_suc : {X : Type 0} (xs : List X) (k : ℕ) (x : X) → slice_get xs k ≡ Some x → drop k xs ≡ x ∷ drop (suc k) xs
drop_suc [] k x is = cc
drop_suc (y ∷ ys) zero x is = cc
drop_suc (y ∷ ys) (suc k) x is = drop_suc ys k x is

-- what a list has from a place on begins with what is there
pub drop_next : {X : Type 0} (xs : List X) (k : ℕ) (x : X) → slice_get xs k ≡ Some x → drop k xs ≡ x ∷ drop (k + 1) xs
drop_next xs k x is = let more : k + 1 ≡ suc k = omega arith in rw more (drop_suc xs k x is)

-- an entry's read stands in the entry's place
pub read_at : (es : Waiting) (k : ℕ) (e : Number × Question) → slice_get es k ≡ Some e
    → slice_get (deferred_in es) k ≡ Some (deferred_by e)
read_at es k e is = rw (slice_get-map deferred_by es k, is) refl

-- a key finds what some read has
pub found : (t : Token) (es : Waiting)
    → is_some (lookup (is_equal_number (deferred_number t)) es) ≡ list_any (λ (r : Deferred). same_read t r.token) (deferred_in es)
found t [] = refl
found t (e ∷ es) =
    by_test (λ (o : Option Question). is_some o ≡ list_any (λ (r : Deferred). same_read t r.token) (deferred_in (e ∷ es)))
    (is_equal_number (deferred_number t) e.0) _ _ (λ same. rw same refl) (λ other. rw other (found t es))

-- a new read goes last
pub pushed : (r : Deferred) (es : Waiting) → list_any (λ (other : Deferred). same_read r.token other.token) (deferred_in es) ≡ false
    → deferred_in (insert_entry is_equal_number es (deferred_number r.token) (deferred_question r)) ≡ deferred_in es ++ r ∷ []
pushed r [] new = refl
pushed r (e ∷ es) new =
    let here : same_read r.token (deferred_by e).token ≡ false = grind arith in
    let later : list_any (λ (other : Deferred). same_read r.token other.token) (deferred_in es) ≡ false = grind arith in
    rw here (ap (λ (rs : List Deferred). deferred_by e ∷ rs) (pushed r es later))

-- those that wait for more slots than are held
pub left_waiting : (held : ℕ) (es : Waiting)
    → deferred_in (filter (λ (e : Number × Question). nat_lt held e.1.mark) es) ≡ still_deferred held (deferred_in es)
left_waiting held [] = refl
left_waiting held (e ∷ es) =
    by_test (λ (left : Waiting). deferred_in left ≡ still_deferred held (deferred_in (e ∷ es))) (nat_lt held e.1.mark) _ _
    (λ later. rw later (ap (λ (rs : List Deferred). deferred_by e ∷ rs) (left_waiting held es)))
    (λ now. rw now (left_waiting held es))

-- a read that is answered, and those behind it
pub answered_more : (me : RoleId) (held : ℕ) (pairs : List Pair) (r : Deferred) (rest : List Deferred) (before after all : List Letter)
    → nat_le r.mark held ≡ true → after ≡ before ++ answer_at me held pairs r ∷ []
    → before ++ answers_at me held pairs (r ∷ rest) ≡ all → after ++ answers_at me held pairs rest ≡ all
answered_more me held pairs r rest before after all now is whole =
    rw is (append_assoc before (answer_at me held pairs r ∷ []) (answers_at me held pairs rest) ∙ rw now at whole)

-- one that waits on
pub answered_none : (me : RoleId) (held : ℕ) (pairs : List Pair) (r : Deferred) (rest : List Deferred) (before after all : List Letter)
    → nat_le r.mark held ≡ false → after ≡ before → before ++ answers_at me held pairs (r ∷ rest) ≡ all
    → after ++ answers_at me held pairs rest ≡ all
answered_none me held pairs r rest before after all later is whole = rw is (rw later at whole)
