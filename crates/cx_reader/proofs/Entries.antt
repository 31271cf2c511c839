-- The map of reads that were asked for, as their list.
use Rattle.cx_role.proofs.Common.{◌≡◌, ◌+◌, ℕ, suc, zero, List, [], ◌∷◌, ◌++◌, Bool, true, false, not, ◌==◌, ◌&&◌, drop, length}
use Rattle.cx_role.proofs.Common.{refl, ap, sym, subst}
use Rattle.cx_role.proofs.Common.{Option, Some, None, arith, nat_tests, list_any-append, list_all-append, by_test, and_parts}
use Rattle.cx_role.proofs.Common.{Asked, Batch, Token, ◌∙◌}
use Rattle.std.specs.Prelude.{slice_get, is_some}
use Rattle.std.proofs.lemmas.Bool.{true≢false}
use Rattle.std.specs.List.{AllByRecursion, IsDistinct}
use Rattle.std.specs.Map.{keys_of, lookup}
use Rattle.std.proofs.lemmas.Bool.{eqb-true}
use Rattle.std.proofs.lemmas.Map.Keys.{IsDistinct-head, IsDistinct-tail}
use Rattle.std.proofs.lemmas.Option.{slice_get-map}
use Rattle.indexmap.specs.IndexMap.{insert_entry}
use Rattle.cx_field.specs.Fields.{token}
use Rattle.cx_model.specs.Reader.{is_among, is_first, with_asked}
use Rattle.cx_model.specs.Request.{same_read}
use Rattle.cx_reader.specs.Reads.{are_in_range, entry_read, read_number, read_question, entry_reads, token_by}
use Rattle.cx_reader.specs.Running.{are_apart, are_once, running_reads}
use Rattle.cx_reader.specs.declared.reads.Number.{Number}
use Rattle.cx_reader.specs.declared.reads.Question.{Question}

-- what `==` of two keys answers
abbrev is_equal_number : Number → Number → Bool
is_equal_number a b = (a.client == b.client) && (a.seq == b.seq)

abbrev Entries : Type 0
Entries = List (Number × Question)

-- tokens that are found equal are
same_tokens : (t u : Token) → same_read t u ≡ true → t ≡ u
same_tokens t u same =
    let both = and_parts (t.client == u.client) (t.seq == u.seq) same in
    λ j. record { client = eqb-true t.client u.client both.0 j; seq = eqb-true t.seq u.seq both.1 j }

either_order : (t u : Token) → same_read t u ≡ same_read u t
either_order t u = grind (arith, nat_tests)

drop_suc : {X : Type 0} (xs : List X) (k : ℕ) (x : X) → slice_get xs k ≡ Some x → drop k xs ≡ x ∷ drop (suc k) xs
drop_suc [] k x is = cc
drop_suc (y ∷ ys) zero x is = cc
drop_suc (y ∷ ys) (suc k) x is = drop_suc ys k x is

-- what a list has from a place on begins with what is there
pub drop_next : {X : Type 0} (xs : List X) (k : ℕ) (x : X) → slice_get xs k ≡ Some x → drop k xs ≡ x ∷ drop (k + 1) xs
drop_next xs k x is = let more : k + 1 ≡ suc k = omega arith in rw more (drop_suc xs k x is)

-- an entry's read stands in the entry's place
pub read_at : (es : Entries) (k : ℕ) (e : Number × Question) → slice_get es k ≡ Some e
    → slice_get (entry_reads es) k ≡ Some (entry_read e)
read_at es k e is = rw (slice_get-map entry_read es k, is) refl

pub fits_at : (es : Entries) (k : ℕ) (e : Number × Question) → are_in_range (entry_reads es) ≡ true → slice_get es k ≡ Some e
    → token.fits (token_by e.0) ≡ true
fits_at [] k e fit is = cc
fits_at (x ∷ es) zero e fit is =
    let both = and_parts (token.fits (token_by x.0)) (are_in_range (entry_reads es)) fit in cc
fits_at (x ∷ es) (suc k) e fit is =
    fits_at es k e (and_parts (token.fits (token_by x.0)) (are_in_range (entry_reads es)) fit).1 is

-- a key finds what some read has
pub found : (t : Token) (es : Entries) → is_some (lookup (is_equal_number (read_number t)) es) ≡ is_among t (entry_reads es)
found t [] = refl
found t (e ∷ es) =
    by_test (λ (o : Option Question). is_some o ≡ is_among t (entry_reads (e ∷ es)))
    (is_equal_number (read_number t) e.0) _ _ (λ same. rw same refl) (λ other. rw other (found t es))

-- and so it is there
pub is_there : (t : Token) (es : Entries) → is_among t (entry_reads es) ≡ true → lookup (is_equal_number (read_number t)) es ≡ None → ⊥
is_there t es among none = true≢false (sym among ∙ sym (rw none at (found t es)))

pub first_is : (t : Token) (es : Entries) (e : Number × Question) → slice_get es 0 ≡ Some e
    → same_read t (token_by e.0) ≡ is_first t (entry_reads es)
first_is t [] e is = cc
first_is t (x ∷ es) e is = cc

pub first_none : (t : Token) (es : Entries) → slice_get es 0 ≡ None → is_first t (entry_reads es) ≡ false
first_none t [] is = refl
first_none t (x ∷ es) is = cc

module _ (r : Asked) where
  abbrev put : Entries → Entries
  put es = insert_entry is_equal_number es (read_number r.read) (read_question r)

  -- a new read goes last
  pub pushed : (es : Entries) → is_among r.read (entry_reads es) ≡ false → entry_reads (put es) ≡ entry_reads es ++ r ∷ []
  pushed [] new = refl
  pushed (e ∷ es) new =
      let here : same_read r.read (token_by e.0) ≡ false = grind arith in
      let later : is_among r.read (entry_reads es) ≡ false = grind arith in
      rw here (ap (λ (rs : List Asked). entry_read e ∷ rs) (pushed es later))

  pub pushed_fits : (es : Entries) → is_among r.read (entry_reads es) ≡ false → token.fits r.read ≡ true
      → are_in_range (entry_reads es) ≡ true → are_in_range (entry_reads (put es)) ≡ true
  pushed_fits es new fit all =
      rw (pushed es new, list_all-append (λ (x : Asked). token.fits x.read) (entry_reads es) (r ∷ []), all, fit) refl

  -- one that is there takes its place
  pub replaced : (es : Entries) → is_among r.read (entry_reads es) ≡ true → entry_reads (put es) ≡ with_asked r (entry_reads es)
  replaced [] there = cc
  replaced (e ∷ es) there =
      by_test (λ (more : Entries). entry_reads more ≡ with_asked r (entry_reads (e ∷ es))) (same_read r.read (token_by e.0)) _ _
      (λ same. rw same (ap (λ (t : Token). record { read = t; replica = r.replica; key = r.key } ∷ entry_reads es)
      (sym (same_tokens r.read (token_by e.0) same))))
      (λ other. rw other (ap (λ (rs : List Asked). entry_read e ∷ rs) (replaced es (rw other at there))))

  with_fits : (rs : List Asked) → token.fits r.read ≡ true → are_in_range rs ≡ true → are_in_range (with_asked r rs) ≡ true
  with_fits [] fit all = refl
  with_fits (x ∷ rs) fit all =
      let both = and_parts (token.fits x.read) (are_in_range rs) all in
      by_test (λ (more : List Asked). are_in_range more ≡ true) (same_read r.read x.read) _ _
      (λ same. rw (fit, both.1) refl) (λ other. rw (both.0, with_fits rs fit both.1) refl)

  pub replaced_fits : (es : Entries) → is_among r.read (entry_reads es) ≡ true → token.fits r.read ≡ true
      → are_in_range (entry_reads es) ≡ true → are_in_range (entry_reads (put es)) ≡ true
  replaced_fits es there fit all = rw (replaced es there) (with_fits (entry_reads es) fit all)

-- keys that are distinct are those of reads that are
not_later : (t : Number) (es : Entries) → AllByRecursion (λ (n : Number). is_equal_number t n ≡ false) (keys_of es)
    → is_among (token_by t) (entry_reads es) ≡ false
not_later t [] none = refl
not_later t (e ∷ es) none = rw (none.0, not_later t es none.1) refl

pub once : (es : Entries) → IsDistinct is_equal_number (keys_of es) → are_once (entry_reads es) ≡ true
once [] distinct = refl
once (e ∷ es) distinct =
    rw (
      not_later e.0 es (IsDistinct-head is_equal_number e.0 (keys_of es) distinct),
      once es (IsDistinct-tail is_equal_number e.0 (keys_of es) distinct),
    ) refl

-- nothing is apart from any reads
pub none_apart : (ws : List Asked) → are_apart [] ws ≡ true
none_apart [] = refl
none_apart (w ∷ ws) = none_apart ws

-- one more is, that isn't among them
pub more_apart : (rs ws : List Asked) (x : Asked) → are_apart rs ws ≡ true → is_among x.read ws ≡ false
    → are_apart (rs ++ x ∷ []) ws ≡ true
more_apart rs [] x apart new = refl
more_apart rs (w ∷ ws) x apart new =
    let both = and_parts (not (is_among w.read rs)) (are_apart rs ws) apart in
    let here : same_read x.read w.read ≡ false = grind arith in
    let later : is_among x.read ws ≡ false = grind arith in
    let other : same_read w.read x.read ≡ false = either_order w.read x.read ∙ here in
    let away : is_among w.read rs ≡ false = grind (arith, both.0) in
    rw (list_any-append (λ (r : Asked). same_read w.read r.read) rs (x ∷ []), away, other, more_apart rs ws x both.1 later) refl

-- the next read of those to be added is new, and those behind it stay apart
pub next_new : (rs ws : List Asked) (x : Asked) → are_apart rs (x ∷ ws) ≡ true → is_among x.read rs ≡ false
next_new rs ws x apart =
    let both = and_parts (not (is_among x.read rs)) (are_apart rs ws) apart in grind (arith, both.0)

pub next_apart : (rs ws : List Asked) (x : Asked) → are_apart rs (x ∷ ws) ≡ true → are_once (x ∷ ws) ≡ true
    → are_apart (rs ++ x ∷ []) ws ≡ true
next_apart rs ws x apart distinct =
    let both = and_parts (not (is_among x.read rs)) (are_apart rs ws) apart in
    let new = and_parts (not (is_among x.read ws)) (are_once ws) distinct in
    let away : is_among x.read ws ≡ false = grind (arith, new.0) in
    more_apart rs ws x both.1 away

-- what waits is apart from what runs
pub apart_with : (waiting : List Asked) (running : Option Batch) (b : Batch) → running ≡ Some b
    → are_apart (running_reads running) waiting ≡ true → are_apart b.reads waiting ≡ true
apart_with waiting running b is apart = rw is at apart

-- one more waits
pub apart_pushed : (rs ws : List Asked) (x : Asked) → are_apart rs ws ≡ true → is_among x.read rs ≡ false
    → are_apart rs (ws ++ x ∷ []) ≡ true
apart_pushed rs ws x apart new = rw (list_all-append (λ (r : Asked). not (is_among r.read rs)) ws (x ∷ []), apart, new) refl

-- one that waits is asked again
pub apart_again : (rs ws : List Asked) (x : Asked) → are_apart rs ws ≡ true → are_apart rs (with_asked x ws) ≡ true
apart_again rs [] x apart = refl
apart_again rs (w ∷ ws) x apart =
    let both = and_parts (not (is_among w.read rs)) (are_apart rs ws) apart in
    by_test (λ (more : List Asked). are_apart rs more ≡ true) (same_read x.read w.read) _ _
    (λ same. subst (λ (t : Token). (not (is_among t rs) && are_apart rs ws) ≡ true) (sym (same_tokens x.read w.read same)) apart)
    (λ other. rw (both.0, apart_again rs ws x both.1) refl)

-- the first of a list keeps its place in a longer one
pub first_among : (t : Token) (rs ws : List Asked) → is_first t rs ≡ true → is_among t (rs ++ ws) ≡ true
first_among t [] ws first = cc
first_among t (r ∷ rs) ws first = rw first refl

pub first_again : (x : Asked) (rs ws : List Asked) → is_first x.read rs ≡ true
    → with_asked x (rs ++ ws) ≡ with_asked x rs ++ ws
first_again x [] ws first = cc
first_again x (r ∷ rs) ws first = rw first refl

pub length_again : (x : Asked) (ws : List Asked) → length (with_asked x ws) ≡ length ws
length_again x [] = refl
length_again x (w ∷ ws) =
    by_test (λ (more : List Asked). length more ≡ length (w ∷ ws)) (same_read x.read w.read) _ _
    (λ same. refl) (λ other. ap (λ n. suc n) (length_again x ws))
