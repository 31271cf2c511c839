-- A format that fits only what passes no test, and else is another: both spell alike.
use Rattle.cx_base.proofs.Common.{◌≡◌, ℕ, Bool, true, false, not, ◌&&◌, ◌||◌, List, [], ◌∷◌, ◌++◌, length, refl, ap, ◌∙◌, ◌==◌, list_any}
use Rattle.cx_wire.specs.Format.{Format, then_by, ◌▷◌, shaped, each_fits, each_spell, times, counted, TaggedBytes, Case, tagged}

-- one format fits what another fits that doesn't tell, and both spell the same
pub record IsPart {A : Type 0} (tells : A → Bool) (part whole : Format A) : Type 0 where
  pub fits : (x : A) → part.fits x ≡ (whole.fits x && not (tells x))
  pub spells : (x : A) → part.spell x ≡ whole.spell x

-- the same of shapes
pub record IsShapePart (tells : Bool) (part whole : TaggedBytes) : Type 0 where
  pub tag : part.tag ≡ whole.tag
  pub fits : part.fits ≡ (whole.fits && not tells)
  pub bytes : part.bytes ≡ whole.bytes

and_yes : (a : Bool) → a ≡ (a && true)
and_yes true = refl
and_yes false = refl

grouped : (a b c : Bool) → (a && (b && not c)) ≡ ((a && b) && not c)
grouped true b c = refl
grouped false b c = refl

both_not : (a c as' cs : Bool) → ((a && not c) && (as' && not cs)) ≡ ((a && as') && not (c || cs))
both_not true true true cs = refl
both_not true true false cs = refl
both_not true false as' cs = refl
both_not false c as' cs = refl

between : (a c t : Bool) → ((a && not c) && t) ≡ ((a && t) && not c)
between true true true = refl
between true true false = refl
between true false t = ap (λ b. b) (and_yes t)
between false c t = refl

pub same-part : {A : Type 0} (f : Format A) → IsPart (λ x. false) f f
same-part f = record { fits = λ x. and_yes (f.fits x); spells = λ x. refl }

pub then_by-part : {A B : Type 0} (f : Format A) (g h : A → Format B) (tells : B → Bool) → ((a : A) → IsPart tells (g a) (h a))
    → IsPart (λ (x : A × B). tells x.1) (then_by f g) (then_by f h)
then_by-part f g h tells is = record {
  fits = λ x. ap (λ b. f.fits x.0 && b) ((is x.0).fits x.1) ∙ grouped (f.fits x.0) ((h x.0).fits x.1) (tells x.1);
  spells = λ x. ap (λ bytes. f.spell x.0 ++ bytes) ((is x.0).spells x.1);
}

pub ▷-part : {A B : Type 0} (f : Format A) (g h : Format B) (tells : B → Bool) → IsPart tells g h
    → IsPart (λ (x : A × B). tells x.1) (f ▷ g) (f ▷ h)
▷-part f g h tells is = then_by-part f (λ _. g) (λ _. h) tells (λ _. is)

pub shaped-part : {A B : Type 0} (make : A → B) (parts : B → A) (g h : Format A) (tells : A → Bool) → IsPart tells g h
    → IsPart (λ (y : B). tells (parts y)) (shaped make parts g) (shaped make parts h)
shaped-part make parts g h tells is = record { fits = λ y. is.fits (parts y); spells = λ y. is.spells (parts y) }

each_fits-part : {A : Type 0} (g h : List A → Format A) (tells : A → Bool) → ((before : List A) → IsPart tells (g before) (h before))
    → (before xs : List A) → each_fits g before xs ≡ (each_fits h before xs && not (list_any tells xs))
unfolding each_fits
each_fits-part g h tells is before [] = refl
each_fits-part g h tells is before (x ∷ xs) =
    rw ((is before).fits x, each_fits-part g h tells is (before ++ x ∷ []) xs)
    (both_not ((h before).fits x) (tells x) (each_fits h (before ++ x ∷ []) xs) (list_any tells xs))

each_spell-part : {A : Type 0} (g h : List A → Format A) (tells : A → Bool) → ((before : List A) → IsPart tells (g before) (h before))
    → (before xs : List A) → each_spell g before xs ≡ each_spell h before xs
unfolding each_spell
each_spell-part g h tells is before [] = refl
each_spell-part g h tells is before (x ∷ xs) = rw ((is before).spells x, each_spell-part g h tells is (before ++ x ∷ []) xs) refl

pub times-part : {A : Type 0} (n : ℕ) (g h : List A → Format A) (tells : A → Bool)
    → ((before : List A) → IsPart tells (g before) (h before)) → IsPart (list_any tells) (times n g) (times n h)
times-part n g h tells is = record {
  fits = λ xs. ap (λ b. (length xs == n) && b) (each_fits-part g h tells is [] xs)
      ∙ grouped (length xs == n) (each_fits h [] xs) (list_any tells xs);
  spells = λ xs. each_spell-part g h tells is [] xs;
}

pub counted-part : {A : Type 0} (count : Format ℕ) (g h : List A → Format A) (tells : A → Bool)
    → ((before : List A) → IsPart tells (g before) (h before)) → IsPart (list_any tells) (counted count g) (counted count h)
counted-part {A} count g h tells is =
    let inner = then_by-part count (λ n. times n g) (λ n. times n h) (list_any tells) (λ n. times-part n g h tells is) in
    record { fits = λ xs. inner.fits (length xs, xs); spells = λ xs. inner.spells (length xs, xs) }

pub tagged-part : {A : Type 0} (s t : A → TaggedBytes) (cs ds : List (Case A)) (tells : A → Bool)
    → ((x : A) → IsShapePart (tells x) (s x) (t x)) → IsPart tells (tagged s cs) (tagged t ds)
tagged-part s t cs ds tells is = record {
  fits = λ x. (is x).fits;
  spells = λ x. rw ((is x).tag, (is x).bytes) refl;
}

-- a shape of a part
pub shape-part : {B : Type 0} (tag : ℕ) (g h : Format B) (tells : B → Bool) → IsPart tells g h → (x : B) → IsShapePart (tells x)
    (record { tag = tag; fits = g.fits x; bytes = g.spell x }) (record { tag = tag; fits = h.fits x; bytes = h.spell x })
shape-part tag g h tells is x = record { tag = refl; fits = is.fits x; bytes = is.spells x }
