-- Lists whose values rise, and the formats that ask it value by value.
use Rattle.cx_base.proofs.Common.{◌≡◌, suc, ◌-◌, Bool, true, false, ◌&&◌, if◌then◌else◌, List, [], ◌∷◌, ◌++◌, length, refl, sym, ap, ◌∙◌}
use Rattle.cx_base.proofs.Common.{append_assoc, arith, filter, list_all, append-nil, list_all-append, rises}
use Rattle.cx_wire.specs.Format.{Format, each_fits}
use Rattle.cx_wire.proofs.Laws.{both}
use Rattle.cx_field.specs.Fields.{last_passes}

-- what comes before a value comes before those that the value comes before
pub record PassesOn {A : Type 0} (before : A → A → Bool) : Type 0 where
  pub on : (x y z : A) → before x y ≡ true → before y z ≡ true → before x z ≡ true

-- a next value fits where the last one comes before it and it is fine by itself
pub record AsksToRise {A : Type 0} (f : List A → Format A) (before : A → A → Bool) (fine : A → Bool) : Type 0 where
  pub asks : (front : List A) (x : A) → (f front).fits x ≡ (last_passes (λ y. before y x) front && fine x)

pub join : (a b : Bool) → a ≡ true → b ≡ true → (a && b) ≡ true
join a b p q = rw (p, q) refl

last_step : {A : Type 0} (test : A → Bool) (y z : A) (zs : List A) → last_passes test (y ∷ z ∷ zs) ≡ last_passes test (z ∷ zs)
last_step test y z zs =
    let k : length (y ∷ z ∷ zs) - 1 ≡ suc (length (z ∷ zs) - 1) = omega arith in
    rw k refl

-- the last of rising values comes before x, so each does
last_all : {A : Type 0} (before : A → A → Bool) → PassesOn before → (x : A) (front : List A) → rises before front ≡ true
    → last_passes (λ y. before y x) front ≡ true → list_all (λ y. before y x) front ≡ true
last_all before passes x [] r last = refl
last_all before passes x (y ∷ []) r last = join (before y x) true last refl
last_all before passes x (y ∷ z ∷ zs) r last =
    let p = both (list_all (λ w. before y w) (z ∷ zs)) (rises before (z ∷ zs)) r in
    let q = both (before y z) (list_all (λ w. before y w) zs) p.0 in
    let rest : list_all (λ w. before w x) (z ∷ zs) ≡ true =
    last_all before passes x (z ∷ zs) p.1 (sym (last_step (λ w. before w x) y z zs) ∙ last) in
    let s = both (before z x) (list_all (λ w. before w x) zs) rest in
    join (before y x) (list_all (λ w. before w x) (z ∷ zs)) (passes.on y z x q.0 s.0) rest

all_last : {A : Type 0} (test : A → Bool) (front : List A) → list_all test front ≡ true → last_passes test front ≡ true
all_last test [] h = refl
all_last test (y ∷ []) h = (both (test y) true h).0
all_last test (y ∷ z ∷ zs) h = last_step test y z zs ∙ all_last test (z ∷ zs) (both (test y) (list_all test (z ∷ zs)) h).1

-- rising values, all of them before x, rise with x after them
pub rises-snoc : {A : Type 0} (before : A → A → Bool) (x : A) (front : List A) → rises before front ≡ true
    → list_all (λ y. before y x) front ≡ true → rises before (front ++ x ∷ []) ≡ true
rises-snoc before x [] r h = refl
rises-snoc before x (y ∷ ys) r h =
    let p = both (list_all (λ w. before y w) ys) (rises before ys) r in
    let q = both (before y x) (list_all (λ w. before w x) ys) h in
    let all : list_all (λ w. before y w) (ys ++ x ∷ []) ≡ true =
    list_all-append (λ w. before y w) ys (x ∷ []) ∙ join _ _ p.0 (join (before y x) true q.0 refl) in
    join (list_all (λ w. before y w) (ys ++ x ∷ [])) (rises before (ys ++ x ∷ [])) all (rises-snoc before x ys p.1 q.1)

-- rising values, the last of them before x, rise with x after them
pub rises-next : {A : Type 0} (before : A → A → Bool) → PassesOn before → (x : A) (front : List A) → rises before front ≡ true
    → last_passes (λ y. before y x) front ≡ true → rises before (front ++ x ∷ []) ≡ true
rises-next before passes x front r last = rises-snoc before x front r (last_all before passes x front r last)

before_all : {A : Type 0} (before : A → A → Bool) (x : A) (xs front : List A) → rises before (front ++ x ∷ xs) ≡ true
    → list_all (λ y. before y x) front ≡ true
before_all before x xs [] r = refl
before_all before x xs (y ∷ ys) r =
    let p = both (list_all (λ w. before y w) (ys ++ x ∷ xs)) (rises before (ys ++ x ∷ xs)) r in
    let q = both (list_all (λ w. before y w) ys) (list_all (λ w. before y w) (x ∷ xs))
    (sym (list_all-append (λ w. before y w) ys (x ∷ xs)) ∙ p.0) in
    let s = both (before y x) (list_all (λ w. before y w) xs) q.1 in
    join (before y x) (list_all (λ w. before w x) ys) s.0 (before_all before x xs ys p.1)

-- what fits value by value rises, and each value is fine
pub rising_apart : {A : Type 0} (f : List A → Format A) (before : A → A → Bool) (fine : A → Bool) → AsksToRise f before fine
    → PassesOn before → (xs front : List A) → rises before front ≡ true → each_fits f front xs ≡ true
    → (rises before (front ++ xs) ≡ true) × (list_all fine xs ≡ true)
unfolding each_fits
rising_apart f before fine a passes [] front r h = (rw (append-nil front) r, refl)
rising_apart {A} f before fine a passes (x ∷ xs) front r h =
    let p = both ((f front).fits x) (each_fits f (front ++ x ∷ []) xs) h in
    let q = both (last_passes (λ y. before y x) front) (fine x) (sym (a.asks front x) ∙ p.0) in
    let more : rises before (front ++ x ∷ []) ≡ true = rises-snoc before x front r (last_all before passes x front r q.0) in
    let t = rising_apart f before fine a passes xs (front ++ x ∷ []) more p.1 in
    (ap (rises before) (sym (append_assoc front (x ∷ []) xs)) ∙ t.0, join (fine x) (list_all fine xs) q.1 t.1)

-- values that rise, each of them fine, fit value by value
pub rising_fits : {A : Type 0} (f : List A → Format A) (before : A → A → Bool) (fine : A → Bool) → AsksToRise f before fine
    → (xs front : List A) → rises before (front ++ xs) ≡ true → list_all fine xs ≡ true → each_fits f front xs ≡ true
unfolding each_fits
rising_fits f before fine a [] front r h = refl
rising_fits f before fine a (x ∷ xs) front r h =
    let p = both (fine x) (list_all fine xs) h in
    let last : last_passes (λ y. before y x) front ≡ true = all_last (λ y. before y x) front (before_all before x xs front r) in
    let one : (f front).fits x ≡ true = a.asks front x ∙ join _ _ last p.0 in
    let more : rises before ((front ++ x ∷ []) ++ xs) ≡ true = ap (rises before) (append_assoc front (x ∷ []) xs) ∙ r in
    join ((f front).fits x) (each_fits f (front ++ x ∷ []) xs) one (rising_fits f before fine a xs (front ++ x ∷ []) more p.1)

-- in a format that does not look back, each value fits by itself
pub alike_apart : {A : Type 0} (f : Format A) (xs front : List A) → each_fits (λ _. f) front xs ≡ true → list_all (λ x. f.fits x) xs ≡ true
unfolding each_fits
alike_apart f [] front h = refl
alike_apart f (x ∷ xs) front h =
    let p = both (f.fits x) (each_fits (λ _. f) (front ++ x ∷ []) xs) h in
    join (f.fits x) (list_all (λ y. f.fits y) xs) p.0 (alike_apart f xs (front ++ x ∷ []) p.1)

pub alike_fits : {A : Type 0} (f : Format A) (xs front : List A) → list_all (λ x. f.fits x) xs ≡ true → each_fits (λ _. f) front xs ≡ true
unfolding each_fits
alike_fits f [] front h = refl
alike_fits f (x ∷ xs) front h =
    let p = both (f.fits x) (list_all (λ y. f.fits y) xs) h in
    join (f.fits x) (each_fits (λ _. f) (front ++ x ∷ []) xs) p.0 (alike_fits f xs (front ++ x ∷ []) p.1)

-- what holds of both lists holds of the one that is taken
pub either : {A : Type 0} (P : List A → Type 0) (b : Bool) (ys zs : List A) → P ys → P zs → P (if b then ys else zs)
either P true ys zs one other = one
either P false ys zs one other = other

-- what holds of each value holds of each that is kept
pub list_all-filter : {A : Type 0} (p test : A → Bool) (xs : List A) → list_all test xs ≡ true → list_all test (filter p xs) ≡ true
list_all-filter p test [] h = refl
list_all-filter p test (x ∷ xs) h =
    let q = both (test x) (list_all test xs) h in
    let rest : list_all test (filter p xs) ≡ true = list_all-filter p test xs q.1 in
    either (λ ys. list_all test ys ≡ true) (p x) (x ∷ filter p xs) (filter p xs) (join (test x) (list_all test (filter p xs)) q.0 rest) rest

-- rising values still rise where some are left out
pub rises-filter : {A : Type 0} (p : A → Bool) (before : A → A → Bool) (xs : List A) → rises before xs ≡ true
    → rises before (filter p xs) ≡ true
rises-filter p before [] r = refl
rises-filter p before (x ∷ xs) r =
    let q = both (list_all (λ y. before x y) xs) (rises before xs) r in
    let rest : rises before (filter p xs) ≡ true = rises-filter p before xs q.1 in
    let all : list_all (λ y. before x y) (filter p xs) ≡ true = list_all-filter p (λ y. before x y) xs q.0 in
    either (λ ys. rises before ys ≡ true) (p x) (x ∷ filter p xs) (filter p xs)
    (join (list_all (λ y. before x y) (filter p xs)) (rises before (filter p xs)) all rest) rest
