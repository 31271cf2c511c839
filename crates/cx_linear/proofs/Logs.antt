-- Where commands stand among all of a list of values, and how many stand in its first slots.
use Rattle.cx_inv_run.proofs.Common.{◌≡◌, ◌⊎◌, ℕ, zero, suc, ◌<◌, ◌≤◌, List, [], ◌∷◌, ◌++◌, take, length, inl, inr, ap, sym, ◌∙◌}
use Rattle.cx_inv_run.proofs.Common.{refl, arith, append_assoc, length-append, Command, Value, commands_of}
use Rattle.cx_inv_run.proofs.Common.{command_list, fold, map_behind, Stands}
use Rattle.cx_inv_list.proofs.Right.{list_more}

-- how many commands the first slots have
abbrev pub mark_of : ℕ → List Value → ℕ
mark_of n values = length (command_list (take n values))

-- a list in two parts, cut at an element
cut_in : {X : Type 0} (xs ys e l : List X) (c : X) → xs ++ ys ≡ e ++ c ∷ l
    → ((k : List X) × (xs ≡ e ++ c ∷ k)) ⊎ ((d : List X) × (e ≡ xs ++ d) × (ys ≡ d ++ c ∷ l))
cut_in [] ys e l c h = inr (e, refl, h)
cut_in (x ∷ xs) ys [] l c h = let p : x ≡ c = cc in inl (xs, ap (λ z. z ∷ xs) p)
cut_in (x ∷ xs) ys (z ∷ e) l c h =
    let p : x ≡ z = cc in
    let q : xs ++ ys ≡ e ++ c ∷ l = cc in
    elim (cut_in xs ys e l c q) [
      | inl r ↦ inl (r.0, ap (λ w. w ∷ xs) p ∙ ap (λ w. z ∷ w) r.1)
      | inr r ↦ inr (r.0, ap (λ w. w ∷ e) (sym p) ∙ ap (λ w. x ∷ w) r.1, r.2)
    ]

-- each command of the list stands in a slot
pub split_stands : (values : List Value) (e l : List Command) (c : Command) → command_list values ≡ e ++ c ∷ l
    → (s : ℕ) × Stands values s e c
split_stands [] [] l c h = cc
split_stands [] (x ∷ e) l c h = cc
split_stands (v ∷ values) e l c h = elim (cut_in (commands_of v) (command_list values) e l c h) [
  | inl r ↦ (zero, record { value = v; earlier = e; later = r.0; has = refl; place = r.1; before_is = refl })
  | inr r ↦ (let t = split_stands values r.0 l c r.2 in (
    suc t.0,
    record {
      value = (t.1).value;
      earlier = (t.1).earlier;
      later = (t.1).later;
      has = (t.1).has;
      place = (t.1).place;
      before_is = r.1 ∙ ap (λ d. commands_of v ++ d) (t.1).before_is
          ∙ sym (append_assoc (commands_of v) (command_list (take t.0 values)) (t.1).earlier);
    },
  ))
]

front_and_more : (n : ℕ) (values : List Value) → (rest : List Command) × (command_list values ≡ command_list (take n values) ++ rest)
front_and_more zero values = (command_list values, refl)
front_and_more (suc n) [] = ([], refl)
front_and_more (suc n) (v ∷ values) =
    let r = front_and_more n values in
    (r.0, ap (λ d. commands_of v ++ d) r.1 ∙ sym (append_assoc (commands_of v) (command_list (take n values)) r.0))

pub stands_split : (values : List Value) (s : ℕ) (before : List Command) (c : Command) → Stands values s before c
    → (later : List Command) × (command_list values ≡ before ++ c ∷ later)
stands_split values s before c h =
    let r = front_and_more (suc s) values in (
      h.later ++ r.0,
      r.1 ∙ ap (λ d. d ++ r.0) (list_more values s h.value h.has ∙ ap (λ d. command_list (take s values) ++ d) h.place
          ∙ sym (append_assoc (command_list (take s values)) h.earlier (c ∷ h.later)) ∙ ap (λ d. d ++ c ∷ h.later) (sym h.before_is))
          ∙ append_assoc before (c ∷ h.later) r.0,
    )

-- it stands behind the commands of earlier slots, and before those of later ones
pub stands_from : (values : List Value) (s : ℕ) (before : List Command) (c : Command) → Stands values s before c
    → mark_of s values ≤ length before
stands_from values s before c h =
    let e = ap (λ (l : List Command). length l) h.before_is in
    omega (arith, e, length-append (command_list (take s values)) h.earlier)

pub stands_below : (values : List Value) (s : ℕ) (before : List Command) (c : Command) → Stands values s before c
    → length before < mark_of (suc s) values
stands_below values s before c h =
    let e = ap (λ (l : List Command). length l) h.before_is in
    let m = ap (λ (l : List Command). length l) (list_more values s h.value h.has) in
    let p = ap (λ (l : List Command). length l) h.place in
    omega (
      arith,
      e,
      m,
      p,
      length-append (command_list (take s values)) h.earlier,
      length-append (command_list (take s values)) (commands_of h.value),
      length-append h.earlier (c ∷ h.later),
    )

pub mark_grows : (values : List Value) (m n : ℕ) → m ≤ n → mark_of m values ≤ mark_of n values
mark_grows values zero n l = omega arith
mark_grows [] (suc m) n l = omega arith
mark_grows (v ∷ values) (suc m) zero l = absurd (omega arith)
mark_grows (v ∷ values) (suc m) (suc n) l =
    let r = mark_grows values m n (omega arith) in
    omega (
      arith,
      r,
      length-append (commands_of v) (command_list (take m values)),
      length-append (commands_of v) (command_list (take n values)),
    )

pub mark_within : (values : List Value) (n : ℕ) → mark_of n values ≤ length (command_list values)
mark_within values n =
    let r = front_and_more n values in
    let e = ap (λ (l : List Command). length l) r.1 in
    omega (arith, e, length-append (command_list (take n values)) r.0)

take_front : {X : Type 0} (xs ys : List X) → take (length xs) (xs ++ ys) ≡ xs
take_front [] ys = refl
take_front (x ∷ xs) ys = ap (λ l. x ∷ l) (take_front xs ys)

-- what the values of the first slots leave
pub fold_front : (values : List Value) (n : ℕ) → fold (take n values) ≡ map_behind [] [] (take (mark_of n values) (command_list values))
fold_front values n =
    let r = front_and_more n values in
    ap (λ l. map_behind [] [] l) (sym (ap (λ l. take (mark_of n values) l) r.1 ∙ take_front (command_list (take n values)) r.0))
