-- What a crash leaves of two disks while a record is appended to the live one.
use Rattle.std.proofs.lemmas.Bool.{cases_eq}
use Rattle.cx_journal.proofs.Common.{◌≡◌, ◌<◌, ◌≤◌, ◌⊎◌, inl, inr, ℕ, ◌+◌, ◌/◌, ◌%◌, ◌==◌, Bool, false, List, [], ◌∷◌, ◌++◌, length, drop}
use Rattle.cx_journal.proofs.Common.{Option, Some, None, refl, sym, ◌∙◌, ap, subst, arith, append_assoc, cases_Bool, same_Some, eqb-true}
use Rattle.cx_journal.proofs.Common.{big_bytes, written, Torn, generation, IsBehind, StandsAfter, front_of, IsTwin, append_body, frames}
use Rattle.cx_journal.specs.Pair.{begins_with}
use Rattle.cx_journal.proofs.Clearing.{other_first}
use Rattle.cx_journal.proofs.Fronts.{written-behind, gate_stays, some_gate, body_there, opened}

-- a payload's length has two bytes of 0 in front
pub two_zeros : (n : ℕ) → n ≤ 32768 → (c d : ℕ) × (big_bytes 4 n ≡ 0 ∷ 0 ∷ c ∷ d ∷ [])
two_zeros n few =
    let high : n / 16777216 % 256 ≡ 0 = omega arith in
    let low : n / 65536 % 256 ≡ 0 = omega arith in
    (n / 256 % 256, n % 256, rw (high, low) refl)

pub generation_of_front : (g : ℕ) (fs : List ℕ) (x : ℕ) (xs : List ℕ) → generation ((4 ∷ g ∷ []) ++ fs ++ x ∷ xs) ≡ Some g
generation_of_front g [] x xs = refl
generation_of_front g (f ∷ fs) x xs = refl

not_four : (a : ℕ) → (a ≡ 4 → ⊥) → (a == 4) ≡ false
not_four a other = elim (cases_Bool (a == 4)) [ inl is ↦ absurd (other (eqb-true a 4 is)) | inr is ↦ is ]

pub plain_none : (c : List ℕ) → (begins_with c 4 → ⊥) → generation c ≡ None
plain_none [] other = refl
plain_none (a ∷ rest) other = other_first a rest (not_four a other)

module _ (second : Bool) (ps : List (List ℕ)) (c other : List ℕ) where
  pub twin_plain : second ≡ false → generation other ≡ None → (begins_with c 4 → ⊥) → StandsAfter [] ps c → IsTwin second ps c other
  twin_plain first none begins stands =
      let is = plain_none c begins in
      record {
        sound = λ h e. let no_way : None ≡ Some h = sym is ∙ e in absurd cc;
        behind = subst (IsBehind (generation c)) (sym none) tt;
        plain_is_first = λ _. first;
        plain_begins = λ _. begins;
        stands = subst (λ o. StandsAfter (front_of o) ps c) (sym is) stands;
      }

  pub twin_of : (g : ℕ) → g < 3 → generation c ≡ Some g → IsBehind (Some g) (generation other) → StandsAfter (4 ∷ g ∷ []) ps c
      → IsTwin second ps c other
  twin_of g small is behind stands = record {
    sound = λ h e. subst (λ n. n < 3) (same_Some g h (sym is ∙ e)) small;
    behind = subst (λ o. IsBehind o (generation other)) (sym is) behind;
    plain_is_first = λ e. let no_way : Some g ≡ None = sym is ∙ e in absurd cc;
    plain_begins = λ e. let no_way : Some g ≡ None = sym is ∙ e in absurd cc;
    stands = subst (λ o. StandsAfter (front_of o) ps c) (sym is) stands;
  }

-- what is behind a disk without a generation has none
behind_plain : (other : Option ℕ) → IsBehind None other → other ≡ None
behind_plain None behind = refl
behind_plain (Some h) behind = let no_way = behind.1 in absurd cc

-- a plain file that keeps its records and its gate begins as it did
begins_so : (payloads : List (List ℕ)) (gate : ℕ) (rest left : List ℕ) → (begins_with (frames payloads ++ gate ∷ rest) 4 → ⊥)
    → begins_with (frames payloads ++ gate ∷ left) 4 → ⊥
begins_so [] gate rest left other = other
begins_so (q ∷ ps) gate rest left other = λ is. absurd (omega (arith, is))

-- ---- the body behind the closed gate

module _ (second : Bool) (payloads : List (List ℕ)) (live other : List ℕ) (twin : IsTwin second payloads live other) where
  with_rest : (left : List ℕ) (gen : Option ℕ) → generation live ≡ gen
      → IsTwin second payloads (front_of gen ++ frames payloads ++ twin.stands.gate ∷ left) other
  with_rest left None is = twin_plain second payloads (frames payloads ++ twin.stands.gate ∷ left) other (twin.plain_is_first is)
      (behind_plain (generation other) (subst (λ o. IsBehind o (generation other)) is twin.behind))
      (begins_so payloads twin.stands.gate twin.stands.rest left (subst (λ f. begins_with f 4 → ⊥)
      (twin.stands.is ∙ ap (λ o. front_of o ++ frames payloads ++ twin.stands.gate ∷ twin.stands.rest) is) (twin.plain_begins is)))
      (record { gate = twin.stands.gate; rest = left; shut = twin.stands.shut; is = refl })
  with_rest left (Some g) is = twin_of second payloads ((4 ∷ g ∷ []) ++ frames payloads ++ twin.stands.gate ∷ left) other g (twin.sound g
      is) (generation_of_front g (frames payloads) twin.stands.gate left) (subst (λ o. IsBehind o (generation other)) is twin.behind)
      (record { gate = twin.stands.gate; rest = left; shut = twin.stands.shut; is = refl })

  pub body_keeps : (n : ℕ) (c : List ℕ) → Torn (length (front_of (generation live) ++ frames payloads) + 1) n live c
      → IsTwin second payloads c other
  body_keeps n c torn =
      let front = front_of (generation live) ++ frames payloads in
      let t = gate_stays front twin.stands.gate twin.stands.rest c n (subst (λ f. Torn (length front + 1) n f c) twin.stands.is torn) in
      subst (λ f. IsTwin second payloads f other) (sym t.1) (with_rest t.0 (generation live) refl)

  generation_there : (left : List ℕ) (gen : Option ℕ) → generation live ≡ gen
      → generation (front_of gen ++ frames payloads ++ twin.stands.gate ∷ left) ≡ gen
  generation_there left None is =
      plain_none (frames payloads ++ twin.stands.gate ∷ left)
      (begins_so payloads twin.stands.gate twin.stands.rest left (subst (λ f. begins_with f 4 → ⊥)
      (twin.stands.is ∙ ap (λ o. front_of o ++ frames payloads ++ twin.stands.gate ∷ twin.stands.rest) is) (twin.plain_begins is)))
  generation_there left (Some g) is = generation_of_front g (frames payloads) twin.stands.gate left

  pub generation_kept : (left : List ℕ)
      → generation (front_of (generation live) ++ frames payloads ++ twin.stands.gate ∷ left) ≡ generation live
  generation_kept left = generation_there left (generation live) refl

  pub body_kept : (bytes : List ℕ) → IsTwin second payloads
      (front_of (generation live) ++ frames payloads ++ twin.stands.gate ∷ (bytes ++ drop (length bytes) twin.stands.rest)) other
  body_kept bytes = with_rest (bytes ++ drop (length bytes) twin.stands.rest) (generation live) refl

  pub body_is : (bytes : List ℕ) → written (length (front_of (generation live) ++ frames payloads) + 1) bytes live
      ≡ front_of (generation live) ++ frames payloads ++ twin.stands.gate ∷ (bytes ++ drop (length bytes) twin.stands.rest)
  body_is bytes =
      let front = front_of (generation live) ++ frames payloads in
      ap (λ f. written (length front + 1) bytes f) twin.stands.is ∙ body_there front twin.stands.gate twin.stands.rest bytes

-- ---- the gate in front of it

-- an open gate and a body behind a plain front, of which the first byte may be 4: then it is a generation's, and has no records
module _ (second : Bool) (payload rest other : List ℕ) (small : length payload ≤ 32768) (first : second ≡ false)
    (none : generation other ≡ None) where
  first_gate : (gate : ℕ) → IsTwin second [] (gate ∷ (append_body payload ++ rest)) other
      ⊎ IsTwin second (payload ∷ []) (gate ∷ (append_body payload ++ rest)) other
  first_gate gate =
      elim (cases_eq gate 1) [
        | inl is ↦ inr (twin_plain second (payload ∷ []) _ other first none (λ e. absurd (omega (arith, e, is))) (record {
          gate = 0;
          rest = rest;
          shut = omega arith;
          is = ap (λ (x : ℕ). x ∷ (append_body payload ++ rest)) is ∙ opened [] [] payload rest;
        }))
        | inr shut ↦ elim (cases_eq gate 4) [
          | inl is ↦ inl (generation_begins gate is)
          | inr plain ↦ inl (twin_plain second [] _ other first none plain
              (record { gate = gate; rest = append_body payload ++ rest; shut = shut; is = refl }))
        ]
      ]
    where
      generation_begins : (gate : ℕ) → gate ≡ 4 → IsTwin second [] (gate ∷ (append_body payload ++ rest)) other
      generation_begins gate is =
          let z = two_zeros (length payload) small in
          let more = z.0 ∷ z.1 ∷ (payload ++ 0 ∷ []) ++ rest in
          let there : gate ∷ (append_body payload ++ rest) ≡ 4 ∷ 0 ∷ 0 ∷ more =
          ap (λ (x : ℕ). x ∷ (append_body payload ++ rest)) is ∙ ap (λ b. 4 ∷ ((b ++ payload ++ 0 ∷ []) ++ rest)) z.2 in
          subst (λ f. IsTwin second [] f other) (sym there) (twin_of second [] (4 ∷ 0 ∷ 0 ∷ more) other 0 (omega arith) refl
          (subst (IsBehind (Some 0)) (sym none) tt) (record { gate = 0; rest = more; shut = omega arith; is = refl }))

module _ (second : Bool) (payloads : List (List ℕ)) (payload mid rest other : List ℕ) (closing : ℕ) (small : length payload ≤ 32768)
    (twin : IsTwin second payloads mid other)
    (is : mid ≡ front_of (generation mid) ++ frames payloads ++ closing ∷ (append_body payload ++ rest)) where
  abbrev pub Either : List ℕ → Type 0
  Either c = IsTwin second payloads c other ⊎ IsTwin second (payloads ++ payload ∷ []) c other

  with_plain : (gate : ℕ) → generation mid ≡ None → Either (frames payloads ++ gate ∷ (append_body payload ++ rest))
  with_plain gate are = go payloads
    where
      first : second ≡ false
      first = twin.plain_is_first are

      none : generation other ≡ None
      none = behind_plain (generation other) (subst (λ o. IsBehind o (generation other)) are twin.behind)

      go : (ps : List (List ℕ)) → IsTwin second ps (frames ps ++ gate ∷ (append_body payload ++ rest)) other
          ⊎ IsTwin second (ps ++ payload ∷ []) (frames ps ++ gate ∷ (append_body payload ++ rest)) other
      go [] = first_gate second payload rest other small first none gate
      go (q ∷ ps) =
          elim (cases_eq gate 1) [
            | inl open_gate ↦ inr (twin_plain second ((q ∷ ps) ++ payload ∷ []) _ other first none (λ e. absurd (omega (arith, e)))
                (record {
                  gate = 0;
                  rest = rest;
                  shut = omega arith;
                  is = ap (λ (x : ℕ). frames (q ∷ ps) ++ x ∷ (append_body payload ++ rest)) open_gate ∙ opened [] (q ∷ ps) payload rest;
                }))
            | inr shut ↦ inl (twin_plain second (q ∷ ps) _ other first none (λ e. absurd (omega (arith, e)))
                (record { gate = gate; rest = append_body payload ++ rest; shut = shut; is = refl }))
          ]

  with_generation : (gate g : ℕ) → generation mid ≡ Some g
      → Either ((4 ∷ g ∷ []) ++ frames payloads ++ gate ∷ (append_body payload ++ rest))
  with_generation gate g are =
      let behind = subst (λ o. IsBehind o (generation other)) are twin.behind in
      elim (cases_eq gate 1) [
        | inl open_gate ↦ inr (twin_of second (payloads ++ payload ∷ []) _ other g (twin.sound g are)
            (generation_of_front g (frames payloads) gate (append_body payload ++ rest)) behind
            (record {
              gate = 0;
              rest = rest;
              shut = omega arith;
              is = ap (λ (x : ℕ). (4 ∷ g ∷ []) ++ frames payloads ++ x ∷ (append_body payload ++ rest)) open_gate
                  ∙ opened (4 ∷ g ∷ []) payloads payload rest;
            }))
        | inr shut ↦ inl (twin_of second payloads _ other g (twin.sound g are) (generation_of_front g (frames payloads) gate
            (append_body payload ++ rest)) behind (record { gate = gate; rest = append_body payload ++ rest; shut = shut; is = refl }))
      ]

  with_gate : (gate : ℕ) (gen : Option ℕ) → generation mid ≡ gen
      → Either (front_of gen ++ frames payloads ++ gate ∷ (append_body payload ++ rest))
  with_gate gate None are = with_plain gate are
  with_gate gate (Some g) are = with_generation gate g are

  pub gate_either : (c : List ℕ) → Torn (length (front_of (generation mid) ++ frames payloads)) 1 mid c → Either c
  gate_either c torn =
      let front = front_of (generation mid) ++ frames payloads in
      let t = some_gate front closing (append_body payload ++ rest) c (subst (λ f. Torn (length front) 1 f c) is torn) in
      subst Either (sym t.1) (with_gate t.0 (generation mid) refl)

  one_begins : (ps : List (List ℕ)) → begins_with (frames ps ++ 1 ∷ (append_body payload ++ rest)) 4 → ⊥
  one_begins [] e = absurd (omega (arith, e))
  one_begins (q ∷ ps) e = absurd (omega (arith, e))

  gate_opens : (gen : Option ℕ) → generation mid ≡ gen
      → IsTwin second (payloads ++ payload ∷ []) (front_of gen ++ frames payloads ++ 1 ∷ (append_body payload ++ rest)) other
  gate_opens None are = twin_plain second (payloads ++ payload ∷ []) _ other (twin.plain_is_first are)
      (behind_plain (generation other) (subst (λ o. IsBehind o (generation other)) are twin.behind)) (one_begins payloads)
      (record { gate = 0; rest = rest; shut = omega arith; is = opened [] payloads payload rest })
  gate_opens (Some g) are = twin_of second (payloads ++ payload ∷ []) _ other g (twin.sound g are)
      (generation_of_front g (frames payloads) 1 (append_body payload ++ rest)) (subst (λ o. IsBehind o (generation other)) are twin.behind)
      (record { gate = 0; rest = rest; shut = omega arith; is = opened (4 ∷ g ∷ []) payloads payload rest })

  -- the gate, when it is open
  pub gate_kept : IsTwin second (payloads ++ payload ∷ [])
      (written (length (front_of (generation mid) ++ frames payloads)) (1 ∷ []) mid) other
  gate_kept =
      let front = front_of (generation mid) ++ frames payloads in
      let there : written (length front) (1 ∷ []) mid ≡ front ++ 1 ∷ (append_body payload ++ rest) =
      ap (λ f. written (length front) (1 ∷ []) f) is ∙ written-behind front (closing ∷ (append_body payload ++ rest)) (1 ∷ [])
      ∙ append_assoc front (1 ∷ []) (append_body payload ++ rest) in
      subst (λ f. IsTwin second (payloads ++ payload ∷ []) f other) (sym there) (gate_opens (generation mid) refl)

  -- a file that has one more record keeps its generation
  has_more : (gen : Option ℕ) → generation mid ≡ gen
      → generation (front_of gen ++ frames payloads ++ 1 ∷ (append_body payload ++ rest)) ≡ gen
  has_more None are = plain_none (frames payloads ++ 1 ∷ (append_body payload ++ rest)) (one_begins payloads)
  has_more (Some g) are = generation_of_front g (frames payloads) 1 (append_body payload ++ rest)

  pub gate_generation : generation (written (length (front_of (generation mid) ++ frames payloads)) (1 ∷ []) mid) ≡ generation mid
  gate_generation =
      let front = front_of (generation mid) ++ frames payloads in
      let there : written (length front) (1 ∷ []) mid ≡ front ++ 1 ∷ (append_body payload ++ rest) =
      ap (λ f. written (length front) (1 ∷ []) f) is ∙ written-behind front (closing ∷ (append_body payload ++ rest)) (1 ∷ [])
      ∙ append_assoc front (1 ∷ []) (append_body payload ++ rest) in
      ap generation there ∙ has_more (generation mid) refl
