-- The two laws of a renewed list.
use Rattle.std.specs.Prelude.{◌≡◌, ◌≤◌, ℕ, ◌+◌, ◌-◌, true, nat_le, map, List, [], ◌∷◌, ◌++◌, length, drop, None, refl}
use Rattle.std.proofs.Common.{ap, sym, ◌∙◌, subst, arith, length-drop}
use Rattle.std.proofs.lemmas.Bool.Decides.{nat_tests}
use Rattle.cx_letter.specs.Prelude.{Cluster, Value, RoleId}
use Rattle.cx_letter.specs.declared.kept.Record.{Record}
use Rattle.cx_letter.specs.declared.kept.Record.TheVariants as kept
use Rattle.cx_model.specs.Names.{names_value}
use Rattle.cx_model.specs.Replica.{ReplicaDurable, held, is_renewal_whole, notes_of, pieces, replica_renewed, replica_rules}
use Rattle.cx_model.specs.Rules.{folded, refused}
use Rattle.cx_model.specs.Renewed.{IsOrdered, IsRenewable, forgets, pieces_joined, all_parts, replica_folds, folds_append, with_pairs}
use Rattle.cx_model.specs.Renewed.{spread, with_notes, with_tail, AllFit, fit_append, not_refused, pairs_fit, notes_fit, tail_fits}
use Rattle.cx_model.specs.RenewedNotes.{spread_is, all_by_client, all_above}

-- THE two laws of a renewal

module _ (d : ReplicaDurable) (first : ℕ) (from : d.first ≤ first) (ordered : IsOrdered d.machine.table) where
  abbrev base : List Record
  base = kept.Base first (held d) (length d.machine.map) (length d.machine.table.floors) ∷ []

  abbrev pairs : List Record
  pairs = map (λ ps. kept.Pairs ps) (pieces 255 d.machine.map)

  abbrev notes : List Record
  notes = map (notes_of d.machine.table) d.machine.table.floors

  abbrev left : List Value
  left = drop (first - d.first) d.log

  abbrev tail : List Record
  tail = map (λ vs. kept.Tail vs) (pieces 32 left)

  -- the states behind the base, the pairs and the notes
  abbrev based : ReplicaDurable
  based = record {
    first = first;
    log = [];
    machine = record { map = []; table = record { floors = []; notes = [] } };
    begun = true;
    pairs = length d.machine.map;
    clients = length d.machine.table.floors;
    values = held d - first;
  }

  abbrev paired : ReplicaDurable
  paired = record based { machine = record { map = d.machine.map; table = record { floors = []; notes = [] } }; pairs = 0 }

  abbrev noted : ReplicaDurable
  noted = record based { machine = d.machine; pairs = 0; clients = 0 }

  all_notes : spread d.machine.table.notes d.machine.table.floors ≡ d.machine.table.notes
  all_notes =
      spread_is d.machine.table.notes d.machine.table.floors
      ∙ all_by_client 0 d.machine.table.floors d.machine.table.notes ordered.floors_rise ordered.notes_rise ordered.above

  pairs_there : replica_folds based pairs ≡ paired
  pairs_there =
      let nothing : length d.machine.map - length d.machine.map ≡ 0 = omega arith in
      with_pairs based (pieces 255 d.machine.map) refl
      ∙ rw (pieces_joined (length d.machine.map) 255 d.machine.map (omega arith) (omega arith), nothing) refl

  notes_there : replica_folds paired notes ≡ noted
  notes_there =
      let nobody : length d.machine.table.floors - length d.machine.table.floors ≡ 0 = omega arith in
      with_notes d.machine.table paired d.machine.table.floors refl ∙ rw (all_notes, nobody) refl

  tail_there : replica_folds noted tail ≡ forgets d first
  tail_there =
      let last : held d - first - length left ≡ 0 = omega (arith, length-drop (first - d.first) d.log) in
      with_tail noted (pieces 32 left) refl ∙ rw (pieces_joined (length left) 32 left (omega arith) (omega arith), last) refl

  behind_pairs : replica_folds replica_rules.empty (base ++ pairs) ≡ paired
  behind_pairs = folds_append replica_rules.empty base pairs ∙ pairs_there

  behind_notes : replica_folds replica_rules.empty (base ++ pairs ++ notes) ≡ noted
  behind_notes = folds_append replica_rules.empty (base ++ pairs) notes ∙ ap (λ x. replica_folds x notes) behind_pairs ∙ notes_there

  -- a renewed list leaves the state that it was made of, without what it forgets
  pub renewed_folds : folded replica_rules (replica_renewed d first) ≡ forgets d first
  renewed_folds = folds_append replica_rules.empty (base ++ pairs ++ notes) tail ∙ ap (λ x. replica_folds x tail) behind_notes ∙ tail_there

  -- a replica opens from it
  pub renewed_fits : (c : Cluster) (me : RoleId) → first ≤ held d → IsRenewable c d
      → refused replica_rules c me (replica_renewed d first) ≡ None
  renewed_fits c me within renewable = not_refused c me replica_rules.empty 0 (replica_renewed d first) fits whole
    where
      base_fits : AllFit c me replica_rules.empty base
      base_fits = (let most : nat_le first (held d) ≡ true = grind (arith, nat_tests, within) in (most, tt))

      all_pairs : AllFit c me based pairs
      all_pairs = pairs_fit c me 255 refl (length d.machine.map) based d.machine.map (omega arith) refl renewable.keys

      all_of_notes : AllFit c me paired notes
      all_of_notes =
          notes_fit c me d.machine.table paired d.machine.table.floors refl refl renewable.clients ordered.floors_rise
          (all_above 0 d.machine.table.floors d.machine.table.floors d.machine.table.notes ordered.floors_rise (λ k least. refl)
          ordered.notes_rise renewable.near)

      all_of_tail : AllFit c me noted tail
      all_of_tail =
          let count : held d - first ≡ length left = omega (arith, length-drop (first - d.first) d.log, from, within) in
          tail_fits c me 32 refl (length left) noted left (omega arith) refl refl count
          (all_parts (λ (v : Value). names_value c v) (first - d.first) d.log renewable.values).1

      to_pairs : AllFit c me replica_rules.empty (base ++ pairs)
      to_pairs = fit_append c me replica_rules.empty base pairs base_fits all_pairs

      to_notes : AllFit c me replica_rules.empty (base ++ pairs ++ notes)
      to_notes = fit_append c me replica_rules.empty (base ++ pairs) notes to_pairs
          (subst (λ x. AllFit c me x notes) (sym behind_pairs) all_of_notes)

      fits : AllFit c me replica_rules.empty (replica_renewed d first)
      fits = fit_append c me replica_rules.empty (base ++ pairs ++ notes) tail to_notes
          (subst (λ x. AllFit c me x tail) (sym behind_notes) all_of_tail)

      whole : is_renewal_whole (replica_folds replica_rules.empty (replica_renewed d first)) ≡ true
      whole = ap (λ x. is_renewal_whole x) renewed_folds
