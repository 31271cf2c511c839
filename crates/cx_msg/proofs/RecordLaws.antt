-- What decodes as a record is spelled so, and what is spelled decodes.
use Rattle.cx_base.proofs.Common.{◌≡◌, ℕ, ◌<◌, Bool, true, false, not, cond, List, [], ◌∷◌, ◌++◌, length, Result, Ok, Err, refl, sym, ap}
use Rattle.cx_base.proofs.Common.{◌∙◌, lit<, IfOk, IsTrue, append-nil}
use Rattle.cx_wire.specs.Format.{Miss, u8, u16, u32, u64, then_by, ◌▷◌, by_tag}
use Rattle.cx_wire.proofs.Laws.{IsBytes, IsExact, Takes-then, u8-exact, u16-exact, u32-exact, u64-exact, ▷-exact, case-sound, case-again}
use Rattle.cx_wire.proofs.Laws.{AllSound, ReadsAgain, by_tag-takes, tag_fits, then_by-exact}
use Rattle.cx_field.specs.Fields.{slot, mark, seq, round, round0, grid, value, values, pairs, notes, joined, set, votes}
use Rattle.cx_letter.specs.Records.{vote, round_mark, round_grid, base, client_notes, round_set, boot, voted, record_shape, record_cases}
use Rattle.cx_letter.specs.Records.{kept_record, fits}
use Rattle.cx_msg.specs.RecordBytes.{spelling, is_tag, record_at_end, with_tag, record_of_bytes}
use Rattle.cx_msg.specs.Decodes.{Decodes}
use Rattle.cx_letter.specs.declared.kept.Record.{Record}
use Rattle.cx_letter.specs.declared.kept.Record.TheVariants as kept
use Rattle.cx_msg.specs.declared.fault.WireFault.{WireFault}
use Rattle.cx_msg.specs.declared.fault.WireFault.TheVariants as faults
use Rattle.cx_field.proofs.FieldLaws.{slot-exact, mark-exact, seq-exact, round-exact, round0-exact, grid-exact, value-exact, values-exact}
use Rattle.cx_field.proofs.FieldLaws.{pairs-exact, notes-exact, joined-exact, set-exact, votes-exact}

vote-exact : IsExact vote
vote-exact =
    ▷-exact round (slot ▷ (mark ▷ value)) round-exact (▷-exact slot (mark ▷ value) slot-exact (▷-exact mark value mark-exact value-exact))

pub round_mark-exact : IsExact round_mark
round_mark-exact = ▷-exact round mark round-exact mark-exact

pub round_grid-exact : IsExact round_grid
round_grid-exact = ▷-exact round grid round-exact grid-exact

base-exact : IsExact base
base-exact = ▷-exact mark (mark ▷ (u32 ▷ u8)) mark-exact (▷-exact mark (u32 ▷ u8) mark-exact (▷-exact u32 u8 u32-exact u8-exact))

client_notes-exact : IsExact client_notes
client_notes-exact = ▷-exact u16 (u64 ▷ notes) u16-exact (▷-exact u64 notes u64-exact notes-exact)

pub round_set-exact : IsExact round_set
round_set-exact = ▷-exact round set round-exact set-exact

pub boot-exact : IsExact boot
boot-exact = ▷-exact set (round0 ▷ joined) set-exact (▷-exact round0 joined round0-exact joined-exact)

voted-exact : IsExact voted
voted-exact = ▷-exact round (mark ▷ then_by mark votes) round-exact
    (▷-exact mark (then_by mark votes) mark-exact (then_by-exact mark votes mark-exact (λ cw _. votes-exact cw)))

pub records-sound : AllSound record_shape record_cases
unfolding record_cases
records-sound = (
  case-sound record_shape 1 round (λ x. kept.Promise x) round-exact (λ _. refl),
  (
    case-sound record_shape 2 vote (λ x. kept.Vote x.0 x.1.0 x.1.1.0 x.1.1.1) vote-exact (λ _. refl),
    (
      case-sound record_shape 3 round_mark (λ x. kept.Water x.0 x.1) round_mark-exact (λ _. refl),
      (
        case-sound record_shape 4 round_grid (λ x. kept.Match x.0 x.1) round_grid-exact (λ _. refl),
        (
          case-sound record_shape 5 round_grid (λ x. kept.Garbage x.0 x.1) round_grid-exact (λ _. refl),
          (
            case-sound record_shape 6 round_grid (λ x. kept.Round x.0 x.1) round_grid-exact (λ _. refl),
            (
              case-sound record_shape 7 values (λ x. kept.Log x) values-exact (λ _. refl),
              (
                case-sound record_shape 8 base (λ x. kept.Base x.0 x.1.0 x.1.1.0 x.1.1.1) base-exact (λ _. refl),
                (
                  case-sound record_shape 9 pairs (λ x. kept.Pairs x) pairs-exact (λ _. refl),
                  (
                    case-sound record_shape 10 client_notes (λ x. kept.Notes x.0 x.1.0 x.1.1) client_notes-exact (λ _. refl),
                    (
                      case-sound record_shape 11 values (λ x. kept.Tail x) values-exact (λ _. refl),
                      (
                        case-sound record_shape 12 round (λ x. kept.Ballot x) round-exact (λ _. refl),
                        (
                          case-sound record_shape 13 round (λ x. kept.Stop x) round-exact (λ _. refl),
                          (
                            case-sound record_shape 14 round_set (λ x. kept.Next x.0 x.1) round_set-exact (λ _. refl),
                            (
                              case-sound record_shape 15 boot (λ x. kept.Boot x.0 x.1.0 x.1.1) boot-exact (λ _. refl),
                              (
                                case-sound record_shape 16 seq (λ x. kept.Turn x) seq-exact (λ _. refl),
                                (
                                  case-sound record_shape 17 voted (λ x. kept.Voted x.0 x.1.0 x.1.1.0 x.1.1.1) voted-exact (λ _. refl),
                                  (case-sound record_shape 18 set (λ x. kept.Known x) set-exact (λ _. refl), tt),
                                ),
                              ),
                            ),
                          ),
                        ),
                      ),
                    ),
                  ),
                ),
              ),
            ),
          ),
        ),
      ),
    ),
  ),
)

record-again : (r : Record) → ReadsAgain record_shape record_cases r
unfolding record_cases
record-again (kept.Promise r) left rest fits = case-again {A = Record} 1 round (λ x. kept.Promise x) r rest round-exact fits
record-again (kept.Vote r s cw v) left rest fits =
    case-again {A = Record} 2 vote (λ x. kept.Vote x.0 x.1.0 x.1.1.0 x.1.1.1) (r, (s, (cw, v))) rest vote-exact fits
record-again (kept.Water r n) left rest fits =
    case-again {A = Record} 3 round_mark (λ x. kept.Water x.0 x.1) (r, n) rest round_mark-exact fits
record-again (kept.Match r g) left rest fits =
    case-again {A = Record} 4 round_grid (λ x. kept.Match x.0 x.1) (r, g) rest round_grid-exact fits
record-again (kept.Garbage r g) left rest fits =
    case-again {A = Record} 5 round_grid (λ x. kept.Garbage x.0 x.1) (r, g) rest round_grid-exact fits
record-again (kept.Round r g) left rest fits =
    case-again {A = Record} 6 round_grid (λ x. kept.Round x.0 x.1) (r, g) rest round_grid-exact fits
record-again (kept.Log vs) left rest fits = case-again {A = Record} 7 values (λ x. kept.Log x) vs rest values-exact fits
record-again (kept.Base f h p c) left rest fits =
    case-again {A = Record} 8 base (λ x. kept.Base x.0 x.1.0 x.1.1.0 x.1.1.1) (f, (h, (p, c))) rest base-exact fits
record-again (kept.Pairs ps) left rest fits = case-again {A = Record} 9 pairs (λ x. kept.Pairs x) ps rest pairs-exact fits
record-again (kept.Notes c f ns) left rest fits =
    case-again {A = Record} 10 client_notes (λ x. kept.Notes x.0 x.1.0 x.1.1) (c, (f, ns)) rest client_notes-exact fits
record-again (kept.Tail vs) left rest fits = case-again {A = Record} 11 values (λ x. kept.Tail x) vs rest values-exact fits
record-again (kept.Ballot r) left rest fits = case-again {A = Record} 12 round (λ x. kept.Ballot x) r rest round-exact fits
record-again (kept.Stop r) left rest fits = case-again {A = Record} 13 round (λ x. kept.Stop x) r rest round-exact fits
record-again (kept.Next r s) left rest fits = case-again {A = Record} 14 round_set (λ x. kept.Next x.0 x.1) (r, s) rest round_set-exact fits
record-again (kept.Boot s w es) left rest fits =
    case-again {A = Record} 15 boot (λ x. kept.Boot x.0 x.1.0 x.1.1) (s, (w, es)) rest boot-exact fits
record-again (kept.Turn n) left rest fits = case-again {A = Record} 16 seq (λ x. kept.Turn x) n rest seq-exact fits
record-again (kept.Voted r top cw vs) left rest fits =
    case-again {A = Record} 17 voted (λ x. kept.Voted x.0 x.1.0 x.1.1.0 x.1.1.1) (r, (top, (cw, vs))) rest voted-exact fits
record-again (kept.Known s) left rest fits = case-again {A = Record} 18 set (λ x. kept.Known x) s rest set-exact fits

-- a record's tag is one
has_tag : (r : Record) → (is_tag (record_shape r).tag ≡ true) × ((record_shape r).tag < 256)
has_tag (kept.Promise r) = (refl, lit< tt)
has_tag (kept.Vote r s cw v) = (refl, lit< tt)
has_tag (kept.Water r n) = (refl, lit< tt)
has_tag (kept.Match r g) = (refl, lit< tt)
has_tag (kept.Garbage r g) = (refl, lit< tt)
has_tag (kept.Round r g) = (refl, lit< tt)
has_tag (kept.Log vs) = (refl, lit< tt)
has_tag (kept.Base f h p c) = (refl, lit< tt)
has_tag (kept.Pairs ps) = (refl, lit< tt)
has_tag (kept.Notes c f ns) = (refl, lit< tt)
has_tag (kept.Tail vs) = (refl, lit< tt)
has_tag (kept.Ballot r) = (refl, lit< tt)
has_tag (kept.Stop r) = (refl, lit< tt)
has_tag (kept.Next r s) = (refl, lit< tt)
has_tag (kept.Boot s w es) = (refl, lit< tt)
has_tag (kept.Turn n) = (refl, lit< tt)
has_tag (kept.Voted r top cw vs) = (refl, lit< tt)
has_tag (kept.Known s) = (refl, lit< tt)

past : (b : Bool) (e : WireFault) (r : Result Record WireFault) (x : Record) → cond (not b) (Err e) r ≡ Ok x → r ≡ Ok x
past true e r x h = h
past false e r x h = absurd cc

tag_case : (all : ℕ) (r : Result (ℕ × List ℕ) Miss) (x : Record) → with_tag all r ≡ Ok x
    → (t : ℕ × List ℕ) × (r ≡ Ok t) × (record_at_end all t.0 (by_tag record_cases t.0 (length t.1) t.1) ≡ Ok x)
unfolding with_tag
tag_case all (Err miss) x e = absurd cc
tag_case all (Ok t) x e = (t, refl, past (is_tag t.0) (faults.Kind t.0) _ x e)

ended_case : (all tag : ℕ) (r : Result (Record × List ℕ) Miss) (x : Record) → record_at_end all tag r ≡ Ok x → r ≡ Ok (x, [])
unfolding record_at_end
ended_case all tag (Err miss) x e = absurd cc
ended_case all tag (Ok (y, [])) x e = cc
ended_case all tag (Ok (y, b ∷ bytes)) x e = absurd cc

pub recorded-takes : (bytes : List ℕ) (x : Record) → IsBytes bytes → record_of_bytes bytes ≡ Ok x → (bytes ≡ spelling x) × (fits x ≡ true)
unfolding kept_record
recorded-takes bytes x is_bytes e =
    let a = tag_case (length bytes) (u8.read bytes) x e in
    let s = u8-exact.takes bytes a.0 is_bytes a.1 in
    let r = ended_case (length bytes) a.0.0 (by_tag record_cases a.0.0 (length a.0.1) a.0.1) x a.2 in
    let t = by_tag-takes record_shape record_cases records-sound a.0.0 (length a.0.1) a.0.1 (x, []) s.0.rest_fits r in
    let whole = (Takes-then bytes (u8.spell a.0.0) a.0.1 (record_shape x).bytes [] s.0 t.0).parts in
    (rw t.2 (whole ∙ append-nil (u8.spell a.0.0 ++ (record_shape x).bytes)), t.1)

pub recorded-again : (x : Record) → fits x ≡ true → record_of_bytes (spelling x) ≡ Ok x
unfolding kept_record with_tag record_at_end
recorded-again x h =
    let s = record_shape x in
    let k = has_tag x in
    let first : u8.read (u8.spell s.tag ++ s.bytes) ≡ Ok (s.tag, s.bytes) = u8-exact.again s.tag s.bytes (tag_fits s.tag k.1) in
    let second : by_tag record_cases s.tag (length s.bytes) s.bytes ≡ Ok (x, []) =
    ap (by_tag record_cases s.tag (length s.bytes)) (sym (append-nil s.bytes)) ∙ record-again x (length s.bytes) [] h in
    rw (first, k.0, second) refl

pub is_found : (bytes : List ℕ) (r : Result Record WireFault) → IsBytes bytes → Decodes r (record_of_bytes bytes)
    → IfOk r (λ x. (bytes ≡ spelling x) × IsTrue (fits x))
is_found bytes (Ok x) is_bytes given = recorded-takes bytes x is_bytes given
is_found bytes (Err e) is_bytes given = tt
