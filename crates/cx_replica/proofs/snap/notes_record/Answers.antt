use Rattle.cx_role.proofs.Common.{◌≡◌, ◌∙◌, length, map, ap, arith, subst, sym, true, List, Answered, Note, note_of}
use Rattle.cx_letter.specs.declared.kept.Record.TheVariants as kept
use Rattle.cx_letter.specs.Records.{fits as record_fits}
use Rattle.cx_table.specs.Entries.{of_client}
use Rattle.cx_replica.proofs.Snapping.{few_notes, some_notes, notes_fit}
use Rattle.cx_replica.proofs.snap.notes_record.Goals as goal

pub from_vec-requires : goal.from_vec-requires
from_vec-requires c =
    let table = c.args.machine.now.left.table in
    let long : length c.notes.result.now ≡ length (of_client c.args.client table.notes) =
    ap (λ (l : List Answered). length l) c.notes.ensures.notes in
    let least = some_notes c.args.cluster.now table c.args.client c.args.floor c.requires.noted c.requires.told in
    let most = few_notes c.args.cluster.now table c.args.client c.args.floor c.requires.ordered c.requires.noted c.requires.told in
    (omega (arith, c.in_ok-notes.ensures.len, long, least), omega (arith, c.in_ok-notes.ensures.len, long, most))

pub returns-clause-fits : goal.returns-clause-fits
returns-clause-fits c =
    let table = c.args.machine.now.left.table in
    let client = c.args.client in
    let floor = c.args.floor in
    let least = some_notes c.args.cluster.now table client floor c.requires.noted c.requires.told in
    let most = few_notes c.args.cluster.now table client floor c.requires.ordered c.requires.noted c.requires.told in
    let is : c.from_vec.result ≡ map note_of (of_client client table.notes) =
    c.from_vec.ensures ∙ c.in_ok-notes.ensures.items ∙ ap (λ (l : List Answered). map note_of l) c.notes.ensures.notes in
    subst (λ (ns : List Note). record_fits (kept.Notes client floor ns) ≡ true) (sym is)
    (notes_fit client floor table.notes c.ranges.client.fits c.ranges.floor.fits c.notes.ensures.fit least most)
