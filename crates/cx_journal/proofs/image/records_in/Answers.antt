use Rattle.cx_base.proofs.Common.{length-drop, take_all}
use Rattle.cx_journal.proofs.Common.{ℕ, ◌≡◌, ◌+◌, ◌-◌, [], ◌∷◌, ◌++◌, length, take, drop, refl, sym, ◌∙◌, ap, arith, payloads, image_at}
use Rattle.cx_journal.proofs.Common.{with_first, frames, gates_from, gates-push, payloads-push, all_kept-push}
use Rattle.cx_journal.proofs.Crash.{frames-more, length-frames-more}
use Rattle.cx_journal.proofs.Reading.{image_at-enough, with_all, with_all-push, with_all-Ok}
use Rattle.cx_journal.proofs.Breaks.{read_stops, breaks_so}
use Rattle.cx_journal.proofs.image.records_in.Goals as goal

pub returns-in-Ok-clause-image : goal.returns-in-Ok-clause-image
returns-in-Ok-clause-image c =
    let found = rw c.in-Ok-None.field-0-is at c.in-Ok-None.ensures.image in
    c.reading.invariant.so_far ∙ ap (with_all c.reading.records.items) found ∙ with_all-Ok c.reading.records.items

pub returns-in-Err-clause-image : goal.returns-in-Err-clause-image
returns-in-Err-clause-image c =
    breaks_so c.reading.records.items _ _ c.in-Err.stop c.reading.invariant.so_far c.in-Err.ensures.image

pub returns-in-Err-record_at-clause-image : goal.returns-in-Err-record_at-clause-image
returns-in-Err-record_at-clause-image c =
    let found = rw c.in-Ok-Some.field-0-is at c.in-Ok-Some.ensures.image in
    read_stops _ c.reading.records.items (c.reading.at + 5) _ _ c.in-Err-record_at.stop
    (c.reading.invariant.so_far ∙ ap (with_all c.reading.records.items) found) c.in-Err-record_at.ensures.read

pub reading-preserved : goal.reading-preserved
reading-preserved c =
    let found = rw c.in-Ok-Some.field-0-is at c.in-Ok-Some.ensures.image in
    let lengths = rw c.in-Ok-Some.field-0-is at c.in-Ok-Some.ensures.lengths in
    let spelled = rw c.in-Ok-Some.field-0-is at c.in-Ok-Some.ensures.spelled in
    let records = c.reading.records.items in
    let r = c.in-Ok-record_at.what in
    let payload = c.in-Ok-Some.split.payload.now in
    let after = c.in-Ok-Some.split.after.now in
    let more = image_at c.args.kind (length after) (c.reading.at + (5 + length payload)) after in
    let pushed : c.push_found.new.records.items ≡ records ++ r ∷ [] = c.in-Ok-push_found.ensures.records in
    let ps : payloads (records ++ r ∷ []) ≡ payloads records ++ payload ∷ [] =
    payloads-push records r ∙ ap (λ p. payloads records ++ p ∷ []) (sym c.in-Ok-record_at.ensures.spelled) in
    let behind : length (frames (payloads records)) + (5 + length payload) ≡ length (frames (payloads records ++ payload ∷ [])) =
    length-frames-more (payloads records) payload (length (frames (payloads records))) refl in
    let place : c.reading.at + (5 + length payload) ≡ c.args.start + length (frames (payloads records ++ payload ∷ [])) =
    omega (arith, behind, c.reading.invariant.gate) in
    rw (pushed, ps) (record {
      place = omega (arith, lengths, c.reading.invariant.place);
      so_far = c.reading.invariant.so_far ∙ ap (with_all records)
          (found ∙ ap (λ x. with_first (c.reading.at + 5) x more) c.in-Ok-record_at.ensures.read) ∙ sym (with_all-push records r more);
      spelled = c.reading.invariant.spelled ∙ frames-more (payloads records) payload c.reading.left.now after spelled;
      gate = place;
      gates = ap (λ l. l ++ (c.reading.at + (5 + length payload)) ∷ []) (c.in-Ok-push_found.ensures.gates ∙ c.reading.invariant.gates)
          ∙ ap (λ (n : ℕ). gates_from c.args.start (payloads records) ++ n ∷ []) place
          ∙ sym (gates-push c.args.start (payloads records) payload);
      fit = all_kept-push c.args.kind records r c.reading.invariant.fit c.in-Ok-record_at.ensures.kept;
    })

pub reading-init : goal.reading-init
reading-init c =
    let bytes = c.args.bytes.now in
    let all : take (length bytes - c.args.start) (drop c.args.start bytes) ≡ drop c.args.start bytes =
    take_all (length bytes - c.args.start) (drop c.args.start bytes) (omega (arith, length-drop c.args.start bytes)) in
    rw (all, c.new-records.ensures.items, c.new-gates.ensures.items) (record {
      place = omega (arith, length-drop c.args.start bytes, c.requires.start);
      so_far = image_at-enough c.args.kind (length bytes) (length bytes) (length (drop c.args.start bytes)) c.args.start (drop c.args.start
          bytes) (omega (arith, length-drop c.args.start bytes)) (omega (arith, length-drop c.args.start bytes)) (omega arith);
      spelled = refl;
      gate = omega arith;
      gates = refl;
      fit = refl;
    })
