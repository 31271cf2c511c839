use Rattle.cx_journal.proofs.Common.{◌≡◌, ◌+◌, ◌++◌, [], ◌∷◌, true, length, drop, payloads, all_kept_by, image_at, frames, gates_from}
use Rattle.cx_journal.specs.Image.{image_from}
use Rattle.cx_journal.proofs.Reading.{with_all}
use Rattle.cx_journal.proofs.image.records_in.Given as goal

abbrev pub invariant-reading : goal.invariant-reading
invariant-reading l = record {
  place : l.at + length l.left ≡ length l.fn.bytes;
  so_far : image_from l.fn.kind l.fn.start l.fn.bytes ≡ with_all l.records.items (image_at l.fn.kind (length l.left) l.at l.left);
  spelled : drop l.fn.start l.fn.bytes ≡ frames (payloads l.records.items) ++ l.left;
  gate : l.at ≡ l.fn.start + length (frames (payloads l.records.items));
  gates : l.gates.items ++ l.at ∷ [] ≡ gates_from l.fn.start (payloads l.records.items);
  fit : all_kept_by l.fn.kind l.records.items ≡ true;
}

abbrev pub decreases-reading : goal.decreases-reading
decreases-reading l = length l.left
