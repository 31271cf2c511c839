use Rattle.std.proofs.Common.{◌≡◌, ◌++◌, drop, length, map, take, decimal}
use Rattle.cx_record.specs.Pieces.{behind_each}
use Rattle.cx_record.proofs.line.put_more_ids.Given as goal

abbrev pub invariant-loop-id : goal.invariant-loop-id
invariant-loop-id l = record {
  text : l.text.items ++ behind_each 44 (map decimal (drop l.id-index l.ids)) ≡ l.fn.text.items ++ behind_each 44 (map decimal l.ids);
  begins : take (length l.fn.text.items) l.text.items ≡ l.fn.text.items;
}
