use Rattle.cx_letter.specs.Prelude.{◌≡◌, ◌≤◌, ◌+◌, ◌++◌, drop, map, role, Reader}
use Rattle.cx_model.specs.Reader.{read_to}
use Rattle.cx_reader.proofs.reads.AskedReads.ask_all.Given as goal

abbrev pub invariant-loop-place : goal.invariant-loop-place
invariant-loop-place l = record {
  list : l.out.list ++ map (read_to (role Reader l.reader) l.mark) (drop l.place l.self)
      ≡ l.fn.out.list ++ map (read_to (role Reader l.reader) l.mark) l.self;
  spare : l.fn.out.spare ≤ l.out.spare + l.place;
}
