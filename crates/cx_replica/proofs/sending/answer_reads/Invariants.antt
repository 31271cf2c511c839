use Rattle.std.proofs.Common.{◌≡◌, ◌≤◌, ◌+◌, ◌++◌, true, drop, length}
use Rattle.cx_replica.specs.Answering.{answers_at}
use Rattle.cx_replica.specs.Sound.{are_reads}
use Rattle.cx_replica.proofs.sending.answer_reads.Given as goal

abbrev pub invariant-loop-place : goal.invariant-loop-place
invariant-loop-place l = record {
  list : l.out.list ++ answers_at l.me l.held l.machine.left.map (drop l.place l.deferred)
      ≡ l.fn.out.list ++ answers_at l.me l.held l.machine.left.map l.deferred;
  spare : length l.deferred ≤ l.out.spare + l.place;
  reads : are_reads (drop l.place l.deferred) ≡ true;
}
