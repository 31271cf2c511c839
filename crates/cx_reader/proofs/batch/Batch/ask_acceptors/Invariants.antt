use Rattle.cx_role.proofs.Common.{role, Reader, is_member_of, live_entries, IsSendingTo}
use Rattle.cx_model.specs.Reader.{pre_read_to}
use Rattle.cx_reader.proofs.batch.Batch.ask_acceptors.Given as goal

abbrev pub invariant-loop-acceptor : goal.invariant-loop-acceptor
invariant-loop-acceptor l =
    let live = live_entries l.self.told in
    IsSendingTo (λ a. is_member_of live a) (pre_read_to (role Reader l.reader) l.self) l.fn.out l.out l.acceptor l.cluster.acceptors
