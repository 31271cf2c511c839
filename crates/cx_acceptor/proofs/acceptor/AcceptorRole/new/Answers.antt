use Rattle.cx_role.proofs.Common.{ap, Kind, role}
use Rattle.cx_acceptor.proofs.SoundLaws.{empty_sound}
use Rattle.cx_acceptor.proofs.acceptor.AcceptorRole.new.Goals as goal

pub invariant_of-result : goal.invariant_of-result
invariant_of-result c =
    rw c.new.ensures.items (empty_sound c.args.cluster.now c.args.me (ap (λ (k : Kind). role k c.args.me.index) c.requires.kind))
