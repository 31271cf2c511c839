use Rattle.cx_model.specs.Prelude.{Snap}
use Rattle.cx_world.specs.World.{lists_of}
use Rattle.cx_world.proofs.ByKind.{acceptors, readers, replicas}
use Rattle.cx_world.proofs.Seats.{kind_change}
use Rattle.cx_world.proofs.Snapping.{acceptor_says, other_kinds, reader_says, replica_says}
use Rattle.cx_world.proofs.change.snap.Goals as goal

pub snap_at-requires-clause-says : goal.snap_at-requires-clause-says
snap_at-requires-clause-says c = acceptor_says

pub returns-in_ok-turned-in-Acceptor : goal.returns-in_ok-turned-in-Acceptor
returns-in_ok-turned-in-Acceptor c =
    λ w has. kind_change acceptors w (Snap c.args.cut) c.args.who (lists_of c.args.seats.now) c.in_ok-turned-in-Acceptor.turned.why
    c.of_role.result.why c.of_role.result.who c.in_ok-turned-in-Acceptor.turned.kept
    c.of_role.result.kept c.snap_at.new.out.list c.of_role.ensures.who c.of_role.ensures.why
    c.of_role.ensures.kept has c.in-Acceptor.is c.snap_at.new.seats.items c.in_ok-turned-in-Acceptor.ensures

pub snap_at-requires-in-Replica-clause-says : goal.snap_at-requires-in-Replica-clause-says
snap_at-requires-in-Replica-clause-says c = replica_says

pub returns-in_ok-turned-in-Replica : goal.returns-in_ok-turned-in-Replica
returns-in_ok-turned-in-Replica c =
    λ w has. kind_change replicas w (Snap c.args.cut) c.args.who (lists_of c.args.seats.now) c.in_ok-turned-in-Replica.turned.why
    c.of_role-in-Replica.result.why c.of_role-in-Replica.result.who c.in_ok-turned-in-Replica.turned.kept
    c.of_role-in-Replica.result.kept c.snap_at-in-Replica.new.out.list c.of_role-in-Replica.ensures.who c.of_role-in-Replica.ensures.why
    c.of_role-in-Replica.ensures.kept has c.in-Replica.is c.snap_at-in-Replica.new.seats.items c.in_ok-turned-in-Replica.ensures

pub snap_at-requires-in-Reader-clause-says : goal.snap_at-requires-in-Reader-clause-says
snap_at-requires-in-Reader-clause-says c = reader_says

pub returns-in_ok-turned-in-Reader : goal.returns-in_ok-turned-in-Reader
returns-in_ok-turned-in-Reader c =
    λ w has. kind_change readers w (Snap c.args.cut) c.args.who (lists_of c.args.seats.now) c.in_ok-turned-in-Reader.turned.why
    c.of_role-in-Reader.result.why c.of_role-in-Reader.result.who c.in_ok-turned-in-Reader.turned.kept
    c.of_role-in-Reader.result.kept c.snap_at-in-Reader.new.out.list c.of_role-in-Reader.ensures.who c.of_role-in-Reader.ensures.why
    c.of_role-in-Reader.ensures.kept has c.in-Reader.is c.snap_at-in-Reader.new.seats.items c.in_ok-turned-in-Reader.ensures

pub act-requires-clause-other : goal.act-requires-clause-other
act-requires-clause-other c =
    other_kinds c.args.who.kind c.in_default.not-Acceptor c.in_default.not-Replica c.in_default.not-Reader
