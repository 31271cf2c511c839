use Rattle.cx_role.proofs.Common.{ap, refl}
use Rattle.cx_base.specs.Role.{puts_anew}
use Rattle.cx_world.specs.Seat.{is_snap}
use Rattle.cx_world.specs.World.{lists_of}
use Rattle.cx_world.proofs.ByKind.{batchers, leaders, proxies, acceptors, matchmakers, replicas, unbatchers, readers, replacers}
use Rattle.cx_world.proofs.Seats.{kind_change}
use Rattle.cx_world.proofs.Snapping.{both_off}
use Rattle.cx_world.proofs.change.act.Goals as goal

pub returns-in_ok-turned-in-Batcher : goal.returns-in_ok-turned-in-Batcher
returns-in_ok-turned-in-Batcher c =
    λ w has.
    kind_change batchers w c.args.act.now c.args.who (lists_of c.args.seats.now) c.in_ok-turned-in-Batcher.turned.why c.of_role.result.why
    c.of_role.result.who c.in_ok-turned-in-Batcher.turned.kept c.of_role.result.kept c.act_at.new.out.list c.of_role.ensures.who
    c.of_role.ensures.why c.of_role.ensures.kept has c.in-Batcher.is c.act_at.new.seats.items c.in_ok-turned-in-Batcher.ensures

pub returns-in_ok-turned-in-Leader : goal.returns-in_ok-turned-in-Leader
returns-in_ok-turned-in-Leader c =
    λ w has. kind_change leaders w c.args.act.now c.args.who (lists_of c.args.seats.now) c.in_ok-turned-in-Leader.turned.why
    c.of_role-in-Leader.result.why c.of_role-in-Leader.result.who c.in_ok-turned-in-Leader.turned.kept c.of_role-in-Leader.result.kept
    c.act_at-in-Leader.new.out.list c.of_role-in-Leader.ensures.who c.of_role-in-Leader.ensures.why c.of_role-in-Leader.ensures.kept has
    c.in-Leader.is c.act_at-in-Leader.new.seats.items c.in_ok-turned-in-Leader.ensures

pub returns-in_ok-turned-in-Proxy : goal.returns-in_ok-turned-in-Proxy
returns-in_ok-turned-in-Proxy c =
    λ w has. kind_change proxies w c.args.act.now c.args.who (lists_of c.args.seats.now) c.in_ok-turned-in-Proxy.turned.why
    c.of_role-in-Proxy.result.why c.of_role-in-Proxy.result.who c.in_ok-turned-in-Proxy.turned.kept c.of_role-in-Proxy.result.kept
    c.act_at-in-Proxy.new.out.list c.of_role-in-Proxy.ensures.who c.of_role-in-Proxy.ensures.why c.of_role-in-Proxy.ensures.kept has
    c.in-Proxy.is c.act_at-in-Proxy.new.seats.items c.in_ok-turned-in-Proxy.ensures

pub returns-in_ok-turned-in-Acceptor : goal.returns-in_ok-turned-in-Acceptor
returns-in_ok-turned-in-Acceptor c =
    λ w has. kind_change acceptors w c.args.act.now c.args.who (lists_of c.args.seats.now) c.in_ok-turned-in-Acceptor.turned.why
    c.of_role-in-Acceptor.result.why c.of_role-in-Acceptor.result.who c.in_ok-turned-in-Acceptor.turned.kept
    c.of_role-in-Acceptor.result.kept c.act_at-in-Acceptor.new.out.list c.of_role-in-Acceptor.ensures.who c.of_role-in-Acceptor.ensures.why
    c.of_role-in-Acceptor.ensures.kept has c.in-Acceptor.is c.act_at-in-Acceptor.new.seats.items c.in_ok-turned-in-Acceptor.ensures

pub returns-in_ok-turned-in-Matchmaker : goal.returns-in_ok-turned-in-Matchmaker
returns-in_ok-turned-in-Matchmaker c =
    λ w has. kind_change matchmakers w c.args.act.now c.args.who (lists_of c.args.seats.now) c.in_ok-turned-in-Matchmaker.turned.why
    c.of_role-in-Matchmaker.result.why c.of_role-in-Matchmaker.result.who c.in_ok-turned-in-Matchmaker.turned.kept
    c.of_role-in-Matchmaker.result.kept c.act_at-in-Matchmaker.new.out.list c.of_role-in-Matchmaker.ensures.who
    c.of_role-in-Matchmaker.ensures.why c.of_role-in-Matchmaker.ensures.kept has c.in-Matchmaker.is c.act_at-in-Matchmaker.new.seats.items
    c.in_ok-turned-in-Matchmaker.ensures

pub returns-in_ok-turned-in-Replica : goal.returns-in_ok-turned-in-Replica
returns-in_ok-turned-in-Replica c =
    λ w has. kind_change replicas w c.args.act.now c.args.who (lists_of c.args.seats.now) c.in_ok-turned-in-Replica.turned.why
    c.of_role-in-Replica.result.why c.of_role-in-Replica.result.who c.in_ok-turned-in-Replica.turned.kept c.of_role-in-Replica.result.kept
    c.act_at-in-Replica.new.out.list c.of_role-in-Replica.ensures.who c.of_role-in-Replica.ensures.why c.of_role-in-Replica.ensures.kept has
    c.in-Replica.is c.act_at-in-Replica.new.seats.items c.in_ok-turned-in-Replica.ensures

pub returns-in_ok-turned-in-Unbatcher : goal.returns-in_ok-turned-in-Unbatcher
returns-in_ok-turned-in-Unbatcher c =
    λ w has. kind_change unbatchers w c.args.act.now c.args.who (lists_of c.args.seats.now) c.in_ok-turned-in-Unbatcher.turned.why
    c.of_role-in-Unbatcher.result.why c.of_role-in-Unbatcher.result.who c.in_ok-turned-in-Unbatcher.turned.kept
    c.of_role-in-Unbatcher.result.kept c.act_at-in-Unbatcher.new.out.list c.of_role-in-Unbatcher.ensures.who
    c.of_role-in-Unbatcher.ensures.why c.of_role-in-Unbatcher.ensures.kept has c.in-Unbatcher.is c.act_at-in-Unbatcher.new.seats.items
    c.in_ok-turned-in-Unbatcher.ensures

pub returns-in_ok-turned-in-Reader : goal.returns-in_ok-turned-in-Reader
returns-in_ok-turned-in-Reader c =
    λ w has. kind_change readers w c.args.act.now c.args.who (lists_of c.args.seats.now) c.in_ok-turned-in-Reader.turned.why
    c.of_role-in-Reader.result.why c.of_role-in-Reader.result.who c.in_ok-turned-in-Reader.turned.kept c.of_role-in-Reader.result.kept
    c.act_at-in-Reader.new.out.list c.of_role-in-Reader.ensures.who c.of_role-in-Reader.ensures.why c.of_role-in-Reader.ensures.kept has
    c.in-Reader.is c.act_at-in-Reader.new.seats.items c.in_ok-turned-in-Reader.ensures

pub returns-in_ok-turned-in-Replacer : goal.returns-in_ok-turned-in-Replacer
returns-in_ok-turned-in-Replacer c =
    λ w has. kind_change replacers w c.args.act.now c.args.who (lists_of c.args.seats.now) c.in_ok-turned-in-Replacer.turned.why
    c.of_role-in-Replacer.result.why c.of_role-in-Replacer.result.who c.in_ok-turned-in-Replacer.turned.kept
    c.of_role-in-Replacer.result.kept c.act_at-in-Replacer.new.out.list c.of_role-in-Replacer.ensures.who c.of_role-in-Replacer.ensures.why
    c.of_role-in-Replacer.ensures.kept has c.in-Replacer.is c.act_at-in-Replacer.new.seats.items c.in_ok-turned-in-Replacer.ensures

pub act_at-requires-clause-other : goal.act_at-requires-clause-other
act_at-requires-clause-other c = λ snap d me durable v. refl

pub act_at-requires-in-Leader-clause-other : goal.act_at-requires-in-Leader-clause-other
act_at-requires-in-Leader-clause-other c = λ snap d me durable v. refl

pub act_at-requires-in-Proxy-clause-other : goal.act_at-requires-in-Proxy-clause-other
act_at-requires-in-Proxy-clause-other c = λ snap d me durable v. refl

pub act_at-requires-in-Acceptor-clause-other : goal.act_at-requires-in-Acceptor-clause-other
act_at-requires-in-Acceptor-clause-other c = λ snap.
    absurd (both_off (is_snap c.args.act.now) (puts_anew c.args.who.kind) c.requires.other snap (ap puts_anew c.in-Acceptor.is))

pub act_at-requires-in-Matchmaker-clause-other : goal.act_at-requires-in-Matchmaker-clause-other
act_at-requires-in-Matchmaker-clause-other c = λ snap d me durable v. refl

pub act_at-requires-in-Replica-clause-other : goal.act_at-requires-in-Replica-clause-other
act_at-requires-in-Replica-clause-other c = λ snap.
    absurd (both_off (is_snap c.args.act.now) (puts_anew c.args.who.kind) c.requires.other snap (ap puts_anew c.in-Replica.is))

pub act_at-requires-in-Unbatcher-clause-other : goal.act_at-requires-in-Unbatcher-clause-other
act_at-requires-in-Unbatcher-clause-other c = λ snap d me durable v. refl

pub act_at-requires-in-Reader-clause-other : goal.act_at-requires-in-Reader-clause-other
act_at-requires-in-Reader-clause-other c = λ snap.
    absurd (both_off (is_snap c.args.act.now) (puts_anew c.args.who.kind) c.requires.other snap (ap puts_anew c.in-Reader.is))

pub act_at-requires-in-Replacer-clause-other : goal.act_at-requires-in-Replacer-clause-other
act_at-requires-in-Replacer-clause-other c = λ snap d me durable v. refl
