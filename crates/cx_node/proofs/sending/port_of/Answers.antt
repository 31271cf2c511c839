use Rattle.std.proofs.Common.{◌≡◌, ◌+◌, rules}
use Rattle.std.proofs.Math.Nat.{mod-add-mod}
use Rattle.cx_node.specs.Ports.{roles_before, first_port, port_of}
use Rattle.cx_node.proofs.sending.port_of.Goals as goal

pub returns : goal.returns
unfolding port_of
returns c =
    let first : c.unwrap_or-first.result ≡ first_port c.args.cluster.now.base_port = search rules in
    let place : c.before-2.result ≡ roles_before c.args.cluster.now c.args.role.kind = search rules in
    rw (first, place) (mod-add-mod
    (first_port c.args.cluster.now.base_port + roles_before c.args.cluster.now c.args.role.kind) 65536 c.args.role.index)
