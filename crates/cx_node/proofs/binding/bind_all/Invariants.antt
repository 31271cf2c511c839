use Rattle.std.proofs.Common.{◌≡◌, map, take, option_map}
use Rattle.cx_node.specs.Hosting.{with_binds}
use Rattle.cx_node.specs.Ports.{bind_of}
use Rattle.cx_node.proofs.binding.bind_all.Given as goal

abbrev pub invariant-loop-role : goal.invariant-loop-role
invariant-loop-role g l = record {
  bound : g.L.Link.history l.link ≡ option_map (with_binds (map (bind_of l.cluster) (take l.role-index l.roles)))
      (g.L.Link.history l.fn.link);
  still : g.L.Link.faults l.link ≡ g.L.Link.faults l.fn.link;
}
