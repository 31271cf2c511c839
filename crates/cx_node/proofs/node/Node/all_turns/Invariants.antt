use Rattle.cx_node.proofs.Common.{◌≡◌, ◌-◌, ◌≤◌, Ok, changing, Blames, failed, scene_of}
use Rattle.cx_node.proofs.Turned.{Underway}
use Rattle.cx_node.proofs.node.Node.all_turns.Given as goal

abbrev pub invariant-loop-made : goal.invariant-loop-made
invariant-loop-made g l = record {
  acts : Underway (changing g.K.Keeper.append_gives g.K.Renew.renew_gives) l.tend l.fn.self.cluster l.turns l.made
      (scene_of g.L.Link g.W.Sink l.fn.self l.fn.link l.fn.out)
      (scene_of g.L.Link g.W.Sink l.self l.link l.out) l.care;
  blames : Blames (Ok tt) (failed g.L.Link g.W.Sink l.fn.link l.fn.out) (failed g.L.Link g.W.Sink l.link l.out);
  cluster : l.self.cluster ≡ l.fn.self.cluster;
  most : l.made ≤ l.turns;
}

abbrev pub decreases-loop-made : goal.decreases-loop-made
decreases-loop-made g l = l.turns - l.made
