use Rattle.cx_node.proofs.Common.{◌≡◌, ◌-◌, length, Ok, below, numbers, Blames, failed, scene_of, changing, AreReady, hosted_in, is_meant}
use Rattle.cx_node.proofs.TendedActs.{Asked}
use Rattle.cx_node.proofs.node.Node.tick_those.Given as goal

abbrev pub invariant-loop-place : goal.invariant-loop-place
invariant-loop-place g l = record {
  acts : Asked (changing g.K.Keeper.append_gives g.K.Renew.renew_gives) l.fn.self.cluster (is_meant l.whom l.care.counts)
      (below (length (hosted_in l.fn.self.guests)))
      (numbers l.place (length (hosted_in l.fn.self.guests) - l.place))
      (scene_of g.L.Link g.W.Sink l.fn.self l.fn.link l.fn.out) (scene_of g.L.Link g.W.Sink l.self l.link l.out);
  ready : AreReady l.fn.self.cluster l.self.guests;
  blames : Blames (Ok tt) (failed g.L.Link g.W.Sink l.fn.link l.fn.out) (failed g.L.Link g.W.Sink l.link l.out);
  cluster : l.self.cluster ≡ l.fn.self.cluster;
  count : l.count ≡ length l.fn.self.guests;
}
