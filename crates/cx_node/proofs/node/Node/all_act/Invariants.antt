use Rattle.cx_node.proofs.Common.{◌≡◌, [], length, Ok, course_at, Acts, Blames, failed, scene_of, changing}
use Rattle.cx_course.specs.Run.{first_do}
use Rattle.cx_node.proofs.node.Node.all_act.Given as goal

abbrev pub invariant-loop-place : goal.invariant-loop-place
invariant-loop-place g l = record {
  acts : Acts (changing g.K.Keeper.append_gives g.K.Renew.renew_gives) l.fn.self.cluster [] (first_do l.place l.what (course_at l.fn.self))
      (Ok tt) (scene_of g.L.Link g.W.Sink l.fn.self l.fn.link l.fn.out)
      (scene_of g.L.Link g.W.Sink l.self l.link l.out);
  blames : Blames (Ok tt) (failed g.L.Link g.W.Sink l.fn.link l.fn.out) (failed g.L.Link g.W.Sink l.link l.out);
  cluster : l.self.cluster ≡ l.fn.self.cluster;
  count : l.count ≡ length l.fn.self.guests;
}
