use Rattle.std.proofs.Common.{◌≡◌, option_map, take}
use Rattle.cx_node.specs.Doing.{HasLinkSent}
use Rattle.cx_seat.specs.Noting.{noting}
use Rattle.cx_node.proofs.sending.send_all.Given as goal

abbrev pub invariant-loop-letter : goal.invariant-loop-letter
invariant-loop-letter g l = record {
  asks : HasLinkSent l.cluster (take l.letter-index l.letters) (g.L.Link.history l.fn.link) (g.L.Link.history l.link);
  noted : l.recorder ≡ option_map (noting (take l.letter-index l.letters)) l.fn.recorder;
  still : g.L.Link.faults l.link ≡ g.L.Link.faults l.fn.link;
}
