use Rattle.std.proofs.Common.{◌≡◌, []}
use Rattle.cx_edge.specs.MemDepot.{depot_out}
use Rattle.cx_test_node.proofs.renewal_tests.a_stop_of_a_disk_leaves_a_list.Given as goal

abbrev pub invariant-loop-run : goal.invariant-loop-run
invariant-loop-run g l = depot_out l.depot ≡ []
