use Rattle.cx_test_node.proofs.Apart.{all_apart, servers_apart}
use Rattle.cx_test_node.proofs.renewal_tests.ended.Goals as goal

pub host-requires-clause-apart : goal.host-requires-clause-apart
host-requires-clause-apart c = servers_apart

pub host-requires-2-clause-apart : goal.host-requires-2-clause-apart
host-requires-2-clause-apart c = all_apart
