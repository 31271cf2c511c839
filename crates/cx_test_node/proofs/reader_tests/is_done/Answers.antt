use Rattle.cx_test_node.proofs.Apart.{all_apart}
use Rattle.cx_test_node.proofs.reader_tests.is_done.Goals as goal

pub host-requires-clause-apart : goal.host-requires-clause-apart
host-requires-clause-apart c = all_apart
