use Rattle.cx_role.specs.Prelude.{◌≡◌, true, all_fit}
use Rattle.cx_test_replica.proofs.opening_tests.records.Given as goal

abbrev pub invariant-loop-letter : goal.invariant-loop-letter
invariant-loop-letter l = all_fit l.list.items ≡ true
