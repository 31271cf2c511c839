use Rattle.cx_base.proofs.Common.{◌≡◌, ◌++◌, drop, IsTrue}
use Rattle.cx_keep.specs.Keeper.{all_fit}
use Rattle.cx_keeper.proofs.records.Records.of.Given as goal

abbrev pub invariant-loop-what : goal.invariant-loop-what
invariant-loop-what l = record {
  so_far : l.made ++ drop l.what-index l.records ≡ l.records;
  fit : IsTrue (all_fit (drop l.what-index l.records));
}
