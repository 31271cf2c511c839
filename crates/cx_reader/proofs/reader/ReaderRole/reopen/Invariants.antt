use Rattle.cx_model.specs.Prelude.{◌≡◌, true, [], None, drop, folded_from, refused_from, first_set, reader_rules}
use Rattle.cx_reader.proofs.reader.ReaderRole.reopen.Given as goal

abbrev pub invariant-loop-index : goal.invariant-loop-index
invariant-loop-index l = record {
  cluster : l.reader.cluster ≡ l.fn.self.cluster;
  me : l.reader.me ≡ l.fn.self.me;
  live : l.reader.live ≡ true;
  none_wait : l.reader.volatile.waiting ≡ [];
  none_run : l.reader.volatile.running ≡ None;
  set : l.reader.volatile.set ≡ first_set l.fn.self.cluster;
  folded : folded_from reader_rules l.reader.durable (drop l.index l.records)
      ≡ folded_from reader_rules l.fn.self.durable l.records;
  refused : refused_from reader_rules l.fn.self.cluster l.fn.self.me l.reader.durable l.index (drop l.index l.records)
      ≡ refused_from reader_rules l.fn.self.cluster l.fn.self.me l.fn.self.durable 0 l.records;
}
