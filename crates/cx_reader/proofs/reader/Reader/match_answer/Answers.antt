use Rattle.std.proofs.Common.{rules}
use Rattle.cx_model.specs.Prelude.{◌≡◌, ◌++◌, ◌∷◌, [], ◌&&◌, not, true, false, List, Option, Some, refl, Cluster, RoleId, Round, Entry}
use Rattle.cx_model.specs.Prelude.{is_in, Asking, is_counted, Batch, ReaderDurable, ReaderVolatile, is_matched, is_of_batch}
use Rattle.cx_model.specs.Prelude.{match_ack_counted, match_ack_row}
use Rattle.cx_reader.proofs.Memory.{match_ack_takes}
use Rattle.cx_reader.proofs.reader.Reader.match_answer.Goals as goal

abbrev with_told : RoleId → Round → List Entry → Batch → Batch
with_told from w es b = record b { told = b.told ++ record { matchmaker = from.index; watermark = w; entries = es } ∷ [] }

counted : (c : Cluster) (me : RoleId) (d : ReaderDurable) (v : ReaderVolatile) (from : RoleId) (u : Asking) (w : Round) (es : List Entry)
    (b : Batch) (running : Option Batch) → running ≡ Some b
    → (is_of_batch me b u && not (is_matched c b) && is_in from.index v.set) ≡ true → is_counted from.index b.told ≡ false
    → match_ack_row c me d v from u w es running ≡ match_ack_counted c me d v (with_told from w es b)
counted c me d v from u w es b running is awaits new = rw (is, awaits, new) refl

pub returns-in_err-copy : goal.returns-in_err-copy
returns-in_err-copy g c =
    let s = c.args.self.now in
    let b = c.in-Some.batch in
    let is : s.volatile.running ≡ Some b = search rules in
    let awaits : (is_of_batch s.me b c.args.asking && not (is_matched s.cluster b) && is_in c.args.from.index s.volatile.set) ≡ true =
    search rules in
    let new : is_counted c.args.from.index b.told ≡ false = search rules in
    rw (counted s.cluster s.me s.durable s.volatile c.args.from c.args.asking c.args.watermark c.args.entries.now b _ is awaits new)
    (search (rules, match_ack_takes))

pub returns-in_err-more : goal.returns-in_err-more
returns-in_err-more g c =
    let s = c.args.self.now in
    let b = c.in-Some.batch in
    let is : s.volatile.running ≡ Some b = search rules in
    let awaits : (is_of_batch s.me b c.args.asking && not (is_matched s.cluster b) && is_in c.args.from.index s.volatile.set) ≡ true =
    search rules in
    let new : is_counted c.args.from.index b.told ≡ false = search rules in
    rw (counted s.cluster s.me s.durable s.volatile c.args.from c.args.asking c.args.watermark c.args.entries.now b _ is awaits new)
    (search (rules, match_ack_takes))
