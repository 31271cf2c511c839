use Rattle.std.proofs.Common.{rules}
use Rattle.cx_model.specs.Prelude.{◌≡◌, ◌++◌, ◌∷◌, [], ◌&&◌, true, false, Option, Some, ℕ, refl, Cluster, RoleId, Round, same_round}
use Rattle.cx_model.specs.Prelude.{greatest_watermark, is_member_of, live_entries, Asking, Batch, ReaderDurable, ReaderVolatile, has_acked}
use Rattle.cx_model.specs.Prelude.{is_matched, is_of_batch, pre_read_ack_row, pre_read_counted}
use Rattle.cx_reader.proofs.Memory.{pre_read_takes}
use Rattle.cx_reader.proofs.reader.Reader.pre_read_answer.Goals as goal

counted : (c : Cluster) (me : RoleId) (d : ReaderDurable) (v : ReaderVolatile) (from : RoleId) (u : Asking) (w : Round) (n : ℕ)
    (b more : Batch) (running : Option Batch) → running ≡ Some b
    → (is_of_batch me b u && is_matched c b && is_member_of (live_entries b.told) from.index) ≡ true
    → same_round w (greatest_watermark b.told) ≡ true → has_acked from.index b.acks ≡ false
    → more ≡ record b { acks = b.acks ++ record { acceptor = from.index; mark = n } ∷ [] }
    → pre_read_ack_row c me d v from u w n running ≡ pre_read_counted c me d v more
counted c me d v from u w n b more running is awaits same new one_more = rw (is, awaits, same, new, one_more) refl

pub returns : goal.returns
returns g c =
    let s = c.args.self.now in
    let b = c.in-Some.batch in
    let is : s.volatile.running ≡ Some b = search rules in
    let awaits : (is_of_batch s.me b c.args.asking && is_matched s.cluster b && is_member_of (live_entries b.told) c.args.from.index) ≡ true
    = search rules in
    let same : same_round c.args.watermark (greatest_watermark b.told) ≡ true = search rules in
    let new : has_acked c.args.from.index b.acks ≡ false = search rules in
    rw (counted s.cluster s.me s.durable s.volatile c.args.from c.args.asking c.args.watermark c.args.mark b _ _ is awaits same new
    c.in_ok-more.ensures) c.pre_read_counted.ensures

pub returns-in_err-more : goal.returns-in_err-more
returns-in_err-more g c =
    let s = c.args.self.now in
    let b = c.in-Some.batch in
    let is : s.volatile.running ≡ Some b = search rules in
    let awaits : (is_of_batch s.me b c.args.asking && is_matched s.cluster b && is_member_of (live_entries b.told) c.args.from.index) ≡ true
    = search rules in
    let same : same_round c.args.watermark (greatest_watermark b.told) ≡ true = search rules in
    let new : has_acked c.args.from.index b.acks ≡ false = search rules in
    rw (counted s.cluster s.me s.durable s.volatile c.args.from c.args.asking c.args.watermark c.args.mark b
    (record b { acks = b.acks ++ record { acceptor = c.args.from.index; mark = c.args.mark } ∷ [] }) _ is awaits same new refl)
    (search (rules, pre_read_takes))
