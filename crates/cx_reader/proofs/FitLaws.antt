-- A reader keeps what it may keep: its next turn.
use Rattle.cx_model.specs.Prelude.{is_counted, ask_replicas, asked_anew, asked_for, begin, begin_if, finish, greatest_mark, is_among}
use Rattle.cx_model.specs.Prelude.{is_first, match_ack_row, pre_read_ack_row, reader_row, reader_takes, request_over, make_token}
use Rattle.cx_role.proofs.Common.{◌≡◌, ◌≤◌, ◌+◌, ◌==◌, ◌&&◌, ◌||◌, not, ℕ, true, false, nat_le, nat_lt, Bool, length, List, [], ◌∷◌, ◌++◌}
use Rattle.cx_role.proofs.Common.{Option}
use Rattle.cx_role.proofs.Common.{None, Some, refl, arith, nat_tests, Cluster, RoleId, Round, same_role, Letter, Take, Entry, Msg, names}
use Rattle.cx_role.proofs.Common.{is_in, is_above, Outcome, by_test, IsFit, is_member_of, same_round, greatest_watermark, live_entries}
use Rattle.cx_role.proofs.Common.{rows_whole, Why, Asking, Asked, Batch, ReaderDurable, ReaderVolatile, acked_by, has_acked, is_matched}
use Rattle.cx_role.proofs.Common.{is_of_batch, last_turn, match_ack_counted, pre_read_counted, reader_rules}
use Rattle.cx_role.proofs.Common.msg
use Rattle.cx_role.proofs.Common.why
use Rattle.cx_model.specs.Reader.{matched, request_row, sets_row, with_asked}

abbrev Fits : Cluster → RoleId → ReaderDurable → Outcome ReaderVolatile → Type 0
Fits c me d o = IsFit reader_rules c me d o.kept

next_fits : (turn last : ℕ) → turn ≤ last → (turn == last) ≡ false
    → ((turn + 1 == turn + 1 || turn == 0) && nat_le (turn + 1) last) ≡ true
next_fits turn last range more = grind (arith, nat_tests)

is_not : (a b : Bool) → (a && not b) ≡ true → b ≡ false
is_not a b h = grind (arith, nat_tests)

module _ (c : Cluster) (me : RoleId) (d : ReaderDurable) (range : d.turn ≤ last_turn) where
  module _ (v : ReaderVolatile) where
    begin_fit : (d.turn == last_turn) ≡ false → (w : Why) (first : List Letter) (reads : List Asked)
        → Fits c me d (begin me d v w first reads)
    begin_fit more w first reads = (next_fits d.turn last_turn range more, refl)

    begin_if_fit : (w : Why) (reads : List Asked) → Fits c me d (begin_if me d v w reads)
    begin_if_fit w reads =
        by_test (Fits c me d) (d.turn == last_turn) _ _ (λ _. tt) (λ more. begin_fit more w [] reads)

    request_over_fit : (one : Asked) (running : Option Batch) → Fits c me d (request_over me d v one running)
    request_over_fit one None =
        by_test (Fits c me d) (nat_le 64 (length v.waiting)) _ _ (λ _. tt) (λ _. begin_if_fit why.Started (v.waiting ++ one ∷ []))
    request_over_fit one (Some b) =
        by_test (Fits c me d) (is_first one.read b.reads) _ _ (λ _. begin_if_fit why.Again (with_asked one b.reads ++ v.waiting)) (λ _.
        by_test (Fits c me d) (is_among one.read b.reads) _ _ (λ _. tt) (λ _.
        by_test (Fits c me d) (nat_le 64 (length v.waiting + length b.reads)) _ _ (λ _. tt) (λ _. tt)))

    request_fit : (one : Asked) → Fits c me d (request_row me d v one)
    request_fit one =
        by_test (Fits c me d) (is_among one.read v.waiting) _ _ (λ _. tt) (λ _. request_over_fit one v.running)

    finish_fit : (b : Batch) (n : ℕ) → Fits c me d (finish me d v b n)
    finish_fit b n =
        by_test (Fits c me d) (nat_lt 0 (length v.waiting) && not (d.turn == last_turn)) _ _ (λ next.
        begin_fit (is_not (nat_lt 0 (length v.waiting)) (d.turn == last_turn) next) why.Sent (ask_replicas me b n) v.waiting) (λ _. tt)

    matched_fit : (b : Batch) (es : List Entry) → Fits c me d (matched c me d v b es)
    matched_fit b [] = finish_fit b 0
    matched_fit b (e ∷ es) = tt

    match_ack_counted_fit : (b : Batch) → Fits c me d (match_ack_counted c me d v b)
    match_ack_counted_fit b =
        by_test (Fits c me d) (is_matched c b) _ _ (λ _. matched_fit b (live_entries b.told)) (λ _. tt)

    match_ack_fit : (from : RoleId) (u : Asking) (w : Round) (es : List Entry) (running : Option Batch)
        → Fits c me d (match_ack_row c me d v from u w es running)
    match_ack_fit from u w es None = tt
    match_ack_fit from u w es (Some b) =
        by_test (Fits c me d) (not (is_of_batch me b u && not (is_matched c b) && is_in from.index v.set)) _ _ (λ _. tt) (λ _.
        by_test (Fits c me d) (is_counted from.index b.told) _ _ (λ _. tt)
        (λ _. match_ack_counted_fit (record b { told = b.told ++ record { matchmaker = from.index; watermark = w; entries = es } ∷ [] })))

    pre_read_counted_fit : (b : Batch) → Fits c me d (pre_read_counted c me d v b)
    pre_read_counted_fit b =
        by_test (Fits c me d) (rows_whole (live_entries b.told) (acked_by b.acks)) _ _ (λ _. finish_fit b (greatest_mark b.acks)) (λ _. tt)

    pre_read_ack_fit : (from : RoleId) (u : Asking) (w : Round) (n : ℕ) (running : Option Batch)
        → Fits c me d (pre_read_ack_row c me d v from u w n running)
    pre_read_ack_fit from u w n None = tt
    pre_read_ack_fit from u w n (Some b) = by_test (Fits c me d)
        (not (is_of_batch me b u && is_matched c b && is_member_of (live_entries b.told) from.index)) _ _ (λ _. tt) (λ _.
        by_test (Fits c me d) (not (same_round w (greatest_watermark b.told))) _ _ (λ _. tt) (λ _.
        by_test (Fits c me d) (has_acked from.index b.acks) _ _ (λ _. tt)
        (λ _. pre_read_counted_fit (record b { acks = b.acks ++ record { acceptor = from.index; mark = n } ∷ [] }))))

    anew_fit : (next : ReaderVolatile) (running : Option Batch) → Fits c me d (asked_anew c me next running)
    anew_fit next None = tt
    anew_fit next (Some b) = by_test (Fits c me d) (is_matched c b) _ _ (λ _. tt) (λ _. tt)

    sets_fit : (s : List ℕ) → Fits c me d (sets_row c me v s)
    sets_fit s = by_test (Fits c me d) (is_above s v.set) _ _ (λ _. anew_fit (record v { set = s }) v.running) (λ _. tt)

    takes_fit : (from : RoleId) (m : Msg) → Fits c me d (reader_takes c me d v from m)
    takes_fit from (msg.ReadReq seq replica key) = request_fit (asked_for (make_token from.index seq) replica key)
    takes_fit from (msg.MatchReadAck u w es) = match_ack_fit from u w es v.running
    takes_fit from (msg.PreReadAck u w n) = pre_read_ack_fit from u w n v.running
    takes_fit from (msg.Sets s) = sets_fit s
    takes_fit from other = tt

    -- the record of a row is one that the reader may append
    pub take_fit : (l : Letter) → Fits c me d (reader_row c me d v (Take l))
    take_fit l = by_test (Fits c me d) (same_role l.to me && names c l) _ _ (λ _. takes_fit l.from l.msg) (λ _. tt)
