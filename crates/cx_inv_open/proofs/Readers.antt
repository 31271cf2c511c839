-- A reader keeps its turns in order, none above the last one.
use Rattle.cx_inv_run.proofs.Common.{◌≡◌, ℕ, ◌+◌, ◌==◌, ◌≤◌, ◌&&◌, ◌||◌, true, false, not, nat_le, nat_lt, max, List, [], ◌∷◌, ◌++◌}
use Rattle.cx_inv_run.proofs.Common.{length, Option, None, Some, refl, sym, subst, arith, and_parts, and_from, not-true, nat_tests, Cluster}
use Rattle.cx_inv_run.proofs.Common.{RoleId, Round, Why, Sent, role, same_role, is_in, same_round, is_above, Asking, Entry, Letter, Input}
use Rattle.cx_inv_run.proofs.Common.{KeptRecord, Written, Msg, same_role-true, is_counted, is_member_of, greatest_watermark, live_entries}
use Rattle.cx_inv_run.proofs.Common.{rows_whole, names, Outcome, by_test, either_way, Asked, ReaderDurable, ReaderVolatile, acked_by}
use Rattle.cx_inv_run.proofs.Common.{ask_replicas, asked_anew, asked_for, begin, begin_if, greatest_mark, has_acked, is_among, is_first}
use Rattle.cx_inv_run.proofs.Common.{is_matched, is_of_batch, last_turn, match_ack_row, matched, pre_read_ack_row, reader_row, reader_rules}
use Rattle.cx_inv_run.proofs.Common.{reader_takes, reader_tick, request_over, make_token, IsFit, written_after, Lands, State, ReaderIn}
use Rattle.cx_inv_run.proofs.Common.{reader_kinds}
use Rattle.cx_base.specs.declared.role.Kind.TheVariants as kind
use Rattle.cx_letter.specs.declared.input.Input.TheVariants as input
use Rattle.cx_letter.specs.declared.input.Written.TheVariants as written
use Rattle.cx_letter.specs.declared.kept.Record.TheVariants as kept
use Rattle.cx_letter.specs.declared.message.Msg.TheVariants as msg
use Rattle.cx_model.specs.Reader.{Batch, finish}
use Rattle.cx_inv_run.specs.States.{durable_of}
use Rattle.cx_inv_run.proofs.Snaps.{reader_exact}
use Rattle.cx_inv_open.specs.Fits.{FitsAs, AllFit, Fitting}
use Rattle.cx_inv_open.proofs.Keep.{calm_in, new_fits, lands}

-- what was kept is no later than the last turn

greatest_below : (n m last : ℕ) → n ≤ last → nat_le m last ≡ true → max n m ≤ last
greatest_below n m last low high = grind (arith, nat_tests)

written_below : (c : Cluster) (me : RoleId) (w : Written) (ks : List KeptRecord) → FitsAs c me w ks kind.Reader
    → (durable_of reader_rules me ks).turn ≤ last_turn → (written_after reader_rules (durable_of reader_rules me ks) w).turn ≤ last_turn
written_below c me (written.Record (kept.Turn n)) ks h low =
    let d = durable_of reader_rules me ks in
    greatest_below d.turn n last_turn low (and_parts (n == d.turn + 1 || d.turn == 0) (nat_le n last_turn) h.0).1
written_below c me (written.Record other) ks h low = low
written_below c me (written.Snap first) ks h low =
    subst (λ (d : ReaderDurable). d.turn ≤ last_turn) (sym (reader_exact (durable_of reader_rules me ks) first)) low

pub turn_below : (c : Cluster) (me : RoleId) → me.kind ≡ kind.Reader → (ks : List KeptRecord) → AllFit c ks
    → (durable_of reader_rules me ks).turn ≤ last_turn
unfolding durable_of
turn_below c me is [] h = omega arith
turn_below c me is (k ∷ ks) h =
    let low = turn_below c me is ks h.1 in
    by_test (λ (d : ReaderDurable). d.turn ≤ last_turn) (same_role me k.role)
    (written_after reader_rules (durable_of reader_rules me ks) k.what) (durable_of reader_rules me ks) (λ t. written_below c me k.what ks
    (subst (λ j. FitsAs c me k.what ks j) is (subst (λ a. FitsAs c a k.what ks a.kind) (sym (same_role-true me k.role t)) h.0)) low)
    (λ f. low)

-- the turn after one that isn't the last
next_turn : (n last : ℕ) → n ≤ last → (n == last) ≡ false → ((n + 1 == n + 1 || n == 0) && nat_le (n + 1) last) ≡ true
next_turn n last low before =
    and_from (n + 1 == n + 1 || n == 0) (nat_le (n + 1) last) (grind (arith, nat_tests)) (grind (arith, nat_tests))

module _ (c : Cluster) (me : RoleId) (d : ReaderDurable) (low : d.turn ≤ last_turn) where
  abbrev Fine : Outcome ReaderVolatile → Type 0
  Fine o = IsFit reader_rules c me d o.kept

  module _ (v : ReaderVolatile) where
    begun : (w : Why) (first : List Letter) (rs : List Asked) → (d.turn == last_turn) ≡ false → Fine (begin me d v w first rs)
    begun w first rs before = (next_turn d.turn last_turn low before, refl)

    begun_if : (w : Why) (rs : List Asked) → Fine (begin_if me d v w rs)
    begun_if w rs = by_test Fine (d.turn == last_turn) _ _ (λ last. tt) (λ before. begun w [] rs before)

    request_fine : (one : Asked) (o : Option Batch) → Fine (request_over me d v one o)
    request_fine one None = either_way Fine (nat_le 64 (length v.waiting)) _ _ tt (begun_if _ _)
    request_fine one (Some b) =
        either_way Fine (is_first one.read b.reads) _ _ (begun_if _ _)
        (either_way Fine (is_among one.read b.reads) _ _ tt (either_way Fine (nat_le 64 (length v.waiting + length b.reads)) _ _ tt tt))

    finished : (b : Batch) (n : ℕ) → Fine (finish me d v b n)
    finished b n =
        by_test Fine (nat_lt 0 (length v.waiting) && not (d.turn == last_turn)) _ _
        (λ more. begun Sent (ask_replicas me b n) v.waiting
        (not-true (d.turn == last_turn) (and_parts (nat_lt 0 (length v.waiting)) (not (d.turn == last_turn)) more).1))
        (λ ends. tt)

    matched_fine : (b : Batch) (es : List Entry) → Fine (matched c me d v b es)
    matched_fine b [] = finished b 0
    matched_fine b (e ∷ es) = tt

    match_ack_fine : (from : RoleId) (u : Asking) (w : Round) (es : List Entry) (o : Option Batch)
        → Fine (match_ack_row c me d v from u w es o)
    match_ack_fine from u w es None = tt
    match_ack_fine from u w es (Some b) =
        let more : Batch = record b { told = b.told ++ record { matchmaker = from.index; watermark = w; entries = es } ∷ [] } in
        either_way Fine (not (is_of_batch me b u && not (is_matched c b) && is_in from.index v.set)) _ _ tt
        (either_way Fine (is_counted from.index b.told) _ _ tt
        (either_way Fine (is_matched c more) _ _ (matched_fine more (live_entries more.told)) tt))

    pre_read_ack_fine : (from : RoleId) (u : Asking) (w : Round) (n : ℕ) (o : Option Batch) → Fine (pre_read_ack_row c me d v from u w n o)
    pre_read_ack_fine from u w n None = tt
    pre_read_ack_fine from u w n (Some b) =
        let more : Batch = record b { acks = b.acks ++ record { acceptor = from.index; mark = n } ∷ [] } in
        either_way Fine (not (is_of_batch me b u && is_matched c b && is_member_of (live_entries b.told) from.index)) _ _ tt
        (either_way Fine (not (same_round w (greatest_watermark b.told))) _ _ tt
        (either_way Fine (has_acked from.index b.acks) _ _ tt
        (either_way Fine (rows_whole (live_entries more.told) (acked_by more.acks)) _ _ (finished more (greatest_mark more.acks)) tt)))

    anew_fine : (w : ReaderVolatile) (o : Option Batch) → Fine (asked_anew c me w o)
    anew_fine w None = tt
    anew_fine w (Some b) = either_way Fine (is_matched c b) _ _ tt tt

    takes_fine : (from : RoleId) (m : Msg) → Fine (reader_takes c me d v from m)
    takes_fine from (msg.ReadReq seq replica key) =
        let one = asked_for (make_token from.index seq) replica key in
        either_way Fine (is_among one.read v.waiting) _ _ tt (request_fine one v.running)
    takes_fine from (msg.MatchReadAck u w es) = match_ack_fine from u w es v.running
    takes_fine from (msg.PreReadAck u w n) = pre_read_ack_fine from u w n v.running
    takes_fine from (msg.Sets s) = either_way Fine (is_above s v.set) _ _ (anew_fine (record v { set = s }) v.running) tt
    takes_fine from other = tt

    ticks_fine : (o : Option Batch) → Fine (reader_tick c me v o)
    ticks_fine None = tt
    ticks_fine (Some b) = tt

    row_fine : (i : Input) → Fine (reader_row c me d v i)
    row_fine (input.Take x) = either_way Fine (same_role x.to me && names c x) _ _ (takes_fine x.from x.msg) tt
    row_fine input.Tick = ticks_fine v.running
    row_fine (input.Order order) = tt

pub reader_lands : (c : Cluster) (history : List KeptRecord) (sent : List Letter) (states : RoleId → State) → Fitting c history sent states
    → (r : ℕ) (v : ReaderVolatile) (i : Input)
    → Lands (Fitting c) history sent states (role kind.Reader r) ReaderIn
    (reader_row c (role kind.Reader r) (durable_of reader_rules (role kind.Reader r) history) v i)
reader_lands c history sent states h r v i =
    let me = role kind.Reader r in
    let d = durable_of reader_rules me history in
    lands c history sent states h me ReaderIn _ (new_fits reader_rules c history me (λ r x. x)
    _ (row_fine c me d (turn_below c me refl history h.fit) v i)) tt (calm_in me _ tt (reader_kinds c me refl d v i))
