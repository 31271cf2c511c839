-- The reader's rows: reads wait, and at most one batch of them runs. For a batch the reader keeps its next turn, and asks enough
-- matchmakers for the live grids, then a row of each for its greatest voted slot; then it asks one replica for each read, which answers
-- once it holds this many slots (VLDB 2021: quorum reads; over several grids, and in batches, this project's own).
use Rattle.std.specs.Prelude.{ℕ, ◌+◌, ◌==◌, Bool, false, not, ◌&&◌, ◌||◌, nat_le, nat_lt, max, map, if◌then◌else◌, List, [], ◌∷◌, ◌++◌}
use Rattle.std.specs.Prelude.{length, Option, None, Some, true}
use Rattle.cx_letter.specs.Prelude.{list_any, Cluster, RoleId, Acceptor, Matchmaker, Reader, Replica, Round, Why, Full, Idle, Old, Resent}
use Rattle.cx_letter.specs.Prelude.{Same, Sent, Stranger, Unasked, is_in, same_role, role, same_round, is_above, Letter, letter, Asking}
use Rattle.cx_letter.specs.Prelude.{Entry, Token}
use Rattle.cx_base.specs.declared.why.Why.TheVariants.{Again, Counted, End, Learnt, Queued, Started}
use Rattle.cx_base.specs.declared.why.Why.TheVariants as why
use Rattle.cx_letter.specs.declared.input.Input.{Input}
use Rattle.cx_letter.specs.declared.input.Input.TheVariants.{Take, Tick, Order}
use Rattle.cx_letter.specs.declared.message.Msg.{Msg}
use Rattle.cx_letter.specs.declared.message.Msg.TheVariants as msg
use Rattle.cx_model.specs.declared.states.Acked.{Acked}
use Rattle.cx_model.specs.declared.states.MatchAnswer.{MatchAnswer}
use Rattle.cx_model.specs.Matched.{enough, first_set, is_counted, greatest_watermark, live_entries, is_member_of, members_of, rows_whole}
use Rattle.cx_model.specs.Names.{names}
use Rattle.cx_model.specs.Outcome.{Outcome, only_word, replied}
use Rattle.cx_model.specs.Request.{same_read}
use Rattle.cx_model.specs.Rules.{Rules}
use Rattle.cx_letter.specs.declared.kept.Record.{Record}
use Rattle.cx_letter.specs.declared.kept.Record.TheVariants as kept

-- ---- the state

-- the last turn that was kept
pub record ReaderDurable : Type 0 where
  pub turn : ℕ

-- a read that was asked for: its client and number, the replica that is to answer it, and its key
pub record Asked : Type 0 where
  pub read : Token
  pub replica : ℕ
  pub key : List ℕ

-- The running batch: its turn, its reads in the order in which they came, the matchmakers' answers that were counted, and the acceptors'.
-- It is in its first stage until enough matchmakers have answered, then in its second.
pub record Batch : Type 0 where
  pub turn : ℕ
  pub reads : List Asked
  pub told : List MatchAnswer
  pub acks : List Acked

-- the reads that wait for the next batch, in the order in which they came; and the set of matchmakers that it knows
pub record ReaderVolatile : Type 0 where
  pub waiting : List Asked
  pub running : Option Batch
  pub set : List ℕ

abbrev pub make_token : ℕ → ℕ → Token
make_token client seq = record { client = client; seq = seq }

abbrev pub asked_for : Token → ℕ → List ℕ → Asked
asked_for t replica key = record { read = t; replica = replica; key = key }

-- turns end at 2^64 - 1
abbrev pub last_turn : ℕ
last_turn = 18446744073709551615

-- whether one of these reads has this token, and whether the first has
abbrev pub is_among : Token → List Asked → Bool
is_among t rs = list_any (λ (r : Asked). same_read t r.read) rs

abbrev pub is_first : Token → List Asked → Bool
is_first t [] = false
is_first t (r ∷ rs) = same_read t r.read

-- the reads with one in the place of the earlier one of its token
abbrev pub with_asked : Asked → List Asked → List Asked
with_asked one [] = []
with_asked one (r ∷ rs) = if same_read one.read r.read then one ∷ rs else r ∷ with_asked one rs

abbrev pub is_matched : Cluster → Batch → Bool
is_matched c b = nat_le (enough c) (length b.told)

-- ---- what is sent

-- the acceptors that were counted, and whether this one was
abbrev pub acked_by : List Acked → List ℕ
acked_by acks = map (λ (a : Acked). a.acceptor) acks

abbrev pub has_acked : ℕ → List Acked → Bool
has_acked id acks = list_any (λ (a : Acked). a.acceptor == id) acks

-- the greatest number of slots that an acceptor reported
abbrev pub greatest_mark : List Acked → ℕ
greatest_mark [] = 0
greatest_mark (a ∷ acks) = max a.mark (greatest_mark acks)

-- the datagrams of a turn are told apart by its reader and the turn
abbrev pub asking : ℕ → ℕ → Asking
asking reader turn = record { reader = reader; turn = turn }

abbrev pub asking_of : RoleId → ℕ → Asking
asking_of me turn = asking me.index turn

abbrev pub same_asking : Asking → Asking → Bool
same_asking u other = (u.reader == other.reader) && (u.turn == other.turn)

abbrev pub match_read_to : RoleId → Asking → ℕ → Letter
match_read_to me u m = letter me (role Matchmaker m) (msg.MatchRead u)

abbrev pub ask_matchmakers : RoleId → List ℕ → ℕ → List Letter
ask_matchmakers me set turn = map (match_read_to me (asking_of me turn)) set

abbrev pub pre_read_to : RoleId → Batch → ℕ → Letter
pre_read_to me b a = letter me (role Acceptor a) (msg.PreRead (asking_of me b.turn) (greatest_watermark b.told))

abbrev pub ask_acceptors : Cluster → RoleId → Batch → List Letter
ask_acceptors c me b = map (pre_read_to me b) (members_of c (live_entries b.told))

abbrev pub read_to : RoleId → ℕ → Asked → Letter
read_to me n r = letter me (role Replica r.replica) (msg.Read r.read n r.key)

-- one for each read of the batch, in their order
abbrev pub ask_replicas : RoleId → Batch → ℕ → List Letter
ask_replicas me b n = map (read_to me n) b.reads

-- ---- the rows

abbrev pub new_batch : ℕ → List Asked → Batch
new_batch turn reads = record { turn = turn; reads = reads; told = []; acks = [] }

-- A batch of these reads begins behind what is sent first: its turn is kept, and all matchmakers of the known set are asked.
abbrev pub begin : RoleId → ReaderDurable → ReaderVolatile → Why → List Letter → List Asked → Outcome ReaderVolatile
begin me d v w first reads =
    record {
      why = w;
      kept = Some (kept.Turn (d.turn + 1));
      volatile = record v { waiting = []; running = Some (new_batch (d.turn + 1) reads) };
      sends = first ++ ask_matchmakers me v.set (d.turn + 1);
    }

-- where there is no turn any more, nothing changes
abbrev pub begin_if : RoleId → ReaderDurable → ReaderVolatile → Why → List Asked → Outcome ReaderVolatile
begin_if me d v w reads = if d.turn == last_turn then only_word End v else begin me d v w [] reads

abbrev pub request_over : RoleId → ReaderDurable → ReaderVolatile → Asked → Option Batch → Outcome ReaderVolatile
request_over me d v one None =
    if nat_le 64 (length v.waiting) then only_word Full v else begin_if me d v Started (v.waiting ++ one ∷ [])
request_over me d v one (Some b) =
    if is_first one.read b.reads then begin_if me d v Again (with_asked one b.reads ++ v.waiting)
    else if is_among one.read b.reads then only_word Same v
    else if nat_le 64 (length v.waiting + length b.reads) then only_word Full v
    else only_word Queued (record v { waiting = v.waiting ++ one ∷ [] })

-- A client asks for a key. A read that waits waits on, with what it asks now; the first of the running batch begins that anew, with all
-- that wait.
abbrev pub request_row : RoleId → ReaderDurable → ReaderVolatile → Asked → Outcome ReaderVolatile
request_row me d v one =
    if is_among one.read v.waiting then only_word Again (record v { waiting = with_asked one v.waiting })
    else request_over me d v one v.running

-- The replicas are asked, and the batch has ended; where reads wait, the next one begins, at the last turn none.
abbrev pub finish : RoleId → ReaderDurable → ReaderVolatile → Batch → ℕ → Outcome ReaderVolatile
finish me d v b n =
    if nat_lt 0 (length v.waiting) && not (d.turn == last_turn)
    then begin me d v Sent (ask_replicas me b n) v.waiting
    else replied Sent (record v { running = None }) (ask_replicas me b n)

abbrev pub with_batch : ReaderVolatile → Batch → ReaderVolatile
with_batch v b = record v { running = Some b }

-- enough matchmakers have answered; where no grid is live nothing was ever voted for
abbrev pub matched : Cluster → RoleId → ReaderDurable → ReaderVolatile → Batch → List Entry → Outcome ReaderVolatile
matched c me d v b [] = finish me d v b 0
matched c me d v b (e ∷ es) = replied why.Asking (with_batch v b) (map (pre_read_to me b) (members_of c (e ∷ es)))

abbrev pub match_ack_counted : Cluster → RoleId → ReaderDurable → ReaderVolatile → Batch → Outcome ReaderVolatile
match_ack_counted c me d v b =
    if is_matched c b then matched c me d v b (live_entries b.told) else only_word Counted (with_batch v b)

-- whether a datagram is of the running batch
abbrev pub is_of_batch : RoleId → Batch → Asking → Bool
is_of_batch me b u = same_asking u (asking_of me b.turn)

-- a matchmaker answers
abbrev pub match_ack_row : Cluster → RoleId → ReaderDurable → ReaderVolatile → RoleId → Asking → Round → List Entry → Option Batch
    → Outcome ReaderVolatile
match_ack_row c me d v from u w es None = only_word Unasked v
match_ack_row c me d v from u w es (Some b) =
    if not (is_of_batch me b u && not (is_matched c b) && is_in from.index v.set) then only_word Unasked v
    else if is_counted from.index b.told then only_word Same v
    else match_ack_counted c me d v (record b { told = b.told ++ record { matchmaker = from.index; watermark = w; entries = es } ∷ [] })

abbrev pub pre_read_counted : Cluster → RoleId → ReaderDurable → ReaderVolatile → Batch → Outcome ReaderVolatile
pre_read_counted c me d v b =
    if rows_whole (live_entries b.told) (acked_by b.acks) then finish me d v b (greatest_mark b.acks)
    else only_word Counted (with_batch v b)

-- an acceptor of a live grid answers, with the retirement watermark that it was asked with
abbrev pub pre_read_ack_row : Cluster → RoleId → ReaderDurable → ReaderVolatile → RoleId → Asking → Round → ℕ → Option Batch
    → Outcome ReaderVolatile
pre_read_ack_row c me d v from u w n None = only_word Unasked v
pre_read_ack_row c me d v from u w n (Some b) =
    if not (is_of_batch me b u && is_matched c b && is_member_of (live_entries b.told) from.index) then only_word Unasked v
    else if not (same_round w (greatest_watermark b.told)) then only_word Old v
    else if has_acked from.index b.acks then only_word Same v
    else pre_read_counted c me d v (record b { acks = b.acks ++ record { acceptor = from.index; mark = n } ∷ [] })

-- a tick asks again: the matchmakers in the first stage, the acceptors in the second
abbrev pub reader_tick : Cluster → RoleId → ReaderVolatile → Option Batch → Outcome ReaderVolatile
reader_tick c me v None = only_word Idle v
reader_tick c me v (Some b) = replied Resent v (if is_matched c b then ask_acceptors c me b else ask_matchmakers me v.set b.turn)

-- the matchmakers of the known set are asked anew, where they haven't all answered; what was counted of them goes
abbrev pub asked_anew : Cluster → RoleId → ReaderVolatile → Option Batch → Outcome ReaderVolatile
asked_anew c me v None = only_word Learnt v
asked_anew c me v (Some b) =
    if is_matched c b then only_word Learnt v
    else replied Learnt (with_batch v (record b { told = [] })) (ask_matchmakers me v.set b.turn)

-- a set that took over is told; reads wait on
abbrev pub sets_row : Cluster → RoleId → ReaderVolatile → List ℕ → Outcome ReaderVolatile
sets_row c me v s = if is_above s v.set then asked_anew c me (record v { set = s }) v.running else only_word Old v

abbrev pub reader_takes : Cluster → RoleId → ReaderDurable → ReaderVolatile → RoleId → Msg → Outcome ReaderVolatile
reader_takes c me d v from (msg.ReadReq seq replica key) = request_row me d v (asked_for (make_token from.index seq) replica key)
reader_takes c me d v from (msg.MatchReadAck u w es) = match_ack_row c me d v from u w es v.running
reader_takes c me d v from (msg.PreReadAck u w n) = pre_read_ack_row c me d v from u w n v.running
reader_takes c me d v from (msg.Sets s) = sets_row c me v s
reader_takes c me d v from other = only_word Stranger v

abbrev pub reader_row : Cluster → RoleId → ReaderDurable → ReaderVolatile → Input → Outcome ReaderVolatile
reader_row c me d v (Take letter) =
    if same_role letter.to me && names c letter then reader_takes c me d v letter.from letter.msg else only_word Stranger v
reader_row c me d v Tick = reader_tick c me v v.running
reader_row c me d v (Order order) = only_word Stranger v

-- the durable part after a record: the greatest turn kept, which is the last one, since each is the last plus 1
abbrev pub reader_after : ReaderDurable → Record → ReaderDurable
reader_after d (kept.Turn n) = record { turn = max d.turn n }
reader_after d other = d

-- whether the reader could have appended this record: a list may begin with any turn, since it may be one put anew
abbrev pub reader_fits : Cluster → RoleId → ReaderDurable → Record → Bool
reader_fits c me d (kept.Turn n) = (n == d.turn + 1 || d.turn == 0) && nat_le n last_turn
reader_fits c me d other = false

-- the list put anew: the last turn (this project's own)
abbrev pub reader_renewed : ReaderDurable → ℕ → List Record
reader_renewed d first = kept.Turn d.turn ∷ []

-- one without a turn has nothing to put anew
abbrev pub reader_snap : Cluster → RoleId → ReaderDurable → ReaderVolatile → Option ℕ
reader_snap c me d v = if nat_lt 0 d.turn then Some 0 else None

abbrev pub reader_rules : Rules ReaderDurable ReaderVolatile
reader_rules = record {
  kind = Reader;
  empty = record { turn = 0 };
  after = reader_after;
  fits = reader_fits;
  whole = λ d. true;
  fresh = λ c d. record { waiting = []; running = None; set = first_set c };
  row = reader_row;
  snap = reader_snap;
  renewed = reader_renewed;
}
