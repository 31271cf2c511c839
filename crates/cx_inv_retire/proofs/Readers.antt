-- The rows of a reader: a turn that is fresh asks only in grids of rounds that weren't retired before.
use Rattle.cx_inv_run.proofs.Common.{◌≡◌, ℕ, ◌+◌, ◌<◌, Bool, true, false, not, ◌&&◌, map, List, [], ◌∷◌, ◌++◌, length, Option, Some, None}
use Rattle.cx_inv_run.proofs.Common.{sym, subst, refl, arith, ◌==◌, nat_lt, nat_le, and_parts, not-false, leb-true, none-some, same_Some}
use Rattle.cx_inv_run.proofs.Common.{Cluster, RoleId, Round, Why, is_in, role, same_role, same_round, is_above, Asking, Entry, Token}
use Rattle.cx_inv_run.proofs.Common.{Letter, letter, Input, KeptRecord, Msg, MatchAnswer, enough, is_counted, greatest_watermark}
use Rattle.cx_inv_run.proofs.Common.{live_entries, is_member_of, members_of, rows_whole, Member, names, Outcome, only_word, replied}
use Rattle.cx_inv_run.proofs.Common.{either_way, by_test, Asked, ReaderDurable, ReaderVolatile, acked_by, ask_acceptors, ask_matchmakers}
use Rattle.cx_inv_run.proofs.Common.{ask_replicas, asked_anew, asked_for, begin, begin_if, greatest_mark, has_acked, is_among, is_first}
use Rattle.cx_inv_run.proofs.Common.{is_matched, is_of_batch, last_turn, match_ack_counted, match_ack_row, match_read_to, matched}
use Rattle.cx_inv_run.proofs.Common.{pre_read_ack_row, pre_read_to, read_to, reader_row, reader_rules, reader_takes, reader_tick}
use Rattle.cx_inv_run.proofs.Common.{request_over, request_row, make_token, asking_of, Lands, State, ReaderIn, Given, durable_of, entry_by}
use Rattle.cx_inv_run.proofs.Common.{is_in-Member, Member-both, Member-one}
use Rattle.cx_inv_match.specs.Prelude.{answering_matchmakers, InState, IsKnown}
use Rattle.cx_base.specs.declared.role.Kind.TheVariants as kind
use Rattle.cx_base.specs.declared.why.Why.TheVariants as why
use Rattle.cx_letter.specs.declared.input.Input.TheVariants as input
use Rattle.cx_letter.specs.declared.kept.Record.TheVariants as kept
use Rattle.cx_letter.specs.declared.message.Msg.TheVariants as msg
use Rattle.cx_model.specs.Reader.{Batch, finish}
use Rattle.cx_inv_vote.proofs.Readers.{same_asking-true}
use Rattle.cx_inv_vote.proofs.Rows.{is_role}
use Rattle.cx_inv_read.specs.Reads.{HasBatch, InReader, IsBatch}
use Rattle.cx_inv_retire.specs.Retire.{AreMembers, RetireSays, RetireFacts, Known}
use Rattle.cx_inv_retire.proofs.Keep.{IsRetiring, lands, silent, sending}
use Rattle.cx_inv_retire.proofs.Live.{each, each_member, one_more_told, live_from_retired}

module _ (c : Cluster) (past : List KeptRecord) (fresh : Asking → Type 0) (history : List KeptRecord) (sent : List Letter) (states : RoleId
    → State) (known : Known c past history sent states) (h : RetireFacts c past fresh history sent states) (index : ℕ) where
  abbrev me : RoleId
  me = role kind.Reader index

  abbrev Good : Outcome ReaderVolatile → Type 0
  Good o = IsRetiring c past fresh history me ReaderIn o

  -- each answer that was counted for the batch is a datagram
  abbrev WereSent : Batch → Type 0
  WereSent b = (a : MatchAnswer) → Member a b.told
      → Member (letter (role kind.Matchmaker a.matchmaker) me (msg.MatchReadAck (asking_of me b.turn) a.watermark a.entries)) sent

  -- so of a batch: who was counted for it are members of one known set
  record IsCounted (b : Batch) : Type 0 where
    set : List ℕ
    set_known : IsKnown c history set
    members : AreMembers set (answering_matchmakers b.told)
    were : WereSent b

  -- so is known of the running batch; in its first stage who was counted are members of the set that the reader knows
  abbrev AreKnown : ReaderVolatile → Type 0
  AreKnown v = (b : Batch) → v.running ≡ Some b
      → IsCounted b × (is_matched c b ≡ false → (m : ℕ) → Member m (answering_matchmakers b.told) → Member m v.set)

  -- what a datagram says by whatever history
  abbrev Says : List KeptRecord → Letter → Type 0
  Says longer d = RetireSays c past fresh longer d.from d.to d.msg

  quiet : (w : Why) (v : ReaderVolatile) → Good (only_word w v)
  quiet w v = silent c past fresh history me ReaderIn w v tt

  asks_matchmakers : (longer : List KeptRecord) (set : List ℕ) (turn : ℕ) (x : Letter) → Member x (ask_matchmakers me set turn)
      → Says longer x
  asks_matchmakers longer set turn = each (Says longer) (match_read_to me (asking_of me turn)) set (λ m. tt)

  asks_replicas : (longer : List KeptRecord) (b : Batch) (n : ℕ) (x : Letter) → Member x (ask_replicas me b n) → Says longer x
  asks_replicas longer b n = each (Says longer) (read_to me n) b.reads (λ r. tt)

  module _ (d : ReaderDurable) (v : ReaderVolatile) where
    -- a batch begins

    begins : (w : Why) (first : List Letter) (rs : List Asked) → ((longer : List KeptRecord) (x : Letter) → Member x first → Says longer x)
        → Good (begin me d v w first rs)
    begins w first rs says =
        let longer : List KeptRecord = entry_by me (kept.Turn (d.turn + 1)) ∷ history in
        record {
          says = Member-both (Says longer) first (ask_matchmakers me v.set (d.turn + 1)) (says longer)
              (asks_matchmakers longer v.set (d.turn + 1));
          counted = tt;
        }

    begins_if : (w : Why) (rs : List Asked) → Good (begin_if me d v w rs)
    begins_if w rs = either_way Good (d.turn == last_turn) _ _ (quiet _ v) (begins w [] rs (λ longer x m. absurd m))

    request_good : (one : Asked) → Good (request_row me d v one)
    request_good one = either_way Good (is_among one.read v.waiting) _ _ (quiet _ _) (over v.running)
      where
        over : (o : Option Batch) → Good (request_over me d v one o)
        over None = either_way Good (nat_le 64 (length v.waiting)) _ _ (quiet _ v) (begins_if _ _)
        over (Some b) =
            either_way Good (is_first one.read b.reads) _ _ (begins_if _ _)
            (either_way Good (is_among one.read b.reads) _ _ (quiet _ v)
            (either_way Good (nat_le 64 (length v.waiting + length b.reads)) _ _ (quiet _ v) (quiet _ _)))

    finish_good : (b : Batch) (n : ℕ) → Good (finish me d v b n)
    finish_good b n =
        either_way Good (nat_lt 0 (length v.waiting) && not (d.turn == last_turn)) _ _
        (begins _ (ask_replicas me b n) v.waiting (λ longer. asks_replicas longer b n))
        (sending c past fresh history me ReaderIn _ _ (ask_replicas me b n) tt (asks_replicas history b n))

    -- a matchmaker's answer

    asks_acceptors : (b : Batch) (es : List Entry) → live_entries b.told ≡ es → IsCounted b → c.f < length b.told
        → (x : Letter) → Member x (map (pre_read_to me b) (members_of c es)) → Says history x
    asks_acceptors b es e is most =
        each_member (Says history) (pre_read_to me b) c es
        (λ a t n. live_from_retired c past history known.has sent known.then known.facts.sets b.told is.set is.set_known is.members most
        (λ x m. (h.says _ (is.were x m)).0) (λ x m. (h.says _ (is.were x m)).1 n) a
        (subst (λ l. is_member_of l a ≡ true) (sym e) t))

    matched_good : (b : Batch) (es : List Entry) → live_entries b.told ≡ es → IsCounted b → c.f < length b.told
        → Good (matched c me d v b es)
    matched_good b [] e is most = finish_good b 0
    matched_good b (x ∷ es) e is most = sending c past fresh history me ReaderIn why.Asking _ _ tt (asks_acceptors b (x ∷ es) e is most)

    enough_told : (b : Batch) → is_matched c b ≡ true → c.f < length b.told
    enough_told b t = let l = leb-true (enough c) (length b.told) t in omega arith

    answered_good : (b : Batch) → IsCounted b → Good (match_ack_counted c me d v b)
    answered_good b is =
        by_test Good (is_matched c b) _ _ (λ t. matched_good b (live_entries b.told) refl is (enough_told b t)) (λ f. quiet why.Counted _)

    not_true : (b : Bool) → not b ≡ true → b ≡ false
    not_true true e = cc
    not_true false e = refl

    match_ack_good : AreKnown v → IsKnown c history v.set → (from : RoleId) (u : Asking) (w : Round) (es : List Entry) (o : Option Batch)
        → v.running ≡ o → Member (letter from me (msg.MatchReadAck u w es)) sent → Good (match_ack_row c me d v from u w es o)
    match_ack_good are now from u w es None e x = quiet why.Unasked v
    match_ack_good are now from u w es (Some b) e x =
        by_test Good (not (is_of_batch me b u && not (is_matched c b) && is_in from.index v.set)) _ _ (λ f. quiet why.Unasked v)
        (λ f. by_test Good (is_counted from.index b.told) _ _ (λ y. quiet why.Same v)
        (λ g. (
        let answer : MatchAnswer = record { matchmaker = from.index; watermark = w; entries = es } in
        let tests = and_parts (is_of_batch me b u && not (is_matched c b)) (is_in from.index v.set)
        (not-false (is_of_batch me b u && not (is_matched c b) && is_in from.index v.set) f) in
        let both = and_parts (is_of_batch me b u) (not (is_matched c b)) tests.0 in
        let ours : u ≡ asking_of me b.turn = same_asking-true u (asking_of me b.turn) both.0 in
        let told : Member (letter (role kind.Matchmaker from.index) me (msg.MatchReadAck (asking_of me b.turn) w es)) sent =
        subst (λ y. Member (letter y me (msg.MatchReadAck (asking_of me b.turn) w es)) sent) (is_role from kind.Matchmaker
        (known.kinds.senders _ x)) (subst (λ y. Member (letter from me (msg.MatchReadAck y w es)) sent) ours x) in
        let before : AreMembers v.set (answering_matchmakers b.told) =
        record { once = (are b e).0.members.once; known = (are b e).1 (not_true (is_matched c b) both.1) } in
        answered_good (record b { told = b.told ++ answer ∷ [] }) (record {
          set = v.set;
          set_known = now;
          members = one_more_told v.set b.told answer g (is_in-Member from.index v.set tests.1) before;
          were = Member-both (λ (a : MatchAnswer). Member (letter (role kind.Matchmaker a.matchmaker) me
              (msg.MatchReadAck (asking_of me b.turn) a.watermark a.entries)) sent) b.told (answer ∷ []) (are b e).0.were
              (Member-one (λ (a : MatchAnswer). Member (letter (role kind.Matchmaker a.matchmaker) me
              (msg.MatchReadAck (asking_of me b.turn) a.watermark a.entries)) sent) answer told);
        })
        )))

    -- an acceptor's answer

    pre_read_ack_good : (from : RoleId) (u : Asking) (w : Round) (n : ℕ) (o : Option Batch) → Good (pre_read_ack_row c me d v from u w n o)
    pre_read_ack_good from u w n None = quiet why.Unasked v
    pre_read_ack_good from u w n (Some b) = either_way Good
        (not (is_of_batch me b u && is_matched c b && is_member_of (live_entries b.told) from.index)) _ _ (quiet why.Unasked v)
        (either_way Good (not (same_round w (greatest_watermark b.told))) _ _ (quiet why.Old v)
        (either_way Good (has_acked from.index b.acks) _ _ (quiet why.Same v)
        (let one : Batch = record b { acks = b.acks ++ record { acceptor = from.index; mark = n } ∷ [] } in
        either_way Good (rows_whole (live_entries one.told) (acked_by one.acks)) _ _ (finish_good one (greatest_mark one.acks))
        (quiet why.Counted _))))

    -- another set took over

    anew_good : (set : List ℕ) (o : Option Batch) → Good (asked_anew c me (record v { set = set }) o)
    anew_good set None = quiet why.Learnt _
    anew_good set (Some b) =
        either_way Good (is_matched c b) _ _ (quiet why.Learnt _)
        (sending c past fresh history me ReaderIn why.Learnt _ (ask_matchmakers me set b.turn) tt (asks_matchmakers history set b.turn))

    takes_good : AreKnown v → IsKnown c history v.set → (from : RoleId) (m : Msg) → Member (letter from me m) sent
        → Good (reader_takes c me d v from m)
    takes_good are now from (msg.ReadReq seq replica key) x = request_good (asked_for (make_token from.index seq) replica key)
    takes_good are now from (msg.MatchReadAck u w es) x = match_ack_good are now from u w es v.running refl x
    takes_good are now from (msg.PreReadAck u w n) x = pre_read_ack_good from u w n v.running
    takes_good are now from (msg.Sets s) x = either_way Good (is_above s v.set) _ _ (anew_good s v.running) (quiet why.Old v)
    takes_good are now from other x = quiet why.Stranger v

    ticks_good : AreKnown v → (o : Option Batch) → v.running ≡ o → Good (reader_tick c me v o)
    ticks_good are None e = quiet why.Idle v
    ticks_good are (Some b) e =
        by_test (λ ds. Good (replied why.Resent v ds)) (is_matched c b) (ask_acceptors c me b) (ask_matchmakers me v.set b.turn)
        (λ t. sending c past fresh history me ReaderIn why.Resent v _ tt (asks_acceptors b (live_entries b.told) refl (are b e).0
        (enough_told b t))) (λ f. sending c past fresh history me ReaderIn why.Resent v _ tt (asks_matchmakers history v.set b.turn))

    row_good : AreKnown v → IsKnown c history v.set → (i : Input) → Given sent me i → Good (reader_row c me d v i)
    row_good are now (input.Take l) given =
        by_test Good (same_role l.to me && names c l) _ _
        (λ t. takes_good are now l.from l.msg (subst (λ a. Member (letter l.from a l.msg) sent) given.0 given.1))
        (λ f. quiet why.Stranger v)
    row_good are now input.Tick given = ticks_good are v.running refl
    row_good are now (input.Order order) given = quiet why.Stranger v

  -- the running batch is as is known of all readers
  batch_known : (t : Token) (s : List ℕ) (o : Option Batch) → HasBatch c [] t history me s o → (b : Batch) → o ≡ Some b
      → IsBatch c [] t history me s b
  batch_known t s None is b e = absurd (none-some b e)
  batch_known t s (Some x) is b e = subst (λ (y : Batch). IsBatch c [] t history me s y) (same_Some x b e) is

  known_so : (t : Token) (v : ReaderVolatile) → HasBatch c [] t history me v.set v.running → ((b : Batch) → v.running ≡ Some b → WereSent b)
      → AreKnown v
  known_so t v is were b e =
      let x = batch_known t v.set v.running is b e in
      (record { set = x.set; set_known = x.set_known; members = record { once = x.once; known = x.known }; were = were b e }, x.asking)

  pub reader_lands : (v : ReaderVolatile) (i : Input) → states me ≡ ReaderIn v → Given sent me i
      → Lands (RetireFacts c past fresh) history sent states me ReaderIn (reader_row c me (durable_of reader_rules me history) v i)
  reader_lands v i up given =
      let state : InState c history sent me (ReaderIn v) = subst (λ s. InState c history sent me s) up (known.facts.running me) in
      let any : Token = make_token 0 0 in
      let counted : InReader c [] any history me (ReaderIn v) = subst (λ s. InReader c [] any history me s) up (known.readers me any) in
      lands c past fresh history sent states h me ReaderIn (reader_row c me (durable_of reader_rules me history) v i)
      (row_good (durable_of reader_rules me history) v (known_so any v counted (λ b e a k. (state.0.batch b e).answers a k))
      state.2 i given)
