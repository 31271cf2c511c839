-- Each row of a reader keeps the facts.
use Rattle.cx_inv_run.proofs.Common.{◌≡◌, ℕ, ◌==◌, true, false, not, ◌&&◌, ◌⊎◌, List, [], ◌∷◌, ◌++◌, length, Option, Some, None, inl, inr}
use Rattle.cx_inv_run.proofs.Common.{sym, ◌∙◌, subst, refl, ◌+◌, nat_le, nat_lt, and_parts, not-false, not-true, true≢false, none-some}
use Rattle.cx_inv_run.proofs.Common.{same_Some, Cluster, RoleId, Round, Why, Sent, is_in, role, same_role, same_round, is_above, Asking}
use Rattle.cx_inv_run.proofs.Common.{Entry, Letter, letter, Input, KeptRecord, Msg, Acked, MatchAnswer, ReaderWasTold, same_number}
use Rattle.cx_inv_run.proofs.Common.{is_counted, is_member_of, greatest_watermark, live_entries, rows_whole, Member, names, Outcome}
use Rattle.cx_inv_run.proofs.Common.{by_test, either_way, Asked, ReaderDurable, ReaderVolatile, acked_by, ask_replicas, asked_anew}
use Rattle.cx_inv_run.proofs.Common.{asked_for, asking_of, begin, begin_if, greatest_mark, has_acked, is_among, is_first, is_matched}
use Rattle.cx_inv_run.proofs.Common.{is_of_batch, last_turn, match_ack_counted, match_ack_row, matched, pre_read_ack_row, pre_read_counted}
use Rattle.cx_inv_run.proofs.Common.{reader_row, reader_rules, reader_takes, reader_tick, request_over, request_row, make_token, same_read}
use Rattle.cx_inv_run.proofs.Common.{Kinds, Lands, State, ReaderIn, Given, durable_of, with_record, kept_longer, Member-both, Member-one}
use Rattle.cx_inv_run.proofs.Common.{same_round-true, reader_kinds}
use Rattle.cx_base.specs.declared.role.Kind.TheVariants as kind
use Rattle.cx_letter.specs.declared.input.Input.TheVariants as input
use Rattle.cx_letter.specs.declared.message.Msg.TheVariants as msg
use Rattle.cx_model.specs.Facts.{BatchWasTold}
use Rattle.cx_model.specs.Reader.{Batch, finish, new_batch, same_asking, sets_row, with_asked, with_batch}
use Rattle.cx_inv_match.specs.Words.{IsKnown as IsKnownSet}
use Rattle.cx_inv_match.specs.Facts.{InState, AreAsking, Facts}
use Rattle.cx_inv_match.proofs.Grow.{more_nth}
use Rattle.cx_inv_vote.proofs.Rows.{is_role}
use Rattle.cx_inv_vote.proofs.Mute.{mute_lands}

asking_from_parts : (x y u v : ℕ) → x ≡ u → y ≡ v → ◌≡◌ {A = Asking} (record { reader = x; turn = y }) (record { reader = u; turn = v })
asking_from_parts x y u v p q = cc

pub same_asking-true : (u v : Asking) → same_asking u v ≡ true → u ≡ v
same_asking-true u v h =
    let p = and_parts (u.reader == v.reader) (u.turn == v.turn) h in
    asking_from_parts u.reader u.turn v.reader v.turn (same_number u.reader v.reader p.0) (same_number u.turn v.turn p.1)

with_asked-cases : (one : Asked) (rs : List Asked) (r : Asked) → Member r (with_asked one rs) → (r ≡ one) ⊎ Member r rs
with_asked-cases one [] r m = absurd m
with_asked-cases one (x ∷ rs) r m =
    by_test (λ (l : List Asked). Member r l → (r ≡ one) ⊎ Member r (x ∷ rs)) (same_read one.read x.read) (one ∷ rs) (x ∷ with_asked one rs)
    (λ t k. elim k [ inl e ↦ inl e | inr n ↦ inr (inr n) ])
    (λ f k. elim k [
      | inl e ↦ inr (inl e)
      | inr n ↦ (elim (with_asked-cases one rs r n) [ inl e ↦ inl e | inr o ↦ inr (inr o) ])
    ]) m

module _ (c : Cluster) (history : List KeptRecord) (sent : List Letter) (states : RoleId → State) (kinds : Kinds history sent states)
    (facts : Facts c history sent states) (index : ℕ) where
  abbrev me : RoleId
  me = role kind.Reader index

  -- a read was asked for
  abbrev WasAsked : Asked → Type 0
  WasAsked r = Member (letter (role kind.Client r.read.client) me (msg.ReadReq r.read.seq r.replica r.key)) sent

  abbrev AllAsked : List Asked → Type 0
  AllAsked rs = (r : Asked) → Member r rs → WasAsked r

  -- what is known of a running batch
  record IsKnown (b : Batch) : Type 0 where
    told : BatchWasTold sent me b
    unasked : is_matched c b ≡ false → (a : Acked) → Member a b.acks → ⊥

  record Good (v : ReaderVolatile) : Type 0 where
    waiting : AllAsked v.waiting
    running : (b : Batch) → v.running ≡ Some b → IsKnown b
    known : IsKnownSet c history v.set

  known_in : (v : ReaderVolatile) → ReaderWasTold sent me v × AreAsking c v × IsKnownSet c history v.set → Good v
  known_in v h = record { waiting = h.0.requests; running = λ b e. record { told = h.0.batch b e; unasked = h.1 b e }; known = h.2 }

  in_state : (v : ReaderVolatile) → Good v → ReaderWasTold sent me v × AreAsking c v × IsKnownSet c history v.set
  in_state v h = (record { requests = h.waiting; batch = λ b e. (h.running b e).told }, λ b e f a m. (h.running b e).unasked f a m, h.known)

  with_all : (one : Asked) (rs : List Asked) → WasAsked one → AllAsked rs → AllAsked (with_asked one rs)
  with_all one rs new old r m = elim (with_asked-cases one rs r m) [ inl e ↦ subst WasAsked (sym e) new | inr k ↦ old r k ]

  abbrev GoodOf : Outcome ReaderVolatile → Type 0
  GoodOf o = Good o.volatile

  module _ (d : ReaderDurable) (v : ReaderVolatile) (old : Good v) where
    begun : (w : Why) (first : List Letter) (rs : List Asked) → AllAsked rs → GoodOf (begin me d v w first rs)
    begun w first rs all = record {
      waiting = λ r m. absurd m;
      running = λ b e. subst IsKnown (same_Some (new_batch (d.turn + 1) rs) b e) (record {
        told = record { requests = all; answers = λ a m. absurd m; acks = λ a m. absurd m };
        unasked = λ f a m. m;
      });
      known = old.known;
    }

    begun_if : (w : Why) (rs : List Asked) → AllAsked rs → GoodOf (begin_if me d v w rs)
    begun_if w rs all = either_way GoodOf (d.turn == last_turn) _ _ old (begun w [] rs all)

    more_waiting : (rs : List Asked) → AllAsked rs → Good (record v { waiting = rs })
    more_waiting rs all = record { waiting = all; running = old.running; known = old.known }

    request_good : (one : Asked) → WasAsked one → GoodOf (request_row me d v one)
    request_good one new = either_way GoodOf (is_among one.read v.waiting)
        _ _ (more_waiting (with_asked one v.waiting) (with_all one v.waiting new old.waiting)) (over v.running refl)
      where
        last : AllAsked (v.waiting ++ one ∷ [])
        last = Member-both WasAsked v.waiting (one ∷ []) old.waiting (Member-one WasAsked one new)

        over : (o : Option Batch) → v.running ≡ o → GoodOf (request_over me d v one o)
        over None is = either_way GoodOf (nat_le 64 (length v.waiting)) _ _ old (begun_if _ (v.waiting ++ one ∷ []) last)
        over (Some b) is =
            either_way GoodOf (is_first one.read b.reads) _ _ (begun_if _ (with_asked one b.reads ++ v.waiting) (Member-both WasAsked
            (with_asked one b.reads) v.waiting (with_all one b.reads new (old.running b is).told.requests) old.waiting))
            (either_way GoodOf (is_among one.read b.reads) _ _ old
            (either_way GoodOf (nat_le 64 (length v.waiting + length b.reads)) _ _ old (more_waiting (v.waiting ++ one ∷ []) last)))

    finished : (b : Batch) (n : ℕ) → GoodOf (finish me d v b n)
    finished b n = either_way GoodOf (nat_lt 0 (length v.waiting) && not (d.turn == last_turn)) _ _ (begun Sent (ask_replicas me b n)
        v.waiting old.waiting) (record { waiting = old.waiting; running = λ b e. absurd (none-some b e); known = old.known })

    runs_on : (b : Batch) → IsKnown b → Good (with_batch v b)
    runs_on b new = record { waiting = old.waiting; running = λ x e. subst IsKnown (same_Some b x e) new; known = old.known }

    matched_good : (b : Batch) → IsKnown b → (es : List Entry) → GoodOf (matched c me d v b es)
    matched_good b new [] = finished b 0
    matched_good b new (e ∷ es) = runs_on b new

    answered_good : (b : Batch) → IsKnown b → GoodOf (match_ack_counted c me d v b)
    answered_good b new = either_way GoodOf (is_matched c b) _ _ (matched_good b new (live_entries b.told)) (runs_on b new)

    match_ack_good : (from : RoleId) (u : Asking) (w : Round) (es : List Entry) (o : Option Batch) → v.running ≡ o
        → Member (letter from me (msg.MatchReadAck u w es)) sent → GoodOf (match_ack_row c me d v from u w es o)
    match_ack_good from u w es None found is_sent = old
    match_ack_good from u w es (Some b) found is_sent =
        by_test GoodOf (not (is_of_batch me b u && not (is_matched c b) && is_in from.index v.set)) _ _ (λ y. old)
        (λ f. either_way GoodOf (is_counted from.index b.told) _ _ old
        (
        let h = old.running b found in
        let both = and_parts (is_of_batch me b u && not (is_matched c b)) (is_in from.index v.set)
        (not-false (is_of_batch me b u && not (is_matched c b) && is_in from.index v.set) f) in
        let tests = and_parts (is_of_batch me b u) (not (is_matched c b)) both.0 in
        let n = not-true (is_matched c b) tests.1 in
        let answer : MatchAnswer = record { matchmaker = from.index; watermark = w; entries = es } in
        let from_is : from ≡ role kind.Matchmaker from.index = is_role from kind.Matchmaker (kinds.senders _ is_sent) in
        let told : Member (letter (role kind.Matchmaker from.index) me (msg.MatchReadAck (asking_of me b.turn) w es)) sent =
        subst (λ x. Member (letter x me (msg.MatchReadAck (asking_of me b.turn) w es)) sent) from_is
        (subst (λ x. Member (letter from me (msg.MatchReadAck x w es)) sent) (same_asking-true u (asking_of me b.turn) tests.0) is_sent) in
        answered_good (record b { told = b.told ++ answer ∷ [] }) (record {
          told = record {
            requests = h.told.requests;
            answers = Member-both (λ (a : MatchAnswer). Member (letter (role kind.Matchmaker a.matchmaker) me
                (msg.MatchReadAck (asking_of me b.turn) a.watermark a.entries)) sent) b.told (answer ∷ []) h.told.answers
                (Member-one (λ (a : MatchAnswer). Member (letter (role kind.Matchmaker a.matchmaker) me
                (msg.MatchReadAck (asking_of me b.turn) a.watermark a.entries)) sent) answer told);
            acks = λ a m. absurd (h.unasked n a m);
          };
          unasked = λ g a m. h.unasked n a m;
        })
        ))

    acked_good : (b : Batch) → IsKnown b → GoodOf (pre_read_counted c me d v b)
    acked_good b new =
        either_way GoodOf (rows_whole (live_entries b.told) (acked_by b.acks)) _ _ (finished b (greatest_mark b.acks)) (runs_on b new)

    pre_read_ack_good : (from : RoleId) (u : Asking) (w : Round) (n : ℕ) (o : Option Batch) → v.running ≡ o
        → Member (letter from me (msg.PreReadAck u w n)) sent → GoodOf (pre_read_ack_row c me d v from u w n o)
    pre_read_ack_good from u w n None found is_sent = old
    pre_read_ack_good from u w n (Some b) found is_sent =
        by_test GoodOf (not (is_of_batch me b u && is_matched c b && is_member_of (live_entries b.told) from.index)) _ _ (λ y. old)
        (λ f. by_test GoodOf (not (same_round w (greatest_watermark b.told))) _ _ (λ y. old)
        (λ g. either_way GoodOf (has_acked from.index b.acks) _ _ old
        (
        let h = old.running b found in
        let tests = and_parts (is_of_batch me b u && is_matched c b) (is_member_of (live_entries b.told) from.index)
        (not-false (is_of_batch me b u && is_matched c b && is_member_of (live_entries b.told) from.index) f) in
        let both = and_parts (is_of_batch me b u) (is_matched c b) tests.0 in
        let ack : Acked = record { acceptor = from.index; mark = n } in
        let same : w ≡ greatest_watermark b.told =
        same_round-true w (greatest_watermark b.told) (not-false (same_round w (greatest_watermark b.told)) g) in
        let from_is : from ≡ role kind.Acceptor from.index = is_role from kind.Acceptor (kinds.senders _ is_sent) in
        let told : Member (letter (role kind.Acceptor from.index) me (msg.PreReadAck (asking_of me b.turn) (greatest_watermark b.told) n))
        sent = subst (λ x. Member (letter x me (msg.PreReadAck (asking_of me b.turn) (greatest_watermark b.told) n)) sent) from_is
        (subst (λ x. Member (letter from me (msg.PreReadAck (asking_of me b.turn) x n)) sent) same
        (subst (λ x. Member (letter from me (msg.PreReadAck x w n)) sent) (same_asking-true u (asking_of me b.turn) both.0) is_sent)) in
        acked_good (record b { acks = b.acks ++ ack ∷ [] }) (record {
          told = record {
            requests = h.told.requests;
            answers = h.told.answers;
            acks = Member-both (λ (a : Acked). Member (letter (role kind.Acceptor a.acceptor) me
                (msg.PreReadAck (asking_of me b.turn) (greatest_watermark b.told) a.mark)) sent) b.acks (ack ∷ []) h.told.acks
                (Member-one (λ (a : Acked). Member (letter (role kind.Acceptor a.acceptor) me
                (msg.PreReadAck (asking_of me b.turn) (greatest_watermark b.told) a.mark)) sent) ack told);
          };
          unasked = λ g a m. true≢false (sym both.1 ∙ g);
        })
        )))

    -- another set of matchmakers took over: what was counted of the one before goes

    anew_good : (s : List ℕ) → IsKnownSet c history s → (o : Option Batch) → v.running ≡ o
        → GoodOf (asked_anew c me (record v { set = s }) o)
    anew_good s known None is = record { waiting = old.waiting; running = old.running; known = known }
    anew_good s known (Some b) is =
        by_test GoodOf (is_matched c b) _ _
        (λ t. record { waiting = old.waiting; running = old.running; known = known }) (λ f. record {
          waiting = old.waiting;
          running = λ x e. subst IsKnown (same_Some (record b { told = [] }) x e) (uncounted f);
          known = known;
        })
      where
        h : IsKnown b
        h = old.running b is

        uncounted : is_matched c b ≡ false → IsKnown (record b { told = [] })
        uncounted f = record {
          told = record { requests = h.told.requests; answers = λ a m. absurd m; acks = λ a m. absurd (h.unasked f a m) };
          unasked = λ g a m. h.unasked f a m;
        }

    sets_good : (s : List ℕ) → IsKnownSet c history s → GoodOf (sets_row c me v s)
    sets_good s known = either_way GoodOf (is_above s v.set) _ _ (anew_good s known v.running refl) old

    takes_good : (from : RoleId) (m : Msg) → Member (letter from me m) sent → GoodOf (reader_takes c me d v from m)
    takes_good from (msg.ReadReq seq replica key) is_sent =
        request_good (asked_for (make_token from.index seq) replica key)
        (subst (λ x. Member (letter x me (msg.ReadReq seq replica key)) sent) (is_role from kind.Client (kinds.senders _ is_sent)) is_sent)
    takes_good from (msg.MatchReadAck u w es) is_sent = match_ack_good from u w es v.running refl is_sent
    takes_good from (msg.PreReadAck u w n) is_sent = pre_read_ack_good from u w n v.running refl is_sent
    takes_good from (msg.Sets s) is_sent = sets_good s (facts.says _ is_sent)
    takes_good from other is_sent = old

    ticks_good : (o : Option Batch) → GoodOf (reader_tick c me v o)
    ticks_good None = old
    ticks_good (Some b) = old

    row_good : (i : Input) → Given sent me i → GoodOf (reader_row c me d v i)
    row_good (input.Take l) given =
        either_way GoodOf (same_role l.to me && names c l) _ _
        (takes_good l.from l.msg (subst (λ r. Member (letter l.from r l.msg) sent) given.0 given.1)) old
    row_good input.Tick given = ticks_good v.running
    row_good (input.Order order) given = old

  pub reader_lands : (v : ReaderVolatile) (i : Input) → states me ≡ ReaderIn v → Given sent me i
      → Lands (Facts c) history sent states me ReaderIn (reader_row c me (durable_of reader_rules me history) v i)
  reader_lands v i up given =
      let d = durable_of reader_rules me history in
      let o = reader_row c me d v i in
      let state =
      in_state o.volatile (row_good d v (known_in v (subst (λ s. InState c history sent me s) up (facts.running me))) i given) in
      mute_lands kind.Reader (λ e. cc) (λ e. cc) (λ e. cc) (λ e. cc) (λ e. cc) (λ e. cc) c history sent states facts me refl ReaderIn o
      (reader_kinds c me refl d v i) (
        state.0,
        state.1,
        (
          state.2.0,
          more_nth c history (with_record me o.kept history) (λ k m. kept_longer me o.kept history k m) state.2.0 o.volatile.set state.2.1,
        ),
      )
