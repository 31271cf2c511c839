-- Each row of a reader keeps the facts on a read: what it asks under a new turn is so, and when it asks a replica for the read, the number
-- is above all that was chosen when the read was asked for.
use Rattle.cx_inv_run.proofs.Common.{◌≡◌, ℕ, ◌+◌, ◌<◌, Bool, true, false, not, ◌&&◌, map, List, [], ◌∷◌, ◌++◌, length, Option, None, Some}
use Rattle.cx_inv_run.proofs.Common.{inl, inr, sym, subst, ◌∙◌, refl, arith, ◌==◌, nat_lt, nat_le, true≢false, and_parts, not-false}
use Rattle.cx_inv_run.proofs.Common.{leb-true, Cluster, RoleId, Round, Why, is_in, role, same_role, no_round, same_round, is_above, Asking}
use Rattle.cx_inv_run.proofs.Common.{Entry, Token, Letter, letter, Input, KeptRecord, Msg, Acked, MatchAnswer, ReaderWasTold, enough}
use Rattle.cx_inv_run.proofs.Common.{is_counted, is_member_of, greatest_watermark, live_entries, members_of, rows_whole, entry, Member}
use Rattle.cx_inv_run.proofs.Common.{names, Outcome, only_word, either_way, by_test, Asked, ReaderDurable, ReaderVolatile, acked_by}
use Rattle.cx_inv_run.proofs.Common.{ask_acceptors, ask_matchmakers, ask_replicas, asked_anew, asked_for, begin, begin_if, greatest_mark}
use Rattle.cx_inv_run.proofs.Common.{has_acked, is_among, is_first, is_matched, is_of_batch, last_turn, match_ack_counted, match_ack_row}
use Rattle.cx_inv_run.proofs.Common.{match_read_to, matched, pre_read_ack_row, pre_read_counted, pre_read_to, read_to, reader_row}
use Rattle.cx_inv_run.proofs.Common.{reader_rules, reader_takes, reader_tick, request_over, request_row, make_token, asking_of, Lands}
use Rattle.cx_inv_run.proofs.Common.{State, ReaderIn, Given, durable_of, is_in-Member, Member-both, Member-cases, Member-second, Member-one}
use Rattle.cx_inv_run.proofs.Common.{itself-not_before, same_round-true, reader_kinds, named}
use Rattle.cx_inv_match.specs.Prelude.{AreOnce, answering_matchmakers, InState, Facts, IsKnown}
use Rattle.cx_base.specs.declared.role.Kind.TheVariants as kind
use Rattle.cx_letter.specs.declared.input.Input.TheVariants as input
use Rattle.cx_letter.specs.declared.message.Msg.TheVariants as msg
use Rattle.cx_model.specs.Reader.{Batch, finish, sets_row}
use Rattle.cx_inv_vote.proofs.Readers.{same_asking-true}
use Rattle.cx_inv_vote.proofs.Searches.{told_by-counted, told_more, once_more, live_has, top_told}
use Rattle.cx_inv_read.specs.Reads.{IsAbove, IsRaised, IsReadAnswer, IsNew, ReadSays, IsAcked, IsBatch, HasBatch, InReader, FreshReadFacts}
use Rattle.cx_inv_read.proofs.Above.{AreAcks, mark_above, read_above}
use Rattle.cx_inv_read.proofs.Keep.{Since, lands, no_acks}
use Rattle.cx_inv_read.proofs.Rows.{Each, each_mapped}
use Rattle.cx_inv_read.proofs.Says.{Known}
use Rattle.cx_inv_read.proofs.Turns.{next_is_new}

not-true : (b : Bool) → not b ≡ true → b ≡ false
not-true true e = cc
not-true false e = refl

module _ (c : Cluster) (asked : List KeptRecord) (sent0 : List Letter) (states0 : RoleId → State)
    (facts0 : Facts c asked sent0 states0) (t : Token)
    (history : List KeptRecord) (sent : List Letter) (states : RoleId → State) (known : Known c history sent states)
    (reads : FreshReadFacts c asked sent0 t history sent states) where
  abbrev facts : Facts c history sent states
  facts = known.1

  abbrev Says : Letter → Type 0
  Says d = ReadSays c asked t history d.from d.to d.msg

  -- ---- what the answers of a new turn come to

  abbrev Answers : List MatchAnswer → Type 0
  Answers told = (a : MatchAnswer) → Member a told → IsReadAnswer c asked history (role kind.Matchmaker a.matchmaker) a.watermark a.entries

  -- the greatest watermark reported is none, or was raised
  top_raised : (told : List MatchAnswer) → Answers told → IsRaised history (greatest_watermark told)
  top_raised told h = elim (top_told told) [
    | inl e ↦ inl e
    | inr r ↦ subst (λ w. IsRaised history w) (sym r.2) (h r.0 r.1).raised
  ]

  -- with no live grid there is no watermark
  top_none : (told : List MatchAnswer) → Answers told → live_entries told ≡ [] → greatest_watermark told ≡ no_round
  top_none told h e = elim (top_told told) [
    | inl p ↦ p
    | inr r ↦ elim (h r.0 r.1).has_watermark [
      | inl p ↦ r.2 ∙ p
      | inr x ↦ absurd (subst (λ l. Member (entry (greatest_watermark told) x.0) l) e
          (live_has told r.0 (entry (greatest_watermark told) x.0) (itself-not_before (greatest_watermark told)) r.1
          (subst (λ w. Member (entry w x.0) r.0.entries) (sym r.2) x.1)))
    ]
  ]

  above_nothing : (told : List MatchAnswer) → AreOnce (answering_matchmakers told) → (set : List ℕ) → IsKnown c history set
      → ((m : ℕ) → Member m (answering_matchmakers told) → Member m set) → c.f < length told → Answers told
      → live_entries told ≡ [] → IsAbove asked 0
  above_nothing told once set set_known bound many answers e =
      read_above c asked sent0 states0 facts0 history sent states facts reads.has told once set set_known bound many answers []
      (record { covered = λ a m. absurd m; collected = inl (top_none told answers e) })
      (subst (λ l. rows_whole l (acked_by []) ≡ true) (sym e) refl) 0 (λ a m. absurd m)

  -- acceptors that answered
  row_acks : (u : Asking) → IsNew asked u → (w : Round) (acks : List Acked) (one : Acked) → Member one acks
      → ((a : Acked) → Member a acks → IsAcked sent u w (role kind.Acceptor a.acceptor) a.mark) → AreAcks c asked sent0 history w acks
  row_acks u new w acks one m h = record {
    covered = λ a k. let x = h a k in (reads.says _ x.1 new).0;
    collected = elim (reads.evidence u new w) [
      | inl e ↦ inl e
      | inr (inl none) ↦ absurd (none (role kind.Acceptor one.acceptor) one.mark (h one m))
      | inr (inr k) ↦ inr (
        k.past,
        k.sent_then,
        k.within,
        k.longer,
        k.wider,
        k.sets,
        k.collected,
        λ a n. k.covers (role kind.Acceptor a.acceptor) a.mark (h a n),
      )
    ];
  }

  -- ---- a reader

  module _ (me : RoleId) (d : ReaderDurable) (v : ReaderVolatile) (batch : HasBatch c asked t history me v.set v.running)
      (was_told : ReaderWasTold sent me v) (now_known : IsKnown c history v.set) (next : IsNew asked (asking_of me (d.turn + 1))) where
    pub record Good (o : Outcome ReaderVolatile) : Type 0 where
      pub says : Each Says o.sends
      pub runs : HasBatch c asked t history me o.volatile.set o.volatile.running

    same : (w : Why) → Good (only_word w v)
    same w = record { says = λ l m. absurd m; runs = batch }

    waits : (w : Why) (rs : List Asked) → Good (only_word w (record v { waiting = rs }))
    waits w rs = record { says = λ l m. absurd m; runs = batch }

    asks_first : (s : List ℕ) (turn : ℕ) → Each Says (ask_matchmakers me s turn)
    asks_first s turn = each_mapped Says (match_read_to me (asking_of me turn)) s (λ m k. tt)

    -- a batch begins: its turn is a new one, whatever reads it has
    begins : (w : Why) (first : List Letter) (rs : List Asked) → Each Says first → Good (begin me d v w first rs)
    begins w first rs says = record {
      says = Member-both Says first (ask_matchmakers me v.set (d.turn + 1)) says (asks_first v.set (d.turn + 1));
      runs = record {
        set = v.set;
        set_known = now_known;
        once = tt;
        known = λ m k. absurd k;
        asking = λ f m k. absurd k;
        under = λ r m e. next;
      };
    }

    begins_if : (w : Why) (rs : List Asked) → Good (begin_if me d v w rs)
    begins_if w rs = either_way Good (d.turn == last_turn) _ _ (same _) (begins w [] rs (λ l m. absurd m))

    request_good : (one : Asked) → Good (request_row me d v one)
    request_good one = either_way Good (is_among one.read v.waiting) _ _ (waits _ _) (over v.running)
      where
        over : (o : Option Batch) → Good (request_over me d v one o)
        over None = either_way Good (nat_le 64 (length v.waiting)) _ _ (same _) (begins_if _ _)
        over (Some b) =
            either_way Good (is_first one.read b.reads) _ _ (begins_if _ _)
            (either_way Good (is_among one.read b.reads) _ _ (same _)
            (either_way Good (nat_le 64 (length v.waiting + length b.reads)) _ _ (same _) (waits _ _)))

    -- a batch has ended: the replicas are asked with a number that is above, for the read if it is in the batch
    finishes : (b : Batch) (n : ℕ) → ((r : Asked) → Member r b.reads → r.read ≡ t → IsAbove asked n) → Good (finish me d v b n)
    finishes b n above =
        let says : Each Says (ask_replicas me b n) = each_mapped Says (read_to me n) b.reads (λ r m e. above r m e) in
        either_way Good (nat_lt 0 (length v.waiting) && not (d.turn == last_turn)) _ _ (begins _ (ask_replicas me b n) v.waiting says)
        (record { says = says; runs = tt })

    matched_enough : (b : Batch) → is_matched c b ≡ true → c.f < length b.told
    matched_enough b h = let l = leb-true (enough c) (length b.told) h in omega arith

    -- a batch whose answers came under its turn
    module _ (b : Batch) (is : IsBatch c asked t history me v.set b) (came : (a : MatchAnswer) → Member a b.told
        → Member (letter (role kind.Matchmaker a.matchmaker) me (msg.MatchReadAck (asking_of me b.turn) a.watermark a.entries)) sent) where
      batch_answers : IsNew asked (asking_of me b.turn) → Answers b.told
      batch_answers new a m = reads.says _ (came a m) new

      asks_second : (xs : List ℕ) → Each Says (map (pre_read_to me b) xs)
      asks_second xs = each_mapped Says (pre_read_to me b) xs (λ a m new. top_raised b.told (batch_answers new))

      matched_good : is_matched c b ≡ true → (es : List Entry) → live_entries b.told ≡ es → Good (matched c me d v b es)
      matched_good h [] e = finishes b 0
          (λ r m p. above_nothing b.told is.once is.set is.set_known is.known (matched_enough b h) (batch_answers (is.under r m p)) e)
      matched_good h (x ∷ es) e = record { says = asks_second (members_of c (x ∷ es)); runs = is }

      match_counted : Good (match_ack_counted c me d v b)
      match_counted = by_test Good (is_matched c b) _ _ (λ h. matched_good h (live_entries b.told) refl)
          (λ f. record { says = λ l m. absurd m; runs = is })

      ack_counted : is_matched c b ≡ true → (one : Acked) → Member one b.acks → ((a : Acked) → Member a b.acks → IsAcked sent
          (asking_of me b.turn) (greatest_watermark b.told) (role kind.Acceptor a.acceptor) a.mark) → Good (pre_read_counted c me d v b)
      ack_counted h one there acked =
          by_test Good (rows_whole (live_entries b.told) (acked_by b.acks)) _ _
          (λ whole. finishes b (greatest_mark b.acks) (λ r m p.
          let new = is.under r m p in
          read_above c asked sent0 states0 facts0 history sent states facts reads.has b.told is.once is.set is.set_known is.known
          (matched_enough b h) (batch_answers new) b.acks
          (row_acks (asking_of me b.turn) new (greatest_watermark b.told) b.acks one there acked) whole (greatest_mark b.acks)
          (mark_above b.acks))) (λ f. record { says = λ l m. absurd m; runs = is })

    match_good : (from to : RoleId) (u : Asking) (w : Round) (es : List Entry) → to ≡ me → Member (letter from to (msg.MatchReadAck u w es))
        sent → (o : Option Batch) → v.running ≡ o → HasBatch c asked t history me v.set o → Good (match_ack_row c me d v from u w es o)
    match_good from to u w es mine is_sent None e is = same _
    match_good from to u w es mine is_sent (Some b) e is =
        by_test Good (not (is_of_batch me b u && not (is_matched c b) && is_in from.index v.set)) _ _ (λ f. same _)
        (λ f. by_test Good (is_counted from.index b.told) _ _ (λ g. same _)
        (λ g. (
        let new : MatchAnswer = record { matchmaker = from.index; watermark = w; entries = es } in
        let tests = and_parts (is_of_batch me b u && not (is_matched c b)) (is_in from.index v.set)
        (not-false (is_of_batch me b u && not (is_matched c b) && is_in from.index v.set) f) in
        let both = and_parts (is_of_batch me b u) (not (is_matched c b)) tests.0 in
        let ours : u ≡ asking_of me b.turn = same_asking-true u (asking_of me b.turn) both.0 in
        let inside : (m : ℕ) → Member m (answering_matchmakers (b.told ++ new ∷ [])) → Member m v.set =
        λ m k. elim (told_more b.told new m k) [
          | inl x ↦ is.asking (not-true (is_matched c b) both.1) m x
          | inr x ↦ subst (λ n. Member n v.set) (sym x) (is_in-Member from.index v.set tests.1)
        ] in
        let is_matchmaker : from ≡ role kind.Matchmaker from.index = named kind.Matchmaker from (known.0.senders _ is_sent) in
        match_counted (record b { told = b.told ++ new ∷ [] }) (record {
          set = v.set;
          set_known = now_known;
          once = once_more b.told new (λ m. true≢false (sym (told_by-counted from.index b.told m) ∙ g)) is.once;
          known = inside;
          asking = λ f. inside;
          under = is.under;
        }) (λ a m. elim (Member-cases a b.told (new ∷ []) m) [
          | inl k ↦ (was_told.batch b e).answers a k
          | inr k ↦ Member-one (λ (x : MatchAnswer). Member (letter (role kind.Matchmaker x.matchmaker) me
              (msg.MatchReadAck (asking_of me b.turn) x.watermark x.entries)) sent) new
              (subst (λ x. Member (letter (role kind.Matchmaker from.index) me (msg.MatchReadAck x w es)) sent) ours
              (subst (λ x. Member (letter (role kind.Matchmaker from.index) x (msg.MatchReadAck u w es)) sent) mine
              (subst (λ x. Member (letter x to (msg.MatchReadAck u w es)) sent) is_matchmaker is_sent))) a k
        ])
        )))

    ack_good : (from to : RoleId) (u : Asking) (w : Round) (n : ℕ) → to ≡ me → Member (letter from to (msg.PreReadAck u w n)) sent
        → (o : Option Batch) → v.running ≡ o → HasBatch c asked t history me v.set o → Good (pre_read_ack_row c me d v from u w n o)
    ack_good from to u w n mine is_sent None e is = same _
    ack_good from to u w n mine is_sent (Some b) e is =
        by_test Good (not (is_of_batch me b u && is_matched c b && is_member_of (live_entries b.told) from.index)) _ _ (λ f. same _)
        (λ f. by_test Good (not (same_round w (greatest_watermark b.told))) _ _ (λ g. same _)
        (λ g. either_way Good (has_acked from.index b.acks) _ _ (same _)
        (
        let new : Acked = record { acceptor = from.index; mark = n } in
        let tests = and_parts (is_of_batch me b u && is_matched c b) (is_member_of (live_entries b.told) from.index)
        (not-false (is_of_batch me b u && is_matched c b && is_member_of (live_entries b.told) from.index) f) in
        let both = and_parts (is_of_batch me b u) (is_matched c b) tests.0 in
        let ours : u ≡ asking_of me b.turn = same_asking-true u (asking_of me b.turn) both.0 in
        let asked_with : w ≡ greatest_watermark b.told =
        same_round-true w (greatest_watermark b.told) (not-false (same_round w (greatest_watermark b.told)) g) in
        let is_acceptor : from ≡ role kind.Acceptor from.index = named kind.Acceptor from (known.0.senders _ is_sent) in
        ack_counted (record b { acks = b.acks ++ new ∷ [] })
        (record { set = is.set; set_known = is.set_known; once = is.once; known = is.known; asking = is.asking; under = is.under })
        (λ a m. (was_told.batch b e).answers a m) both.1 new (Member-second new b.acks (new ∷ []) (inl refl))
        (λ a m. elim (Member-cases a b.acks (new ∷ []) m) [
          | inl k ↦ (me, (was_told.batch b e).acks a k)
          | inr k ↦ Member-one (λ (x : Acked).
              IsAcked sent (asking_of me b.turn) (greatest_watermark b.told) (role kind.Acceptor x.acceptor) x.mark) new (
                to,
                subst (λ x. Member (letter (role kind.Acceptor from.index) to (msg.PreReadAck x (greatest_watermark b.told) n)) sent) ours
                    (subst (λ x. Member (letter (role kind.Acceptor from.index) to (msg.PreReadAck u x n)) sent) asked_with
                    (subst (λ x. Member (letter x to (msg.PreReadAck u w n)) sent) is_acceptor is_sent)),
              ) a k
        ])
        )))

    -- what the running batch asks again
    asks_again : (b : Batch) → v.running ≡ Some b → HasBatch c asked t history me v.set (Some b) → Each Says (ask_acceptors c me b)
    asks_again b e is = asks_second b is (λ a m. (was_told.batch b e).answers a m) (members_of c (live_entries b.told))

    ticks_good : (o : Option Batch) → v.running ≡ o → HasBatch c asked t history me v.set o → Good (reader_tick c me v o)
    ticks_good None e is = same _
    ticks_good (Some b) e is = record {
      says = either_way (Each Says) (is_matched c b) (ask_acceptors c me b) (ask_matchmakers me v.set b.turn) (asks_again b e is)
          (asks_first v.set b.turn);
      runs = batch;
    }

    -- another set took over: what was counted of a batch in its first stage goes
    anew_good : (s : List ℕ) → IsKnown c history s → (o : Option Batch) → v.running ≡ o → HasBatch c asked t history me v.set o
        → Good (asked_anew c me (record v { set = s }) o)
    anew_good s next_known None e is = record { says = λ l m. absurd m; runs = subst (λ o. HasBatch c asked t history me s o) (sym e) tt }
    anew_good s next_known (Some b) e is =
        by_test Good (is_matched c b) _ _
        (λ h. record {
          says = λ l m. absurd m;
          runs = subst (λ o. HasBatch c asked t history me s o) (sym e) (record {
            set = is.set;
            set_known = is.set_known;
            once = is.once;
            known = is.known;
            asking = λ f. absurd (true≢false (sym h ∙ f));
            under = is.under;
          });
        })
        (λ f. record {
          says = asks_first s b.turn;
          runs =
              record { set = s; set_known = next_known; once = tt; known = λ m k. absurd k; asking = λ g m k. absurd k; under = is.under };
        })

    sets_good : (s : List ℕ) → IsKnown c history s → Good (sets_row c me v s)
    sets_good s next_known = either_way Good (is_above s v.set) _ _ (anew_good s next_known v.running refl batch) (same _)

    takes_good : (from to : RoleId) (m : Msg) → to ≡ me → Member (letter from to m) sent → Good (reader_takes c me d v from m)
    takes_good from to (msg.ReadReq seq replica key) mine is_sent = request_good (asked_for (make_token from.index seq) replica key)
    takes_good from to (msg.MatchReadAck u w es) mine is_sent = match_good from to u w es mine is_sent v.running refl batch
    takes_good from to (msg.PreReadAck u w n) mine is_sent = ack_good from to u w n mine is_sent v.running refl batch
    takes_good from to (msg.Sets s) mine is_sent = sets_good s (facts.says _ is_sent)
    takes_good from to other mine is_sent = same _

    -- whatever a reader is given
    reader_good : (i : Input) → Given sent me i → Good (reader_row c me d v i)
    reader_good (input.Take l) given =
        by_test Good (same_role l.to me && names c l) _ _
        (λ h. takes_good l.from l.to l.msg given.0 given.1)
        (λ f. same _)
    reader_good input.Tick given = ticks_good v.running refl batch
    reader_good (input.Order order) given = same _

  pub reader_lands : (r : ℕ) (v : ReaderVolatile) (i : Input) → states (role kind.Reader r) ≡ ReaderIn v → Given sent (role kind.Reader r) i
      → Lands (Since c asked sent0 t) history sent states (role kind.Reader r) ReaderIn
      (reader_row c (role kind.Reader r) (durable_of reader_rules (role kind.Reader r) history) v i)
  reader_lands r v i up given =
      let me : RoleId = role kind.Reader r in
      let d : ReaderDurable = durable_of reader_rules me history in
      let state = subst (λ s. InState c history sent me s) up (facts.running me) in
      let good = reader_good me d v (subst (λ s. InReader c asked t history me s) up (reads.readers me)) state.0 state.2
      (next_is_new r history asked known.0.keepers reads.has) i given in
      lands c asked sent0 t history sent states facts reads me ReaderIn _ good.says
      (no_acks c asked sent0 t history sent states facts reads me _ (λ e. cc) (reader_kinds c me refl d v i)) good.runs
