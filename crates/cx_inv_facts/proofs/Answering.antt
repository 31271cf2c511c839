-- Each step keeps what matchmakers' and acceptors' answers say, so they say it in every run.
use Rattle.cx_inv_run.proofs.Common.{◌≡◌, ℕ, true, false, ◌&&◌, ◌⊎◌, List, [], ◌∷◌, Option, None, Some, sym, subst, refl, inl, inr, arith}
use Rattle.cx_inv_run.proofs.Common.{bytes_eq, if◌then◌else◌, nat_le, nat_lt, list_any, and_parts, Cluster, Event, Kind, RoleId}
use Rattle.cx_inv_run.proofs.Common.{Round, is_in, role, same_role, is_before, same_round, no_round, Entry, Letter, Input, KeptRecord}
use Rattle.cx_inv_run.proofs.Common.{Record, Msg, AcceptorDurable, acceptor_rules, acceptor_takes, acceptor_row, vote_at, is_of_round}
use Rattle.cx_inv_run.proofs.Common.{leader_rules, MatchmakerDurable, matchmaker_rules, matchmaker_takes, matchmaker_row, entry}
use Rattle.cx_inv_run.proofs.Common.{entries_before, has_round, is_stopped, is_booted, set_of, in_set, at_work, match_a_row, garbage_a_row}
use Rattle.cx_inv_run.proofs.Common.{match_read_row, stop_a_row, next_a_row, boot_in, Member, names, Outcome, only_word, by_test}
use Rattle.cx_inv_run.proofs.Common.{either_way, reader_rules, replacer_rules, replica_rules, request, run, IsSender, OfKind, Lands, Laws}
use Rattle.cx_inv_run.proofs.Common.{State, BatcherIn, LeaderIn, ProxyIn, ReplicaIn, ReaderIn, ReplacerIn, plain, entry_by, snap_by}
use Rattle.cx_inv_run.proofs.Common.{with_record, durable_of, HoldsIn, kept_longer, Member-both, Member-one, filter-Member, before_cases}
use Rattle.cx_inv_run.proofs.Common.{before-both, same_round-true, batcher_kinds, proxy_kinds, replica_kinds, unbatcher_kinds, reader_kinds}
use Rattle.cx_inv_run.proofs.Common.{leader_kinds, replacer_kinds, always}
use Rattle.cx_inv_match.specs.Prelude.{Facts, HasMark, HasPromise}
use Rattle.std.specs.Prelude.{not}
use Rattle.cx_base.specs.declared.event.Event.TheVariants as event
use Rattle.cx_base.specs.declared.role.Kind.TheVariants as kind
use Rattle.cx_base.specs.declared.why.Why.TheVariants as why
use Rattle.cx_letter.specs.declared.input.Input.TheVariants as input
use Rattle.cx_letter.specs.declared.kept.Record.TheVariants as kept
use Rattle.cx_letter.specs.declared.message.Msg.TheVariants as msg
use Rattle.cx_model.specs.Matchmaker.{again_told, has_place}
use Rattle.cx_inv_vote.proofs.Steps.{facts_hold}
use Rattle.cx_inv_facts.specs.Answers.{HasEntry, HasReached, AnswerSays, AnswersSay}

-- a longer history leaves it so

module _ (history longer : List KeptRecord) (more : (k : KeptRecord) → Member k history → Member k longer) where
  mark_more : (a : RoleId) (j : Round) (n : ℕ) → HasMark history a j n → HasMark longer a j n
  mark_more a j n (inl x) = inl (x.0, x.1, more _ x.2)
  mark_more a j n (inr m) = inr (more _ m)

  promise_more : (a : RoleId) (i : Round) → HasPromise history a i → HasPromise longer a i
  promise_more a i (inl m) = inl (more _ m)
  promise_more a i (inr h) = inr (h.0, mark_more a i h.0 h.1)

  reached_more : (a : RoleId) (n : ℕ) → HasReached history a n → HasReached longer a n
  reached_more a n (inl e) = inl e
  reached_more a n (inr h) = inr (h.0, h.1, mark_more a h.0 h.1 h.2, h.3)

  says_more : (from : RoleId) (m : Msg) → AnswerSays history from m → AnswerSays longer from m
  says_more from (msg.MatchB i w entries) h = h
  says_more from (msg.MatchReadAck u w entries) h = h
  says_more from (msg.Phase1B i cw votes) h = reached_more from cw h
  says_more from (msg.Informed i n) h = λ j l. promise_more from i (h j l)
  says_more from other h = tt

-- roles that send no such answers

abbrev pub SendsNoAnswers : Kind → Type 0
SendsNoAnswers kind.Acceptor = ⊥
SendsNoAnswers kind.Matchmaker = ⊥
SendsNoAnswers other = Unit {0}

no_answers : (history : List KeptRecord) (k : Kind) → SendsNoAnswers k → (from : RoleId) (m : Msg) → IsSender k m
    → AnswerSays history from m
no_answers history k none from (msg.MatchB i w entries) s = absurd (subst SendsNoAnswers s none)
no_answers history k none from (msg.MatchReadAck u w entries) s = absurd (subst SendsNoAnswers s none)
no_answers history k none from (msg.Phase1B i cw votes) s = absurd (subst SendsNoAnswers s none)
no_answers history k none from (msg.Informed i n) s = absurd (subst SendsNoAnswers s none)
no_answers history k none from other s = tt

module _ (history : List KeptRecord) (sent : List Letter) (states : RoleId → State) (h : AnswersSay history sent states) where
  -- what a role's row sends says what it should, with the record that it keeps
  says_on : {V : Type 0} (me : RoleId) (make : V → State) (o : Outcome V)
      → ((d : Letter) → Member d o.sends → AnswerSays (with_record me o.kept history) d.from d.msg)
      → Lands AnswersSay history sent states me make o
  says_on me make o new = record {
    whole = Member-both (λ (d : Letter). AnswerSays (with_record me o.kept history) d.from d.msg) sent o.sends
        (λ d m. says_more history (with_record me o.kept history) (kept_longer me o.kept history) d.from d.msg (h d m)) new;
    cut = λ r e d m. says_more history (entry_by me r ∷ history) (λ k n. inr n) d.from d.msg (h d m);
  }

  calm : {V : Type 0} (me : RoleId) (make : V → State) (o : Outcome V) → SendsNoAnswers me.kind → OfKind me o
      → Lands AnswersSay history sent states me make o
  calm me make o none kinds =
      says_on me make o (λ d m. no_answers (with_record me o.kept history) me.kind none d.from d.msg (kinds.sends d m).1)

  requested : (n : ℕ) (e : Event) (d : Letter) → Member d (request n e) → AnswerSays history d.from d.msg
  requested n (event.Write command batcher) d m = Member-one (λ (x : Letter). AnswerSays history x.from x.msg) _ tt d m
  requested n (event.Read client seq floor reader replica key) d m = Member-one (λ (x : Letter). AnswerSays history x.from x.msg) _ tt d m
  requested n (event.Session client seq floor replica key) d m = Member-one (λ (x : Letter). AnswerSays history x.from x.msg) _ tt d m
  requested n other d m = absurd m

-- an acceptor's rows

module _ (c : Cluster) (history : List KeptRecord) (sent : List Letter) (states : RoleId → State) (facts : Facts c history sent states)
    (a : ℕ) where
  abbrev acceptor : RoleId
  acceptor = role kind.Acceptor a

  abbrev voter : AcceptorDurable
  voter = durable_of acceptor_rules acceptor history

  abbrev Told : Outcome (Unit {0}) → Type 0
  Told o = (d : Letter) → Member d o.sends → AnswerSays (with_record acceptor o.kept history) d.from d.msg

  abbrev SaysIn : List KeptRecord → Letter → Type 0
  SaysIn longer d = AnswerSays longer d.from d.msg

  reached : HasReached history acceptor voter.cw
  reached = elim (facts.acceptors acceptor).low [ inl e ↦ inl e | inr x ↦ inr (x.0, voter.cw, x.1, omega arith) ]

  promised_own : (i : Round) → same_round i voter.promise ≡ true → (j : Round) → is_before j i ≡ true → HasPromise history acceptor i
  promised_own i t j l =
      let e = same_round-true i voter.promise t in
      subst (λ x. HasPromise history acceptor x) (sym e) ((facts.acceptors acceptor).promised j (subst (λ x. is_before j x ≡ true) e l))

  acceptor_told : (from : RoleId) (m : Msg) → Told (acceptor_takes acceptor voter from m)
  acceptor_told from (msg.Phase1A i) =
      either_way Told (is_before i voter.promise) _ _ (Member-one (SaysIn history) _ tt)
      (either_way Told (same_round i voter.promise) _ _ (Member-one (SaysIn history) _ reached)
      (Member-one (SaysIn (entry_by acceptor (kept.Promise i) ∷ history)) _
      (reached_more history (entry_by acceptor (kept.Promise i) ∷ history) (λ k m. inr m) acceptor voter.cw reached)))
  acceptor_told from (msg.Phase2A i s cw v) =
      either_way Told (is_before i voter.promise) _ _ (Member-one (SaysIn history) _ tt)
      (either_way Told (nat_lt s voter.cw) _ _ (λ d m. absurd m)
      (either_way Told (is_of_round i (vote_at s voter.votes)) _ _ (Member-one (SaysIn history) _ tt)
      (Member-one (SaysIn (entry_by acceptor (kept.Vote i s cw v) ∷ history)) _ tt)))
  acceptor_told from (msg.Inform i n) =
      either_way Told (is_before i voter.promise) _ _ (Member-one (SaysIn history) _ tt)
      (by_test Told (same_round i voter.promise && nat_le n voter.cw) _ _
      (λ t. Member-one (SaysIn history) _ (promised_own i (and_parts (same_round i voter.promise) (nat_le n voter.cw) t).0))
      (λ f. Member-one (SaysIn (entry_by acceptor (kept.Water i n) ∷ history)) _ (λ j l. inr (n, inr (inl refl)))))
  acceptor_told from (msg.PreRead u w) = Member-one (SaysIn history) _ tt
  acceptor_told from other = λ d m. absurd m

  acceptor_row-told : (i : Input) → Told (acceptor_row c acceptor voter tt i)
  acceptor_row-told (input.Take d) =
      either_way Told (same_role d.to acceptor && names c d) _ _ (acceptor_told d.from d.msg) (λ x m. absurd m)
  acceptor_row-told input.Tick = λ d m. absurd m
  acceptor_row-told (input.Order order) = λ d m. absurd m

-- a matchmaker's rows

module _ (c : Cluster) (history : List KeptRecord) (sent : List Letter) (states : RoleId → State) (facts : Facts c history sent states)
    (m : ℕ) where
  abbrev matchmaker : RoleId
  matchmaker = role kind.Matchmaker m

  abbrev log : MatchmakerDurable
  log = durable_of matchmaker_rules matchmaker history

  abbrev Answers : Outcome (Unit {0}) → Type 0
  Answers o = (d : Letter) → Member d o.sends → AnswerSays (with_record matchmaker o.kept history) d.from d.msg

  entry_there : (log.watermark ≡ no_round) ⊎ HasEntry log.watermark log.entries
  entry_there = elim (facts.logs matchmaker).raised [ inl e ↦ inl e | inr x ↦ inr x.1 ]

  entry_before : (i : Round) → is_before i log.watermark ≡ false
      → (log.watermark ≡ no_round) ⊎ ((log.watermark ≡ i) ⊎ HasEntry log.watermark (entries_before i log.entries))
  entry_before i from = elim entry_there [ inl e ↦ inl e | inr x ↦ inr (go x (before_cases log.watermark i)) ]
    where
      go : HasEntry log.watermark log.entries
          → (is_before log.watermark i ≡ true) ⊎ ((log.watermark ≡ i) ⊎ (is_before i log.watermark ≡ true))
          → (log.watermark ≡ i) ⊎ HasEntry log.watermark (entries_before i log.entries)
      go x (inl l) = inr (x.0, filter-Member (λ (e : Entry). is_before e.round i) (entry log.watermark x.0) log.entries x.1 l)
      go x (inr (inl e)) = inl e
      go x (inr (inr l)) = absurd (before-both i log.watermark l from)

  entry_again : (i : Round) → is_before i log.watermark ≡ false
      → (log.watermark ≡ no_round) ⊎ ((log.watermark ≡ i) ⊎ HasEntry log.watermark (again_told c i log.entries))
  entry_again i from =
      either_way (λ xs. (log.watermark ≡ no_round) ⊎ ((log.watermark ≡ i) ⊎ HasEntry log.watermark xs)) c.one_entry_a_grid log.entries
      (entries_before i log.entries)
      (elim entry_there [ inl e ↦ inl e | inr x ↦ inr (inr x) ])
      (entry_before i from)

  one_more : (r : Record) (x : Letter) → AnswerSays (entry_by matchmaker r ∷ history) x.from x.msg
      → (d : Letter) → Member d (x ∷ []) → AnswerSays (entry_by matchmaker r ∷ history) d.from d.msg
  one_more r x h = Member-one (λ (d : Letter). AnswerSays (entry_by matchmaker r ∷ history) d.from d.msg) x h

  one : (x : Letter) → AnswerSays history x.from x.msg → (d : Letter) → Member d (x ∷ []) → AnswerSays history d.from d.msg
  one x h = Member-one (λ (d : Letter). AnswerSays history d.from d.msg) x h

  in_set_told : (o : Outcome (Unit {0})) → Answers o → Answers (in_set c matchmaker log o)
  in_set_told o h = either_way Answers (is_booted c matchmaker log) _ _ h (λ d n. absurd n)

  at_work_told : (o : Outcome (Unit {0})) → Answers o → Answers (at_work c matchmaker log o)
  at_work_told o h =
      in_set_told (if is_stopped log then only_word why.Stopped tt else o) (either_way Answers (is_stopped log) _ _ (λ d n. absurd n) h)

  begins_told : (from : RoleId) (s : List ℕ) (w : Round) (es : List Entry) (o : Option (List ℕ))
      → Answers (boot_in matchmaker from s w es o)
  begins_told from s w es None = one_more (kept.Boot s w es) _ tt
  begins_told from s w es (Some t) = either_way Answers (bytes_eq s t) _ _ (one _ tt) (λ d n. absurd n)

  matchmaker_told : (from : RoleId) (x : Msg) → Answers (matchmaker_takes c matchmaker log from x)
  matchmaker_told from (msg.MatchA i g) =
      at_work_told (match_a_row c matchmaker log from i g)
      (by_test Answers (is_before i log.watermark) _ _ (λ t. one _ tt)
      (λ low. either_way Answers (list_any (λ (e : Entry). is_before i e.round) log.entries) _ _ (one _ tt)
      (either_way Answers (has_round i log.entries) _ _ (one _ (entry_again i low))
      (either_way Answers (not (has_place c g log.entries)) _ _ (one _ tt) (one_more (kept.Match i g) _ (entry_before i low))))))
  matchmaker_told from (msg.GarbageA i g) =
      at_work_told (garbage_a_row matchmaker log from i g)
      (either_way Answers (is_before log.watermark i) _ _ (one_more (kept.Garbage i g) _ tt) (one _ tt))
  matchmaker_told from (msg.MatchRead u) = at_work_told (match_read_row matchmaker log from u) (one _ entry_there)
  matchmaker_told from (msg.StopA b) =
      in_set_told (stop_a_row matchmaker log from b)
      (either_way Answers (is_before b log.ballot) _ _ (one _ tt)
      (either_way Answers (same_round b log.ballot) _ _ (one _ tt) (one_more (kept.Stop b) _ tt)))
  matchmaker_told from (msg.NextA b s) =
      in_set_told (next_a_row matchmaker log from b s)
      (either_way Answers (is_before b log.ballot) _ _ (one _ tt)
      (either_way Answers (same_round b log.accepted) _ _ (one _ tt) (one_more (kept.Next b s) _ tt)))
  matchmaker_told from (msg.BootA s w es) =
      either_way Answers (is_in m s) _ _ (begins_told from s w es (set_of c matchmaker log.booted)) (λ d n. absurd n)
  matchmaker_told from other = λ d n. absurd n

  matchmaker_row-told : (i : Input) → Answers (matchmaker_row c matchmaker log tt i)
  matchmaker_row-told (input.Take d) =
      either_way Answers (same_role d.to matchmaker && names c d) _ _ (matchmaker_told d.from d.msg) (λ x n. absurd n)
  matchmaker_row-told input.Tick = λ d n. absurd n
  matchmaker_row-told (input.Order order) = λ d n. absurd n

answer_laws : (c : Cluster) → Laws c (λ n e. Unit {0}) (Facts c) AnswersSay
answer_laws c = record {
  same = λ history sent states others same h. h;
  start = λ states starts d m. absurd m;
  stop = λ history sent states me h. h;
  wake = λ history sent states me h down. h;
  ask = λ history sent states n e allowed facts h.
      Member-both (λ (d : Letter). AnswerSays history d.from d.msg) sent (request n e) h (requested history sent states h n e);
  batcher = λ history sent states b v i facts h is given.
      calm history sent states h (role kind.Batcher b) BatcherIn _ tt (batcher_kinds c (role kind.Batcher b) refl v i);
  leader = λ history sent states l v i facts h is given.
      calm history sent states h (role kind.Leader l) LeaderIn _ tt
      (leader_kinds c (role kind.Leader l) refl (durable_of leader_rules (role kind.Leader l) history) v i);
  proxy = λ history sent states p v i facts h is given.
      calm history sent states h (role kind.Proxy p) ProxyIn _ tt (proxy_kinds c (role kind.Proxy p) refl v i);
  acceptor = λ history sent states a i facts h is given.
      says_on history sent states h (role kind.Acceptor a) plain _ (acceptor_row-told c history sent states facts a i);
  matchmaker = λ history sent states m i facts h is given.
      says_on history sent states h (role kind.Matchmaker m) plain _ (matchmaker_row-told c history sent states facts m i);
  replica = λ history sent states p v i facts h is given.
      calm history sent states h (role kind.Replica p) ReplicaIn _ tt
      (replica_kinds c (role kind.Replica p) refl (durable_of replica_rules (role kind.Replica p) history) v i);
  snap = λ history sent states p v first facts h is e d m.
      says_more history (snap_by (role kind.Replica p) first ∷ history) (λ k n. inr n) d.from d.msg (h d m);
  acceptor_anew = λ history sent states p first facts h is e d m.
      says_more history (snap_by (role kind.Acceptor p) first ∷ history) (λ k n. inr n) d.from d.msg (h d m);
  reader_anew = λ history sent states p first v facts h is e d m.
      says_more history (snap_by (role kind.Reader p) first ∷ history) (λ k n. inr n) d.from d.msg (h d m);
  unbatcher = λ history sent states u i facts h is given.
      calm history sent states h (role kind.Unbatcher u) plain _ tt (unbatcher_kinds c (role kind.Unbatcher u) refl i);
  reader = λ history sent states r v i facts h is given. calm history sent states h (role kind.Reader r) ReaderIn _ tt
      (reader_kinds c (role kind.Reader r) refl (durable_of reader_rules (role kind.Reader r) history) v i);
  replacer = λ history sent states x v i facts h is given. calm history sent states h (role kind.Replacer x) ReplacerIn _ tt
      (replacer_kinds c (role kind.Replacer x) refl (durable_of replacer_rules (role kind.Replacer x) history) v i);
}

pub answers_say : (c : Cluster) (es : List Event) → HoldsIn AnswersSay (run c es)
answers_say c es = always c (Facts c) AnswersSay (answer_laws c) (facts_hold c) es
