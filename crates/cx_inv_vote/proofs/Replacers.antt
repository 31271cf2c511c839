-- Each row of a replacer keeps the facts.
use Rattle.std.proofs.lemmas.Slice.Eq.{bytes_eq-Decides}
use Rattle.cx_inv_run.proofs.Common.{◌≡◌, ℕ, suc, ◌+◌, ◌<◌, ◌≤◌, Bool, true, false, not, ◌&&◌, ◌||◌, map, ◌⊎◌, List, [], ◌∷◌, ◌++◌, length}
use Rattle.cx_inv_run.proofs.Common.{Option, Some, None, inl, inr, ap, sym, subst, ◌∙◌, refl, arith, max, ◌==◌, nat_lt, bytes_eq}
use Rattle.cx_inv_run.proofs.Common.{if◌then◌else◌, same_Some, true≢false, and_parts, not-false, ltb-false, cond_both, Cluster, Value, Lead}
use Rattle.cx_inv_run.proofs.Common.{Collect, Offer, Replace, Kind, RoleId, Round, Why, is_in, below, role, same_role, is_before}
use Rattle.cx_inv_run.proofs.Common.{same_round}
use Rattle.cx_inv_run.proofs.Common.{no_round, lead_after, is_above, Entry, with_mark, Letter, letter, Input, Take, Tick, Order, KeptRecord}
use Rattle.cx_inv_run.proofs.Common.{Msg, Halt, Replacing, Stopping, Deciding, Booting, IsProposed, IsRetiring, number_itself, enough}
use Rattle.cx_inv_run.proofs.Common.{greatest_watermark, first_set, Member, names, names_set, Outcome, only_word, replied, by_test}
use Rattle.cx_inv_run.proofs.Common.{either_way, HasKept, Record}
use Rattle.cx_inv_run.proofs.Common.{ReplacerDurable, ReplacerVolatile, replacer_rules, is_stopping, is_deciding, is_booting, is_resting}
use Rattle.cx_inv_run.proofs.Common.{has_halted, joined_entries, to_decide, decide, halt_counted, next_counted, replacer_takes}
use Rattle.cx_inv_run.proofs.Common.{replacer_orders, replacer_row, Kinds, Lands, State, ReplacerIn, entry_by, durable_of, Given}
use Rattle.cx_inv_run.proofs.Common.{durable_own, Member-map, Member-cases, Member-first, Member-both, Member-any, any-Member, is_in-Member}
use Rattle.cx_inv_run.proofs.Common.{Member-is_in, once_count, before-from_at_most, before-higher, before-itself, least, same_round-true}
use Rattle.cx_base.specs.declared.event.Order.{Order as OrderOf}
use Rattle.cx_base.specs.declared.event.Order.TheVariants.{Change}
use Rattle.cx_base.specs.declared.role.Kind.TheVariants as kind
use Rattle.cx_base.specs.declared.why.Why.TheVariants as why
use Rattle.cx_letter.specs.declared.kept.Record.TheVariants as kept
use Rattle.cx_letter.specs.declared.message.Msg.TheVariants as msg
use Rattle.cx_model.specs.declared.states.Replacing.TheVariants.{Idle}
use Rattle.cx_model.specs.Replacer.{answers_of, latest, next_of, stop_a_to, next_a_to, boot_a_to, sets_to, others, sets_to_all, begin_in}
use Rattle.cx_model.specs.Replacer.{known_record, known_set, replace_row, stop_b_row, next_b_row, boot_b_row, with_seen, stop_nack_row}
use Rattle.cx_model.specs.Replacer.{sets_row, tick_in}
use Rattle.cx_inv_match.specs.Words.{how_many, HasNext, IsKnown, IsNth, IsDecided, IsNextSet, IsBoot, IsHalt}
use Rattle.cx_inv_match.specs.Facts.{Facts, Says, InState, InWork, IsStopping, IsDeciding, IsBooting, AreOnce, halted_by}
use Rattle.cx_inv_match.proofs.Chains.{nth_meet}
use Rattle.cx_inv_match.proofs.Grow.{grown_join, grown_known, more_nth}
use Rattle.cx_inv_match.proofs.Joins.{latest_member, halts_join, halts_closed}
use Rattle.cx_inv_match.proofs.Keep.{stop}
use Rattle.cx_inv_match.proofs.SetRecords.{keep_ballot, keep_known, ballot_new, grows_set}
use Rattle.cx_inv_vote.specs.Laws.{IsPlainMsg}
use Rattle.cx_inv_vote.proofs.Leading.{each, quiet_each}
use Rattle.cx_inv_vote.proofs.Rows.{lands, keeps_silent, keeps_sending, keeps_record}
use Rattle.cx_inv_vote.proofs.Searches.{mark-cases}
use Rattle.cx_inv_vote.proofs.Send.{Widens, grows_wide, QuietSends, send}

-- who was counted

halted_by-counted : (m : ℕ) (halts : List Halt) → Member m (halted_by halts) → has_halted m halts ≡ true
halted_by-counted m [] k = absurd k
halted_by-counted m (h ∷ halts) (inl e) =
    Member-any (λ (x : Halt). x.answer.matchmaker == m) h (h ∷ halts) (inl refl) (subst (λ n. (n == m) ≡ true) e (number_itself m))
halted_by-counted m (h ∷ halts) (inr k) = let r = any-Member (λ (x : Halt). x.answer.matchmaker == m) halts (halted_by-counted m halts k) in
    Member-any (λ (x : Halt). x.answer.matchmaker == m) r.0 (h ∷ halts) (inr r.1) r.2

halted_more : (halts : List Halt) (h : Halt) (m : ℕ) → Member m (halted_by (halts ++ h ∷ []))
    → Member m (halted_by halts) ⊎ (m ≡ h.answer.matchmaker)
halted_more [] h m (inl e) = inr e
halted_more [] h m (inr k) = absurd k
halted_more (x ∷ halts) h m (inl e) = inl (inl e)
halted_more (x ∷ halts) h m (inr k) = elim (halted_more halts h m k) [ inl p ↦ inl (inr p) | inr q ↦ inr q ]

halted_once : (halts : List Halt) (h : Halt) → (Member h.answer.matchmaker (halted_by halts) → ⊥) → AreOnce (halted_by halts)
    → AreOnce (halted_by (halts ++ h ∷ []))
halted_once [] h new once = (λ m. m, tt)
halted_once (x ∷ halts) h new once = (
  λ m. elim (halted_more halts h x.answer.matchmaker m) [ inl p ↦ once.0 p | inr q ↦ new (inl (sym q)) ],
  halted_once halts h (λ m. new (inr m)) once.1,
)

halted_in : (halts : List Halt) (h : Halt) → Member h halts → Member h.answer.matchmaker (halted_by halts)
halted_in [] h k = absurd k
halted_in (x ∷ halts) h (inl e) = inl (ap (λ (y : Halt). y.answer.matchmaker) e)
halted_in (x ∷ halts) h (inr k) = inr (halted_in halts h k)

mark_once : (a : ℕ) (ms : List ℕ) → (Member a ms → ⊥) → AreOnce ms → AreOnce (with_mark a ms)
mark_once a [] new once = (λ m. m, tt)
mark_once a (x ∷ ms) new once =
    cond_both (a == x) (x ∷ ms) (if nat_lt a x then a ∷ x ∷ ms else x ∷ with_mark a ms) (λ xs. AreOnce xs)
    (λ e. once)
    (λ f. cond_both (nat_lt a x) (a ∷ x ∷ ms) (x ∷ with_mark a ms) (λ xs. AreOnce xs)
    (λ e. (new, once))
    (λ e. (λ m. elim (mark-cases x a ms m) [ inl q ↦ new (inl (sym q)) | inr k ↦ once.0 k ], mark_once a ms (λ k. new (inr k)) once.1)))

-- what asks members of a set to accept the next one, and nothing else

abbrev is_next : Msg → Bool
is_next (msg.NextA b t) = true
is_next other = false

next_only : (me : RoleId) (own : Round) (next set : List ℕ) (d : Letter) → Member d (map (next_a_to me own next) set)
    → is_next d.msg ≡ false → ⊥
next_only me own next set d m f =
    let r = Member-map (next_a_to me own next) d set m in
    true≢false (subst (λ (x : Letter). is_next x.msg ≡ false) r.2 f)

abbrev ballot_in : Msg → Round
ballot_in (msg.NextA b t) = b
ballot_in other = no_round

abbrev set_in : Msg → List ℕ
set_in (msg.NextA b t) = t
set_in other = []

next_parts : (from to me : RoleId) (n : ℕ) (b own : Round) (u next : List ℕ) → letter from to (msg.NextA b u)
    ≡ letter me (role kind.Matchmaker n) (msg.NextA own next) → (b ≡ own) × (u ≡ next) × (to ≡ role kind.Matchmaker n)
next_parts from to me n b own u next e =
    (ap (λ (d : Letter). ballot_in d.msg) e, ap (λ (d : Letter). set_in d.msg) e, ap (λ (d : Letter). d.to) e)

next_asked : (me : RoleId) (own : Round) (next set : List ℕ) (from to : RoleId) (b : Round) (u : List ℕ)
    → Member (letter from to (msg.NextA b u)) (map (next_a_to me own next) set) → (b ≡ own) × (u ≡ next) × Member to.index set
next_asked me own next set from to b u m =
    let r = Member-map (next_a_to me own next) (letter from to (msg.NextA b u)) set m in
    let p = next_parts from to me r.0 b own u next r.2 in
    (p.0, p.1, subst (λ (y : RoleId). Member y.index set) (sym p.2) r.1)

-- what it is doing, from the test of its mode

stopping-mode : (mode : Replacing) → is_stopping mode ≡ true → mode ≡ Stopping
stopping-mode Idle t = cc
stopping-mode Stopping t = refl
stopping-mode Deciding t = cc
stopping-mode Booting t = cc

deciding-mode : (mode : Replacing) → is_deciding mode ≡ true → mode ≡ Deciding
deciding-mode Idle t = cc
deciding-mode Stopping t = cc
deciding-mode Deciding t = refl
deciding-mode Booting t = cc

pub booting-mode : (mode : Replacing) → is_booting mode ≡ true → mode ≡ Booting
booting-mode Idle t = cc
booting-mode Stopping t = cc
booting-mode Deciding t = cc
booting-mode Booting t = refl

module _ (c : Cluster) (history : List KeptRecord) (sent : List Letter) (states : RoleId → State) (facts : Facts c history sent states)
    (x : ℕ) where
  abbrev me : RoleId
  me = role kind.Replacer x

  abbrev dur : ReplacerDurable
  dur = durable_of replacer_rules me history

  abbrev own : Round
  own = dur.own

  abbrev Fine : Outcome ReplacerVolatile → Type 0
  Fine o = Lands (Facts c) history sent states me ReplacerIn o

  abbrev Knows : ReplacerVolatile → Type 0
  Knows v = IsKnown c history v.set × InWork c history sent me own v v.mode

  still : (w : Why) (v : ReplacerVolatile) → Knows v → Fine (only_word w v)
  still w v h =
      lands c history sent states facts me ReplacerIn (only_word w v) (λ d m. absurd m)
      (keeps_silent c history sent states facts me ReplacerIn w v h)

  calm : (w : Why) (v : ReplacerVolatile) (ds : List Letter) → Knows v → QuietSends ds
      → ((longer : List Letter) → Widens history sent longer → (d : Letter) → Member d ds → Says c history longer d.from d.msg)
      → Fine (replied w v ds)
  calm w v ds h quiet says = lands c history sent states facts me ReplacerIn (replied w v ds) quiet
      (keeps_sending c history sent states facts me ReplacerIn w v ds h says)

  -- it has a mode's knowledge
  knows_in : (v : ReplacerVolatile) (mode : Replacing) → v.mode ≡ mode → IsKnown c history v.set
      → InWork c history sent me own v mode → Knows v
  knows_in v mode is known work = (known, subst (λ y. InWork c history sent me own v y) (sym is) work)

  work_in : (v : ReplacerVolatile) (mode : Replacing) → v.mode ≡ mode → Knows v → InWork c history sent me own v mode
  work_in v mode is h = subst (λ y. InWork c history sent me own v y) is h.1

  rests : (w : Why) (v : ReplacerVolatile) → v.mode ≡ Idle → IsKnown c history v.set → Fine (only_word w v)
  rests w v is known = still w v (knows_in v Idle is known tt)

  -- asking to stop, to begin; telling the set

  asks_stop : (w : Why) (v : ReplacerVolatile) → Knows v → is_before no_round own ≡ true → Fine (replied w v (map (stop_a_to me own) v.set))
  asks_stop w v h real =
      calm w v (map (stop_a_to me own) v.set) h
      (quiet_each (stop_a_to me own) v.set (λ n. (λ i g s cw u e. cc, λ i g e. cc, λ b t e. cc)))
      (λ longer more. each (λ (d : Letter). Says c history longer d.from d.msg) (stop_a_to me own) v.set (λ n. real))

  boot_says : (longer : List Letter) → Widens history sent longer → (v : ReplacerVolatile) → IsKnown c history v.set
      → IsBooting c history sent me v → IsBoot c history v.next v.watermark v.entries
  boot_says longer more v known h = record {
    place = known.0;
    set = v.set;
    nth = known.1;
    decided = h.decided;
    join = grown_join c history sent history longer (grows_wide history sent longer more) v.set v.watermark v.entries h.join;
  }

  asks_boot : (w : Why) (v : ReplacerVolatile) → v.mode ≡ Booting → IsKnown c history v.set → IsBooting c history sent me v
      → Fine (replied w v (map (boot_a_to me v.next v.watermark v.entries) v.next))
  asks_boot w v is known h =
      calm w v (map (boot_a_to me v.next v.watermark v.entries) v.next) (knows_in v Booting is known h)
      (quiet_each (boot_a_to me v.next v.watermark v.entries) v.next (λ n. (λ i g s cw u e. cc, λ i g e. cc, λ b t e. cc)))
      (λ longer more. each (λ (d : Letter). Says c history longer d.from d.msg) (boot_a_to me v.next v.watermark v.entries) v.next
      (λ n. boot_says longer more v known h))

  told_all : (P : Letter → Type 0) (s : List ℕ) → ((to : RoleId) → P (sets_to me s to)) → (d : Letter) → Member d (sets_to_all c me s) → P d
  told_all P s h =
      Member-both P
      (map (λ l. sets_to me s (role kind.Leader l)) (below c.leaders) ++ map (λ r. sets_to me s (role kind.Reader r)) (below c.readers))
      (map (λ y. sets_to me s (role kind.Replacer y)) (others c me)) (Member-both P
      (map (λ l. sets_to me s (role kind.Leader l)) (below c.leaders)) (map (λ r. sets_to me s (role kind.Reader r)) (below c.readers))
      (each P (λ l. sets_to me s (role kind.Leader l)) (below c.leaders) (λ n. h (role kind.Leader n)))
      (each P (λ r. sets_to me s (role kind.Reader r)) (below c.readers) (λ n. h (role kind.Reader n))))
      (each P (λ y. sets_to me s (role kind.Replacer y)) (others c me) (λ n. h (role kind.Replacer n)))

  tells_set : (w : Why) (v : ReplacerVolatile) → Knows v → (s : List ℕ) → IsKnown c history s → Fine (replied w v (sets_to_all c me s))
  tells_set w v h s known =
      calm w v (sets_to_all c me s) h
      (told_all (λ (d : Letter). IsPlainMsg d.msg) s (λ to. (λ i g n cw u e. cc, λ i g e. cc, λ b t e. cc)))
      (λ longer more. told_all (λ (d : Letter). Says c history longer d.from d.msg) s (λ to. known))

  -- it knows another set, and may keep it
  rests_kept : (w : Why) (v : ReplacerVolatile) → v.mode ≡ Idle → (s : List ℕ) → IsKnown c history s → (ds : List Letter)
      → IsKnown c history v.set → QuietSends ds
      → ((longer : List KeptRecord) → IsKnown c longer s → (wider : List Letter) (d : Letter) → Member d ds
      → Says c longer wider d.from d.msg)
      → Fine (record { why = w; kept = known_record c dur s; volatile = v; sends = ds })
  rests_kept w v is s known ds set quiet says =
      either_way (λ (o : Option Record). Fine (record { why = w; kept = o; volatile = v; sends = ds }))
      (c.keep_sets && is_above s (known_set c dur)) (Some (kept.Known s)) None
      (lands c history sent states facts me ReplacerIn (record { why = w; kept = Some (kept.Known s); volatile = v; sends = ds }) quiet
      (keeps_record c history sent states facts me ReplacerIn w (kept.Known s) v ds (keep_known c history sent states facts me s known)
      (grown v.set set, subst (λ y. InWork c longer sent me (durable_of replacer_rules me longer).own v y) (sym is) tt)
      (λ wider more. says longer (grown s known) wider)))
      (calm w v ds (knows_in v Idle is set tt) quiet (λ wider more. says history known wider))
    where
      longer : List KeptRecord
      longer = entry_by me (kept.Known s) ∷ history

      grown : (t : List ℕ) → IsKnown c history t → IsKnown c longer t
      grown t k = grown_known c history sent longer sent (grows_set c history sent states facts me s known) t k

  tells_kept : (w : Why) (v : ReplacerVolatile) → v.mode ≡ Idle → (s : List ℕ) → IsKnown c history s → IsKnown c history v.set
      → Fine (record { why = w; kept = known_record c dur s; volatile = v; sends = sets_to_all c me s })
  tells_kept w v is s known set =
      rests_kept w v is s known (sets_to_all c me s) set
      (told_all (λ (d : Letter). IsPlainMsg d.msg) s (λ to. (λ i g n cw u e. cc, λ i g e. cc, λ b t e. cc)))
      (λ longer k wider. told_all (λ (d : Letter). Says c longer wider d.from d.msg) s (λ to. k))

  -- asking to accept the next set

  module _ (w : Why) (v : ReplacerVolatile) (is : v.mode ≡ Deciding) (known : IsKnown c history v.set)
      (h : IsDeciding c history sent me own v) where
    abbrev ds : List Letter
    ds = map (next_a_to me own v.next) v.set

    kept_own : HasKept history (role kind.Replacer own.id) (kept.Ballot own) × (role kind.Replacer own.id ≡ me)
    kept_own = elim (facts.last_ballot me).1 [
      | inl e ↦ absurd (before-itself no_round (subst (λ y. is_before no_round y ≡ true) e h.real))
      | inr k ↦ (let q = facts.balloter me own k in (subst (λ y. HasKept history y (kept.Ballot own)) q k, sym q))
    ]

    -- what is sent asks members of the known set to accept this set in this ballot
    asks_it : (from to : RoleId) (b : Round) (u : List ℕ) → Member (letter from to (msg.NextA b u)) ds
        → (b ≡ own) × (u ≡ v.next) × Member to.index v.set
    asks_it from to b u m = next_asked me own v.next v.set from to b u m

    no_propose : (i : Round) (s : ℕ) (u : Value) → IsProposed ds i s u → ⊥
    no_propose i s u m = next_only me own v.next v.set (letter m.0 m.1 (msg.Propose i m.2 s m.3 u)) m.4 refl

    no_end : (i : Round) → IsRetiring ds i → ⊥
    no_end i m = next_only me own v.next v.set (letter m.0 m.1 (msg.GarbageA i m.2)) m.3 refl

    widens : Widens history sent (sent ++ ds)
    widens = record {
      wide = λ d m. Member-first d sent ds m;
      no_proposal = λ j s u l y. elim (Member-cases _ sent ds y.4) [
        | inl m ↦ (y.0, y.1, y.2, y.3, m)
        | inr m ↦ absurd (no_propose j s u (y.0, y.1, y.2, y.3, m))
      ];
    }

    asked_wide : (from to : RoleId) (u : List ℕ) → Member (letter from to (msg.NextA own u)) (sent ++ ds)
        → (u ≡ v.next) × Member to.index v.set
    asked_wide from to u m = elim (Member-cases _ sent ds m) [
      | inl k ↦ h.asked from to u k
      | inr k ↦ (let r = asks_it from to own u k in (r.1, r.2))
    ]

    deciding_wide : IsDeciding c history (sent ++ ds) me own v
    deciding_wide = record {
      real = h.real;
      asked = asked_wide;
      above = h.above;
      proper = h.proper;
      closed = h.closed;
      join =
          grown_join c history sent history (sent ++ ds) (grows_wide history sent (sent ++ ds) widens) v.set v.watermark v.entries h.join;
      votes = λ n m. Member-first _ sent ds (h.votes n m);
      once = h.once;
    }

    next_says : (to : RoleId) → Member to.index v.set → IsNextSet c history to own v.next
    next_says to m = record {
      real = h.real;
      set = v.set;
      known = known;
      member = m;
      above = h.above;
      proper = h.proper;
      closed = h.closed;
    }

    pub asks_next : Fine (replied w v (map (next_a_to me own v.next) v.set))
    asks_next = record {
      whole = send c history sent states me (stop c history sent states me facts) ds (ReplacerIn v) widens
          (each (λ (d : Letter). Says c history (sent ++ ds) d.from d.msg) (next_a_to me own v.next) v.set (λ n. tt))
          (λ i s u m. absurd (no_propose i s u m))
          (λ i m. absurd (no_end i m))
          (λ i s u y m n. absurd (no_propose i s u m))
          (λ from to b u m.
          let r = asks_it from to b u m in (
            subst (λ y. IsNextSet c history to y u) (sym r.0) (subst (λ y. IsNextSet c history to own y) (sym r.1) (next_says to r.2)),
            subst (λ (y : Round). HasKept history (role kind.Replacer y.id) (kept.Ballot y)) (sym r.0) kept_own.0,
            subst (λ (y : Round). role kind.Replacer y.id ≡ me) (sym r.0) kept_own.1,
          ))
          (λ b u y m n.
          let r = asks_it m.0 m.1 b u m.2 in
          r.1 ∙ sym (asked_wide n.0 n.1 y (subst (λ k. Member (letter n.0 n.1 (msg.NextA k y)) (sent ++ ds)) r.0 n.2)).0)
          (known, subst (λ y. InWork c history (sent ++ ds) me own v y) (sym is) deciding_wide);
      cut = λ r e. cc;
    }

  -- the order

  begun_fine : (v : ReplacerVolatile) → Knows v → (s : List ℕ) → names_set c s ≡ true → is_above s v.set ≡ true
      → (b : Round) → b.id ≡ x → is_before own b ≡ true → Fine (begin_in me v s (Some b))
  begun_fine v h s proper above b owned up =
      lands c history sent states facts me ReplacerIn (begin_in me v s (Some b))
      (quiet_each (stop_a_to me b) v.set (λ n. (λ i g t cw u e. cc, λ i g e. cc, λ d t e. cc))) (keeps_record c history sent states facts me
      ReplacerIn why.Started (kept.Ballot b) (record v { mode = Stopping; next = s; halts = []; counted = [] }) (map (stop_a_to me b) v.set)
      (keep_ballot c history sent states facts me b names_me up) (
        (h.0.0, more_nth c history (entry_by me (kept.Ballot b) ∷ history) (λ k m. inr m) h.0.0 v.set h.0.1),
        subst (λ (d : ReplacerDurable). IsStopping c (entry_by me (kept.Ballot b) ∷ history) sent me d.own
            (record v { mode = Stopping; next = s; halts = []; counted = [] }))
            (sym (durable_own replacer_rules me (kept.Ballot b) history)) begun,
      ) (λ longer more.
      each (λ (d : Letter). Says c (entry_by me (kept.Ballot b) ∷ history) longer d.from d.msg) (stop_a_to me b) v.set (λ n. real)))
    where
      names_me : me ≡ role kind.Replacer b.id
      names_me = ap (λ n. role kind.Replacer n) (sym owned)

      real : is_before no_round b ≡ true
      real = before-from_at_most no_round own b (least own) up

      begun : IsStopping c (entry_by me (kept.Ballot b) ∷ history) sent me b
          (record v { mode = Stopping; next = s; halts = []; counted = [] })
      begun = record {
        real = real;
        unasked = λ t y. ballot_new c history sent states facts me b names_me up t y;
        above = above;
        proper = proper;
        told = λ k m. absurd m;
        once = tt;
        known = λ m k. absurd k;
      }

  begin_fine : (v : ReplacerVolatile) → Knows v → (s : List ℕ) → names_set c s ≡ true → is_above s v.set ≡ true
      → (next : Option Round) → lead_after own v.seen x ≡ next → Fine (begin_in me v s next)
  begin_fine v h s proper above None e = still why.End v h
  begin_fine v h s proper above (Some b) e =
      let p = next_is (max own.r v.seen.r == 4294967295) e in
      begun_fine v h s proper above b (ap (λ (y : Round). y.id) p)
      (before-higher own b (let q : b.r ≡ max own.r v.seen.r + 1 = ap (λ (y : Round). y.r) p in omega arith))
    where
      next_is : (t : Bool) → (if t then None else Some (record { r = max own.r v.seen.r + 1; id = x; s = 0 })) ≡ Some b
          → b ≡ record { r = max own.r v.seen.r + 1; id = x; s = 0 }
      next_is true q = cc
      next_is false q = sym (same_Some _ b q)

  replace_fine : (v : ReplacerVolatile) → Knows v → (s : List ℕ) → Fine (replace_row c me dur v s)
  replace_fine v h s =
      by_test Fine (not (names_set c s)) _ _
      (λ t. still why.Stranger v h)
      (λ f. by_test Fine (not (is_above s v.set)) _ _
      (λ t. still why.Old v h)
      (λ g. begin_fine v h s (not-false _ f) (not-false _ g) (lead_after own v.seen x) refl))

  -- a matchmaker has stopped

  module _ (v : ReplacerVolatile) (is : v.mode ≡ Stopping) (known : IsKnown c history v.set) (h : IsStopping c history sent me own v) where
    halts_say : (k : Halt) → Member k v.halts
        → IsHalt c history (role kind.Matchmaker k.answer.matchmaker) own k.answer.watermark k.answer.entries k.accepted k.next
    halts_say k m = facts.says _ (h.told k m)

    -- the set to decide lies above the known one, and is proper: it was ordered, or accepted by a member of the known set
    decide_fits : (is_above (to_decide v.next v.halts) v.set ≡ true) × (names_set c (to_decide v.next v.halts) ≡ true)
    decide_fits = go (latest v.halts) refl
      where
        accepted : (z : Halt) → Member z v.halts → HasNext history (role kind.Matchmaker z.answer.matchmaker) z.accepted z.next
            → (is_above z.next v.set ≡ true) × (names_set c z.next ≡ true)
        accepted z m has =
            let next = facts.sets.nexted (role kind.Matchmaker z.answer.matchmaker) z.accepted z.next has in
            let same = (nth_meet c history sent facts.sets next.known.0 known.0 next.set v.set next.known.1 known.1 z.answer.matchmaker
            next.member (h.known z.answer.matchmaker (halted_in v.halts z m))).1 in
            (subst (λ y. is_above z.next y ≡ true) same next.above, next.proper)

        chosen : (z : Halt) → Member z v.halts → (b : Bool) → is_before no_round z.accepted ≡ b
            → (is_above (if b then z.next else v.next) v.set ≡ true) × (names_set c (if b then z.next else v.next) ≡ true)
        chosen z m false f = (h.above, h.proper)
        chosen z m true t = elim (halts_say z m).accepted [
          | inl none ↦ absurd (before-itself no_round (subst (λ y. is_before no_round y ≡ true) none t))
          | inr has ↦ accepted z m has
        ]

        go : (o : Option Halt) → latest v.halts ≡ o → (is_above (next_of v.next o) v.set ≡ true) × (names_set c (next_of v.next o) ≡ true)
        go None e = (h.above, h.proper)
        go (Some z) e = chosen z (latest_member v.halts z e) (is_before no_round z.accepted) refl

    module _ (most : c.f < length v.halts) where
      abbrev decided : ReplacerVolatile
      decided = record v {
        mode = Deciding;
        next = to_decide v.next v.halts;
        counted = [];
        watermark = greatest_watermark (answers_of v.halts);
        entries = joined_entries v.halts;
      }

      deciding : IsDeciding c history sent me own decided
      deciding = record {
        real = h.real;
        asked = λ from to t m. absurd (h.unasked t (from, to, m));
        above = decide_fits.0;
        proper = decide_fits.1;
        closed = λ a l. halts_closed c history sent facts.sets own v.set known v.halts halts_say h.once h.known most v.next a l;
        join = halts_join c history sent facts.sets own v.set known v.halts halts_say h.once h.known most facts.one_grid;
        votes = λ n m. absurd m;
        once = tt;
      }

      decide_fine : Fine (decide me dur v (joined_entries v.halts) (to_decide v.next v.halts))
      decide_fine =
          by_test Fine (nat_lt 254 (length (joined_entries v.halts))) _ _
          (λ t. rests why.Full (record v { mode = Idle }) refl known)
          (λ f. asks_next why.Asking decided refl known deciding)

    halt_counted_fine : Fine (halt_counted c me dur v)
    halt_counted_fine =
        by_test Fine (nat_lt (length v.halts) (enough c)) _ _
        (λ t. still why.Counted v (knows_in v Stopping is known h))
        (λ f. let k = ltb-false (length v.halts) (enough c) f in
        let k2 : c.f < length v.halts = omega arith in
        decide_fine k2)

  stop_b_fine : (v : ReplacerVolatile) → Knows v → (from : RoleId) (b w : Round) (es : List Entry) (a : Round) (s : List ℕ)
      → Member (letter (role kind.Matchmaker from.index) me (msg.StopB b w es a s)) sent → Fine (stop_b_row c me dur v from b w es a s)
  stop_b_fine v h from b w es a s y =
      by_test Fine (not (is_stopping v.mode && same_round b own && is_in from.index v.set)) _ _
      (λ t. still why.Old v h)
      (λ f. let q = and_parts (is_stopping v.mode && same_round b own) (is_in from.index v.set) (not-false _ f) in
      let p = and_parts (is_stopping v.mode) (same_round b own) q.0 in
      by_test Fine (has_halted from.index v.halts) _ _
      (λ t. still why.Same v h)
      (λ g. counted (stopping-mode v.mode p.0) g (is_in-Member from.index v.set q.1)
      (subst (λ r. Member (letter (role kind.Matchmaker from.index) me (msg.StopB r w es a s)) sent) (same_round-true b own p.1) y)))
    where
      halt : Halt
      halt = record { answer = record { matchmaker = from.index; watermark = w; entries = es }; accepted = a; next = s }

      counted : v.mode ≡ Stopping → has_halted from.index v.halts ≡ false → Member from.index v.set
          → Member (letter (role kind.Matchmaker from.index) me (msg.StopB own w es a s)) sent
          → Fine (halt_counted c me dur (record v { halts = v.halts ++ halt ∷ [] }))
      counted is new member y =
          let k = work_in v Stopping is h in
          halt_counted_fine (record v { halts = v.halts ++ halt ∷ [] }) is h.0 (record {
            real = k.real;
            unasked = k.unasked;
            above = k.above;
            proper = k.proper;
            told = λ z m. elim (Member-cases z v.halts (halt ∷ []) m) [
              | inl n ↦ k.told z n
              | inr n ↦ elim n [
                | inl e ↦ subst (λ (q : Halt). Member (letter (role kind.Matchmaker q.answer.matchmaker) me
                    (msg.StopB own q.answer.watermark q.answer.entries q.accepted q.next)) sent) (sym e) y
                | inr n ↦ absurd n
              ]
            ];
            once = halted_once v.halts halt (λ m. true≢false (sym (halted_by-counted from.index v.halts m) ∙ new)) k.once;
            known = λ n m. elim (halted_more v.halts halt n m) [ inl p ↦ k.known n p | inr q ↦ subst (λ i. Member i v.set) (sym q) member ];
          })

  -- a matchmaker has accepted

  module _ (v : ReplacerVolatile) (is : v.mode ≡ Deciding) (known : IsKnown c history v.set) (h : IsDeciding c history sent me own v) where
    accepts : (n : ℕ) → Member (letter (role kind.Matchmaker n) me (msg.NextB own)) sent
        → HasNext history (role kind.Matchmaker n) own v.next × Member n v.set
    accepts n y =
        let says : (t : List ℕ) × HasNext history (role kind.Matchmaker n) own t = facts.says _ y in
        let asked = facts.accepted (role kind.Matchmaker n) own says.0 says.1 in
        let r = h.asked asked.0 (role kind.Matchmaker n) says.0 asked.1 in
        (subst (λ t. HasNext history (role kind.Matchmaker n) own t) r.0 says.1, r.1)

    module _ (a : ℕ) (new : is_in a v.counted ≡ false) (y : Member (letter (role kind.Matchmaker a) me (msg.NextB own)) sent) where
      votes : (n : ℕ) → Member n (with_mark a v.counted) → Member (letter (role kind.Matchmaker n) me (msg.NextB own)) sent
      votes n m = elim (mark-cases n a v.counted m) [
        | inl e ↦ subst (λ k. Member (letter (role kind.Matchmaker k) me (msg.NextB own)) sent) (sym e) y
        | inr k ↦ h.votes n k
      ]

      once : AreOnce (with_mark a v.counted)
      once = mark_once a v.counted (λ m. true≢false (sym (Member-is_in a v.counted m) ∙ new)) h.once

      is_decided : c.f < length (with_mark a v.counted) → IsDecided c history v.set v.next
      is_decided most = record {
        above = h.above;
        proper = h.proper;
        ballot = own;
        who = λ n. is_in n (with_mark a v.counted);
        most =
            let l : length (with_mark a v.counted) ≤ how_many v.set (λ n. is_in n (with_mark a v.counted)) =
            once_count AreOnce (λ m ms o. o) (λ n. is_in n (with_mark a v.counted)) (with_mark a v.counted) v.set once
            (λ n m. (accepts n (votes n m)).1) (λ n m. Member-is_in n (with_mark a v.counted) m) in
            omega arith;
        each = λ n t. (accepts n (votes n (is_in-Member n (with_mark a v.counted) t))).0;
      }

      next_counted_fine : Fine (next_counted c me v (with_mark a v.counted))
      next_counted_fine =
          by_test Fine (nat_lt (length (with_mark a v.counted)) (enough c)) _ _
          (λ t. still why.Counted (record v { counted = with_mark a v.counted })
          (knows_in (record v { counted = with_mark a v.counted }) Deciding is known (record {
            real = h.real;
            asked = h.asked;
            above = h.above;
            proper = h.proper;
            closed = h.closed;
            join = h.join;
            votes = votes;
            once = once;
          }))) (λ f. let k = ltb-false (length (with_mark a v.counted)) (enough c) f in
          let k2 : c.f < length (with_mark a v.counted) = omega arith in
          asks_boot why.Decided (record v { mode = Booting; counted = [] }) refl known
          (record { decided = is_decided k2; join = h.join; begun = λ n m. absurd m }))

  next_b_fine : (v : ReplacerVolatile) → Knows v → (from : RoleId) (b : Round)
      → Member (letter (role kind.Matchmaker from.index) me (msg.NextB b)) sent → Fine (next_b_row c me dur v from b)
  next_b_fine v h from b y =
      by_test Fine (not (is_deciding v.mode && same_round b own)) _ _
      (λ t. still why.Old v h)
      (λ f. let p = and_parts (is_deciding v.mode) (same_round b own) (not-false _ f) in
      let is = deciding-mode v.mode p.0 in
      by_test Fine (is_in from.index v.counted) _ _
      (λ t. still why.Same v h)
      (λ g. next_counted_fine v is h.0 (work_in v Deciding is h) from.index g
      (subst (λ r. Member (letter (role kind.Matchmaker from.index) me (msg.NextB r)) sent) (same_round-true b own p.1) y)))

  -- a member of the next set has begun

  boot_b_fine : (v : ReplacerVolatile) → Knows v → (from : RoleId) (s : List ℕ)
      → Member (letter (role kind.Matchmaker from.index) me (msg.BootB s)) sent → Fine (boot_b_row c me dur v from s)
  boot_b_fine v h from s y =
      by_test Fine (not (is_booting v.mode && bytes_eq s v.next)) _ _
      (λ t. still why.Old v h)
      (λ f. let p = and_parts (is_booting v.mode) (bytes_eq s v.next) (not-false _ f) in
      let is = booting-mode v.mode p.0 in
      let k = work_in v Booting is h in
      by_test Fine (is_in from.index v.counted) _ _
      (λ t. still why.Same v h)
      (λ g. by_test Fine (nat_lt (length (with_mark from.index v.counted)) (enough c)) _ _
      (λ t. still why.Counted (record v { counted = with_mark from.index v.counted })
      (knows_in (record v { counted = with_mark from.index v.counted }) Booting is h.0
      (record { decided = k.decided; join = k.join; begun = begun k ((bytes_eq-Decides s v.next).0 p.1) })))
      (λ n. let next : IsKnown c history v.next =
      (h.0.0 + 1, subst (λ i. IsNth c history i v.next) (let e : suc h.0.0 ≡ h.0.0 + 1 = omega arith in e) (v.set, h.0.1, k.decided)) in
      tells_kept why.Replaced (record v { mode = Idle; set = v.next }) refl v.next next next)))
    where
      begun : IsBooting c history sent me v → s ≡ v.next → (n : ℕ) → Member n (with_mark from.index v.counted)
          → Member (letter (role kind.Matchmaker n) me (msg.BootB v.next)) sent
      begun k e n m = elim (mark-cases n from.index v.counted m) [
        | inl q ↦ subst (λ i. Member (letter (role kind.Matchmaker i) me (msg.BootB v.next)) sent) (sym q)
            (subst (λ t. Member (letter (role kind.Matchmaker from.index) me (msg.BootB t)) sent) e y)
        | inr q ↦ k.begun n q
      ]

  -- a greater ballot, another set

  seen_work : (v : ReplacerVolatile) (i : Round) (mode : Replacing) → InWork c history sent me own v mode
      → InWork c history sent me own (with_seen i v) mode
  seen_work v i Idle h = tt
  seen_work v i Stopping h =
      record { real = h.real; unasked = h.unasked; above = h.above; proper = h.proper; told = h.told; once = h.once; known = h.known }
  seen_work v i Deciding h = record {
    real = h.real;
    asked = h.asked;
    above = h.above;
    proper = h.proper;
    closed = h.closed;
    join = h.join;
    votes = h.votes;
    once = h.once;
  }
  seen_work v i Booting h = record { decided = h.decided; join = h.join; begun = h.begun }

  stop_nack_fine : (v : ReplacerVolatile) → Knows v → (b other : Round) → Fine (stop_nack_row dur v b other)
  stop_nack_fine v h b other =
      by_test Fine (not (same_round b own) || is_resting v.mode || is_booting v.mode) _ _
      (λ t. still why.Old (with_seen other v) (h.0, seen_work v other v.mode h.1))
      (λ f. rests why.Nacked (record (with_seen other v) { mode = Idle }) refl h.0)

  sets_fine : (v : ReplacerVolatile) → Knows v → (s : List ℕ) → IsKnown c history s → Fine (sets_row c dur v s)
  sets_fine v h s known =
      by_test Fine (is_above s v.set) _ _
      (λ t. rests_kept why.Learnt (record v { mode = Idle; set = s }) refl s known [] known (λ d m. absurd m) (λ h k longer d m. absurd m))
      (λ f. still why.Old v h)

  -- by the input

  tick_fine : (v : ReplacerVolatile) → Knows v → (mode : Replacing) → v.mode ≡ mode → Fine (tick_in c me dur v mode)
  tick_fine v h Idle is =
      by_test Fine (is_above v.set (first_set c)) _ _
      (λ t. tells_set why.Resent v h v.set h.0)
      (λ f. still why.Idle v h)
  tick_fine v h Stopping is = asks_stop why.Resent v h (work_in v Stopping is h).real
  tick_fine v h Deciding is = asks_next why.Resent v is h.0 (work_in v Deciding is h)
  tick_fine v h Booting is = asks_boot why.Resent v is h.0 (work_in v Booting is h)

  order_fine : (v : ReplacerVolatile) → Knows v → (order : OrderOf) → Fine (replacer_orders c me dur v order)
  order_fine v h (Replace s) = replace_fine v h s
  order_fine v h (Lead g) = still why.Stranger v h
  order_fine v h (Change g) = still why.Stranger v h
  order_fine v h Collect = still why.Stranger v h
  order_fine v h (Offer to s) = still why.Stranger v h

  by_kind : (from : RoleId) (m : Msg) (k : Kind) → from.kind ≡ k → Member (letter from me m) sent
      → Member (letter (role k from.index) me m) sent
  by_kind from m k e y = subst (λ j. Member (letter (role j from.index) me m) sent) e y

  takes_fine : (v : ReplacerVolatile) → Knows v → Kinds history sent states → (from : RoleId) (m : Msg) → Member (letter from me m) sent
      → Fine (replacer_takes c me dur v from m)
  takes_fine v h kinds from (msg.StopB b w es a s) y =
      stop_b_fine v h from b w es a s (by_kind from (msg.StopB b w es a s) kind.Matchmaker (kinds.senders _ y) y)
  takes_fine v h kinds from (msg.NextB b) y = next_b_fine v h from b (by_kind from (msg.NextB b) kind.Matchmaker (kinds.senders _ y) y)
  takes_fine v h kinds from (msg.BootB s) y = boot_b_fine v h from s (by_kind from (msg.BootB s) kind.Matchmaker (kinds.senders _ y) y)
  takes_fine v h kinds from (msg.StopNack b other) y = stop_nack_fine v h b other
  takes_fine v h kinds from (msg.Sets s) y = sets_fine v h s (facts.says _ y)
  takes_fine v h kinds from other y = still why.Stranger v h

  row_fine : (v : ReplacerVolatile) → Knows v → Kinds history sent states → (i : Input) → Given sent me i → Fine (replacer_row c me dur v i)
  row_fine v h kinds (Take d) given =
      by_test Fine (same_role d.to me && names c d) _ _
      (λ t. takes_fine v h kinds d.from d.msg (subst (λ a. Member (letter d.from a d.msg) sent) given.0 given.1))
      (λ f. still why.Stranger v h)
  row_fine v h kinds Tick given = tick_fine v h v.mode refl
  row_fine v h kinds (Order order) given = order_fine v h order

-- the rows of a replacer keep the facts
pub replacer_lands : (c : Cluster) (kept : List KeptRecord) (sent : List Letter) (states : RoleId → State) (x : ℕ)
    (v : ReplacerVolatile) (i : Input)
    → Kinds kept sent states → Facts c kept sent states → states (role kind.Replacer x) ≡ ReplacerIn v → Given sent (role kind.Replacer x) i
    → Lands (Facts c) kept sent states (role kind.Replacer x) ReplacerIn
    (replacer_row c (role kind.Replacer x) (durable_of replacer_rules (role kind.Replacer x) kept) v i)
replacer_lands c kept sent states x v i kinds facts at given = row_fine c kept sent states facts x v
    (subst (λ s. InState c kept sent (role kind.Replacer x) s) at (facts.running (role kind.Replacer x))) kinds i given
