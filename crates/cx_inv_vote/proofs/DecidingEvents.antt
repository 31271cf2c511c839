-- What an event does, by what its role's row says of sets.
use Rattle.cx_inv_run.proofs.Common.{◌≡◌, ℕ, ◌&&◌, ◌⊎◌, List, [], Option, Some, None, inl, inr, ap, sym, subst, ◌∙◌, refl, ⊎_elim}
use Rattle.cx_inv_run.proofs.Common.{slice_get, option_map, same_Some, Cut, Whole, Torn, Kept, Event, Offer, Replace, Kind, RoleId, Round}
use Rattle.cx_inv_run.proofs.Common.{Why}
use Rattle.cx_inv_run.proofs.Common.{role, same_role, Entry, Token, Letter, Act, Give, Snap, Stop, Wake, Input, KeptRecord, Written, Record}
use Rattle.cx_inv_run.proofs.Common.{Booting, acceptor_rules, batcher_rules, heard_by, leader_rules, bool_cases, differ_role}
use Rattle.cx_inv_run.proofs.Common.{same_role-true, MatchmakerDurable, matchmaker_rules, matchmaker_row, Member, names, names_role}
use Rattle.cx_inv_run.proofs.Common.{Outcome, by_test, either_way, HasKept, proxy_rules, reader_rules, ReplacerDurable, ReplacerVolatile}
use Rattle.cx_inv_run.proofs.Common.{replacer_rules, replacer_row, replica_rules, is_stale, request, Rules, Turn, turn, turn_with}
use Rattle.cx_inv_run.proofs.Common.{whole_turn, snap_turn, unbatcher_rules, World, change, changed, nothing, come, ask, act_at, act_of}
use Rattle.cx_inv_run.proofs.Common.{durable_part, kept_by, IsSender, IsKept, OfKind, State, BatcherIn, LeaderIn, ProxyIn, ReplicaIn}
use Rattle.cx_inv_run.proofs.Common.{ReaderIn, ReplacerIn, plain, replacer_volatile, state_of, Given, state_own, state_other, Member-at}
use Rattle.cx_inv_run.proofs.Common.{Member-one, acceptor_kinds, matchmaker_kinds, batcher_kinds, unbatcher_kinds, proxy_kinds}
use Rattle.cx_inv_run.proofs.Common.{replica_kinds, reader_kinds, leader_kinds, replacer_kinds}
use Rattle.cx_base.specs.declared.event.Event.TheVariants as event
use Rattle.cx_base.specs.declared.role.Kind.TheVariants as kind
use Rattle.cx_base.specs.declared.why.Why.TheVariants as why
use Rattle.cx_letter.specs.declared.input.Input.TheVariants as input
use Rattle.cx_letter.specs.declared.input.Written.TheVariants as written
use Rattle.cx_letter.specs.declared.kept.Record.TheVariants as kept
use Rattle.cx_letter.specs.declared.message.Msg.TheVariants as msg
use Rattle.cx_model.specs.declared.states.Replacing.TheVariants.{Idle}
use Rattle.cx_model.specs.Turn.{still as still_turn}
use Rattle.cx_model.specs.World.{Change}
use Rattle.cx_inv_run.proofs.Steps.{only_replacer}
use Rattle.cx_inv_vote.proofs.Rows.{is_role}
use Rattle.cx_inv_vote.proofs.Deciding.{NoBoot, Begins, row_says, boot_asked}

-- what an event does

-- what an act gives was sent to the role
abbrev GivenBy : List Letter → RoleId → Act → Type 0
GivenBy sent me act = (i : Input) (cut : Cut) → act ≡ Give i cut → Given sent me i

module _ (w : World) (Was : List ℕ → Type 0)
    (was_asked : (d : Letter) → Member d w.sent → (t : List ℕ) (v : Round) (es : List Entry) → msg.BootA t v es ≡ d.msg → Was t)
    (was_booting : (x : ℕ) (v : ReplacerVolatile) → w.roles (role kind.Replacer x) ≡ ReplacerIn v → v.mode ≡ Booting → Was v.next) where
  -- the event decides this set
  pub record DecidedBy (ch : Change) (t : List ℕ) : Type 0 where
    pub index : ℕ
    pub volatile : ReplacerVolatile
    pub at_it : ch.who ≡ Some (role kind.Replacer index)
    pub word : ch.why ≡ why.Decided
    pub knew : w.roles (role kind.Replacer index) ≡ ReplacerIn volatile
    pub next_is : volatile.next ≡ t

  pub record Follows (ch : Change) : Type 0 where
    pub asks : (d : Letter) → Member d ch.sends → (t : List ℕ) (v : Round) (es : List Entry) → msg.BootA t v es ≡ d.msg
        → Was t ⊎ DecidedBy ch t
    pub begins : (who : RoleId) (t : List ℕ) (v : Round) (es : List Entry) → HasKept ch.kept who (kept.Boot t v es) → Was t
    pub boots : (x : ℕ) (v : ReplacerVolatile) → ch.roles (role kind.Replacer x) ≡ ReplacerIn v → v.mode ≡ Booting
        → Was v.next ⊎ DecidedBy ch v.next
    pub decides : (who : RoleId) → who.kind ≡ kind.Replacer → ch.who ≡ Some who → ch.why ≡ why.Decided
        → (v : ReplacerVolatile) → w.roles who ≡ ReplacerIn v
        → (u : ReplacerVolatile) × (ch.roles who ≡ ReplacerIn u) × (u.mode ≡ Booting) × (u.set ≡ v.set) × (u.next ≡ v.next)

  -- where the replacers stay as they are, nobody is asked to begin, and whoever begins was asked
  unchanged : (ch : Change) → ((x : ℕ) → ch.roles (role kind.Replacer x) ≡ w.roles (role kind.Replacer x)) → NoBoot ch.sends
      → ((who : RoleId) (t : List ℕ) (v : Round) (es : List Entry) → HasKept ch.kept who (kept.Boot t v es) → Was t)
      → ((who : RoleId) → who.kind ≡ kind.Replacer → ch.who ≡ Some who → ch.why ≡ why.Decided → ⊥) → Follows ch
  unchanged ch same none begins other = record {
    asks = λ d m t v es e. absurd (none d m t v es e);
    begins = begins;
    boots = λ x v e m. inl (was_booting x v (sym (same x) ∙ e) m);
    decides = λ who is at word. absurd (other who is at word);
  }

  -- a turn of a role that is no replacer

  record IsMild {V : Type 0} (t : Turn V) : Type 0 where
    asks : NoBoot t.sends
    begins : (s : List ℕ) (v : Round) (es : List Entry) → t.kept ≡ Some (written.Record (kept.Boot s v es)) → Was s

  module _ {V : Type 0} (me : RoleId) (no_replacer : me.kind ≡ kind.Replacer → ⊥) where
    sends_mild : (o : Outcome V) → OfKind me o → NoBoot o.sends
    sends_mild o of_kind d m t v es e = no_replacer (subst (λ x. IsSender me.kind x) (sym e) (of_kind.sends d m).1)

    whole_mild : (o : Outcome V) → OfKind me o → ((s : List ℕ) (v : Round) (es : List Entry) → o.kept ≡ Some (kept.Boot s v es) → Was s)
        → IsMild (whole_turn o)
    whole_mild o of_kind begins = record { asks = sends_mild o of_kind; begins = go o.kept refl }
      where
        go : (r : Option Record) → o.kept ≡ r → (s : List ℕ) (v : Round) (es : List Entry)
            → option_map written.Record r ≡ Some (written.Record (kept.Boot s v es)) → Was s
        go None e s v es q = cc
        go (Some r) e s v es q = begins s v es (e ∙ cc)

    cut_mild : (cut : Cut) (o : Outcome V) (r : Option Record) → o.kept ≡ r → OfKind me o
        → ((s : List ℕ) (v : Round) (es : List Entry) → o.kept ≡ Some (kept.Boot s v es) → Was s) → IsMild (turn_with cut r o)
    cut_mild cut o None e of_kind begins = whole_mild o of_kind begins
    cut_mild Whole o (Some r) e of_kind begins = whole_mild o of_kind begins
    cut_mild Torn o (Some r) e of_kind begins = record { asks = λ d m. absurd m; begins = λ s v es q. cc }
    cut_mild Kept o (Some r) e of_kind begins = record { asks = λ d m. absurd m; begins = λ s v es q. begins s v es (e ∙ cc) }

  still_mild : {V : Type 0} (t : Turn V) → t.sends ≡ []
      → ((s : List ℕ) (v : Round) (es : List Entry) → t.kept ≡ Some (written.Record (kept.Boot s v es)) → ⊥) → IsMild t
  still_mild t silent none =
      record { asks = subst (λ ds. NoBoot ds) (sym silent) (λ d m. absurd m); begins = λ s v es q. absurd (none s v es q) }

  module _ {D V : Type 0} (rules : Rules D V) (me : RoleId) (no_replacer : me.kind ≡ kind.Replacer → ⊥) (d : D) (act : Act)
      (of_kind : (v : V) (i : Input) → OfKind me (rules.row w.cluster me d v i))
      (begins : (v : V) (i : Input) (cut : Cut) → act ≡ Give i cut → (s : List ℕ) (b : Round) (es : List Entry)
      → (rules.row w.cluster me d v i).kept ≡ Some (kept.Boot s b es) → Was s) where
    snap_mild : (cut : Cut) (v : V) (o : Option ℕ) → IsMild (snap_turn cut v o)
    snap_mild cut v None = still_mild _ refl (λ s b es q. cc)
    snap_mild Whole v (Some first) = still_mild _ refl (λ s b es q. cc)
    snap_mild Torn v (Some first) = still_mild _ refl (λ s b es q. cc)
    snap_mild Kept v (Some first) = still_mild _ refl (λ s b es q. cc)

    turn_mild : (a : Act) → act ≡ a → (running : Option V) → IsMild (turn rules w.cluster me d a running)
    turn_mild (Give i cut) is None = still_mild _ refl (λ s b es q. cc)
    turn_mild (Give i cut) is (Some v) = cut_mild me no_replacer cut (rules.row w.cluster me d v i) ((rules.row w.cluster me d v i).kept)
        refl (of_kind v i) (begins v i cut is)
    turn_mild (Snap cut) is None = still_mild _ refl (λ s b es q. cc)
    turn_mild (Snap cut) is (Some v) = snap_mild cut v (rules.snap w.cluster me d v)
    turn_mild Stop is None = still_mild _ refl (λ s b es q. cc)
    turn_mild Stop is (Some v) = still_mild _ refl (λ s b es q. cc)
    turn_mild Wake is None =
        either_way IsMild (names_role w.cluster me) (still_turn (Some (rules.fresh w.cluster d)) why.Opened) (still_turn None why.Down)
        (still_mild _ refl (λ s b es q. cc)) (still_mild _ refl (λ s b es q. cc))
    turn_mild Wake is (Some v) = still_mild _ refl (λ s b es q. cc)

  -- what a role keeps in its turn is its change
  kept_of : (me who : RoleId) (k : Option Written) (r : Record) → HasKept (kept_by me k) who r → k ≡ Some (written.Record r)
  kept_of me who None r m = absurd m
  kept_of me who (Some x) r (inl e) = ap (λ (k : KeptRecord). Some k.what) (sym e)
  kept_of me who (Some x) r (inr m) = absurd m

  mild_follows : {V : Type 0} (make : V → State) (me : RoleId) (k : Kind) → me.kind ≡ k → (k ≡ kind.Replacer → ⊥) → (t : Turn V) → IsMild t
      → Follows (changed make me w.roles t)
  mild_follows make me k is other t mild =
      unchanged (changed make me w.roles t)
      (λ x. state_other me (role kind.Replacer x) (state_of make t.role) w.roles
      (differ_role (role kind.Replacer x) me (λ q. other (sym is ∙ sym (ap (λ (a : RoleId). a.kind) q)))))
      mild.asks (λ who s v es m. mild.begins s v es (kept_of me who t.kept (kept.Boot s v es) m))
      (λ who kind_is at word. other (sym is ∙ subst (λ (x : RoleId). x.kind ≡ kind.Replacer) (sym (same_Some me who at)) kind_is))

  module _ {D V : Type 0} (rules : Rules D V) (me : RoleId) (k : Kind) (is : me.kind ≡ k) (other : k ≡ kind.Replacer → ⊥) (act : Act) where
    -- of a kind that never begins in a set
    calm_turns : (k ≡ kind.Matchmaker → ⊥) → ((d : D) (v : V) (i : Input) → OfKind me (rules.row w.cluster me d v i)) → (running : Option V)
        → IsMild (turn rules w.cluster me (durable_part rules me w.kept) act running)
    calm_turns no_matchmaker of_kind =
        let d = durable_part rules me w.kept in
        turn_mild rules me (λ e. other (sym is ∙ e)) d act (of_kind d)
        (λ v i cut p s b es e. absurd (no_matchmaker (sym is ∙ subst (λ o. IsKept me.kind o) e (of_kind d v i).keeps))) act refl

  -- a replacer that runs
  up_is : (o : Option ReplacerVolatile) (v : ReplacerVolatile) → state_of ReplacerIn o ≡ ReplacerIn v → o ≡ Some v
  up_is None v e = cc
  up_is (Some u) v e = cc

  -- a turn of a replacer

  record TurnSays (running : Option ReplacerVolatile) (t : Turn ReplacerVolatile) : Type 0 where
    asks : (d : Letter) → Member d t.sends → (s : List ℕ) (v : Round) (es : List Entry) → msg.BootA s v es ≡ d.msg
        → (u : ReplacerVolatile) × (running ≡ Some u) × Begins u t.why s
    begins : (s : List ℕ) (v : Round) (es : List Entry) → t.kept ≡ Some (written.Record (kept.Boot s v es)) → ⊥
    boots : (v : ReplacerVolatile) → t.role ≡ Some v → v.mode ≡ Booting
        → (u : ReplacerVolatile) × (running ≡ Some u) × Begins u t.why v.next
    decided : t.why ≡ why.Decided → (v : ReplacerVolatile) → running ≡ Some v
        → (u : ReplacerVolatile) × (t.role ≡ Some u) × (u.mode ≡ Booting) × (u.set ≡ v.set) × (u.next ≡ v.next)

  -- it stops, or no row was used
  still_says : (running after : Option ReplacerVolatile) (y : Why) → (y ≡ why.Decided → ⊥)
      → ((v : ReplacerVolatile) → after ≡ Some v → v.mode ≡ Booting → running ≡ Some v)
      → TurnSays running (record { why = y; role = after; kept = None; sends = [] })
  still_says running after y other stays = record {
    asks = λ d m. absurd m;
    begins = λ s v es q. cc;
    boots = λ v e m. (v, stays v e m, (inl m, refl));
    decided = λ e. absurd (other e);
  }

  module _ (me : RoleId) (is : me.kind ≡ kind.Replacer) (d : ReplacerDurable) where
    row_kept : (v : ReplacerVolatile) (i : Input) (s : List ℕ) (b : Round) (es : List Entry)
        → (replacer_row w.cluster me d v i).kept ≡ Some (kept.Boot s b es) → ⊥
    row_kept v i s b es e = no_matchmaker (sym is ∙ subst (λ o. IsKept me.kind o) e (replacer_kinds w.cluster me is d v i).keeps)
      where
        no_matchmaker : kind.Replacer ≡ kind.Matchmaker → ⊥
        no_matchmaker e = cc

    whole_says : (v : ReplacerVolatile) (i : Input) → TurnSays (Some v) (whole_turn (replacer_row w.cluster me d v i))
    whole_says v i =
        let o = replacer_row w.cluster me d v i in
        let says = row_says w.cluster me d v i in
        record {
          asks = λ x m s b es e. (v, refl, says.asks x m s b es e);
          begins = go o.kept refl;
          boots = λ u e m. (
            v,
            refl,
            subst (λ (x : ReplacerVolatile). Begins v o.why x.next) (same_Some o.volatile u e)
                (says.boots (subst (λ (x : ReplacerVolatile). x.mode ≡ Booting) (sym (same_Some o.volatile u e)) m)),
          );
          decided = λ e u q.
              let p = says.decided e in
              let same = same_Some v u q in (
                o.volatile,
                refl,
                p.0,
                subst (λ (x : ReplacerVolatile). o.volatile.set ≡ x.set) same p.1,
                subst (λ (x : ReplacerVolatile). o.volatile.next ≡ x.next) same p.2,
              );
        }
      where
        go : (r : Option Record) → (replacer_row w.cluster me d v i).kept ≡ r → (s : List ℕ) (b : Round) (es : List Entry)
            → option_map written.Record r ≡ Some (written.Record (kept.Boot s b es)) → ⊥
        go None e s b es q = cc
        go (Some r) e s b es q = row_kept v i s b es (e ∙ cc)

    cut_says : (v : ReplacerVolatile) (i : Input) (cut : Cut) (r : Option Record) → (replacer_row w.cluster me d v i).kept ≡ r
        → TurnSays (Some v) (turn_with cut r (replacer_row w.cluster me d v i))
    cut_says v i cut None e = whole_says v i
    cut_says v i Whole (Some r) e = whole_says v i
    cut_says v i Torn (Some r) e = still_says (Some v) None why.Torn (λ q. cc) (λ u q m. cc)
    cut_says v i Kept (Some r) e = record {
      asks = λ x m. absurd m;
      begins = λ s b es q. row_kept v i s b es (e ∙ cc);
      boots = λ u q m. cc;
      decided = λ q. cc;
    }

    idle : (v : ReplacerVolatile) → ◌≡◌ {A = Option ReplacerVolatile} (Some (replacer_rules.fresh w.cluster d)) (Some v)
        → v.mode ≡ Booting → ⊥
    idle v e m =
        let same = same_Some (replacer_rules.fresh w.cluster d) v e in
        let p : Idle ≡ Booting = ap (λ (x : ReplacerVolatile). x.mode) same ∙ m in
        cc

    turn_says : (act : Act) (running : Option ReplacerVolatile) → TurnSays running (turn replacer_rules w.cluster me d act running)
    turn_says (Give i cut) None = still_says None None why.Down (λ q. cc) (λ u q m. q)
    turn_says (Give i cut) (Some v) = cut_says v i cut ((replacer_row w.cluster me d v i).kept) refl
    turn_says (Snap cut) None = still_says None None why.Down (λ q. cc) (λ u q m. q)
    turn_says (Snap cut) (Some v) = still_says (Some v) (Some v) why.Idle (λ q. cc) (λ u q m. q)
    turn_says Stop None = still_says None None why.Down (λ q. cc) (λ u q m. q)
    turn_says Stop (Some v) = still_says (Some v) None why.Crashed (λ q. cc) (λ u q m. cc)
    turn_says Wake None = either_way (TurnSays None) (names_role w.cluster me)
        (still_turn (Some (replacer_rules.fresh w.cluster d)) why.Opened) (still_turn None why.Down)
        (still_says None (Some (replacer_rules.fresh w.cluster d)) why.Opened (λ q. cc) (λ u q m. absurd (idle u q m)))
        (still_says None None why.Down (λ q. cc) (λ u q m. q))
    turn_says Wake (Some v) = still_says (Some v) (Some v) why.Up (λ q. cc) (λ u q m. q)

  module _ (me : RoleId) (is : me.kind ≡ kind.Replacer) (act : Act) where
    abbrev dur : ReplacerDurable
    dur = durable_part replacer_rules me w.kept

    module _ (running : Option ReplacerVolatile) (tied : replacer_volatile (w.roles me) ≡ running) where
      abbrev done : Turn ReplacerVolatile
      done = turn replacer_rules w.cluster me dur act running

      abbrev ch : Change
      ch = changed ReplacerIn me w.roles done

      -- its state, by its name's parts
      knew_it : (u : ReplacerVolatile) → running ≡ Some u → w.roles (role kind.Replacer me.index) ≡ ReplacerIn u
      knew_it u e = subst (λ (a : RoleId). w.roles a ≡ ReplacerIn u) (is_role me kind.Replacer is) (only_replacer (w.roles me) u (tied ∙ e))

      says : TurnSays running done
      says = turn_says me is dur act running

      -- it let the set begin before, or decides it now
      either : (s : List ℕ) → (u : ReplacerVolatile) × (running ≡ Some u) × Begins u done.why s → Was s ⊎ DecidedBy ch s
      either s x = elim x.2.0 [
        | inl m ↦ inl (subst Was x.2.1 (was_booting me.index x.0 (knew_it x.0 x.1) m))
        | inr y ↦ inr record {
          index = me.index;
          volatile = x.0;
          at_it = ap (λ a. Some a) (is_role me kind.Replacer is);
          word = y;
          knew = knew_it x.0 x.1;
          next_is = x.2.1;
        }
      ]

      after : (x : ℕ) (v : ReplacerVolatile) → ch.roles (role kind.Replacer x) ≡ ReplacerIn v → v.mode ≡ Booting
          → Was v.next ⊎ DecidedBy ch v.next
      after x v e m = ⊎_elim
          (λ t. either v.next (says.boots v (up_is done.role v (sym (state_own me (state_of ReplacerIn done.role) w.roles)
          ∙ subst (λ (a : RoleId). ch.roles a ≡ ReplacerIn v) (same_role-true (role kind.Replacer x) me t) e)) m))
          (λ f. inl (was_booting x v (sym (state_other me (role kind.Replacer x) (state_of ReplacerIn done.role) w.roles f) ∙ e) m))
          (bool_cases (same_role (role kind.Replacer x) me))

      turn_follows : Follows ch
      turn_follows = record {
        asks = λ d m s v es e. either s (says.asks d m s v es e);
        begins = λ who s v es m. absurd (says.begins s v es (kept_of me who done.kept (kept.Boot s v es) m));
        boots = after;
        decides = λ who kind_is at word v knew.
            let mine : me ≡ who = same_Some me who at in
            let place = subst (λ (a : RoleId). w.roles a ≡ ReplacerIn v) (sym mine) knew in
            let r = says.decided word v (sym tied ∙ ap replacer_volatile place) in (
              r.0,
              subst (λ (a : RoleId). ch.roles a ≡ ReplacerIn r.0) mine
                  (state_own me (state_of ReplacerIn done.role) w.roles ∙ ap (state_of ReplacerIn) r.1),
              r.2,
              r.3,
              r.4,
            );
      }

  -- a turn of a matchmaker

  module _ (me : RoleId) (d : MatchmakerDurable) where
    boot_was : (i : Input) → Given w.sent me i → (s : List ℕ) (b : Round) (es : List Entry)
        → (matchmaker_row w.cluster me d tt i).kept ≡ Some (kept.Boot s b es) → Was s
    boot_was (input.Take l) given =
        by_test (λ (o : Outcome (Unit {0})). (s : List ℕ) (b : Round) (es : List Entry) → o.kept ≡ Some (kept.Boot s b es) → Was s)
        (same_role l.to me && names w.cluster l) _ _
        (λ t s b es e. was_asked l given.1 s b es (boot_asked w.cluster me d l.from l.msg s b es e))
        (λ f s b es e. cc)
    boot_was input.Tick given = λ s b es e. cc
    boot_was (input.Order order) given = λ s b es e. cc

  matchmaker_turns : (act : Act) (me : RoleId) → GivenBy w.sent me act → me.kind ≡ kind.Matchmaker → (running : Option (Unit {0}))
      → IsMild (turn matchmaker_rules w.cluster me (durable_part matchmaker_rules me w.kept) act running)
  matchmaker_turns act me given is =
      let d = durable_part matchmaker_rules me w.kept in
      turn_mild matchmaker_rules me (λ e. no_replacer (sym is ∙ e)) d act (λ v i. matchmaker_kinds w.cluster me is d i)
      (λ v i cut p. boot_was me d i (given i cut p)) act refl
    where
      no_replacer : kind.Matchmaker ≡ kind.Replacer → ⊥
      no_replacer e = cc

  -- an act at a role of each kind

  act_follows : (act : Act) (me : RoleId) → GivenBy w.sent me act → (k : Kind) → me.kind ≡ k
      → Follows (act_of w.cluster w.roles w.kept act me k)
  act_follows act me given kind.Client is = unchanged _ (λ x. refl) (λ d m. absurd m) (λ who t v es m. absurd m) (λ who k at word. cc)
  act_follows act me given kind.Batcher is =
      mild_follows BatcherIn me kind.Batcher is (λ e. cc) _
      (calm_turns batcher_rules me kind.Batcher is (λ e. cc) act (λ e. cc) (λ d v i. batcher_kinds w.cluster me is v i) _)
  act_follows act me given kind.Leader is =
      mild_follows LeaderIn me kind.Leader is (λ e. cc) _
      (calm_turns leader_rules me kind.Leader is (λ e. cc) act (λ e. cc) (λ d v i. leader_kinds w.cluster me is d v i) _)
  act_follows act me given kind.Proxy is =
      mild_follows ProxyIn me kind.Proxy is (λ e. cc) _
      (calm_turns proxy_rules me kind.Proxy is (λ e. cc) act (λ e. cc) (λ d v i. proxy_kinds w.cluster me is v i) _)
  act_follows act me given kind.Acceptor is =
      mild_follows plain me kind.Acceptor is (λ e. cc) _
      (calm_turns acceptor_rules me kind.Acceptor is (λ e. cc) act (λ e. cc) (λ d v i. acceptor_kinds w.cluster me is d i) _)
  act_follows act me given kind.Matchmaker is =
      mild_follows plain me kind.Matchmaker is (λ e. cc) _ (matchmaker_turns act me given is _)
  act_follows act me given kind.Replica is =
      mild_follows ReplicaIn me kind.Replica is (λ e. cc) _
      (calm_turns replica_rules me kind.Replica is (λ e. cc) act (λ e. cc) (λ d v i. replica_kinds w.cluster me is d v i) _)
  act_follows act me given kind.Unbatcher is =
      mild_follows plain me kind.Unbatcher is (λ e. cc) _
      (calm_turns unbatcher_rules me kind.Unbatcher is (λ e. cc) act (λ e. cc) (λ d v i. unbatcher_kinds w.cluster me is i) _)
  act_follows act me given kind.Reader is =
      mild_follows ReaderIn me kind.Reader is (λ e. cc) _
      (calm_turns reader_rules me kind.Reader is (λ e. cc) act (λ e. cc) (λ d v i. reader_kinds w.cluster me is d v i) _)
  act_follows act me given kind.Replacer is = turn_follows me is act (replacer_volatile (w.roles me)) refl

  acts : (act : Act) (me : RoleId) → GivenBy w.sent me act → Follows (act_at w act me)
  acts act me given = act_follows act me given me.kind refl

  still : (who : Option RoleId) (y : Why) → (y ≡ why.Decided → ⊥) → Follows (nothing who w.roles y)
  still who y other = unchanged _ (λ x. refl) (λ d m. absurd m) (λ a t v es m. absurd m) (λ a k at word. other word)

  comes : (cut : Cut) (o : Option Letter) → ((d : Letter) → o ≡ Some d → Member d w.sent) → Follows (come w cut o)
  comes cut None sent = still None why.Absent (λ e. cc)
  comes cut (Some d) sent = acts (Give (input.Take d) cut) d.to (λ i k e. taken i k e)
    where
      taken : (i : Input) (k : Cut) → Give (input.Take d) cut ≡ Give i k → Given w.sent d.to i
      taken i k e = let q : input.Take d ≡ i = cc in subst (λ x. Given w.sent d.to x) q (refl, sent d refl)

  -- a client asks nobody to begin
  request_asks : (n : ℕ) (e : Event) → NoBoot (request n e)
  request_asks n (event.Write command batcher) =
      Member-one (λ (d : Letter). (t : List ℕ) (v : Round) (es : List Entry) → msg.BootA t v es ≡ d.msg → ⊥) _ (λ t v es e. cc)
  request_asks n (event.Read client seq floor reader replica key) =
      Member-one (λ (d : Letter). (t : List ℕ) (v : Round) (es : List Entry) → msg.BootA t v es ≡ d.msg → ⊥) _ (λ t v es e. cc)
  request_asks n (event.Session client seq floor replica key) =
      Member-one (λ (d : Letter). (t : List ℕ) (v : Round) (es : List Entry) → msg.BootA t v es ≡ d.msg → ⊥) _ (λ t v es e. cc)
  request_asks n (event.Deliver number cut) = λ d m. absurd m
  request_asks n (event.Tick r) = λ d m. absurd m
  request_asks n (event.Order leader order cut) = λ d m. absurd m
  request_asks n (event.Replace replacer set cut) = λ d m. absurd m
  request_asks n (event.Offer replica to slot) = λ d m. absurd m
  request_asks n (event.Snap r cut) = λ d m. absurd m
  request_asks n (event.Crash r) = λ d m. absurd m
  request_asks n (event.Restart r) = λ d m. absurd m

  asked : (e : Event) (t : Token) → Follows (ask w e (Some t))
  asked e t =
      by_test Follows (is_stale t e w.events) _ _
      (λ k. still (Some (role kind.Client t.client)) why.Stale (λ q. cc))
      (λ k. unchanged _ (λ x. refl) (request_asks (heard_by t.client w.sent w.events) e) (λ a s v es m. absurd m) (λ a j at word. cc))

  no_given : (me : RoleId) (act : Act) → ((i : Input) (cut : Cut) → act ≡ Give i cut → ⊥) → GivenBy w.sent me act
  no_given me act none i cut e = absurd (none i cut e)

  pub follows : (e : Event) → Follows (change w e)
  follows (event.Write command batcher) = asked (event.Write command batcher) (record { client = command.client; seq = command.seq })
  follows (event.Read client seq floor reader replica key) =
      asked (event.Read client seq floor reader replica key) (record { client = client; seq = seq })
  follows (event.Session client seq floor replica key) =
      asked (event.Session client seq floor replica key) (record { client = client; seq = seq })
  follows (event.Deliver n cut) = comes cut (slice_get w.sent n) (λ d e. Member-at d w.sent n e)
  follows (event.Tick r) = acts (Give input.Tick Whole) r (λ i cut e. let q : input.Tick ≡ i = cc in subst (λ x. Given w.sent r x) q tt)
  follows (event.Order l order cut) = acts (Give (input.Order order) cut) (role kind.Leader l)
      (λ i k e. let q : input.Order order ≡ i = cc in subst (λ x. Given w.sent (role kind.Leader l) x) q tt)
  follows (event.Replace x s cut) =
      acts (Give (input.Order (Replace s)) cut) (role kind.Replacer x)
      (λ i k e. let q : input.Order (Replace s) ≡ i = cc in subst (λ y. Given w.sent (role kind.Replacer x) y) q tt)
  follows (event.Offer p to s) =
      acts (Give (input.Order (Offer to s)) Whole) (role kind.Replica p)
      (λ i k e. let q : input.Order (Offer to s) ≡ i = cc in subst (λ y. Given w.sent (role kind.Replica p) y) q tt)
  follows (event.Snap r cut) = acts (Snap cut) r (no_given r (Snap cut) (λ i k e. cc))
  follows (event.Crash r) = acts Stop r (no_given r Stop (λ i k e. cc))
  follows (event.Restart r) = acts Wake r (no_given r Wake (λ i k e. cc))
