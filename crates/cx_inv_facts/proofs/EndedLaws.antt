-- Each step keeps what is so of a round that was finished.
use Rattle.cx_inv_run.proofs.Common.{◌≡◌, ℕ, ◌≤◌, true, false, ◌⊎◌, List, ◌∷◌, ◌++◌, Option, None, Some, ap, sym, subst, ◌∙◌, refl, inl}
use Rattle.cx_inv_run.proofs.Common.{inr, Cluster, Value, Event, Kind, RoleId, Round, Shape, role, same_role, is_before, Letter, Input}
use Rattle.cx_inv_run.proofs.Common.{KeptRecord, Record, Msg, Stage, Off, Informing, Collecting, Retired, acceptor_rules, Collection}
use Rattle.cx_inv_run.proofs.Common.{IsProposed, IsRetiring, LeaderDurable, LeaderVolatile, leader_rules, leader_row, leader_after}
use Rattle.cx_inv_run.proofs.Common.{round_of, matchmaker_rules, Member, Outcome, HasKept, IsConfig, reader_rules, replacer_rules}
use Rattle.cx_inv_run.proofs.Common.{replica_rules, request, IsSender, IsKept, OfKind, Lands, Laws, State, Down, BatcherIn, LeaderIn}
use Rattle.cx_inv_run.proofs.Common.{ProxyIn, ReplicaIn, ReaderIn, ReplacerIn, plain, fresh_state, opened_state, set_state, entry_by}
use Rattle.cx_inv_run.proofs.Common.{snap_by, with_record, durable_of, Given, durable_own, durable_other, set_running, kept_longer}
use Rattle.cx_inv_run.proofs.Common.{Member-first, Member-one, before-itself, snap_same, batcher_kinds, proxy_kinds, acceptor_kinds}
use Rattle.cx_inv_run.proofs.Common.{matchmaker_kinds, acceptor_snap_same, reader_snap_same, replica_kinds, unbatcher_kinds, reader_kinds}
use Rattle.cx_inv_run.proofs.Common.{leader_kinds, replacer_kinds}
use Rattle.cx_inv_match.specs.Prelude.{InState, IsChosenIn}
use Rattle.cx_base.specs.declared.event.Event.TheVariants as event
use Rattle.cx_base.specs.declared.role.Kind.TheVariants as kind
use Rattle.cx_letter.specs.declared.kept.Record.TheVariants as kept
use Rattle.cx_letter.specs.declared.message.Msg.TheVariants as msg
use Rattle.cx_inv_vote.proofs.Leaders.{leader_lands}
use Rattle.cx_inv_vote.proofs.Send.{proposed_cases, retiring_cases}
use Rattle.cx_inv_facts.specs.Ended.{IsColumnInformed, StageFacts, EndedIn, EndedState, IsEnded, Known, EndedSince}
use Rattle.cx_inv_facts.proofs.EndedRows.{MsgFits, ends_on}
use Rattle.cx_inv_facts.proofs.LeaderRows.{leader_next}
use Rattle.cx_inv_facts.proofs.Next.{AllNext}

module _ (i : Round) (cw end : ℕ) where
  -- with more records and more datagrams

  module _ (history longer : List KeptRecord) (sent more : List Letter) (has : (k : KeptRecord) → Member k history → Member k longer)
      (has_sent : (d : Letter) → Member d sent → Member d more) where
    chosen_more : (s : ℕ) (v : Value) → IsChosenIn history i s v → IsChosenIn longer i s v
    chosen_more s v h = record {
      grid = h.grid;
      config = (h.config.0, has _ h.config.1);
      column = h.column;
      in_grid = h.in_grid;
      some_row = h.some_row;
      voted = λ a l. let x = h.voted a l in (x.0, has _ x.1);
    }

    column_more : IsColumnInformed history sent i cw end → IsColumnInformed longer more i cw end
    column_more h = record {
      grid = h.grid;
      config = (h.config.0, has _ h.config.1);
      mark = h.mark;
      from_cw = h.from_cw;
      some_row = h.some_row;
      column = h.column;
      in_grid = h.in_grid;
      informed = λ a l. let x = h.informed a l in (x.0, x.1, x.2, has_sent _ x.3);
      chosen = λ s l k. let x = h.chosen s l k in (x.0, chosen_more s x.0 x.1);
    }

    retires_more : (k : Collection) (s : Stage) → StageFacts history sent i cw end k s → StageFacts longer more i cw end k s
    retires_more k Off h = tt
    retires_more k Informing h = h
    retires_more k Collecting h = column_more h
    retires_more k Retired h = tt

    ended_more : (v : LeaderVolatile) → EndedIn history sent i cw end v → EndedIn longer more i cw end v
    ended_more v (inl t) = inl t
    ended_more v (inr x) =
        inr record { mode = x.mode; low = x.low; high = x.high; stage = retires_more v.collection v.collection.stage x.stage }

    state_more : (a : RoleId) → durable_of leader_rules a longer ≡ durable_of leader_rules a history → (s : State)
        → EndedState history sent i cw end a s → EndedState longer more i cw end a s
    state_more a same (LeaderIn v) h = λ e. ended_more v (h (subst (λ (d : LeaderDurable). round_of d.own ≡ i) same e))
    state_more a same s h = tt

    -- after a step of one role
    module _ (states : RoleId → State) (h : IsEnded i cw end history sent states) (me : RoleId) (s : State) where
      ended_after : ((t : ℕ) (v : Value) → IsProposed more i t v → IsProposed sent i t v ⊎ (cw ≤ t))
          → (IsRetiring more i → IsRetiring sent i ⊎ IsColumnInformed history sent i cw end)
          → EndedState longer more i cw end me s
          → ((a : RoleId) → same_role a me ≡ false → durable_of leader_rules a longer ≡ durable_of leader_rules a history)
          → IsEnded i cw end longer more (set_state me s states)
      ended_after proposals retirings own others = record {
        low = λ t v x. elim (proposals t v x) [ inl y ↦ h.low t v y | inr l ↦ l ];
        retiring = λ x. column_more (elim (retirings x) [ inl y ↦ h.retiring y | inr y ↦ y ]);
        running = set_running (λ a x. EndedState longer more i cw end a x) me s states own
            (λ a e. state_more a (others a e) (states a) (h.running a));
      }

  -- what is sent

  module _ (history : List KeptRecord) (sent : List Letter) where
    fits_proposed : (ds : List Letter) → ((d : Letter) → Member d ds → MsgFits history sent i cw end d.msg)
        → (t : ℕ) (v : Value) → IsProposed (sent ++ ds) i t v → IsProposed sent i t v ⊎ (cw ≤ t)
    fits_proposed ds fits t v x = elim (proposed_cases sent ds i t v x) [ inl y ↦ inl y | inr y ↦ inr (fits _ y.4 refl) ]

    fits_retiring : (ds : List Letter) → ((d : Letter) → Member d ds → MsgFits history sent i cw end d.msg)
        → IsRetiring (sent ++ ds) i → IsRetiring sent i ⊎ IsColumnInformed history sent i cw end
    fits_retiring ds fits x = elim (retiring_cases sent ds i x) [ inl y ↦ inl y | inr y ↦ inr (fits _ y.3 refl) ]

    other_fits : (k : Kind) → (k ≡ kind.Leader → ⊥) → (m : Msg) → IsSender k m → MsgFits history sent i cw end m
    other_fits k other (msg.Propose j g s low v) e = absurd (other e)
    other_fits k other (msg.GarbageA j g) e = absurd (other e)
    other_fits k other m e = tt

    request_fits : (n : ℕ) (e : Event) (d : Letter) → Member d (request n e) → MsgFits history sent i cw end d.msg
    request_fits n (event.Write command batcher) d m = Member-one (λ (x : Letter). MsgFits history sent i cw end x.msg) _ tt d m
    request_fits n (event.Read client seq floor reader replica key) d m =
        Member-one (λ (x : Letter). MsgFits history sent i cw end x.msg) _ tt d m
    request_fits n (event.Session client seq floor replica key) d m =
        Member-one (λ (x : Letter). MsgFits history sent i cw end x.msg) _ tt d m
    request_fits n other d m = absurd m

  others_keep : (me : RoleId) (o : Option Record) (history : List KeptRecord) (a : RoleId) → same_role a me ≡ false
      → durable_of leader_rules a (with_record me o history) ≡ durable_of leader_rules a history
  others_keep me None history a e = refl
  others_keep me (Some r) history a e = durable_other leader_rules me a r history e

  module _ (past : List KeptRecord) where
    -- a row's outcome
    landed : {V : Type 0} (history : List KeptRecord) (sent : List Letter) (states : RoleId → State) (h : IsEnded i cw end history sent
        states) (me : RoleId) (make : V → State) (o : Outcome V) → ((d : Letter) → Member d o.sends → MsgFits history sent i cw end d.msg)
        → EndedState (with_record me o.kept history) (sent ++ o.sends) i cw end me (make o.volatile)
        → Lands (EndedSince past i cw end) history sent states me make o
    landed history sent states h me make o fits own = record {
      whole = λ has.
          ended_after history (with_record me o.kept history) sent (sent ++ o.sends) (kept_longer me o.kept history)
          (λ d m. Member-first d sent o.sends m) states h me (make o.volatile)
          (fits_proposed history sent o.sends fits) (fits_retiring history sent o.sends fits) own (others_keep me o.kept history);
      cut = λ r e has.
          ended_after history (entry_by me r ∷ history) sent sent (λ k m. inr m) (λ d m. m) states h me Down
          (λ t v x. inl x) (λ x. inl x) tt (others_keep me (Some r) history);
    }

    -- another kind of role
    calm : {V : Type 0} (history : List KeptRecord) (sent : List Letter) (states : RoleId → State) (h : IsEnded i cw end history sent
        states) (me : RoleId) (make : V → State) (o : Outcome V) → (me.kind ≡ kind.Leader → ⊥) → OfKind me o
        → EndedState (with_record me o.kept history) (sent ++ o.sends) i cw end me (make o.volatile)
        → Lands (EndedSince past i cw end) history sent states me make o
    calm history sent states h me make o other kinds own =
        landed history sent states h me make o (λ d m. other_fits history sent me.kind other d.msg (kinds.sends d m).1) own

    -- a leader

    module _ (c : Cluster) (g : Shape) (config : IsConfig past i g) (history : List KeptRecord) (sent : List Letter)
        (states : RoleId → State) (known : Known c past history sent states) (l : ℕ) (v : LeaderVolatile) (j : Input)
        (at : states (role kind.Leader l) ≡ LeaderIn v) (given : Given sent (role kind.Leader l) j) where
      abbrev me : RoleId
      me = role kind.Leader l

      abbrev dur : LeaderDurable
      dur = durable_of leader_rules me history

      abbrev o : Outcome LeaderVolatile
      o = leader_row c me dur v j

      -- a round that it begins now is another one
      not_again : (r : Record) → IsKept kind.Leader (Some r) → o.kept ≡ Some r → round_of (leader_after dur r).own ≡ i → ⊥
      not_again (kept.Round k h) s e p =
          let next = subst (λ (x : Option Record). AllNext history me x) e (leader_next c history sent states known.facts l v j) in
          let after = (leader_lands c history sent states l v j known.kinds known.facts at given).cut (kept.Round k h) e in
          let owner : me ≡ role kind.Leader k.id = after.owner me k h (inl refl) in
          let same : config.0 ≡ me = known.facts.owner config.0 i g (known.has _ config.1) ∙ ap (λ (x : Round). role kind.Leader x.id)
          (sym p) ∙ sym owner in
          before-itself i
          (subst (λ x. is_before i x ≡ true) p (next.1 i g (subst (λ a. HasKept history a (kept.Round i g)) same (known.has _ config.1))))
      not_again r s e p = cc

      knows : InState c history sent me (LeaderIn v)
      knows = subst (λ (s : State). InState c history sent me s) at (known.facts.running me)

      module _ (h : IsEnded i cw end history sent states) where
        ended_leader : round_of dur.own ≡ i → EndedIn history sent i cw end v
        ended_leader = subst (λ (s : State). EndedState history sent i cw end me s) at (h.running me)

        after_row : (r : Option Record) → o.kept ≡ r
            → EndedState (with_record me r history) (sent ++ o.sends) i cw end me (LeaderIn o.volatile)
        after_row None e = λ p.
            ended_more history history sent (sent ++ o.sends) (λ k m. m) (λ d m. Member-first d sent o.sends m) o.volatile
            ((ends_on c history sent states known.kinds i cw end me dur v knows.0 knows.1 ended_leader j given).state e p)
        after_row (Some r) e = λ p.
            absurd (not_again r (subst (λ (x : Option Record). IsKept kind.Leader x) e (leader_kinds c me refl dur v j).keeps) e
            (subst (λ (x : LeaderDurable). round_of x.own ≡ i) (durable_own leader_rules me r history) p))

        leader_ended : Lands (EndedSince past i cw end) history sent states me LeaderIn o
        leader_ended =
            landed history sent states h me LeaderIn o
            (ends_on c history sent states known.kinds i cw end me dur v knows.0 knows.1 ended_leader j given).sends (after_row o.kept refl)

    fresh_ended : (c : Cluster) (history : List KeptRecord) (sent : List Letter) (me : RoleId) (k : Kind)
        → EndedState history sent i cw end me (fresh_state c k)
    fresh_ended c history sent a kind.Leader = λ e. inl refl
    fresh_ended c history sent a other = tt

    opened_ended : (c : Cluster) (history : List KeptRecord) (sent : List Letter) (me : RoleId) (k : Kind)
        → EndedState history sent i cw end me (opened_state c me history k)
    opened_ended c history sent a kind.Replacer = tt
    opened_ended c history sent a other = fresh_ended c history sent a other

    pub ended_laws : (c : Cluster) (g : Shape) → IsConfig past i g → Laws c (λ n e. Unit {0}) (Known c past) (EndedSince past i cw end)
    ended_laws c g config = record {
      same = λ history sent states others same h has.
          let x = h has in
          record {
            low = x.low;
            retiring = x.retiring;
            running = λ a. subst (λ (s : State). EndedState history sent i cw end a s) (same a) (x.running a);
          };
      start = λ states starts has. absurd (has _ config.1);
      stop = λ history sent states me h has.
          ended_after history history sent sent (λ k m. m) (λ d m. m) states (h has) me Down (λ t v x. inl x) (λ x. inl x) tt (λ a e. refl);
      wake = λ history sent states me h down has. ended_after history history sent sent (λ k m. m) (λ d m. m) states (h has) me
          (opened_state c me history me.kind) (λ t v x. inl x) (λ x. inl x) (opened_ended c history sent me me.kind) (λ a e. refl);
      ask = λ history sent states n e allowed known h has.
          let x = h has in
          record {
            low = λ t v y.
                elim (fits_proposed history sent (request n e) (request_fits history sent n e) t v y) [ inl z ↦ x.low t v z | inr l ↦ l ];
            retiring = λ y. column_more history history sent (sent ++ request n e) (λ k m. m) (λ d m. Member-first d sent (request n e) m)
                (elim (fits_retiring history sent (request n e) (request_fits history sent n e) y) [ inl z ↦ x.retiring z | inr z ↦ z ]);
            running = λ a. state_more history history sent (sent ++ request n e) (λ k m. m) (λ d m. Member-first d sent (request n e) m) a
                refl (states a) (x.running a);
          };
      batcher = λ history sent states b v j known h at given. calm history sent states (h known.has) (role kind.Batcher b) BatcherIn
          _ (λ p. cc) (batcher_kinds c (role kind.Batcher b) refl v j) tt;
      leader = λ history sent states l v j known h at given. leader_ended c g config history sent states known l v j at given (h known.has);
      proxy = λ history sent states p v j known h at given.
          calm history sent states (h known.has) (role kind.Proxy p) ProxyIn _ (λ q. cc) (proxy_kinds c (role kind.Proxy p) refl v j) tt;
      acceptor = λ history sent states a j known h at given.
          calm history sent states (h known.has) (role kind.Acceptor a) plain _ (λ p. cc)
          (acceptor_kinds c (role kind.Acceptor a) refl (durable_of acceptor_rules (role kind.Acceptor a) history) j) tt;
      matchmaker = λ history sent states m j known h at given.
          calm history sent states (h known.has) (role kind.Matchmaker m) plain _ (λ p. cc)
          (matchmaker_kinds c (role kind.Matchmaker m) refl (durable_of matchmaker_rules (role kind.Matchmaker m) history) j) tt;
      replica = λ history sent states p v j known h at given.
          calm history sent states (h known.has) (role kind.Replica p) ReplicaIn _ (λ q. cc)
          (replica_kinds c (role kind.Replica p) refl (durable_of replica_rules (role kind.Replica p) history) v j) tt;
      snap = λ history sent states p v first known h at e has.
          let longer = snap_by (role kind.Replica p) first ∷ history in
          let x = h known.has in
          record {
            low = x.low;
            retiring = λ y. column_more history longer sent sent (λ k m. inr m) (λ d m. m) (x.retiring y);
            running = λ a. state_more history longer sent sent (λ k m. inr m) (λ d m. m) a
                ((snap_same history known.kinds.keepers p first).leaders a) (states a) (x.running a);
          };
      acceptor_anew = λ history sent states p first known h at e has.
          let longer = snap_by (role kind.Acceptor p) first ∷ history in
          let x = h known.has in
          record {
            low = x.low;
            retiring = λ y. column_more history longer sent sent (λ k m. inr m) (λ d m. m) (x.retiring y);
            running = λ a. state_more history longer sent sent (λ k m. inr m) (λ d m. m) a
                ((acceptor_snap_same history known.kinds.keepers p first).leaders a) (states a) (x.running a);
          };
      reader_anew = λ history sent states p first v known h at e has.
          let longer = snap_by (role kind.Reader p) first ∷ history in
          let x = h known.has in
          record {
            low = x.low;
            retiring = λ y. column_more history longer sent sent (λ k m. inr m) (λ d m. m) (x.retiring y);
            running = λ a. state_more history longer sent sent (λ k m. inr m) (λ d m. m) a
                ((reader_snap_same history known.kinds.keepers p first).leaders a) (states a) (x.running a);
          };
      unbatcher = λ history sent states u j known h at given. calm history sent states (h known.has) (role kind.Unbatcher u) plain
          _ (λ p. cc) (unbatcher_kinds c (role kind.Unbatcher u) refl j) tt;
      reader = λ history sent states r v j known h at given. calm history sent states (h known.has) (role kind.Reader r) ReaderIn
          _ (λ p. cc) (reader_kinds c (role kind.Reader r) refl (durable_of reader_rules (role kind.Reader r) history) v j) tt;
      replacer = λ history sent states x v j known h at given. calm history sent states (h known.has) (role kind.Replacer x) ReplacerIn
          _ (λ p. cc) (replacer_kinds c (role kind.Replacer x) refl (durable_of replacer_rules (role kind.Replacer x) history) v j) tt;
    }
