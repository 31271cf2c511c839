-- A command is batched, proposed, executed by all replicas, and the answer sent to its client.
use Rattle.cx_inv_run.proofs.Common.{◌≡◌, ℕ, true, false, [], ◌∷◌, ◌++◌, None, ap, sym, ◌∙◌, subst, refl, inl, inr, arith, ◌⊎◌, List}
use Rattle.cx_inv_run.proofs.Common.{Option, Some, and_parts, nat_tests, mod_below, same_Some, ◌+◌, ◌%◌, ◌==◌, nat_le, nat_lt, Cluster}
use Rattle.cx_inv_run.proofs.Common.{Answered, Command, Value, RoleId, below, floor_of, is_done, noted_for, is_answer_of, role, same_role}
use Rattle.cx_inv_run.proofs.Common.{Letter, letter, acceptor_rules, BatcherVolatile, batcher_row, LeaderVolatile, leader_row, leader_rules}
use Rattle.cx_inv_run.proofs.Common.{bool_cases, differ_role, not_both, number_itself, same_role-itself, same_number, Member, names_value}
use Rattle.cx_inv_run.proofs.Common.{only_word, replied, Machine, execute, held, replica_rules, results_from, answer_to, unbatcher_row}
use Rattle.cx_inv_run.proofs.Common.{World, state_other, state_own, Member-second, Member-below, BatcherIn, LeaderIn, Plain, durable_of}
use Rattle.cx_base.specs.declared.command.Value.TheVariants.{Batch}
use Rattle.cx_base.specs.declared.role.Kind.TheVariants as kind
use Rattle.cx_base.specs.declared.why.Why.TheVariants as why
use Rattle.cx_base.specs.Fold.{reply_of}
use Rattle.cx_letter.specs.declared.input.Input.TheVariants as input
use Rattle.cx_letter.specs.declared.message.Msg.TheVariants as msg
use Rattle.cx_model.specs.Batcher.{batch_to}
use Rattle.cx_inv_alive.proofs.Moments.{Moment, Goes, moved, to_batcher, to_leader, to_unbatcher, tick_batcher}
use Rattle.cx_inv_alive.proofs.Phase.{less, less_test}
use Rattle.cx_inv_alive.proofs.Serve.{ReadyAt, slot_served, not_less}
use Rattle.cx_inv_alive.proofs.Stages.{is_of, begun_over, settled_at, MayVote, single_grid, proposed_over}
use Rattle.cx_inv_alive.specs.Alive.{submitted, IsAnswered}

noted_own : (client seq : ℕ) (notes : List Answered) (a : Answered) → noted_for client seq notes ≡ Some a → is_answer_of client seq a ≡ true
noted_own client seq [] a e = cc
noted_own client seq (b ∷ notes) a e = go (bool_cases (is_answer_of client seq b)) (noted_own client seq notes a) e
  where
    go : (is_answer_of client seq b ≡ true) ⊎ (is_answer_of client seq b ≡ false)
        → (noted_for client seq notes ≡ Some a → is_answer_of client seq a ≡ true)
        → noted_for client seq (b ∷ notes) ≡ Some a → is_answer_of client seq a ≡ true
    go (inl t) rest e = (let same : Some b ≡ Some a = rw t at e in subst (λ x. is_answer_of client seq x ≡ true) (same_Some b a same) t)
    go (inr f) rest e = (let later : noted_for client seq notes ≡ Some a = rw f at e in rest later)

-- a command with whose number its client isn't done has an answer, the first time and again
record HasAnswer (at : ℕ) (m : Machine) (command : Command) : Type 0 where
  answer : Answered
  is : (execute at m command).answers ≡ answer ∷ []
  client_is : answer.client ≡ command.client
  seq_is : answer.seq ≡ command.seq

has_answer : (at : ℕ) (m : Machine) (command : Command) → is_done command.seq (floor_of command.client m.table.floors) ≡ false
    → HasAnswer at m command
has_answer at m command undone = go (noted_for command.client command.seq m.table.notes) refl
  where
    go : (o : Option Answered) → noted_for command.client command.seq m.table.notes ≡ o → HasAnswer at m command
    go None e = record {
      answer = record { client = command.client; seq = command.seq; at = at; reply = reply_of m.map command.op };
      is = rw (undone, e) refl;
      client_is = refl;
      seq_is = refl;
    }
    go (Some a) e =
        let parts =
        and_parts (a.client == command.client) (a.seq == command.seq) (noted_own command.client command.seq m.table.notes a e) in
        record {
          answer = a;
          is = rw (undone, e) refl;
          client_is = same_number a.client command.client parts.0;
          seq_is = same_number a.seq command.seq parts.1;
        }

-- ROWS

abbrev pub batch_of : Command → Value
batch_of command = Batch (command ∷ [])

module _ (c : Cluster) (b l : ℕ) (command : Command) (v : BatcherVolatile) (batched : nat_lt b c.batchers ≡ true)
    (known : nat_lt command.client c.clients ≡ true) (knows : v.round.id ≡ l) where
  abbrev batch : Letter
  batch = letter (role kind.Batcher b) (role kind.Leader l) (msg.Batch (command ∷ []))

  sends_to : (u : BatcherVolatile)
      → replied why.Batched u (batch_to (role kind.Batcher b) v.round (command ∷ []) ∷ []) ≡ replied why.Batched u (batch ∷ [])
  sends_to u = ap (λ n. replied why.Batched u (letter (role kind.Batcher b) (role kind.Leader n) (msg.Batch (command ∷ [])) ∷ [])) knows

  row_submit : nat_le c.batch 1 ≡ true → batcher_row c (role kind.Batcher b) tt (record v { waiting = [] })
      (input.Take (submitted command b)) ≡ replied why.Batched (record v { waiting = [] }) (batch ∷ [])
  row_submit h = rw (batched, known, same_role-itself (role kind.Batcher b), h) (sends_to (record v { waiting = [] }))

  row_kept : nat_le c.batch 1 ≡ false → batcher_row c (role kind.Batcher b) tt (record v { waiting = [] })
      (input.Take (submitted command b)) ≡ only_word why.Held (record v { waiting = command ∷ [] })
  row_kept h = rw (batched, known, same_role-itself (role kind.Batcher b), h) refl

  row_tick : batcher_row c (role kind.Batcher b) tt (record v { waiting = command ∷ [] }) input.Tick
      ≡ replied why.Batched (record v { waiting = [] }) (batch ∷ [])
  row_tick = sends_to (record v { waiting = [] })

not_full : (e : ℕ) → (e == e + 32) ≡ false
not_full e = grind (arith, nat_tests)

abbrev with_command : LeaderVolatile → ℕ → Command → LeaderVolatile
with_command v e command =
    record (settled_at v e) { next = e + 1; proposed = v.proposed ++ record { slot = e; value = batch_of command } ∷ [] }

row_batch : (c : Cluster) (l r a e b : ℕ) (command : Command) (v : LeaderVolatile) → nat_lt l c.leaders ≡ true → nat_lt b c.batchers ≡ true
    → nat_lt command.client c.clients ≡ true → (e == 1099511627776) ≡ false
    → leader_row c (role kind.Leader l) (begun_over l r (single_grid a)) (settled_at v e)
    (input.Take (letter (role kind.Batcher b) (role kind.Leader l) (msg.Batch (command ∷ []))))
    ≡ replied why.Proposed (with_command v e command) (proposed_over c l r a e (record { slot = e; value = batch_of command }) ∷ [])
row_batch c l r a e b command v led batched known left =
    rw (led, batched, known, same_role-itself (role kind.Leader l), not_full e, left) refl

row_results : (c : Cluster) (p u slot : ℕ) (a : Answered) → nat_lt p c.replicas ≡ true → nat_lt u c.unbatchers ≡ true
    → nat_lt a.client c.clients ≡ true
    → unbatcher_row c (role kind.Unbatcher u) tt tt
    (input.Take (letter (role kind.Replica p) (role kind.Unbatcher u) (msg.Results slot (a ∷ []))))
    ≡ replied why.Unbatched tt (answer_to (role kind.Unbatcher u) a ∷ [])
row_results c p u slot a one two named = rw (one, two, named, same_role-itself (role kind.Unbatcher u)) refl

results_are : (c : Cluster) (slot : ℕ) (m : Machine) (command : Command) (a : Answered) → (execute (slot + 1) m command).answers ≡ a ∷ []
    → results_from c (role kind.Replica (slot % c.replicas)) slot m (batch_of command ∷ [])
    ≡ letter (role kind.Replica (slot % c.replicas)) (role kind.Unbatcher (slot % c.unbatchers)) (msg.Results slot (a ∷ [])) ∷ []
results_are c slot m command a is = rw (is, number_itself (slot % c.replicas)) refl

apart_kind : (b : ℕ) (z : RoleId) → is_of kind.Batcher z ≡ false → same_role z (role kind.Batcher b) ≡ false
apart_kind b z f =
    differ_role z (role kind.Batcher b) (λ e. not_both (is_of kind.Batcher z) (subst (λ y. is_of kind.Batcher y ≡ true) (sym e) refl) f)

-- THE STAGE

module _ (c : Cluster) (l r a e b : ℕ) (command : Command) (led : nat_lt l c.leaders ≡ true) (there : nat_lt a c.acceptors ≡ true)
    (replicated : nat_lt 0 c.replicas ≡ true) (unbatched : nat_lt 0 c.unbatchers ≡ true) (batched : nat_lt b c.batchers ≡ true)
    (left : (e == 1099511627776) ≡ false) (known : nat_lt command.client c.clients ≡ true) where
  abbrev goal : World → Type 0
  goal = IsAnswered command

  abbrev me : RoleId
  me = role kind.Leader l

  abbrev it : RoleId
  it = role kind.Batcher b

  abbrev Undone : Moment → Type 0
  Undone x = (p : ℕ) → Member p (below c.replicas)
      → is_done command.seq (floor_of command.client (durable_of replica_rules (role kind.Replica p) x.kept).machine.table.floors) ≡ false

  -- once the batch has come to the leader
  answered_from : (x : Moment) (v : LeaderVolatile) → Member (letter it me (msg.Batch (command ∷ []))) x.sent
      → durable_of leader_rules me x.kept ≡ begun_over l r (single_grid a)
      → x.states me ≡ LeaderIn (settled_at v e) → ReadyAt goal c l r a e led there e x
      → ((u : ℕ) → nat_lt u c.unbatchers ≡ true → x.states (role kind.Unbatcher u) ≡ Plain) → Undone x → Goes goal c x
  answered_from x v m own leads ready unbatchers undone =
      let d = letter it me (msg.Batch (command ∷ [])) in
      let q = proposed_over c l r a e (record { slot = e; value = batch_of command }) in
      let u = with_command v e command in
      let x1 = moved me (LeaderIn u) None (q ∷ []) x in
      let p = e % c.replicas in
      let k = e % c.unbatchers in
      let p_there = mod_below e c.replicas (less 0 c.replicas replicated) in
      let in_it = Member-below p c.replicas p_there in
      let k_there = less_test k c.unbatchers (mod_below e c.unbatchers (less 0 c.unbatchers unbatched)) in
      let machine = (durable_of replica_rules (role kind.Replica p) x.kept).machine in
      let h = has_answer (e + 1) machine command (undone p in_it) in
      let results = letter (role kind.Replica p) (role kind.Unbatcher k) (msg.Results e (h.answer ∷ [])) in
      let named : names_value c (batch_of command) ≡ true = rw known refl in
      to_leader goal c x l d m (settled_at v e) (replied why.Proposed u (q ∷ [])) refl leads
      (ap (λ z. leader_row c me z (settled_at v e) (input.Take d)) own ∙ row_batch c l r a e b command v led batched known left)
      (slot_served goal c l r a e led there e (batch_of command) named (not_less e) x1
      (record {
        plain = state_other me (role kind.Acceptor a) (LeaderIn u) x.states refl ∙ ready.plain;
        voter = ready.voter;
        holds = λ n i. let g = ready.holds n i in record {
          volatile = g.volatile;
          runs = state_other me (role kind.Replica n) (LeaderIn u) x.states refl ∙ g.runs;
          count = g.count;
        };
        proxies = λ n i. let g = ready.proxies n i in (g.0, state_other me (role kind.Proxy n) (LeaderIn u) x.states refl ∙ g.1);
      })
      (Member-second q x.sent (q ∷ []) (inl refl))
      (λ y s.
      to_unbatcher goal c y k results
      (s.results p in_it results (subst (λ z. Member results z) (sym (results_are c e machine command h.answer h.is)) (inl refl)))
      (replied why.Unbatched (tt {0}) (answer_to (role kind.Unbatcher k) h.answer ∷ [])) refl (s.left.states (role kind.Unbatcher k) refl
      ∙ state_other me (role kind.Unbatcher k) (LeaderIn u) x.states refl ∙ unbatchers k k_there)
      (row_results c p k e h.answer (less_test p c.replicas p_there) k_there
      (subst (λ n. nat_lt n c.clients ≡ true) (sym h.client_is) known)) (λ w view. (
        [],
        refl,
        record {
          from = role kind.Unbatcher k;
          at = h.answer.at;
          reply = h.answer.reply;
          answered = subst (λ z. Member (letter (role kind.Unbatcher k) (role kind.Client command.client)
              (msg.Answer command.seq h.answer.at h.answer.reply)) z) (sym view.mail)
              (subst (λ n. Member (letter (role kind.Unbatcher k) (role kind.Client n) (msg.Answer command.seq h.answer.at h.answer.reply))
              (y.sent ++ answer_to (role kind.Unbatcher k) h.answer ∷ [])) h.client_is
              (subst (λ n. Member (letter (role kind.Unbatcher k) (role kind.Client h.answer.client)
              (msg.Answer n h.answer.at h.answer.reply)) (y.sent ++ answer_to (role kind.Unbatcher k) h.answer ∷ [])) h.seq_is
              (Member-second _ y.sent (answer_to (role kind.Unbatcher k) h.answer ∷ []) (inl refl))));
        },
      ))))

  pub answered : (x : Moment) (v : LeaderVolatile) (bv : BatcherVolatile) → Member (submitted command b) x.sent
      → durable_of leader_rules me x.kept ≡ begun_over l r (single_grid a)
      → x.states me ≡ LeaderIn (settled_at v e) → x.states it ≡ BatcherIn (record bv { waiting = [] }) → bv.round.id ≡ l
      → ReadyAt goal c l r a e led there e x
      → ((u : ℕ) → nat_lt u c.unbatchers ≡ true → x.states (role kind.Unbatcher u) ≡ Plain) → Undone x → Goes goal c x
  answered x v bv m own leads runs knows ready unbatchers undone =
      let empty = record bv { waiting = [] } in
      let full = record bv { waiting = command ∷ [] } in
      let d = letter it me (msg.Batch (command ∷ [])) in
      let next : (y : Moment) → Member d y.sent → y.kept ≡ x.kept → ((z : RoleId) → is_of kind.Batcher z ≡ false → y.states z ≡ x.states z)
      → Goes goal c y = λ y there same states.
      answered_from y v there (ap (λ z. durable_of leader_rules me z) same ∙ own) (states me refl ∙ leads)
      (record {
        plain = states (role kind.Acceptor a) refl ∙ ready.plain;
        voter = subst (λ z. MayVote l r e (durable_of acceptor_rules (role kind.Acceptor a) z)) (sym same) ready.voter;
        holds = λ n i. let g = ready.holds n i in record {
          volatile = g.volatile;
          runs = states (role kind.Replica n) refl ∙ g.runs;
          count = ap (λ z. held (durable_of replica_rules (role kind.Replica n) z)) same ∙ g.count;
        };
        proxies = λ n i. let g = ready.proxies n i in (g.0, states (role kind.Proxy n) refl ∙ g.1);
      })
      (λ n i. states (role kind.Unbatcher n) refl ∙ unbatchers n i) (λ p i. subst (λ z. is_done command.seq
      (floor_of command.client (durable_of replica_rules (role kind.Replica p) z).machine.table.floors) ≡ false) (sym same) (undone p i)) in
      elim (bool_cases (nat_le c.batch 1)) [
        | inl t ↦ to_batcher goal c x b (submitted command b) m empty (replied why.Batched empty (d ∷ [])) refl runs
            (row_submit c b l command bv batched known knows t)
            (next (moved it (BatcherIn empty) None (d ∷ []) x) (Member-second d x.sent (d ∷ []) (inl refl)) refl
            (λ z f. state_other it z (BatcherIn empty) x.states (apart_kind b z f)))
        | inr f ↦
            (let y = moved it (BatcherIn full) None [] x in
            to_batcher goal c x b (submitted command b) m empty (only_word why.Held full) refl runs
            (row_kept c b l command bv batched known knows f)
            (tick_batcher goal c y b full (replied why.Batched empty (d ∷ [])) (state_own it (BatcherIn full) x.states)
            (row_tick c b l command bv batched known knows)
            (next (moved it (BatcherIn empty) None (d ∷ []) y) (Member-second d y.sent (d ∷ []) (inl refl)) refl (λ z g. state_other it z
            (BatcherIn empty) y.states (apart_kind b z g) ∙ state_other it z (BatcherIn full) x.states (apart_kind b z g)))))
      ]
