-- An act at one of several seats is the model's act at that role, and leaves the seats with their states and lists.
use Rattle.std.specs.Option.{option_to_list}
use Rattle.std.proofs.Math.Path.{fun_ext}
use Rattle.cx_inv_run.proofs.Common.{◌≡◌, ◌==◌, ◌≤◌, ℕ, true, false, List, ◌++◌, length, Option, None, Some, ap, sym, ◌∙◌, subst}
use Rattle.cx_inv_run.proofs.Common.{append-nil, refl, inl, inr, ◌⊎◌, arith, nat_lt, slice_get, slice_set, slice_index_or, same_Some}
use Rattle.cx_inv_run.proofs.Common.{nat_tests, Cluster, Kind, RoleId, Why, role, same_role, state_own, state_other, acceptor_rules}
use Rattle.cx_inv_run.proofs.Common.{batcher_rules, leader_rules, same_number, bool_cases, differ_role, not_both, number_itself, list_own}
use Rattle.cx_inv_run.proofs.Common.{list_other, matchmaker_rules, names_role, proxy_rules, reader_rules, replacer_rules, replica_rules}
use Rattle.cx_inv_run.proofs.Common.{Rules, State, BatcherIn, LeaderIn, ProxyIn, ReplicaIn, ReaderIn, ReplacerIn, plain, state_of}
use Rattle.cx_inv_run.proofs.Common.{set_state, Turn, turn, still, unbatcher_rules, World, act_of, act_at, changed, durable_part, kept_by}
use Rattle.cx_inv_run.proofs.Common.{list_of, Letter, Act, Give, Snap, Stop, Wake, KeptRecord, Written}
use Rattle.cx_role.proofs.Common.{length-set, slice_get_cases, get_set_same, get_set_other, list_with, Running, Change}
use Rattle.cx_base.specs.declared.role.Kind.TheVariants as kind
use Rattle.cx_base.specs.declared.why.Why.TheVariants as why
use Rattle.cx_world.specs.Seat.{Seat, seat_turn, TurnsFound, TurnsAt, IsSeat, AreSeats}
use Rattle.cx_world.specs.World.{SeatLists, AreOfKind, HasKind, HasSeats, IsChange, state_at, volatile_in, seat_roles}
use Rattle.cx_world.proofs.ByKind.{SeatsOf, kind_cases}

-- the states of a world's roles are those at its seats
pub states_are : (c : Cluster) (roles : RoleId → State) (kept : List KeptRecord) (seats : SeatLists) → HasSeats c roles kept seats
    → roles ≡ seat_roles seats
states_are c roles kept seats has = fun_ext (λ a. go a.kind a.index (has.each a.kind))
  where
    go : (k : Kind) (i : ℕ) → HasKind c roles kept seats k → roles (role k i) ≡ seat_roles seats (role k i)
    go kind.Client i h = h i
    go kind.Batcher i h = h.states i
    go kind.Leader i h = h.states i
    go kind.Proxy i h = h.states i
    go kind.Acceptor i h = h.states i
    go kind.Matchmaker i h = h.states i
    go kind.Replica i h = h.states i
    go kind.Unbatcher i h = h.states i
    go kind.Reader i h = h.states i
    go kind.Replacer i h = h.states i

-- the seats of one kind
module _ {S D V : Type 0} (rules : Rules D V) (c : Cluster) (k : Kind) (kept : List KeptRecord) (who : RoleId) (is_kind : who.kind ≡ k)
    (seats : List (Seat S)) (are : AreSeats rules c k kept seats) (r : Option Written) where
  who_is : ◌≡◌ {A = RoleId} (record { kind = k; index = who.index }) who
  who_is = ap (λ x. record { kind = x; index = who.index }) (sym is_kind)

  other_seat : (j : ℕ) (seat : Seat S) → (j ≡ who.index → ⊥) → slice_get seats j ≡ Some seat
      → IsSeat rules c (record { kind = k; index = j }) (kept ++ kept_by who r) seat
  other_seat j seat differs e =
      let h = are j seat e in
      let apart : (◌≡◌ {A = RoleId} (record { kind = k; index = j }) who → ⊥) = λ p. differs (ap (λ (x : RoleId). x.index) p) in
      record {
        cluster = h.cluster;
        me = h.me;
        records = h.records
            ∙ sym (list_other rules (record { kind = k; index = j }) who kept r (differ_role (record { kind = k; index = j }) who apart));
      }

  own_seat : (seat after : Seat S) → slice_get seats who.index ≡ Some seat → after.cluster ≡ seat.cluster
      → after.me ≡ seat.me → after.records ≡ list_with rules seat.records r
      → IsSeat rules c (record { kind = k; index = who.index }) (kept ++ kept_by who r) after
  own_seat seat after e same_cluster same_me more =
      let h = are who.index seat e in
      record {
        cluster = same_cluster ∙ h.cluster;
        me = same_me ∙ h.me;
        records = more ∙ ap (λ l. list_with rules l r) (h.records ∙ ap (λ x. list_of rules x kept) who_is) ∙ sym (list_own rules who kept r)
            ∙ ap (λ x. list_of rules x (kept ++ kept_by who r)) (sym who_is);
      }

  pub set_seats : (seat after : Seat S) → slice_get seats who.index ≡ Some seat → after.cluster ≡ seat.cluster → after.me ≡ seat.me
      → after.records ≡ list_with rules seat.records r → AreSeats rules c k (kept ++ kept_by who r) (slice_set seats who.index after)
  set_seats seat after found same_cluster same_me more j there e = go (bool_cases (j == who.index))
    where
      go : ((j == who.index) ≡ true) ⊎ ((j == who.index) ≡ false)
          → IsSeat rules c (record { kind = k; index = j }) (kept ++ kept_by who r) there
      go (inl same) =
          let at = same_number j who.index same in
          let here : slice_get (slice_set seats who.index after) who.index ≡ Some there =
          subst (λ n. slice_get (slice_set seats who.index after) n ≡ Some there) at e in
          let it : after ≡ there = same_Some after there (sym (get_set_same seats who.index seat after found) ∙ here) in
          subst (λ n. IsSeat rules c (record { kind = k; index = n }) (kept ++ kept_by who r) there) (sym at)
          (subst (λ x. IsSeat rules c (record { kind = k; index = who.index }) (kept ++ kept_by who r) x) it
          (own_seat seat after found same_cluster same_me more))
      go (inr other) =
          let differs : (j ≡ who.index → ⊥) = λ p. not_both (j == who.index) (subst (λ n. (j == n) ≡ true) p (number_itself j)) other in
          other_seat j there differs (sym (get_set_other seats who.index j after differs) ∙ e)

-- the seats of another kind stay
module _ (c : Cluster) (roles : RoleId → State) (kept : List KeptRecord) (who : RoleId) (s : State) (r : Option Written) where
  stay : {D V : Type 0} (rules : Rules D V) (make : V → State) (k : Kind) (seats : List (Seat (Running D V))) → (k ≡ who.kind → ⊥)
      → AreOfKind rules make c k roles kept seats → AreOfKind rules make c k (set_state who s roles) (kept ++ kept_by who r) seats
  stay rules make k seats differs has =
      let apart : (i : ℕ) → same_role (role k i) who ≡ false =
      λ i. differ_role (role k i) who (λ p. differs (ap (λ (x : RoleId). x.kind) p)) in
      record {
        count = has.count;
        states = λ i. state_other who (role k i) s roles (apart i) ∙ has.states i;
        lists = λ i seat e. let h = has.lists i seat e in
            record { cluster = h.cluster; me = h.me; records = h.records ∙ sym (list_other rules (role k i) who kept r (apart i)) };
      }

  pub others_stay : (seats : SeatLists) (k : Kind) → (k ≡ who.kind → ⊥) → HasKind c roles kept seats k
      → HasKind c (set_state who s roles) (kept ++ kept_by who r) seats k
  others_stay seats kind.Client differs has = λ i. state_other who (role kind.Client i) s roles
      (differ_role (role kind.Client i) who (λ p. differs (ap (λ (x : RoleId). x.kind) p))) ∙ has i
  others_stay seats kind.Batcher differs has = stay batcher_rules BatcherIn kind.Batcher seats.batchers differs has
  others_stay seats kind.Leader differs has = stay leader_rules LeaderIn kind.Leader seats.leaders differs has
  others_stay seats kind.Proxy differs has = stay proxy_rules ProxyIn kind.Proxy seats.proxies differs has
  others_stay seats kind.Acceptor differs has = stay acceptor_rules plain kind.Acceptor seats.acceptors differs has
  others_stay seats kind.Matchmaker differs has = stay matchmaker_rules plain kind.Matchmaker seats.matchmakers differs has
  others_stay seats kind.Replica differs has = stay replica_rules ReplicaIn kind.Replica seats.replicas differs has
  others_stay seats kind.Unbatcher differs has = stay unbatcher_rules plain kind.Unbatcher seats.unbatchers differs has
  others_stay seats kind.Reader differs has = stay reader_rules ReaderIn kind.Reader seats.readers differs has
  others_stay seats kind.Replacer differs has = stay replacer_rules ReplacerIn kind.Replacer seats.replacers differs has

-- nothing is done to a role that doesn't run and has no name
absent : {D V : Type 0} (rules : Rules D V) (c : Cluster) (who : RoleId) (d : D) (act : Act) → names_role c who ≡ false
    → turn rules c who d act None ≡ still None why.Down
absent rules c who d (Give i cut) e = refl
absent rules c who d (Snap cut) e = refl
absent rules c who d Stop e = refl
absent rules c who d Wake e = rw e refl

not_below : (i n : ℕ) → n ≤ i → nat_lt i n ≡ false
not_below i n h = grind (arith, nat_tests)

-- what an act at one of the seats of a kind comes to
record AreTurned {D V : Type 0} (rules : Rules D V) (make : V → State) (c : Cluster) (k : Kind) (kept : List KeptRecord) (who : RoleId)
    (t : Turn V) (olds news : List (Seat (Running D V))) (w : Why) (r : Option Written) (sent : List Letter) : Type 0 where
  pub why : w ≡ t.why
  pub keeps : r ≡ t.kept
  pub sends : sent ≡ t.sends
  pub count : length news ≡ length olds
  pub own : state_at make news who.index ≡ state_of make t.role
  pub others : (i : ℕ) → (i ≡ who.index → ⊥) → slice_get news i ≡ slice_get olds i
  pub lists : AreSeats rules c k (kept ++ kept_by who r) news

module _ {D V : Type 0} (rules : Rules D V) (make : V → State) (k : Kind) (c : Cluster) (roles : RoleId → State) (kept : List KeptRecord)
    (olds news : List (Seat (Running D V))) (has : AreOfKind rules make c k roles kept olds)
    (who : RoleId) (is_kind : who.kind ≡ k) (act : Act) (w : Why) (r : Option Written) (sent : List Letter) where
  -- where there is no seat the cluster has no such role
  not_named : slice_get olds who.index ≡ None → names_role c who ≡ false
  not_named none = elim ((slice_get_cases olds who.index).1) [
    | inl some ↦ absurd (let e = sym some.2 ∙ none in cc)
    | inr past ↦ rw (is_kind, ← has.count) (not_below who.index (length olds) past.0)
  ]

  turned_at : (o : Option (Seat (Running D V))) → slice_get olds who.index ≡ o → TurnsFound rules (λ s. s) act who.index o olds news w r
      sent → AreTurned rules make c k kept who (turn rules c who (durable_part rules who kept) act (volatile_in o)) olds news w r sent
  turned_at None none h =
      let nothing = absent rules c who (durable_part rules who kept) act (not_named none) in
      subst (λ t. AreTurned rules make c k kept who t olds news w r sent) (sym nothing) (record {
        why = h.1;
        keeps = h.2;
        sends = h.3;
        count = ap length h.0;
        own = ap (λ l. state_at make l who.index) h.0 ∙ ap (λ o. state_of make (volatile_in o)) none;
        others = λ i differs. ap (λ l. slice_get l i) h.0;
        lists = subst (λ l. AreSeats rules c k l news) (sym (append-nil kept) ∙ ap (λ x. kept ++ kept_by who x) (sym h.2))
            (subst (λ l. AreSeats rules c k kept l) (sym h.0) has.lists);
      })
  turned_at (Some seat) found h =
      let after = slice_index_or news who.index seat in
      let done = h.1 in
      let there = has.lists who.index seat found in
      let same : seat_turn rules (λ s. s) act seat ≡ turn rules c who (durable_part rules who kept) act (volatile_in (Some seat)) =
      rw (there.cluster, there.me, there.records, is_kind) refl in
      record {
        why = done.why ∙ ap (λ t. t.why) same;
        keeps = done.kept ∙ ap (λ t. t.kept) same;
        sends = done.sends ∙ ap (λ t. t.sends) same;
        count = ap length h.0 ∙ length-set olds who.index after;
        own = ap (λ l. state_at make l who.index) h.0 ∙ ap (λ o. state_of make (volatile_in o))
            (get_set_same olds who.index seat after found) ∙ ap (state_of make) (done.role ∙ ap (λ t. t.role) same);
        others = λ i differs. ap (λ l. slice_get l i) h.0 ∙ get_set_other olds who.index i after differs;
        lists = subst (λ l. AreSeats rules c k (kept ++ kept_by who r) l) (sym h.0)
            (set_seats rules c k kept who is_kind olds has.lists r seat after found done.cluster done.me done.records);
      }

  -- the seats of this kind afterwards
  own_kind : (t : Turn V) → AreTurned rules make c k kept who t olds news w r sent
      → AreOfKind rules make c k (set_state who (state_of make t.role) roles) (kept ++ kept_by who r) news
  own_kind t turned =
      record {
        count = turned.count ∙ has.count;
        states = λ i. state i (bool_cases (i == who.index));
        lists = turned.lists;
      }
    where
      state : (i : ℕ) → ((i == who.index) ≡ true) ⊎ ((i == who.index) ≡ false)
          → set_state who (state_of make t.role) roles (role k i) ≡ state_at make news i
      state i (inl same) =
          let at = same_number i who.index same in
          subst (λ n. set_state who (state_of make t.role) roles (role k n) ≡ state_at make news n) (sym at)
          (subst (λ x. set_state who (state_of make t.role) roles (role x who.index) ≡ state_at make news who.index) is_kind
          (state_own who (state_of make t.role) roles ∙ sym turned.own))
      state i (inr other) =
          let differs : (i ≡ who.index → ⊥) = λ p. not_both (i == who.index) (subst (λ n. (i == n) ≡ true) p (number_itself i)) other in
          state_other who (role k i) (state_of make t.role) roles
          (differ_role (role k i) who (λ p. differs (ap (λ (x : RoleId). x.index) p)))
          ∙ has.states i ∙ ap (λ o. state_of make (volatile_in o)) (sym (turned.others i differs))

-- an act at a role is the model's, in a world that has these seats
pub kind_change : {D V : Type 0} {rules : Rules D V} {make : V → State} {k : Kind} (at : SeatsOf rules make k)
    → (w : World) (act : Act) (who : RoleId) (olds : SeatLists) (u v : Why) (noted : Option RoleId) (r : Option Written)
    (more : Option KeptRecord) (sent : List Letter)
    → noted ≡ Some who → v ≡ u → option_to_list more ≡ kept_by who r → HasSeats w.cluster w.roles w.kept olds
    → who.kind ≡ k → (news : List (Seat (Running D V))) → TurnsAt rules (λ s. s) act who.index (at.of olds) news u r sent
    → IsChange w (act_at w act who) noted v more (at.put olds news) sent
kind_change {D} {V} {rules} {make} {k} at w act who olds u v noted r more sent same_who same_why same_kept has is news turns =
    let c = w.cluster in
    let here = at.has c w.roles w.kept olds (subst (λ x. HasKind c w.roles w.kept olds x) is (has.each who.kind)) in
    let found = slice_get (at.of olds) who.index in
    let running : at.get (w.roles who) ≡ volatile_in found =
    ap (λ x. at.get (w.roles (role x who.index))) is ∙ ap at.get (here.states who.index) ∙ at.got (volatile_in found) in
    let t = turn rules c who (durable_part rules who w.kept) act (volatile_in found) in
    let done = turned_at rules make k c w.roles w.kept (at.of olds) news here who is act u r sent found refl turns in
    let model : act_at w act who ≡ changed make who w.roles t =
    ap (λ x. act_of c w.roles w.kept act who x) is ∙ at.acts c w.roles w.kept act who
    ∙ ap (λ o. changed make who w.roles (turn rules c who (durable_part rules who w.kept) act o)) running in
    let after = set_state who (state_of make t.role) w.roles in
    let left : (j : Kind) → (j ≡ k) ⊎ (j ≡ k → ⊥) → HasKind c after (w.kept ++ kept_by who r) (at.put olds news) j = λ j d. elim d [
      | inl p ↦ subst (λ x. HasKind c after (w.kept ++ kept_by who r) (at.put olds news) x) (sym p) (at.have c after
          (w.kept ++ kept_by who r) olds news (own_kind rules make k c w.roles w.kept (at.of olds) news here who is act u r sent t done))
      | inr differs ↦ at.others c after (w.kept ++ kept_by who r) olds news j differs
          (others_stay c w.roles w.kept who (state_of make t.role) r olds j (λ p. differs (p ∙ is)) (has.each j))
    ] in
    subst (λ (ch : Change). IsChange w ch noted v more (at.put olds news) sent) (sym model) (record {
      who_is = same_who;
      why = same_why ∙ done.why;
      kept = same_kept ∙ ap (kept_by who) done.keeps;
      sends = done.sends;
      seats = record {
        each = λ j. subst (λ x. HasKind c after (w.kept ++ kept_by who x) (at.put olds news) j) done.keeps (left j (kind_cases j k));
      };
    })
