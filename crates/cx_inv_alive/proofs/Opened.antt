-- The first stage: roles are stopped and opened again. The stores and the datagrams stay as they are.
use Rattle.cx_inv_run.proofs.Common.{◌≡◌, ℕ, Bool, true, List, [], ◌∷◌, ◌++◌, map, sym, ◌∙◌, subst, refl, inl, inr, ◌&&◌, nat_lt, list_all}
use Rattle.cx_inv_run.proofs.Common.{and_parts, Cluster, Kind, RoleId, count_of, below, code_of, role, same_role, Letter, KeptRecord}
use Rattle.cx_inv_run.proofs.Common.{bool_cases, other_role, same_role-true, Member, names_role, World, State, fresh_state, set_state}
use Rattle.cx_inv_run.proofs.Common.{state_other, state_own, Member-below, Member-cases, Member-first, Member-map, Member-second}
use Rattle.cx_inv_run.proofs.Common.{below-Member, map-Member}
use Rattle.cx_base.specs.declared.role.Kind.TheVariants as kind
use Rattle.cx_inv_run.proofs.Histories.{older}
use Rattle.cx_inv_alive.proofs.Moments.{Goes, Moment}
use Rattle.cx_inv_alive.proofs.Phase.{less, less_test}
use Rattle.cx_inv_alive.proofs.Views.{CanReach, acceptors, batchers, leaders, matchmakers, proxies, reopened, replicas, unbatchers}

-- the kinds of roles that a write needs
abbrev is_planned : Kind → Bool
is_planned k = nat_lt 1 (code_of k) && nat_lt (code_of k) 9

abbrev pub planned : List Kind
planned = kind.Leader ∷ kind.Batcher ∷ kind.Proxy ∷ kind.Acceptor ∷ kind.Matchmaker ∷ kind.Replica ∷ kind.Unbatcher ∷ []

-- the states once these roles were opened
abbrev opened : Cluster → List RoleId → (RoleId → State) → RoleId → State
opened c [] states = states
opened c (a ∷ others) states = set_state a (fresh_state c a.kind) (opened c others states)

opened_is : (c : Cluster) (states : RoleId → State) (all : List RoleId) (a : RoleId) → Member a all
    → opened c all states a ≡ fresh_state c a.kind
opened_is c states [] a m = absurd m
opened_is c states (b ∷ others) a m = elim (bool_cases (same_role a b)) [
  | inl t ↦ subst (λ x. opened c (b ∷ others) states x ≡ fresh_state c x.kind) (sym (same_role-true a b t))
      (state_own b (fresh_state c b.kind) (opened c others states))
  | inr f ↦ state_other b a (fresh_state c b.kind) (opened c others states) f
      ∙ opened_is c states others a (older a b others (other_role a b f) m)
]

module _ (goal : World → Type 0) (c : Cluster) (kept : List KeptRecord) (sent : List Letter) where
  one : (k : Kind) → is_planned k ≡ true → (j : ℕ) → names_role c (role k j) ≡ true → (states : RoleId → State)
      → CanReach goal c kept sent (set_state (role k j) (fresh_state c k) states) → CanReach goal c kept sent states
  one kind.Batcher p j named states next = reopened c kept sent kind.Batcher batchers goal j states named next
  one kind.Leader p j named states next = reopened c kept sent kind.Leader leaders goal j states named next
  one kind.Proxy p j named states next = reopened c kept sent kind.Proxy proxies goal j states named next
  one kind.Acceptor p j named states next = reopened c kept sent kind.Acceptor acceptors goal j states named next
  one kind.Matchmaker p j named states next = reopened c kept sent kind.Matchmaker matchmakers goal j states named next
  one kind.Replica p j named states next = reopened c kept sent kind.Replica replicas goal j states named next
  one kind.Unbatcher p j named states next = reopened c kept sent kind.Unbatcher unbatchers goal j states named next
  one other p j named states next = absurd cc

  each : (all : List RoleId) → ((a : RoleId) → Member a all → (is_planned a.kind ≡ true) × (names_role c a ≡ true))
      → (states : RoleId → State) → CanReach goal c kept sent (opened c all states) → CanReach goal c kept sent states
  each [] can states next = next
  each (a ∷ others) can states next =
      let now = can a (inl refl) in
      each others (λ b m. can b (inr m)) states (one a.kind now.0 a.index now.1 (opened c others states) next)

-- ALL ROLES OF SOME KINDS

abbrev roles_of : Cluster → List Kind → List RoleId
roles_of c [] = []
roles_of c (k ∷ ks) = map (λ j. role k j) (below (count_of c k)) ++ roles_of c ks

role_there : (c : Cluster) (ks : List Kind) (k : Kind) (j : ℕ) → Member k ks → nat_lt j (count_of c k) ≡ true
    → Member (role k j) (roles_of c ks)
role_there c [] k j m l = absurd m
role_there c (i ∷ ks) k j (inl e) l =
    Member-first (role k j) (map (λ n. role i n) (below (count_of c i))) (roles_of c ks)
    (subst (λ q. Member (role k j) (map (λ n. role q n) (below (count_of c q)))) e
    (map-Member (λ n. role k n) j (below (count_of c k)) (Member-below j (count_of c k) (less j (count_of c k) l))))
role_there c (i ∷ ks) k j (inr m) l =
    Member-second (role k j) (map (λ n. role i n) (below (count_of c i))) (roles_of c ks) (role_there c ks k j m l)

each_planned : (c : Cluster) (ks : List Kind) → list_all is_planned ks ≡ true → (a : RoleId) → Member a (roles_of c ks)
    → (is_planned a.kind ≡ true) × (names_role c a ≡ true)
each_planned c [] p a m = absurd m
each_planned c (k ∷ ks) p a m =
    let parts = and_parts (is_planned k) (list_all is_planned ks) p in
    elim (Member-cases a (map (λ j. role k j) (below (count_of c k))) (roles_of c ks) m) [
      | inl i ↦
          (let q = Member-map (λ j. role k j) a (below (count_of c k)) i in
          subst (λ x. (is_planned x.kind ≡ true) × (names_role c x ≡ true)) (sym q.2)
          (parts.0, less_test q.0 (count_of c k) (below-Member q.0 (count_of c k) q.1)))
      | inr i ↦ each_planned c ks parts.1 a i
    ]

-- all that a plan needs
pub all_opened : (goal : World → Type 0) (c : Cluster) (x : Moment) → ((states : RoleId → State)
    → ((k : Kind) → Member k planned → (j : ℕ) → nat_lt j (count_of c k) ≡ true → states (role k j) ≡ fresh_state c k)
    → Goes goal c (record { kept = x.kept; sent = x.sent; states = states }))
    → Goes goal c x
all_opened goal c x rest =
    let all = roles_of c planned in
    each goal c x.kept x.sent all (each_planned c planned refl) x.states
    (rest (opened c all x.states) (λ k m j l. opened_is c x.states all (role k j) (role_there c planned k j m l)))
