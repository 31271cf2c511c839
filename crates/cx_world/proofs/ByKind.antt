-- The seats of each kind among all, and the kinds' turns in the model.
use Rattle.cx_inv_run.proofs.Common.{◌≡◌, ◌==◌, true, List, Option, None, Some, subst, refl, inl, inr, ◌⊎◌, Cluster, Kind, RoleId, code_of}
use Rattle.cx_inv_run.proofs.Common.{Act, KeptRecord, acceptor_rules, batcher_rules, leader_rules, bool_cases, not_both, number_itself}
use Rattle.cx_inv_run.proofs.Common.{matchmaker_rules, proxy_rules, reader_rules, replacer_rules, replica_rules, Rules, State, Down}
use Rattle.cx_inv_run.proofs.Common.{BatcherIn, LeaderIn, ProxyIn, ReplicaIn, ReaderIn, ReplacerIn, plain, state_of, plain_volatile}
use Rattle.cx_inv_run.proofs.Common.{batcher_volatile, leader_volatile, proxy_volatile, replica_volatile, reader_volatile}
use Rattle.cx_inv_run.proofs.Common.{replacer_volatile, unbatcher_rules, act_of, turned}
use Rattle.cx_base.specs.declared.role.Kind.TheVariants as kind
use Rattle.cx_model.specs.Lists.{kind_same}
use Rattle.cx_model.specs.Rules.{Running}
use Rattle.cx_world.specs.Seat.{Seat}
use Rattle.cx_world.specs.World.{SeatLists, AreOfKind, HasKind}

-- what holds of each kind holds of all
pub by_kind : (P : Kind → Type 0) → P kind.Client → P kind.Batcher → P kind.Leader → P kind.Proxy → P kind.Acceptor → P kind.Matchmaker
    → P kind.Replica → P kind.Unbatcher → P kind.Reader → P kind.Replacer → (k : Kind) → P k
by_kind P client batcher leader proxy acceptor matchmaker replica unbatcher reader replacer kind.Client = client
by_kind P client batcher leader proxy acceptor matchmaker replica unbatcher reader replacer kind.Batcher = batcher
by_kind P client batcher leader proxy acceptor matchmaker replica unbatcher reader replacer kind.Leader = leader
by_kind P client batcher leader proxy acceptor matchmaker replica unbatcher reader replacer kind.Proxy = proxy
by_kind P client batcher leader proxy acceptor matchmaker replica unbatcher reader replacer kind.Acceptor = acceptor
by_kind P client batcher leader proxy acceptor matchmaker replica unbatcher reader replacer kind.Matchmaker = matchmaker
by_kind P client batcher leader proxy acceptor matchmaker replica unbatcher reader replacer kind.Replica = replica
by_kind P client batcher leader proxy acceptor matchmaker replica unbatcher reader replacer kind.Unbatcher = unbatcher
by_kind P client batcher leader proxy acceptor matchmaker replica unbatcher reader replacer kind.Reader = reader
by_kind P client batcher leader proxy acceptor matchmaker replica unbatcher reader replacer kind.Replacer = replacer

pub kind_cases : (k l : Kind) → (k ≡ l) ⊎ (k ≡ l → ⊥)
kind_cases k l = elim (bool_cases (code_of k == code_of l)) [
  | inl t ↦ inl (kind_same k l t)
  | inr f ↦ inr (λ p. not_both (code_of k == code_of l) (subst (λ x. (code_of k == code_of x) ≡ true) p (number_itself (code_of k))) f)
]

-- A kind of role in the world: its seats, all seats with others of this kind, and how the model has its states and its turn.
pub record SeatsOf {D V : Type 0} (rules : Rules D V) (make : V → State) (k : Kind) : Type 0 where
  pub of : SeatLists → List (Seat (Running D V))
  pub put : SeatLists → List (Seat (Running D V)) → SeatLists
  pub has : (c : Cluster) (roles : RoleId → State) (kept : List KeptRecord) (seats : SeatLists) → HasKind c roles kept seats k
      → AreOfKind rules make c k roles kept (of seats)
  pub have : (c : Cluster) (roles : RoleId → State) (kept : List KeptRecord) (seats : SeatLists) (l : List (Seat (Running D V)))
      → AreOfKind rules make c k roles kept l → HasKind c roles kept (put seats l) k
  pub others : (c : Cluster) (roles : RoleId → State) (kept : List KeptRecord) (seats : SeatLists) (l : List (Seat (Running D V)))
      (j : Kind) → (j ≡ k → ⊥) → HasKind c roles kept seats j → HasKind c roles kept (put seats l) j
  pub get : State → Option V
  pub got : (o : Option V) → get (state_of make o) ≡ o
  pub acts : (c : Cluster) (roles : RoleId → State) (kept : List KeptRecord) (act : Act) (who : RoleId)
      → act_of c roles kept act who k ≡ turned rules make c roles kept act who (get (roles who))

abbrev pub Others : Kind → Cluster → (RoleId → State) → List KeptRecord → SeatLists → SeatLists → Kind → Type 0
Others k c roles kept old new j = (j ≡ k → ⊥) → HasKind c roles kept old j → HasKind c roles kept new j

pub own : {A : Type 0} (k : Kind) → (k ≡ k → ⊥) → A
own k h = absurd (h refl)

pub got_back : {V : Type 0} (make : V → State) (get : State → Option V) → get Down ≡ None → ((v : V) → get (make v) ≡ Some v)
    → (o : Option V) → get (state_of make o) ≡ o
got_back make get down up None = down
got_back make get down up (Some v) = up v

abbrev pub batchers : SeatsOf batcher_rules BatcherIn kind.Batcher
batchers = record {
  of = λ seats. seats.batchers;
  put = λ seats l. record seats { batchers = l };
  has = λ c roles kept seats h. h;
  have = λ c roles kept seats l h. h;
  others = λ c roles kept seats l. by_kind (Others kind.Batcher c roles kept seats (record seats { batchers = l })) (λ h x. x)
      (own kind.Batcher) (λ h x. x) (λ h x. x) (λ h x. x) (λ h x. x) (λ h x. x) (λ h x. x) (λ h x. x) (λ h x. x);
  get = batcher_volatile;
  got = got_back BatcherIn batcher_volatile refl (λ v. refl);
  acts = λ c roles kept act who. refl;
}

abbrev pub leaders : SeatsOf leader_rules LeaderIn kind.Leader
leaders = record {
  of = λ seats. seats.leaders;
  put = λ seats l. record seats { leaders = l };
  has = λ c roles kept seats h. h;
  have = λ c roles kept seats l h. h;
  others = λ c roles kept seats l. by_kind (Others kind.Leader c roles kept seats (record seats { leaders = l })) (λ h x. x) (λ h x. x)
      (own kind.Leader) (λ h x. x) (λ h x. x) (λ h x. x) (λ h x. x) (λ h x. x) (λ h x. x) (λ h x. x);
  get = leader_volatile;
  got = got_back LeaderIn leader_volatile refl (λ v. refl);
  acts = λ c roles kept act who. refl;
}

abbrev pub proxies : SeatsOf proxy_rules ProxyIn kind.Proxy
proxies = record {
  of = λ seats. seats.proxies;
  put = λ seats l. record seats { proxies = l };
  has = λ c roles kept seats h. h;
  have = λ c roles kept seats l h. h;
  others = λ c roles kept seats l. by_kind (Others kind.Proxy c roles kept seats (record seats { proxies = l })) (λ h x. x) (λ h x. x)
      (λ h x. x) (own kind.Proxy) (λ h x. x) (λ h x. x) (λ h x. x) (λ h x. x) (λ h x. x) (λ h x. x);
  get = proxy_volatile;
  got = got_back ProxyIn proxy_volatile refl (λ v. refl);
  acts = λ c roles kept act who. refl;
}

abbrev pub acceptors : SeatsOf acceptor_rules plain kind.Acceptor
acceptors = record {
  of = λ seats. seats.acceptors;
  put = λ seats l. record seats { acceptors = l };
  has = λ c roles kept seats h. h;
  have = λ c roles kept seats l h. h;
  others = λ c roles kept seats l. by_kind (Others kind.Acceptor c roles kept seats (record seats { acceptors = l })) (λ h x. x) (λ h x. x)
      (λ h x. x) (λ h x. x) (own kind.Acceptor) (λ h x. x) (λ h x. x) (λ h x. x) (λ h x. x) (λ h x. x);
  get = plain_volatile;
  got = got_back plain plain_volatile refl (λ v. refl);
  acts = λ c roles kept act who. refl;
}

abbrev pub matchmakers : SeatsOf matchmaker_rules plain kind.Matchmaker
matchmakers = record {
  of = λ seats. seats.matchmakers;
  put = λ seats l. record seats { matchmakers = l };
  has = λ c roles kept seats h. h;
  have = λ c roles kept seats l h. h;
  others = λ c roles kept seats l. by_kind (Others kind.Matchmaker c roles kept seats (record seats { matchmakers = l })) (λ h x. x)
      (λ h x. x) (λ h x. x) (λ h x. x) (λ h x. x) (own kind.Matchmaker) (λ h x. x) (λ h x. x) (λ h x. x) (λ h x. x);
  get = plain_volatile;
  got = got_back plain plain_volatile refl (λ v. refl);
  acts = λ c roles kept act who. refl;
}

abbrev pub replicas : SeatsOf replica_rules ReplicaIn kind.Replica
replicas = record {
  of = λ seats. seats.replicas;
  put = λ seats l. record seats { replicas = l };
  has = λ c roles kept seats h. h;
  have = λ c roles kept seats l h. h;
  others = λ c roles kept seats l. by_kind (Others kind.Replica c roles kept seats (record seats { replicas = l })) (λ h x. x) (λ h x. x)
      (λ h x. x) (λ h x. x) (λ h x. x) (λ h x. x) (own kind.Replica) (λ h x. x) (λ h x. x) (λ h x. x);
  get = replica_volatile;
  got = got_back ReplicaIn replica_volatile refl (λ v. refl);
  acts = λ c roles kept act who. refl;
}

abbrev pub unbatchers : SeatsOf unbatcher_rules plain kind.Unbatcher
unbatchers = record {
  of = λ seats. seats.unbatchers;
  put = λ seats l. record seats { unbatchers = l };
  has = λ c roles kept seats h. h;
  have = λ c roles kept seats l h. h;
  others = λ c roles kept seats l. by_kind (Others kind.Unbatcher c roles kept seats (record seats { unbatchers = l })) (λ h x. x)
      (λ h x. x) (λ h x. x) (λ h x. x) (λ h x. x) (λ h x. x) (λ h x. x) (own kind.Unbatcher) (λ h x. x) (λ h x. x);
  get = plain_volatile;
  got = got_back plain plain_volatile refl (λ v. refl);
  acts = λ c roles kept act who. refl;
}

abbrev pub readers : SeatsOf reader_rules ReaderIn kind.Reader
readers = record {
  of = λ seats. seats.readers;
  put = λ seats l. record seats { readers = l };
  has = λ c roles kept seats h. h;
  have = λ c roles kept seats l h. h;
  others = λ c roles kept seats l. by_kind (Others kind.Reader c roles kept seats (record seats { readers = l })) (λ h x. x) (λ h x. x)
      (λ h x. x) (λ h x. x) (λ h x. x) (λ h x. x) (λ h x. x) (λ h x. x) (own kind.Reader) (λ h x. x);
  get = reader_volatile;
  got = got_back ReaderIn reader_volatile refl (λ v. refl);
  acts = λ c roles kept act who. refl;
}

abbrev pub replacers : SeatsOf replacer_rules ReplacerIn kind.Replacer
replacers = record {
  of = λ seats. seats.replacers;
  put = λ seats l. record seats { replacers = l };
  has = λ c roles kept seats h. h;
  have = λ c roles kept seats l h. h;
  others = λ c roles kept seats l. by_kind (Others kind.Replacer c roles kept seats (record seats { replacers = l })) (λ h x. x) (λ h x. x)
      (λ h x. x) (λ h x. x) (λ h x. x) (λ h x. x) (λ h x. x) (λ h x. x) (λ h x. x) (own kind.Replacer);
  get = replacer_volatile;
  got = got_back ReplacerIn replacer_volatile refl (λ v. refl);
  acts = λ c roles kept act who. refl;
}
