-- How hosted roles stand beside the model's world, and what some events do to those that take no part in them.
use Rattle.cx_role.proofs.Common.{◌≡◌, true, false, List, ◌++◌, Option, ap, sym, ◌∙◌, RoleId, same_role, State, BatcherIn, LeaderIn}
use Rattle.cx_role.proofs.Common.{ProxyIn, ReplicaIn, ReaderIn, ReplacerIn, plain, acceptor_rules, batcher_rules, leader_rules, list_other}
use Rattle.cx_role.proofs.Common.{matchmaker_rules, names_role, proxy_rules, reader_rules, replacer_rules, replica_rules, Rules, Running}
use Rattle.cx_role.proofs.Common.{folded, unbatcher_rules, World, durable_part, kept_by, Letter, Written}
use Rattle.cx_base.specs.declared.role.Kind.TheVariants as kind
use Rattle.cx_course.specs.Hosted.{Hosted, ClientAt, BatcherAt, LeaderAt, ProxyAt, AcceptorAt, MatchmakerAt, ReplicaAt, UnbatcherAt}
use Rattle.cx_course.specs.Hosted.{ReaderAt, ReplacerAt, name_of}
use Rattle.cx_course.proofs.Asker.{IsAsker, IsTraced, SparesClient, still_asks}

-- A role of the protocol is the model's: it runs there with the same volatile part, and its durable part is the fold of its list there.
pub record IsRole {D V : Type 0} (rules : Rules D V) (make : V → State) (w : World) (s : Running D V) : Type 0 where
  pub cluster : s.cluster ≡ w.cluster
  pub kind_is : s.me.kind ≡ rules.kind
  pub named : names_role w.cluster s.me ≡ true
  pub durable : s.durable ≡ durable_part rules s.me w.kept
  pub volatile : w.roles s.me ≡ make s.volatile

abbrev pub IsAlike : World → Hosted → Type 0
IsAlike w (ClientAt s) = IsAsker w s
IsAlike w (BatcherAt s) = IsRole batcher_rules BatcherIn w s
IsAlike w (LeaderAt s) = IsRole leader_rules LeaderIn w s
IsAlike w (ProxyAt s) = IsRole proxy_rules ProxyIn w s
IsAlike w (AcceptorAt s) = IsRole acceptor_rules plain w s
IsAlike w (MatchmakerAt s) = IsRole matchmaker_rules plain w s
IsAlike w (ReplicaAt s) = IsRole replica_rules ReplicaIn w s
IsAlike w (UnbatcherAt s) = IsRole unbatcher_rules plain w s
IsAlike w (ReaderAt s) = IsRole reader_rules ReaderIn w s
IsAlike w (ReplacerAt s) = IsRole replacer_rules ReplacerIn w s

-- ---- what some events come to

-- a role that takes no part in them is spared: its state stays, and, of a client, what it asked for and what it has heard
pub record Spares (w after : World) (a : RoleId) : Type 0 where
  pub state : after.roles a ≡ w.roles a
  pub client : a.kind ≡ kind.Client → SparesClient w after a.index

-- what this role writes in its store, if anything, and what is sent; other roles are spared
pub record Moves (w after : World) (me : RoleId) (what : Option Written) (sends : List Letter) : Type 0 where
  pub cluster : after.cluster ≡ w.cluster
  pub kept : after.kept ≡ w.kept ++ kept_by me what
  pub sent : after.sent ≡ w.sent ++ sends
  pub traced : IsTraced after
  pub others : (a : RoleId) → same_role a me ≡ false → Spares w after a

-- ---- a role that is spared stays alike

module _ (w after : World) (me : RoleId) (what : Option Written) (sends : List Letter) (moves : Moves w after me what sends) where
  spared_role : {D V : Type 0} {rules : Rules D V} {make : V → State} {s : Running D V} → same_role s.me me ≡ false → IsRole rules make w s
      → IsRole rules make after s
  spared_role {rules} {s} differs is = record {
    cluster = is.cluster ∙ sym moves.cluster;
    kind_is = is.kind_is;
    named = ap (λ c. names_role c s.me) moves.cluster ∙ is.named;
    durable = is.durable
        ∙ sym (ap (λ k. durable_part rules s.me k) moves.kept ∙ ap (folded rules) (list_other rules s.me me w.kept what differs));
    volatile = (moves.others s.me differs).state ∙ is.volatile;
  }

  pub spared : (h : Hosted) → same_role (name_of h) me ≡ false → IsAlike w h → IsAlike after h
  spared (ClientAt s) differs is =
      still_asks w after s moves.cluster ((moves.others s.me differs).client (ap (λ (a : RoleId). a.kind) is.client.me)) is
  spared other differs is = spared_role differs is
