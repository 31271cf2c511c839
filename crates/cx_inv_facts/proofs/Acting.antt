-- What a role sends in its turn is of its role's kind.
use Rattle.cx_inv_run.proofs.Common.{◌≡◌, List, Option, subst, Kind, RoleId, Letter, Act, acceptor_rules, batcher_rules, leader_rules}
use Rattle.cx_inv_run.proofs.Common.{matchmaker_rules, Member, Outcome, proxy_rules, reader_rules, replacer_rules, replica_rules}
use Rattle.cx_inv_run.proofs.Common.{unbatcher_rules, World, act_of, durable_part, Turn, plain_volatile, batcher_volatile, leader_volatile}
use Rattle.cx_inv_run.proofs.Common.{proxy_volatile, replica_volatile, reader_volatile, replacer_volatile, IsSender, OfKind, batcher_kinds}
use Rattle.cx_inv_run.proofs.Common.{proxy_kinds, acceptor_kinds, matchmaker_kinds, replica_kinds, unbatcher_kinds, reader_kinds}
use Rattle.cx_inv_run.proofs.Common.{leader_kinds, replacer_kinds}
use Rattle.cx_base.specs.declared.role.Kind.TheVariants as kind
use Rattle.cx_inv_facts.proofs.Turns.{IsStill, by_turn}

module _ (w : World) (act : Act) (me : RoleId) where
  abbrev SentAs : Kind → List Letter → Type 0
  SentAs k ds = (d : Letter) → Member d ds → IsSender k d.msg

  nothing_sent : {V : Type 0} (running : Option V) (fresh : V) (k : Kind) (t : Turn V) → IsStill running fresh t → SentAs k t.sends
  nothing_sent running fresh k t s d m = absurd (subst (λ l. Member d l) s.silent m)

  of_kind : {V : Type 0} (k : Kind) (o : Outcome V) → me.kind ≡ k → OfKind me o → SentAs k o.sends
  of_kind k o is kinds d m = subst (λ x. IsSender x d.msg) is (kinds.sends d m).1

  pub act_kinds : (k : Kind) → me.kind ≡ k → SentAs k (act_of w.cluster w.roles w.kept act me k).sends
  act_kinds kind.Client is = λ d m. absurd m
  act_kinds kind.Batcher is = by_turn batcher_rules w.cluster me w.kept (batcher_volatile (w.roles me)) (λ t. SentAs kind.Batcher t.sends)
      (nothing_sent _ _ kind.Batcher) act (λ v i cut e a. of_kind kind.Batcher _ is (batcher_kinds w.cluster me is v i))
      (λ v first e q. absurd cc)
  act_kinds kind.Leader is = by_turn leader_rules w.cluster me w.kept (leader_volatile (w.roles me)) (λ t. SentAs kind.Leader t.sends)
      (nothing_sent _ _ kind.Leader) act
      (λ v i cut e a. of_kind kind.Leader _ is (leader_kinds w.cluster me is (durable_part leader_rules me w.kept) v i))
      (λ v first e q. absurd cc)
  act_kinds kind.Proxy is = by_turn proxy_rules w.cluster me w.kept (proxy_volatile (w.roles me)) (λ t. SentAs kind.Proxy t.sends)
      (nothing_sent _ _ kind.Proxy) act (λ v i cut e a. of_kind kind.Proxy _ is (proxy_kinds w.cluster me is v i))
      (λ v first e q. absurd cc)
  act_kinds kind.Acceptor is = by_turn acceptor_rules w.cluster me w.kept (plain_volatile (w.roles me)) (λ t. SentAs kind.Acceptor t.sends)
      (nothing_sent _ _ kind.Acceptor) act
      (λ v i cut e a. of_kind kind.Acceptor _ is (acceptor_kinds w.cluster me is (durable_part acceptor_rules me w.kept) i))
      (λ v first e q d m. absurd m)
  act_kinds kind.Matchmaker is = by_turn matchmaker_rules w.cluster me w.kept (plain_volatile (w.roles me))
      (λ t. SentAs kind.Matchmaker t.sends) (nothing_sent _ _ kind.Matchmaker) act
      (λ v i cut e a. of_kind kind.Matchmaker _ is (matchmaker_kinds w.cluster me is (durable_part matchmaker_rules me w.kept) i))
      (λ v first e q. absurd cc)
  act_kinds kind.Replica is = by_turn replica_rules w.cluster me w.kept (replica_volatile (w.roles me)) (λ t. SentAs kind.Replica t.sends)
      (nothing_sent _ _ kind.Replica) act
      (λ v i cut e a. of_kind kind.Replica _ is (replica_kinds w.cluster me is (durable_part replica_rules me w.kept) v i))
      (λ v first e q d m. absurd m)
  act_kinds kind.Unbatcher is = by_turn unbatcher_rules w.cluster me w.kept (plain_volatile (w.roles me)) (λ t. SentAs kind.Unbatcher
      t.sends) (nothing_sent _ _ kind.Unbatcher) act (λ v i cut e a. of_kind kind.Unbatcher _ is (unbatcher_kinds w.cluster me is i))
      (λ v first e q. absurd cc)
  act_kinds kind.Reader is = by_turn reader_rules w.cluster me w.kept (reader_volatile (w.roles me)) (λ t. SentAs kind.Reader t.sends)
      (nothing_sent _ _ kind.Reader) act
      (λ v i cut e a. of_kind kind.Reader _ is (reader_kinds w.cluster me is (durable_part reader_rules me w.kept) v i))
      (λ v first e q d m. absurd m)
  act_kinds kind.Replacer is = by_turn replacer_rules w.cluster me w.kept (replacer_volatile (w.roles me))
      (λ t. SentAs kind.Replacer t.sends) (nothing_sent _ _ kind.Replacer) act
      (λ v i cut e a. of_kind kind.Replacer _ is (replacer_kinds w.cluster me is (durable_part replacer_rules me w.kept) v i))
      (λ v first e q. absurd cc)
