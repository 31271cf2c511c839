-- Roles that keep nothing but a reader's turns, and whose datagrams say nothing of what was kept: of their rows only the new state matters.
use Rattle.cx_inv_run.proofs.Common.{◌≡◌, ℕ, List, ◌∷◌, inl, inr, sym, ◌∙◌, subst, Cluster, Kind, RoleId, Letter, KeptRecord, Record, Msg}
use Rattle.cx_inv_run.proofs.Common.{Outcome, IsSender, IsKeeper, IsKept, OfKind, Lands, State, Down, entry_by, set_state, with_record}
use Rattle.cx_base.specs.declared.role.Kind.TheVariants as kind
use Rattle.cx_letter.specs.declared.kept.Record.TheVariants as kept
use Rattle.cx_letter.specs.declared.message.Msg.TheVariants as msg
use Rattle.cx_inv_match.specs.Facts.{Says, InState, Facts}
use Rattle.cx_inv_match.proofs.OtherRecords.{keep_turn}
use Rattle.cx_inv_vote.proofs.Rows.{lands, quiet_kind}

-- Kinds of roles that keep nothing but turns, and whose datagrams say nothing of what was kept.
module _ (k : Kind) (no_leader : k ≡ kind.Leader → ⊥) (no_matchmaker : k ≡ kind.Matchmaker → ⊥) (no_acceptor : k ≡ kind.Acceptor → ⊥)
    (no_proxy : k ≡ kind.Proxy → ⊥) (no_replica : k ≡ kind.Replica → ⊥) (no_replacer : k ≡ kind.Replacer → ⊥) where
  mute_says : (c : Cluster) (history : List KeptRecord) (sent : List Letter) (from : RoleId) (m : Msg) → IsSender k m
      → Says c history sent from m
  mute_says c history sent from (msg.Leads i) e = absurd (no_leader e)
  mute_says c history sent from (msg.MatchA i g) e = absurd (no_leader e)
  mute_says c history sent from (msg.MatchB i w entries) e = absurd (no_matchmaker e)
  mute_says c history sent from (msg.Phase1B i cw votes) e = absurd (no_acceptor e)
  mute_says c history sent from (msg.Propose i g s cw v) e = absurd (no_leader e)
  mute_says c history sent from (msg.Phase2A i s cw v) e = absurd (no_proxy e)
  mute_says c history sent from (msg.Phase2B i s) e = absurd (no_acceptor e)
  mute_says c history sent from (msg.Chosen s v) e = absurd (elim e [ inl p ↦ no_proxy p | inr p ↦ no_replica p ])
  mute_says c history sent from (msg.ChosenIn i s) e = absurd (no_proxy e)
  mute_says c history sent from (msg.Informed i n) e = absurd (no_acceptor e)
  mute_says c history sent from (msg.GarbageA i g) e = absurd (no_leader e)
  mute_says c history sent from (msg.StopA b) e = absurd (no_replacer e)
  mute_says c history sent from (msg.StopB b w entries a s) e = absurd (no_matchmaker e)
  mute_says c history sent from (msg.NextB b) e = absurd (no_matchmaker e)
  mute_says c history sent from (msg.BootA s w entries) e = absurd (no_replacer e)
  mute_says c history sent from (msg.Sets s) e = absurd (no_replacer e)
  mute_says c history sent from other e = tt

  -- of its records, a reader's turn alone
  mute_keeps : (P : Record → Type 0) → ((n : ℕ) → P (kept.Turn n)) → (r : Record) → IsKeeper k r → P r
  mute_keeps P turn (kept.Promise i) e = absurd (no_acceptor e)
  mute_keeps P turn (kept.Vote i s cw v) e = absurd (no_acceptor e)
  mute_keeps P turn (kept.Water i cw) e = absurd (no_acceptor e)
  mute_keeps P turn (kept.Match i g) e = absurd (no_matchmaker e)
  mute_keeps P turn (kept.Garbage i g) e = absurd (no_matchmaker e)
  mute_keeps P turn (kept.Round i g) e = absurd (no_leader e)
  mute_keeps P turn (kept.Log values) e = absurd (no_replica e)
  mute_keeps P turn (kept.Ballot b) e = absurd (no_replacer e)
  mute_keeps P turn (kept.Stop b) e = absurd (no_matchmaker e)
  mute_keeps P turn (kept.Next b s) e = absurd (no_matchmaker e)
  mute_keeps P turn (kept.Boot s w es) e = absurd (no_matchmaker e)
  mute_keeps P turn (kept.Turn n) e = turn n
  mute_keeps P turn (kept.Known s) e = absurd (no_replacer e)
  mute_keeps P turn other e = cc

  module _ (c : Cluster) (history : List KeptRecord) (sent : List Letter) (states : RoleId → State) (facts : Facts c history sent states)
      (me : RoleId) (is : me.kind ≡ k) where
    -- of such a role's row only the new state matters
    pub mute_lands : {V : Type 0} (make : V → State) (o : Outcome V) → OfKind me o
        → InState c (with_record me o.kept history) sent me (make o.volatile) → Lands (Facts c) history sent states me make o
    mute_lands make o of_kind state =
        lands c history sent states facts me make o (quiet_kind me o (λ e. no_leader (sym is ∙ e)) (λ e. no_replacer (sym is ∙ e)) of_kind)
        record {
          lawful = λ r e. mute_keeps (λ (x : Record). Facts c (entry_by me x ∷ history) sent (set_state me Down states)) (λ n.
              keep_turn c history sent states facts me n) r (subst (λ x. IsKeeper x r) is (subst (λ x. IsKept me.kind x) e of_kind.keeps));
          says = λ longer more d m.
              mute_says c (with_record me o.kept history) longer d.from d.msg (subst (λ x. IsSender x d.msg) is (of_kind.sends d m).1);
          state = state;
        }
