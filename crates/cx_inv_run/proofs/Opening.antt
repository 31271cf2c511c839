-- A replacer is opened with the first set or with one that it kept; a replica that is ordered to offers another one values that it keeps.
use Rattle.cx_base.proofs.Common.{subst, inl, inr}
use Rattle.cx_model.specs.Prelude.{◌≡◌, ◌⊎◌, ◌+◌, ◌==◌, ◌||◌, ℕ, zero, suc, true, false, not, nat_lt, List, [], ◌∷◌, Option, None, Some}
use Rattle.cx_model.specs.Prelude.{refl, Bool, if◌then◌else◌, Cluster, Value, RoleId, role, same_role, Letter, letter, KeptRecord, Written}
use Rattle.cx_model.specs.Prelude.{Record, Member, HasKept, Outcome, only_word, replied, ReplicaDurable, ReplicaVolatile, ReplacerDurable}
use Rattle.cx_model.specs.Prelude.{replacer_rules, first_set, same_role-true, written_after}
use Rattle.cx_base.specs.declared.event.Order.{Order as OrderOf}
use Rattle.cx_base.specs.declared.event.Order.TheVariants as order
use Rattle.cx_base.specs.declared.role.Kind.TheVariants as kind
use Rattle.cx_base.specs.declared.why.Why.TheVariants as why
use Rattle.cx_letter.specs.declared.input.Written.TheVariants as written
use Rattle.cx_letter.specs.declared.kept.Record.TheVariants as kept
use Rattle.cx_letter.specs.declared.message.Msg.TheVariants as msg
use Rattle.cx_model.specs.Outcome.{either_way}
use Rattle.cx_model.specs.Replacer.{kept_or, known_set}
use Rattle.cx_model.specs.Replica.{offer_of, offered, offers, replica_orders, value_kept}
use Rattle.cx_inv_run.specs.States.{durable_of}
use Rattle.cx_inv_run.proofs.Members.{Member-both, Member-one}

-- a set that a replacer's records left was kept by it

abbrev IsLeft : RoleId → List KeptRecord → List ℕ → Type 0
IsLeft me history s = (s ≡ []) ⊎ HasKept history me (kept.Known s)

left_more : (me : RoleId) (k : KeptRecord) (history : List KeptRecord) (s : List ℕ) → IsLeft me history s → IsLeft me (k ∷ history) s
left_more me k history s (inl e) = inl e
left_more me k history s (inr h) = inr (inr h)

left_record : (me : RoleId) (r : Record) (history : List KeptRecord) (d : ReplacerDurable) → IsLeft me history d.known
    → IsLeft me (record { role = me; what = written.Record r } ∷ history) (replacer_rules.after d r).known
left_record me (kept.Known s) history d h = inr (inl refl)
left_record me other history d h = left_more me _ history d.known h

left_after : (me : RoleId) (w : Written) (history : List KeptRecord) (d : ReplacerDurable) → IsLeft me history d.known
    → IsLeft me (record { role = me; what = w } ∷ history) (written_after replacer_rules d w).known
left_after me (written.Record r) history d h = left_record me r history d h
left_after me (written.Snap first) history d h = inl refl

pub known_left : (me : RoleId) (history : List KeptRecord) → IsLeft me history (durable_of replacer_rules me history).known
unfolding durable_of
known_left me [] = inl refl
known_left me (k ∷ ks) = go (same_role me k.role) refl (known_left me ks)
  where
    go : (b : Bool) → same_role me k.role ≡ b → IsLeft me ks (durable_of replacer_rules me ks).known
        → IsLeft me (k ∷ ks) (if b then written_after replacer_rules
        (durable_of replacer_rules me ks) k.what else durable_of replacer_rules me ks).known
    go true t h =
        subst (λ a. IsLeft me (record { role = a; what = k.what } ∷ ks)
        (written_after replacer_rules (durable_of replacer_rules me ks) k.what).known) (same_role-true me k.role t)
        (left_after me k.what ks (durable_of replacer_rules me ks) h)
    go false f h = left_more me k ks (durable_of replacer_rules me ks).known h

-- so what is so of the first set, and of each that it kept, is so of the one with which it is opened
pub opened_set : (P : List ℕ → Type 0) (c : Cluster) (me : RoleId) (history : List KeptRecord)
    → P (first_set c) → ((s : List ℕ) → HasKept history me (kept.Known s) → P s) → P (known_set c (durable_of replacer_rules me history))
opened_set P c me history first each = go (durable_of replacer_rules me history).known (known_left me history)
  where
    go : (s : List ℕ) → IsLeft me history s → P (kept_or (first_set c) s)
    go [] h = first
    go (m ∷ ms) (inl e) = cc
    go (m ∷ ms) (inr h) = each (m ∷ ms) h

-- what is so of each value that a replica keeps, as offered, is so of all that it offers

module _ (P : Letter → Type 0) (me : RoleId) (d : ReplicaDurable)
    (each : (to : RoleId) (s : ℕ) (v : Value) → value_kept d s ≡ Some v → P (letter me to (msg.Chosen s v))) where
  offer_says : (to : RoleId) (s : ℕ) (o : Option Value) → value_kept d s ≡ o → (x : Letter) → Member x (offer_of me to s o) → P x
  offer_says to s None e x m = absurd m
  offer_says to s (Some v) e x m = Member-one P (letter me to (msg.Chosen s v)) (each to s v e) x m

  pub offers_say : (to : RoleId) (s n : ℕ) (x : Letter) → Member x (offers me to d s n) → P x
  unfolding offers
  offers_say to s zero x m = absurd m
  offers_say to s (suc n) x m =
      Member-both P (offer_of me to (s + n) (value_kept d (s + n))) (offers me to d s n)
      (offer_says to (s + n) (value_kept d (s + n)) refl) (offers_say to s n) x m

-- what an order does to a replica
module _ (Good : Outcome ReplicaVolatile → Type 0) (c : Cluster) (me : RoleId) (d : ReplicaDurable) (v : ReplicaVolatile)
    (stranger : Good (only_word why.Stranger v)) (idle : Good (only_word why.Idle v))
    (sends : (to : RoleId) (s n : ℕ) → Good (replied why.Fetched v (offers me to d s n))) where
  by_offered : (ds : List Letter) → Good (replied why.Fetched v ds) → Good (offered v ds)
  by_offered [] h = idle
  by_offered (first ∷ rest) h = h

  pub by_order : (o : OrderOf) → Good (replica_orders c me d v o)
  by_order (order.Offer to s) =
      either_way Good (not (nat_lt to c.replicas) || (to == me.index)) _ _ stranger
      (by_offered (offers me (role kind.Replica to) d s 32) (sends (role kind.Replica to) s 32))
  by_order (order.Lead g) = stranger
  by_order (order.Change g) = stranger
  by_order order.Collect = stranger
  by_order (order.Replace s) = stranger
