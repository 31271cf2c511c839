-- What a leader proposed, as contracts see it.
use Rattle.std.specs.Prelude.{◌≡◌, ◌≤◌, ◌<◌, ◌+◌, ◌-◌, ◌^◌, ◌∷◌, ◌++◌, ℕ, Bool, true, false, nat_le, max, map, filter, List, [], All}
use Rattle.std.specs.Prelude.{Option, None, Some, IsTrue}
use Rattle.cx_role.specs.Prelude.{Placed, Value, Cluster, Leader, numbers, role, Entry, Letter, are_known, propose_to, placed_from}
use Rattle.cx_model.specs.declared.states.Plan.{Plan}
use Rattle.cx_field.specs.Fields as field
use Rattle.cx_phase1.specs.Window.{IsWindow, is_used_up}
use Rattle.cx_ring.specs.Ring.{RingState}

-- the chosen watermark and the next free slot; the slot before which it proposed when it began to lead; what it
-- proposed from the chosen watermark on, and which of these slots it knows to be chosen
pub record ProposalsState : Type 0 where
  pub cw : ℕ
  pub next : ℕ
  pub end : ℕ
  pub proposed : List Placed
  pub chosen : List ℕ

-- nothing is proposed from this slot on
abbrev pub nothing_from : ℕ → ProposalsState
nothing_from cw = record { cw = cw; next = cw; end = cw; proposed = []; chosen = [] }

-- what a plan proposes
abbrev pub planned : Plan → ProposalsState
planned p = record { cw = p.cw; next = p.end; end = p.end; proposed = placed_from p.cw p.values; chosen = [] }

-- what it proposed, proposed again in the next round, where nothing is known to be chosen yet
abbrev pub led_on : ProposalsState → ProposalsState
led_on p = record p { end = p.next; chosen = [] }

-- a value at the next slot
abbrev pub proposing_with_value : Value → ProposalsState → ProposalsState
proposing_with_value v p = record p { next = p.next + 1; proposed = p.proposed ++ record { slot = p.next; value = v } ∷ [] }

-- whether no slot is free
abbrev pub is_full : ProposalsState → Bool
is_full p = is_used_up (record { cw = p.cw; next = p.next })

abbrev pub with_chosen : ℕ → ProposalsState → ProposalsState
with_chosen s p = record p { chosen = p.chosen ++ s ∷ [] }

-- a greater chosen watermark
abbrev pub raise_proposing : ℕ → ProposalsState → ProposalsState
raise_proposing cw p =
    record {
      cw = max p.cw cw;
      next = max p.next (max p.cw cw);
      end = p.end;
      proposed = filter (λ (x : Placed). nat_le (max p.cw cw) x.slot) p.proposed;
      chosen = filter (λ s. nat_le (max p.cw cw) s) p.chosen;
    }

-- whether all that it proposed when it began to lead is known to be chosen, or held
abbrev pub is_settled : ProposalsState → Bool
is_settled p = are_known p.chosen p.cw p.end

-- what a leader with this chosen watermark sends to propose these values in its round
abbrev pub propose_sends : Cluster → ℕ → Entry → ℕ → List Placed → List Letter
propose_sends c leader own cw ps = map (propose_to c (role Leader leader) own cw) ps

-- a slot that a leader with this chosen watermark may propose at
pub record IsWindowSlot (cw s : ℕ) : Type 0 where
  pub low : cw ≤ s
  pub high : s < cw + 32
  pub end : s < 2 ^ 40

-- a value that has a spelling
abbrev pub HasSpelledValue : Placed → Type 0
HasSpelledValue p = IsTrue (field.value.fits p.value)

-- the slots from the chosen watermark on have one value each, up to the next free one
pub record IsProposing (cw next : ℕ) (proposed : List Placed) : Type 0 where
  pub window : IsWindow cw next
  pub slots : map (λ (p : Placed). p.slot) proposed ≡ numbers cw (next - cw)
  pub values : All HasSpelledValue proposed

-- the value of a slot, if it has one
abbrev pub placed_list : Option Placed → List Placed
placed_list None = []
placed_list (Some x) = x ∷ []

-- the windows whose values are held, and of which it is known what is chosen, begin at the chosen watermark
pub record IsHolding (cw next : ℕ) (list : RingState Placed) (known : ℕ) : Type 0 where
  pub proposing : IsProposing cw next list.items
  pub first : list.first ≡ cw
  pub known_first : known ≡ cw

-- a value gets the next slot, if one is free
abbrev pub Adds : Value → ProposalsState → Option ℕ → ProposalsState → Type 0
Adds v old None new = (is_full old ≡ true) × (new ≡ old)
Adds v old (Some s) new = (is_full old ≡ false) × (s ≡ old.next) × IsWindowSlot old.cw s × (new ≡ proposing_with_value v old)
