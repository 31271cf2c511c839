-- What an event does, said of every world.
use Rattle.cx_inv_run.proofs.Common.{◌≡◌, ℕ, true, false, List, [], Option, None, Some, sym, subst, append-nil, refl, Event, Happened}
use Rattle.cx_inv_run.proofs.Common.{RoleId, Why, role, heard_by, is_stale, request, World, nothing, ask, act_at, Letter, Act, KeptRecord}
use Rattle.cx_inv_run.proofs.Common.{Token}
use Rattle.cx_base.specs.declared.role.Kind.TheVariants as kind
use Rattle.cx_base.specs.declared.why.Why.TheVariants as why
use Rattle.cx_model.specs.World.{Change}
use Rattle.cx_world.specs.World.{SeatLists, HasSeats, IsChange}

-- a change that keeps nothing leaves the seats
pub quiet : (w : World) (seats : SeatLists) (who at : Option RoleId) (u v : Why) (sends sent : List Letter) (more : Option KeptRecord)
    → at ≡ who → v ≡ u → more ≡ None → sent ≡ sends
    → HasSeats w.cluster w.roles w.kept seats
    → IsChange w (record { who = who; why = u; roles = w.roles; kept = []; sends = sends }) at v more seats sent
quiet w seats who at u v sends sent more same_who same_why none same_sends has =
    record {
      who_is = same_who;
      why = same_why;
      kept = rw none refl;
      sends = same_sends;
      seats = subst (λ ks. HasSeats w.cluster w.roles ks seats) (sym (append-nil w.kept)) has;
    }

pub asked_stale : (t : Token) (e : Event) (events : List Happened) (w : World) → w.events ≡ events → is_stale t e events ≡ true
    → ask w e (Some t) ≡ nothing (Some (role kind.Client t.client)) w.roles why.Stale
asked_stale t e events w same stale = rw (same, stale) refl

pub asked_sent : (t : Token) (e : Event) (heard : ℕ) (events : List Happened) (w : World) → w.events ≡ events
    → heard ≡ heard_by t.client w.sent w.events → is_stale t e events ≡ false
    → ◌≡◌ {A = Change} (ask w e (Some t))
    (record { who = Some (role kind.Client t.client); why = why.Sent; roles = w.roles; kept = []; sends = request heard e })
asked_sent t e heard events w same hears fresh = rw (hears, same, fresh) refl

-- the same act at the same role
pub act_from : (w : World) (P : Change → Type 0) (a b : Act) (r s : RoleId) → a ≡ b → r ≡ s → P (act_at w a r) → P (act_at w b s)
act_from w P a b r s same there h = subst (λ x. P (act_at w b x)) there (subst (λ x. P (act_at w x r)) same h)
