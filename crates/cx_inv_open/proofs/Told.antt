-- Where each event tells a floor that fits its number, so does each command that a replica kept.
use Rattle.cx_inv_run.proofs.Common.{◌≡◌, ◌⊎◌, ℕ, true, List, [], ◌∷◌, list_all, ap, subst, inl, inr, reverse, Cluster, Command, Value}
use Rattle.cx_inv_run.proofs.Common.{Event, Happened, floor_fits, is_valid_event, commands_of, Member, World, change, log_of, run, run_from}
use Rattle.cx_inv_run.proofs.Common.{log_in, log_by_time, Member-all, Member-cases, all-Member}
use Rattle.cx_base.specs.declared.event.Event.TheVariants as event
use Rattle.cx_model.specs.Promises.{WasSent}
use Rattle.cx_model.specs.World.{step}
use Rattle.cx_inv_run.proofs.Members.{at-Member}
use Rattle.cx_inv_vote.proofs.Agree.{kept_is_chosen}
use Rattle.cx_inv_list.proofs.Answers.{chosen_asked}
use Rattle.cx_inv_open.specs.Fits.{has_fitting_floors}

-- what happened was there before, or is one of the events
happened : (w : World) (es : List Event) (h : Happened) → Member h (run_from w es).events → Member h w.events ⊎ Member h.event es
unfolding step
happened w [] h m = inl m
happened w (e ∷ es) h m = elim (happened (step w e) es h m) [
  | inl k ↦ elim (Member-cases h w.events (record { event = e; why = (change w e).why } ∷ []) k) [
    | inl old ↦ inl old
    | inr new ↦ elim new [ inl same ↦ inr (inl (ap (λ (x : Happened). x.event) same)) | inr none ↦ absurd none ]
  ]
  | inr k ↦ inr (inr k)
]

asked_fits : (c : Cluster) (es : List Event) → list_all is_valid_event es ≡ true → (k : Command) → WasSent (run c es).events k
    → floor_fits k.seq k.floor ≡ true
asked_fits c es valid k (b, m) = elim (happened (run c []) es _ m) [
  | inl none ↦ absurd none
  | inr there ↦ all-Member is_valid_event es valid (event.Write k b) there
]

pub run_told : (c : Cluster) (es : List Event) → list_all is_valid_event es ≡ true → (p : ℕ)
    → has_fitting_floors (log_in (reverse (run c es).kept) p) ≡ true
run_told c es valid p =
    subst (λ (l : List Value). has_fitting_floors l ≡ true) (log_by_time p (run c es).kept)
    (Member-all (λ (v : Value). list_all (λ (k : Command). floor_fits k.seq k.floor) (commands_of v)) (log_of p (run c es).kept) each)
  where
    each : (v : Value) → Member v (log_of p (run c es).kept) → list_all (λ (k : Command). floor_fits k.seq k.floor) (commands_of v) ≡ true
    each v m =
        let at = at-Member v (log_of p (run c es).kept) m in
        Member-all (λ (k : Command). floor_fits k.seq k.floor) (commands_of v)
        (λ k in_it. asked_fits c es valid k (chosen_asked c es at.0 v (kept_is_chosen c es p at.0 v at.1) k in_it))
