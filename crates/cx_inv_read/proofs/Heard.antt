-- What was delivered to a client it has heard from then on.
use Rattle.cx_inv_run.proofs.Common.{◌≡◌, ℕ, zero, suc, ◌≤◌, true, List, [], ◌∷◌, ◌++◌, Some, inl, inr, sym, subst, refl, arith, slice_get}
use Rattle.cx_inv_run.proofs.Common.{Option, Cut, Event, Happened, RoleId, role, same_role, Token, Letter, mark_told, heard_at, heard_by}
use Rattle.cx_inv_run.proofs.Common.{number_itself, Member, token_of, World, change, AllAllowed, Member-first}
use Rattle.cx_base.specs.declared.event.Event.TheVariants as event
use Rattle.cx_base.specs.declared.role.Kind.TheVariants as kind
use Rattle.cx_base.specs.declared.why.Why.TheVariants as why
use Rattle.cx_model.specs.World.{step}
use Rattle.cx_inv_run.specs.Laws.{heard_of}

get_front : {X : Type 0} (xs ys : List X) (i : ℕ) (x : X) → slice_get xs i ≡ Some x → slice_get (xs ++ ys) i ≡ Some x
get_front [] ys i x h = cc
get_front (z ∷ xs) ys zero x h = h
get_front (z ∷ xs) ys (suc i) x h = get_front xs ys i x h

module _ (k : ℕ) (cut : Cut) (d : Letter) (client : ℕ) (own : d.to ≡ role kind.Client client) where
  abbrev delivered : Happened
  delivered = record { event = event.Deliver k cut; why = why.Heard }

  told_now : (sent : List Letter) → slice_get sent k ≡ Some d → heard_at client sent delivered ≡ mark_told d.msg
  told_now sent there =
      let mine : same_role d.to (role kind.Client client) ≡ true =
      subst (λ (r : RoleId). same_role r (role kind.Client client) ≡ true) (sym own) (number_itself client) in
      rw (there, mine) refl

  heard_least : (sent : List Letter) → slice_get sent k ≡ Some d → (events : List Happened) → Member delivered events
      → mark_told d.msg ≤ heard_by client sent events
  heard_least sent there [] m = absurd m
  heard_least sent there (h ∷ events) (inl e) =
      let now : heard_at client sent h ≡ mark_told d.msg =
      subst (λ (x : Happened). heard_at client sent x ≡ mark_told d.msg) e (told_now sent there) in
      omega arith
  heard_least sent there (h ∷ events) (inr m) = let l = heard_least sent there events m in omega arith

  -- so each of its later requests goes out after it heard at least as much
  pub heard_along : (t : Token) → t.client ≡ client → (w : World) (es : List Event) → slice_get w.sent k ≡ Some d
      → Member delivered w.events → AllAllowed (λ n e. token_of e ≡ Some t → mark_told d.msg ≤ n) w es
  unfolding step
  heard_along t is w [] there m = tt
  heard_along t is w (e ∷ es) there m = (
    λ sent q. subst (λ (o : Option Token). mark_told d.msg ≤ heard_of w o) (sym q)
        (subst (λ c. mark_told d.msg ≤ heard_by c w.sent w.events) (sym is) (heard_least w.sent there w.events m)),
    heard_along t is (step w e) es (get_front w.sent (change w e).sends k d there)
        (Member-first delivered w.events (record { event = e; why = (change w e).why } ∷ []) m),
  )
