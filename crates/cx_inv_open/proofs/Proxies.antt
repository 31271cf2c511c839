-- A proxy leader asks for votes in the windows that leaders proposed in.
use Rattle.cx_inv_run.proofs.Common.{◌≡◌, ℕ, ◌+◌, ◌<◌, ◌&&◌, not, nat_lt, map, List, [], ◌∷◌, Option, None, Some, refl, subst, Cluster}
use Rattle.cx_inv_run.proofs.Common.{RoleId, Round, is_in, below, numbers, role, same_role, is_before, same_round, column_whole, with_mark}
use Rattle.cx_inv_run.proofs.Common.{Letter, Input, KeptRecord, Msg, Pending, Member, names, Outcome, either_way, ProxyVolatile, pending_at}
use Rattle.cx_inv_run.proofs.Common.{pending_of, phase2a_to, column_for, members_for, chosen_to, chosen_in_to, announcement, propose_over}
use Rattle.cx_inv_run.proofs.Common.{vote_counted, vote_for, proxy_takes, again_for, again_at, proxy_tick, proxy_row, Lands, State, Given}
use Rattle.cx_inv_run.proofs.Common.{ProxyIn, proxy_kinds}
use Rattle.cx_base.specs.declared.role.Kind.TheVariants as kind
use Rattle.cx_letter.specs.declared.input.Input.TheVariants as input
use Rattle.cx_letter.specs.declared.message.Msg.TheVariants as msg
use Rattle.cx_model.specs.Proxy.{raised_to}
use Rattle.cx_inv_run.proofs.Sends.{proxy_keeps}
use Rattle.cx_inv_match.specs.Facts.{Facts, InState}
use Rattle.cx_inv_vote.proofs.Proxies.{pending_found}
use Rattle.cx_inv_open.specs.Fits.{InWindow, Fitting}
use Rattle.cx_inv_open.proofs.Keep.{AllInWindow, none_in, one_in, both_in, each_in, none_new, lands}

module _ (c : Cluster) (me : RoleId) where
  abbrev Fine : Outcome ProxyVolatile → Type 0
  Fine o = AllInWindow o.sends

  abbrev IsIn : Pending → Type 0
  IsIn p = p.slot < p.cw + 32

  asks_in : (p : Pending) → IsIn p → (acceptors : List ℕ) → AllInWindow (map (phase2a_to me p) acceptors)
  asks_in p h acceptors = each_in (phase2a_to me p) acceptors (λ a m. h)

  announcement_in : (p : Pending) → AllInWindow (announcement c me p)
  announcement_in p = both_in (map (chosen_to me p) (below c.replicas)) (chosen_in_to me p ∷ [])
      (each_in (chosen_to me p) (below c.replicas) (λ r m. tt)) (one_in (chosen_in_to me p) tt)

  over_fine : (v : ProxyVolatile) (p : Pending) → IsIn p → (o : Option Pending) → Fine (propose_over c me v p o)
  over_fine v p h None = asks_in p h (column_for c p)
  over_fine v p h (Some old) =
      either_way Fine (is_before p.round old.round) _ _ none_in
      (either_way Fine (same_round old.round p.round) _ _ none_in (asks_in p h (column_for c p)))

  counted_fine : (v : ProxyVolatile) (p : Pending) → Fine (vote_counted c me v p)
  counted_fine v p = either_way Fine (column_whole p.grid p.marks) _ _ (announcement_in p) none_in

  vote_fine : (v : ProxyVolatile) (a : ℕ) (i : Round) (o : Option Pending) → Fine (vote_for c me v a i o)
  vote_fine v a i None = none_in
  vote_fine v a i (Some p) =
      either_way Fine (not (same_round p.round i && is_in a p.grid.members)) _ _ none_in (either_way Fine p.done _ _ none_in
      (either_way Fine (is_in a p.marks) _ _ none_in (counted_fine v (record p { marks = with_mark a p.marks }))))

  -- what is pending is asked for again
  module _ (ps : List Pending) (all : (p : Pending) → Member p ps → IsIn p) where
    again_in : (s : ℕ) (o : Option Pending) → pending_at s ps ≡ o → AllInWindow (again_for c me o)
    again_in s None e = none_in
    again_in s (Some p) e =
        either_way AllInWindow p.done _ _ (announcement_in p) (asks_in p (all p (pending_found s ps p e).0) (members_for c p))

    all_again_in : (slots : List ℕ) → AllInWindow (again_at c me ps slots)
    all_again_in [] = none_in
    all_again_in (s ∷ slots) =
        both_in (again_for c me (pending_at s ps)) (again_at c me ps slots) (again_in s (pending_at s ps) refl) (all_again_in slots)

  tick_fine : (v : ProxyVolatile) (ps : List Pending) → ((p : Pending) → Member p v.pending → IsIn p) → Fine (proxy_tick c me v ps)
  tick_fine v [] all = none_in
  tick_fine v (p ∷ ps) all = all_again_in v.pending all (numbers v.known 32)

  takes_fine : (v : ProxyVolatile) (from : RoleId) (m : Msg) → InWindow m → Fine (proxy_takes c me v from m)
  takes_fine v from (msg.Propose i g s cw value) h =
      let w = raised_to cw v in
      let p = pending_of i g s cw value in
      either_way Fine (nat_lt s w.known) _ _ none_in (over_fine w p h.0 (pending_at s w.pending))
  takes_fine v from (msg.Phase2B i s) h = vote_fine v from.index i (pending_at s v.pending)
  takes_fine v from other h = none_in

pub proxy_lands : (c : Cluster) (history : List KeptRecord) (sent : List Letter) (states : RoleId → State) → Facts c history sent states
    → Fitting c history sent states
    → (p : ℕ) (v : ProxyVolatile) (i : Input) → states (role kind.Proxy p) ≡ ProxyIn v → Given sent (role kind.Proxy p) i
    → Lands (Fitting c) history sent states (role kind.Proxy p) ProxyIn (proxy_row c (role kind.Proxy p) tt v i)
proxy_lands c history sent states facts h p v i is given = lands c history sent states h me ProxyIn
    _ (none_new c history me (λ r k. proxy_keeps r k) _ (proxy_kinds c me refl v i).keeps) tt (row_fine i given)
  where
    me : RoleId
    me = role kind.Proxy p

    pendings : (q : Pending) → Member q v.pending → q.slot < q.cw + 32
    pendings q m =
        let state = subst (λ (s : State). InState c history sent me s) is (facts.running me) in
        (h.says _ (state.0.proposed q m).1).0

    row_fine : (i : Input) → Given sent me i → AllInWindow (proxy_row c me tt v i).sends
    row_fine (input.Take x) given =
        either_way (Fine c me) (same_role x.to me && names c x) _ _ (takes_fine c me v x.from x.msg (h.says x given.1)) none_in
    row_fine input.Tick given = tick_fine c me v v.pending pendings
    row_fine (input.Order order) given = none_in
