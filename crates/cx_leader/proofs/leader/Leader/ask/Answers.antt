use Rattle.cx_role.proofs.Common.{◌++◌, ◌∷◌, [], IsTrue, sym, subst, live_entries}
use Rattle.cx_phase1.specs.Counting.{are_ids}
use Rattle.cx_leader.specs.State.{is_named}
use Rattle.cx_leader.proofs.MatchLaws.{live_ids, named_more}
use Rattle.cx_leader.proofs.leader.Leader.ask.Goals as goal

pub new-requires : goal.new-requires
new-requires c =
    let l = c.self.inside in
    let a = c.args.answer in
    let named = subst (λ s. IsTrue (is_named s.cluster a)) (sym c.self.view_is) c.requires.named in
    let ids = live_ids l.cluster (l.told.items ++ a ∷ []) (named_more l.cluster l.told.items a c.self.invariant.matched.named named) in
    rw c.requires.live (subst (λ s. IsTrue (are_ids (live_entries (s.volatile.told ++ a ∷ [])))) c.self.view_is ids)
