use Rattle.cx_role.proofs.Common.{◌+◌, ◌≤◌, ◌^◌}
use Rattle.std.proofs.lemmas.List.Elements.{All-set}
use Rattle.cx_leader.proofs.MatchLaws.{held_high}
use Rattle.cx_leader.proofs.leader.Leader.replica_holds.Goals as goal

pub raise-requires : goal.raise-requires
raise-requires c =
    let told =
    All-set (λ n. n ≤ 2 ^ 40) c.self.inside.held.items c.from-place.result c.args.n c.requires.mark c.self.invariant.holding.bounded in
    rw c.held_by-cw.ensures (held_high (c.from.result + 1) (2 ^ 40) c.deref.result.now (rw c.deref.ensures.value told))
