use Rattle.std.proofs.Common.{rules, nat_lt, ◌∙◌, ap}
use Rattle.indexmap.proofs.CallerLemmas.{filter-RetainsPairs}
use Rattle.cx_replica.proofs.Waiting.{left_waiting}
use Rattle.cx_replica.specs.Waiting.{deferred_in}
use Rattle.cx_replica.proofs.deferred.drop_answered.Goals as goal

pub returns : goal.returns
returns c =
    ap deferred_in
    (filter-RetainsPairs _ (λ e. nat_lt c.args.held e.1.mark) _ (λ k v b w g call. search rules) _ _ c.retain.ensures.filtered)
    ∙ left_waiting c.args.held c.args.map.now.entries
