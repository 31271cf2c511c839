use Rattle.cx_base.proofs.Common.{◌≡◌, ◌++◌, ◌∷◌, [], ◌∙◌, length, ap, sym, ℕ, List, length-map}
use Rattle.cx_history.specs.Kept.{change_in, changes_in}
use Rattle.cx_history.proofs.Keeping.{kept_more}
use Rattle.cx_history.proofs.kept.Kept.push.Goals as goal

pub returns-clause-ok : goal.returns-clause-ok
returns-clause-ok c =
    let inside = c.self.inside in
    let roles : c.push_reserved.new.self.items ≡ inside.roles.items ++ c.args.role ∷ [] =
    c.push_reserved.ensures.items ∙ ap (λ rs. rs ++ c.args.role ∷ []) c.in_ok-reserve.ensures.items in
    let long : length (changes_in inside.changes) ≡ length inside.changes = length-map inside.changes (λ (p : List ℕ). change_in p) in
    rw (← c.self.view_is) (rw (roles, c.in_ok-put_change.ensures.changes)
    (kept_more inside.roles.items (changes_in inside.changes) c.args.role c.args.what.now (c.self.invariant.same_count ∙ sym long)))
