use Rattle.cx_role.proofs.Common.{◌≡◌, ◌≤◌, ℕ, false, nat_lt, length, arith, nat_tests, rules, filter_same}
use Rattle.cx_model.specs.Matchmaker.{without_grid}
use Rattle.cx_match.proofs.entries.make_room.Goals as goal

many : (n : ℕ) → 16 ≤ n → nat_lt n 16 ≡ false
many n l = grind (arith, nat_tests)

pub returns-then-len-ge-ROUNDS-clause-items : goal.returns-then-len-ge-ROUNDS-clause-items
returns-then-len-ge-ROUNDS-clause-items c =
    let kept : c.retain.new.self.items ≡ without_grid c.args.watermark c.args.grid.now c.args.entries.now.items
    = filter_same _ _ _ (λ x b f' k. search rules) _ _ c.retain.ensures.filtered in
    rw (many (length c.args.entries.now.items) (omega arith)) kept
