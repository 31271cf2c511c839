-- What each plan is.
use Rattle.std.specs.Prelude.{◌≡◌, ◌≤◌, ◌+◌, ◌^◌, All, length, IsTrue}
use Rattle.cx_base.specs.declared.command.Value.{Value}
use Rattle.cx_field.specs.Fields as field
use Rattle.cx_model.specs.declared.states.Plan.{Plan}

-- its slots lie in the window from its chosen watermark on and before the end of all slots, and each has a value that has a spelling
pub record IsPlan (p : Plan) : Type 0 where
  pub low : p.cw ≤ p.end
  pub high : p.end ≤ p.cw + 32
  pub end : p.end ≤ 2 ^ 40
  pub count : p.cw + length p.values ≡ p.end
  pub values : All (λ (v : Value). IsTrue (field.value.fits v)) p.values
