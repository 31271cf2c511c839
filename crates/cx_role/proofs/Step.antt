-- The exits of a step: it was made, it was out of memory, or its append failed.
use Rattle.std.proofs.Common.{sym, subst}
use Rattle.cx_role.specs.Prelude.{◌≡◌, Bool, false, List, Ok, Err, refl, Why, Failed, NoMemory, Outcome, Rules, Running, Letter, Appending}
use Rattle.cx_role.specs.Prelude.{IsStep, KeepsDurable, Replies, takes_no_memory}
use Rattle.cx_role.specs.Role.{FailsAt, Keeps, StaysAt, Steps}

module _ {K D V : Type 0} {gives : Appending K} {tells : K → Bool} {rules : Rules D V} {before after : Running D V} {row : Outcome V}
    {old new : K} {sent : List Letter} where
  pub done : {w : Why} → Steps gives rules before row w old new after sent → tells new ≡ tells old
      → IsStep gives tells rules before row (Ok w) after old new sent
  done step tells_same =
      record { ok = step; no_memory = λ e. cc; spared = λ e. cc; tells_same = tells_same; failed = λ e. cc; keeps = λ e. cc }

  pub spared : StaysAt gives before after old new sent → takes_no_memory row.why ≡ false → tells new ≡ tells old
      → IsStep gives tells rules before row (Err NoMemory) after old new sent
  spared stays free tells_same =
      record { ok = tt; no_memory = λ e. stays; spared = λ e. free; tells_same = tells_same; failed = λ e. cc; keeps = λ e. cc }

  pub failed : FailsAt gives row old new after sent → KeepsDurable before after → tells new ≡ tells old
      → IsStep gives tells rules before row (Err Failed) after old new sent
  failed fails keeps tells_same =
      record { ok = tt; no_memory = λ e. cc; spared = λ e. cc; tells_same = tells_same; failed = λ e. fails; keeps = λ e. keeps }

-- a reply is a step that leaves the store alone
pub still : {K D V : Type 0} {gives : Appending K} {rules : Rules D V} {before after : Running D V} {row : Outcome V} {w : Why} {store : K}
    {sent : List Letter} → Replies rules before row w after sent → Steps gives rules before row w store store after sent
still {gives} {store} reply = record {
  why = reply.why;
  kept = subst (λ k. Keeps gives k store store) (sym reply.nothing) refl;
  state = reply.state;
  sends = reply.sends;
}
