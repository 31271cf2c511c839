-- What a replica answers a read.
use Rattle.std.specs.Prelude.{ℕ, nat_le, map, filter, List}
use Rattle.cx_role.specs.Prelude.{Pair, Client, RoleId, text_at, role, Letter, letter, Deferred}
use Rattle.cx_letter.specs.declared.message.Msg.TheVariants as msg

-- the key's text in a map, where `held` slots are held
abbrev pub answer_at : RoleId → ℕ → List Pair → Deferred → Letter
answer_at me held pairs r =
    letter me (role Client r.token.client) (msg.ReadAnswer r.token.seq held (text_at r.key pairs))

-- the same for each read that waited for no more slots
abbrev pub answers_at : RoleId → ℕ → List Pair → List Deferred → List Letter
answers_at me held pairs reads = map (answer_at me held pairs) (filter (λ (r : Deferred). nat_le r.mark held) reads)
