-- Vectors without answers, one more and one less.
use Rattle.std.specs.declared.alloc.Global.{Global}
use Rattle.std.proofs.lemmas.List.Elements.{All-pop}
use Rattle.cx_base.proofs.Common.{◌≡◌, ◌≤◌, List, [], ◌∷◌, ◌++◌, Some, Vec, vec_capacity, All, All-push}
use Rattle.cx_base.specs.declared.command.Answered.{Answered}
use Rattle.cx_replica.specs.Room.{IsVacant}

pub rooms_more : (rooms new : List (Vec Answered Global)) (room : Vec Answered Global) → new ≡ rooms ++ room ∷ []
    → All IsVacant rooms → room.items ≡ [] → 8 ≤ vec_capacity room → All IsVacant new
rooms_more rooms new room is all empty wide =
    rw is (All-push IsVacant rooms room all (record { empty = empty; wide = wide }))

pub rooms_less : (old rooms : List (Vec Answered Global)) (room : Vec Answered Global) → old ≡ rooms ++ room ∷ []
    → All IsVacant old → All IsVacant rooms × IsVacant room
rooms_less old rooms room is all = All-pop IsVacant old rooms (Some room) is all
