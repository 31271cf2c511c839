-- What the store of a hosted role is asked to do with its list, and what it answers.
use Rattle.std.specs.Prelude.{◌≡◌, ◌⊎◌, Result, Err}
use Rattle.cx_role.specs.Prelude.{KeeperChange, Append, Renewal, KeepFault, NoMemory, Appending}
use Rattle.cx_role.specs.Snap.{Renewing}

-- what a change may answer, and leave
abbrev pub Changing : Type 0 → Type 1
Changing K = K → KeeperChange → Result (Unit {0}) KeepFault → K → Type 0

-- an append or a renewal
abbrev pub changing : {K : Type 0} → Appending K → Renewing K → Changing K
changing append_gives renew_gives old (Append r) answer new = append_gives old r answer new
changing append_gives renew_gives old (Renewal records) answer new = renew_gives old records answer new

-- no change was asked for, or one was refused when out of memory
abbrev pub Refuses : {K : Type 0} → Changing K → K → K → Type 0
Refuses gives old new = (new ≡ old) ⊎ ((change : KeeperChange) × gives old change (Err NoMemory) new)
