-- The law of a snap: a role forgets values, and its list is put anew.
use Rattle.std.specs.Prelude.{◌≡◌, ◌⊎◌, ℕ, Bool, false, List, [], Option, None, Some, Result, Ok, Err, IfOk, IsErrOf}
use Rattle.cx_model.specs.Prelude.{Why, Rules, Running, refused, written_after, Letter, Record}
use Rattle.cx_base.specs.declared.why.Why.TheVariants as why
use Rattle.cx_keep.specs.declared.keeper.KeepFault.{KeepFault}
use Rattle.cx_keep.specs.declared.keeper.KeepFault.TheVariants.{Failed, NoMemory}
use Rattle.cx_letter.specs.declared.input.Written.TheVariants as written
use Rattle.cx_role.specs.Role.{KeepsDurable, takes_no_memory}

-- what a renewal may answer, and leave
abbrev pub Renewing : Type 0 → Type 1
Renewing K = K → List Record → Result (Unit {0}) KeepFault → K → Type 0

-- below which slot a role may forget values, where it may put its list anew
abbrev pub snap_of : {D V : Type 0} → Rules D V → Running D V → Option ℕ
snap_of rules s = rules.snap s.cluster s.me s.durable s.volatile

-- the role can be opened from the list that it is put anew by
abbrev pub MayRenew : {D V : Type 0} → Rules D V → Running D V → Type 0
MayRenew rules s =
    (first : ℕ) → snap_of rules s ≡ Some first → refused rules s.cluster s.me (rules.renewed s.durable first) ≡ None

-- the word of a snap, of a role that may forget the values below this slot, or none
abbrev pub snap_word : Option ℕ → Why
snap_word None = why.Idle
snap_word (Some first) = why.Snapped

-- the keeper after its list was put anew, if it was
abbrev pub Renews : {K D V : Type 0} → Renewing K → Rules D V → D → Option ℕ → K → K → Type 0
Renews renew_gives rules d None old new = new ≡ old
Renews renew_gives rules d (Some first) old new = renew_gives old (rules.renewed d first) (Ok tt) new

-- the role after a snap
abbrev pub snapped_by : {D V : Type 0} → Rules D V → Running D V → Option ℕ → Running D V
snapped_by rules s None = s
snapped_by rules s (Some first) = record s { durable = written_after rules s.durable (written.Snap first) }

-- a whole snap is what the rules say: its word, the list and the state that it leaves; it sends nothing
pub record Snaps {K D V : Type 0} (renew_gives : Renewing K) (rules : Rules D V) (before : Running D V) (first : Option ℕ) (w : Why)
    (old new : K) (after : Running D V) (sent : List Letter) : Type 0 where
  pub why : w ≡ snap_word first
  pub list : Renews renew_gives rules before.durable first old new
  pub state : after ≡ snapped_by rules before first
  pub sends : sent ≡ []

-- the state is as it was, nothing was sent, and no renewal was asked for, or one was refused when out of memory
pub record SnapStays {K S : Type 0} (renew_gives : Renewing K) (before after : S) (old new : K) (sent : List Letter) : Type 0 where
  pub list : (new ≡ old) ⊎ ((records : List Record) × renew_gives old records (Err NoMemory) new)
  pub state : after ≡ before
  pub sends : sent ≡ []

-- the renewal failed, nothing was sent, and the role has to be opened again
pub record SnapFails {K D V : Type 0} (renew_gives : Renewing K) (rules : Rules D V) (before : Running D V) (first : Option ℕ) (old new : K)
    (after : Running D V) (sent : List Letter) : Type 0 where
  pub renewal : (n : ℕ) × (first ≡ Some n) × renew_gives old (rules.renewed before.durable n) (Err Failed) new
  pub dead : after.live ≡ false
  pub sends : sent ≡ []

-- What a snap does: it is what the rules say, or leaves everything as it was when out of memory, which one that forgets nothing never is;
-- or its renewal fails, and then it sends nothing and what the records left stays. Whether the store tells of its faults stays the same.
pub record IsSnap {K D V : Type 0} (renew_gives : Renewing K) (tells : K → Bool) (rules : Rules D V) (before : Running D V)
    (first : Option ℕ) (result : Result Why KeepFault) (after : Running D V) (old new : K) (sent : List Letter) : Type 0 where
  pub ok : IfOk result (λ w. Snaps renew_gives rules before first w old new after sent)
  pub no_memory : IsErrOf result NoMemory → SnapStays renew_gives before after old new sent
  pub spared : IsErrOf result NoMemory → takes_no_memory (snap_word first) ≡ false
  pub tells_same : tells new ≡ tells old
  pub failed : IsErrOf result Failed → SnapFails renew_gives rules before first old new after sent
  pub keeps : IsErrOf result Failed → KeepsDurable before after
