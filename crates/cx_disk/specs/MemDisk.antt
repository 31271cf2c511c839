-- What a disk in memory has held, call by call.
use Rattle.std.specs.Prelude.{◌≡◌, ℕ, ◌+◌, ◌≤◌, nat_le, Bool, true, List, [], ◌∷◌, ◌++◌, length, map, take, slice_range, replicate, fold}
use Rattle.std.specs.Prelude.{if◌then◌else◌}
use Rattle.std.specs.List.{list_all}
use Rattle.cx_disk.specs.Disk.{written, Torn, TornCut}
use Rattle.cx_disk.specs.declared.memory.Call.{Call}
use Rattle.cx_disk.specs.declared.memory.Call.TheVariants as call

-- a call that was not synced
pub data UnsyncedCall : Type 0 where
  write : ℕ → ℕ → UnsyncedCall
  cut : ℕ → UnsyncedCall

abbrev pub UnsyncedGives : UnsyncedCall → List ℕ → List ℕ → Type 0
UnsyncedGives (write at n) old new = Torn at n old new
UnsyncedGives (cut at) old new = TornCut at old new

-- what a read gives, what was synced last, and what was called since
pub record DiskState : Type 0 where
  pub seen : List ℕ
  pub synced : List ℕ
  pub steps : List UnsyncedCall

-- what the steps may make of the bytes
abbrev pub Reaches : List ℕ → List UnsyncedCall → List ℕ → Type 0
Reaches from [] c = c ≡ from
Reaches from (s ∷ later) c = (d : List ℕ) × UnsyncedGives s from d × Reaches d later c

abbrev pub MayLeave : DiskState → List ℕ → Type 0
MayLeave state c = Reaches state.synced state.steps c

abbrev pub stepped : DiskState → List ℕ → UnsyncedCall → DiskState
stepped state seen step = record { seen = seen; synced = state.synced; steps = state.steps ++ step ∷ [] }

-- a call that changed what a crash may leave, with the bytes that it wrote
pub data NotedCall : Type 0 where
  made_write : ℕ → List ℕ → NotedCall
  failed_write : ℕ → ℕ → NotedCall
  made_cut : ℕ → NotedCall
  failed_cut : ℕ → NotedCall
  made_sync : NotedCall

abbrev pub after : DiskState → NotedCall → DiskState
after state (made_write at bytes) =
    stepped state (if nat_le at (length state.seen) then written at bytes state.seen else state.seen) (write at (length bytes))
after state (failed_write at len) = stepped state state.seen (write at len)
after state (made_cut at) = stepped state (take at state.seen) (cut at)
after state (failed_cut at) = stepped state state.seen (cut at)
after state made_sync = record { seen = state.seen; synced = state.seen; steps = [] }

abbrev pub state_at_open : List ℕ → DiskState
state_at_open file = record { seen = file; synced = file; steps = [] }

-- the state after the calls
abbrev pub state_after : List ℕ → List NotedCall → DiskState
state_after first notes = fold after (state_at_open first) notes

-- what a crash since call t might have left
abbrev pub LeftSince : List ℕ → List NotedCall → ℕ → List ℕ → Type 0
LeftSince first notes t c = (k : ℕ) × (t ≤ k) × (k ≤ length notes) × MayLeave (state_after first (take k notes)) c

-- a call that was noted, where these are the bytes that all writes have written, one after the other
abbrev pub note_of_call : List ℕ → Call → NotedCall
note_of_call bytes (call.Write at from len) = made_write at (slice_range bytes from (from + len))
note_of_call bytes (call.WriteFailed at len) = failed_write at len
note_of_call bytes (call.Cut at) = made_cut at
note_of_call bytes (call.CutFailed at) = failed_cut at
note_of_call bytes call.Sync = made_sync

abbrev pub notes_of_calls : List ℕ → List Call → List NotedCall
notes_of_calls bytes calls = map (λ (c : Call). note_of_call bytes c) calls

-- whether the bytes of a noted call are among the first n
abbrev pub is_within : ℕ → Call → Bool
is_within n (call.Write at from len) = nat_le (from + len) n
is_within n (call.WriteFailed at len) = true
is_within n (call.Cut at) = true
is_within n (call.CutFailed at) = true
is_within n call.Sync = true

abbrev pub all_within : ℕ → List Call → Bool
all_within n calls = list_all (λ (c : Call). is_within n c) calls

-- the bytes with 0xff in n places, where these begin in them or at their end
abbrev pub fill : ℕ → ℕ → List ℕ → List ℕ
fill at n file = if nat_le at (length file) then written at (replicate n 255) file else file

-- what was synced last, with each range that was written since then filled, and cut as it was cut
abbrev pub fill_after : List ℕ → List ℕ → Call → List ℕ
fill_after synced file (call.Write at from len) = fill at len file
fill_after synced file (call.WriteFailed at len) = fill at len file
fill_after synced file (call.Cut at) = take at file
fill_after synced file (call.CutFailed at) = file
fill_after synced file call.Sync = synced

abbrev pub filled : List ℕ → List Call → List ℕ
filled synced calls = fold (fill_after synced) synced calls
