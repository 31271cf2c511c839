-- What is so of every batch, and of every reader.
use Rattle.std.specs.Prelude.{◌≡◌, ◌+◌, ◌≤◌, ◌&&◌, not, ℕ, nat_lt, Bool, true, List, [], ◌∷◌, Option, None, Some, length, IsTrue}
use Rattle.cx_role.specs.Prelude.{list_all, is_in, Acked, MatchAnswer, mark, round0, Asked, Batch, has_acked, is_among, last_turn}
use Rattle.cx_field.specs.Fields.{seq}

-- whether the retirement watermarks of matchmakers' answers are in their range
abbrev pub has_fitting_watermarks : List MatchAnswer → Bool
has_fitting_watermarks told = list_all (λ (a : MatchAnswer). round0.fits a.watermark) told

-- whether an acceptor can be marked, and its number of slots is in its range
abbrev pub is_ack : Acked → Bool
is_ack a = nat_lt a.acceptor 64 && mark.fits a.mark

abbrev pub are_acks : List Acked → Bool
are_acks acks = list_all (λ (a : Acked). is_ack a) acks

-- what the batch sends is in its ranges, its reads are at most 64, and those are marked that were counted
pub record IsRunningBatch (turn : ℕ) (reads : List Asked) (told : List MatchAnswer) (acks : List Acked) (marks : List ℕ) : Type 0 where
  pub turn_fits : IsTrue (seq.fits turn)
  pub few : length reads ≤ 64
  pub told_fit : IsTrue (has_fitting_watermarks told)
  pub acks_fit : IsTrue (are_acks acks)
  pub marked : (id : ℕ) → is_in id marks ≡ has_acked id acks

-- whether no two reads have one client and number
abbrev pub are_once : List Asked → Bool
are_once [] = true
are_once (r ∷ rs) = not (is_among r.read rs) && are_once rs

-- whether no read of the second list has the client and number of one of the first
abbrev pub are_apart : List Asked → List Asked → Bool
are_apart reads others = list_all (λ (r : Asked). not (is_among r.read reads)) others

-- the reads of the running batch, and how many there are
abbrev pub running_reads : Option Batch → List Asked
running_reads None = []
running_reads (Some b) = b.reads

abbrev pub count_running : Option Batch → ℕ
count_running None = 0
count_running (Some b) = length b.reads

-- the last turn is in its range, at most 64 reads wait and run together, and none that waits runs
pub record IsReader (turn : ℕ) (waiting : List Asked) (running : Option Batch) : Type 0 where
  pub turn_fits : turn ≤ last_turn
  pub few : length waiting + count_running running ≤ 64
  pub apart : IsTrue (are_apart (running_reads running) waiting)
