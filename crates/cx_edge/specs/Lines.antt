-- What the next line of a source is, and what of the source is buffered for the lines after it.
use Rattle.std.specs.Prelude.{◌≡◌, ◌≤◌, ◌<◌, ◌==◌, ℕ, ◌+◌, false, List, [], ◌∷◌, ◌++◌, length, take, drop, Option}
use Rattle.cx_base.specs.Prelude.{Keeps, Consumes, IsAtEnd, list_any, strip_carriage_return}
use Rattle.cx_edge.specs.declared.lines.First.{First}
use Rattle.cx_edge.specs.declared.lines.First.TheVariants as first
use Rattle.cx_edge.specs.declared.lines.Next.{Next}
use Rattle.cx_edge.specs.declared.lines.Next.TheVariants.{Line, Last, End, Long, Failed}
use Rattle.cx_edge.specs.declared.source.ReadEnd.{ReadEnd}
use Rattle.cx_edge.specs.declared.source.ReadEnd.TheVariants as end

-- the bytes that were read and not yet handed out, and the last line
pub record LinesState : Type 0 where
  pub buffered : List ℕ
  pub text : List ℕ

-- a part without a line feed
abbrev pub IsFree : List ℕ → Type 0
IsFree part = list_any (λ b. b == 10) part ≡ false

-- a line has at most max bytes, without one carriage return at its end
abbrev pub Fits : ℕ → List ℕ → Type 0
Fits max part = length (strip_carriage_return part) ≤ max

-- the bytes are the beginning of a line that isn't too long yet
abbrev pub IsOpenLine : ℕ → List ℕ → Type 0
IsOpenLine max bytes = IsFree bytes × Fits max bytes

-- they begin with a part of a line that is too long, however it goes on
pub record BeginsLong (max : ℕ) (bytes : List ℕ) : Type 0 where
  pub part : List ℕ
  pub behind : List ℕ
  pub is : bytes ≡ part ++ behind
  pub free : IsFree part
  pub long : max < length (strip_carriage_return part)

-- Bytes were read: what was buffered and they, which is what was to come, are what is handed out and then what is buffered.
pub record Hands (left left_after : Option (List ℕ)) (buffered buffered_after out : List ℕ) : Type 0 where
  pub read : List ℕ
  pub consumed : Consumes left left_after read
  pub whole : buffered ++ read ≡ out ++ buffered_after

-- the next line with its line feed
pub record GivesLine (max : ℕ) (left left_after : Option (List ℕ)) (old new : LinesState) : Type 0 where
  pub part : List ℕ
  pub free : IsFree part
  pub fits : Fits max part
  pub text : new.text ≡ strip_carriage_return part
  pub hands : Hands left left_after old.buffered new.buffered (part ++ 10 ∷ [])

-- the last line, which has none
pub record GivesLast (max : ℕ) (left left_after : Option (List ℕ)) (old new : LinesState) : Type 0 where
  pub part : List ℕ
  pub free : IsFree part
  pub some : 0 < length part
  pub fits : Fits max part
  pub text : new.text ≡ strip_carriage_return part
  pub hands : Hands left left_after old.buffered [] part
  pub none_buffered : new.buffered ≡ []
  pub at_end : IsAtEnd left_after

-- The result of `next`: nothing is lost, and where no line is handed out, all that was read is buffered.
abbrev pub GivesNext : ℕ → Option (List ℕ) → Option (List ℕ) → LinesState → LinesState → Next → Type 0
GivesNext max left left_after old new Line = GivesLine max left left_after old new
GivesNext max left left_after old new Last = GivesLast max left left_after old new
GivesNext max left left_after old new End = Hands left left_after old.buffered [] [] × (new.buffered ≡ []) × IsAtEnd left_after
GivesNext max left left_after old new Long = Hands left left_after old.buffered new.buffered [] × BeginsLong max new.buffered
GivesNext max left left_after old new Failed = Hands left left_after old.buffered new.buffered [] × IsOpenLine max new.buffered

-- the first line of the buffered bytes has this length, and this size with its line feed
pub record IsFirstLine (max : ℕ) (buffered : List ℕ) (len size : ℕ) : Type 0 where
  pub part : List ℕ
  pub free : IsFree part
  pub fits : Fits max part
  pub text : take len buffered ≡ strip_carriage_return part
  pub whole : buffered ≡ (part ++ 10 ∷ []) ++ drop size buffered
  pub shorter : len < size
  pub inside : size ≤ length buffered

-- what the buffered bytes begin with
abbrev pub IsFirst : ℕ → List ℕ → First → Type 0
IsFirst max buffered (first.Line len size) = IsFirstLine max buffered len size
IsFirst max buffered first.Long = BeginsLong max buffered
IsFirst max buffered first.Open = IsOpenLine max buffered

-- the first line is cut off what is buffered
pub record CutsLine (max : ℕ) (old new : LinesState) : Type 0 where
  pub part : List ℕ
  pub free : IsFree part
  pub fits : Fits max part
  pub text : new.text ≡ strip_carriage_return part
  pub whole : old.buffered ≡ (part ++ 10 ∷ []) ++ new.buffered

abbrev pub Cuts : ℕ → LinesState → LinesState → First → Type 0
Cuts max old new (first.Line len size) = CutsLine max old new
Cuts max old new first.Long = (new.buffered ≡ old.buffered) × BeginsLong max new.buffered
Cuts max old new first.Open = (new.buffered ≡ old.buffered) × IsOpenLine max new.buffered

-- this many bytes of a source come after those that are buffered, none only at its end
pub record GetsBehind (left left_after : Option (List ℕ)) (buffered : ℕ) (old new : List ℕ) (count : ℕ) : Type 0 where
  pub read : List ℕ
  pub size : length read ≡ count
  pub inside : buffered + count ≤ length new
  pub consumed : Consumes left left_after read
  pub whole : take (buffered + count) new ≡ take buffered old ++ read
  pub at_end : count ≡ 0 → IsAtEnd left_after

abbrev pub ReadsBehind : Option (List ℕ) → Option (List ℕ) → ℕ → List ℕ → List ℕ → ReadEnd → Type 0
ReadsBehind left left_after buffered old new (end.Got count) = GetsBehind left left_after buffered old new count
ReadsBehind left left_after buffered old new end.Failed = Keeps left left_after × (take buffered new ≡ take buffered old)

-- this many bytes of a source are buffered too, none only at its end
pub record FillsBy (left left_after : Option (List ℕ)) (buffered buffered_after : List ℕ) (count : ℕ) : Type 0 where
  pub read : List ℕ
  pub size : length read ≡ count
  pub consumed : Consumes left left_after read
  pub whole : buffered_after ≡ buffered ++ read
  pub at_end : count ≡ 0 → IsAtEnd left_after

abbrev pub Fills : Option (List ℕ) → Option (List ℕ) → List ℕ → List ℕ → ReadEnd → Type 0
Fills left left_after buffered buffered_after (end.Got count) = FillsBy left left_after buffered buffered_after count
Fills left left_after buffered buffered_after end.Failed = Keeps left left_after × (buffered_after ≡ buffered)

-- what was buffered is the last line
pub record IsLastLine (buffered : List ℕ) (new : LinesState) : Type 0 where
  pub some : 0 < length buffered
  pub text : new.text ≡ strip_carriage_return buffered
  pub none_buffered : new.buffered ≡ []

abbrev pub EmptiedAs : List ℕ → LinesState → Next → Type 0
EmptiedAs buffered new Line = ⊥
EmptiedAs buffered new Last = IsLastLine buffered new
EmptiedAs buffered new End = (buffered ≡ []) × (new.buffered ≡ [])
EmptiedAs buffered new Long = ⊥
EmptiedAs buffered new Failed = ⊥
