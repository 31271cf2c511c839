-- What is so of every matchmaker.
use Rattle.std.specs.Prelude.{◌≡◌, ◌||◌, ℕ, nat_le, length, IsTrue, List, Option}
use Rattle.cx_role.specs.Prelude.{Entry, Matchmaker, RoleId, Round, role, round0, entries, MatchmakerDurable, has_round}
use Rattle.cx_field.specs.Fields.{goes_with}

-- what a matchmaker's records left, by the parts that it holds
abbrev pub matchmaker_durable : Round → List Entry → Option (List ℕ) → Round → Round → List ℕ → MatchmakerDurable
matchmaker_durable w es booted ballot accepted next =
    record { watermark = w; entries = es; booted = booted; ballot = ballot; accepted = accepted; next = next }

-- It is a matchmaker, its retirement watermark is a round or none, and its entries are such as a datagram may have: at most 255, each in
-- its ranges, in the rising order of their rounds. It began with at most 254 of them, and recorded others only while there were
-- fewer than 16, or fewer than 254 and in the place of another; one more may be of the retirement watermark's round. Its ballots are rounds
-- or none, and it accepted a set exactly where it has a ballot in which it did.
pub record IsSound (me : RoleId) (d : MatchmakerDurable) : Type 0 where
  pub who : me ≡ role Matchmaker me.index
  pub watermark : IsTrue (round0.fits d.watermark)
  pub entries : IsTrue (entries.fits d.entries)
  pub room : IsTrue (nat_le (length d.entries) 254 || has_round d.watermark d.entries)
  pub ballot : IsTrue (round0.fits d.ballot)
  pub accepted : IsTrue (round0.fits d.accepted)
  pub next : IsTrue (goes_with d.accepted (length d.next))
