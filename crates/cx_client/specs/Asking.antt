-- Whom a client asks for its requests: those that its lines name, or, where it asks others, so many places further.
use Rattle.std.specs.Prelude.{ℕ, ◌+◌, ◌%◌, min, Option, None, Some}
use Rattle.cx_letter.specs.Prelude.{Cluster, Event}
use Rattle.cx_base.specs.declared.event.Event.TheVariants as event

-- the index so many places further, of so many; behind the last one comes the first
abbrev pub further : Option ℕ → ℕ → ℕ → ℕ
further None index count = index
further (Some n) index count = (index + n) % count

-- the same request to the batcher, reader and replica so many places further
abbrev pub shifted : Cluster → Option ℕ → Event → Event
shifted c shift (event.Write command batcher) = event.Write command (further shift batcher c.batchers)
shifted c shift (event.Read client seq floor reader replica key) =
    event.Read client seq floor (further shift reader c.readers) (further shift replica c.replicas) key
shifted c shift (event.Session client seq floor replica key) = event.Session client seq floor (further shift replica c.replicas) key
shifted c shift other = other

-- How many places further a client is that asks others: one more each time that it asks again. The count stops at 2 ^ 32 - 1.
abbrev pub one_further : Option ℕ → Option ℕ
one_further None = None
one_further (Some n) = Some (min (n + 1) 4294967295)

-- and none once one of its requests is completed
abbrev pub set_back : Option ℕ → Option ℕ
set_back None = None
set_back (Some n) = Some 0
