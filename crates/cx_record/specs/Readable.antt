-- Which events can be recorded, and that their lines are read as these events.
use Rattle.std.specs.Prelude.{◌≡◌, ◌<◌, ◌^◌, Bool, true, false, List, None}
use Rattle.cx_letter.specs.Prelude.{is_valid_event, Cluster, Op, Put, Del, App, Torn, Kept, Event, Lead, Change, Collect, Offer, Replace}
use Rattle.cx_letter.specs.Prelude.{IsGrid, IsName}
use Rattle.cx_base.specs.declared.event.Event.TheVariants as event
use Rattle.cx_base.specs.declared.event.Order.{Order}
use Rattle.cx_script.specs.Lines.{schedule_of}
use Rattle.cx_script.specs.Names.{names_event}
use Rattle.cx_record.specs.Lines.{events_text}

-- What the types of an event's parts keep: keys, texts and grids, and numbers of 64 bits.
abbrev pub HasNames : Op → Type 0
HasNames (Put key text) = IsName 32 key × IsName 64 text
HasNames (Del key) = IsName 32 key
HasNames (App key text) = IsName 32 key × IsName 64 text

abbrev pub HasGrid : Order → Type 0
HasGrid (Lead grid) = IsGrid grid
HasGrid (Change grid) = IsGrid grid
HasGrid Collect = Unit {0}
HasGrid (Replace set) = Unit {0}
HasGrid (Offer to slot) = Unit {0}

abbrev pub HasRanges : Event → Type 0
HasRanges (event.Write command batcher) = (command.seq < 2 ^ 64) × HasNames command.op
HasRanges (event.Read client seq floor reader replica key) = (seq < 2 ^ 64) × IsName 32 key
HasRanges (event.Session client seq floor replica key) = (seq < 2 ^ 64) × IsName 32 key
HasRanges (event.Deliver number cut) = number < 2 ^ 64
HasRanges (event.Order leader order cut) = HasGrid order
HasRanges other = Unit {0}

-- whether the line of an event tells all of it: that of an order to collect has no word for a cut
abbrev pub tells_all : Event → Bool
tells_all (event.Order leader Collect Torn) = false
tells_all (event.Order leader Collect Kept) = false
tells_all other = true

-- An event that can be recorded: the world takes it, its names lie in the cluster, and its line tells all of it.
pub record IsRecordable (c : Cluster) (e : Event) : Type 0 where
  pub ranges : HasRanges e
  pub valid : is_valid_event e ≡ true
  pub named : names_event c e ≡ true
  pub complete : tells_all e ≡ true

-- the lines of these events are read as these events
abbrev pub AreRead : Cluster → List Event → Type 0
AreRead c es = schedule_of c (events_text es) ≡ record { events = es; bad = None }
