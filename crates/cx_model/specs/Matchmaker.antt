-- The matchmaker's rows: it records which grid each round uses, and is replaced as a member of a set (JSys 2021; the rows of being replaced
-- are this project's own).
use Rattle.std.specs.Prelude.{ℕ, ◌+◌, ◌*◌, ◌-◌, ◌==◌, bytes_eq, Bool, true, false, not, ◌&&◌, ◌||◌, nat_lt, nat_le, filter}
use Rattle.std.specs.Prelude.{if◌then◌else◌, List, [], ◌∷◌, ◌++◌, length, slice_get, Option, None, Some}
use Rattle.cx_letter.specs.Prelude.{list_all, list_any, option_map_or, Cluster, Matchmaker, RoleId, Round, Full, Idle, Old, Same, Stranger}
use Rattle.cx_letter.specs.Prelude.{Unasked, Shape, is_in, same_role, below, is_before, same_round, no_round, Letter, letter, Entry}
use Rattle.cx_letter.specs.Prelude.{NackReason, Asking}
use Rattle.cx_base.specs.declared.why.Why.TheVariants.{Accepted, Asked, Booted, Collected, Halted, Later, Matched, Nack, New, Raised}
use Rattle.cx_base.specs.declared.why.Why.TheVariants.{Stopped}
use Rattle.cx_letter.specs.declared.input.Input.{Input}
use Rattle.cx_letter.specs.declared.input.Input.TheVariants.{Take, Tick, Order}
use Rattle.cx_field.specs.declared.parts.NackReason.TheVariants as nack
use Rattle.cx_letter.specs.declared.message.Msg.{Msg}
use Rattle.cx_letter.specs.declared.message.Msg.TheVariants as msg
use Rattle.cx_letter.specs.declared.kept.Record.{Record}
use Rattle.cx_letter.specs.declared.kept.Record.TheVariants as kept
use Rattle.cx_model.specs.Names.{names, names_round, names_grid, names_entry, names_ballot, names_set}
use Rattle.cx_model.specs.Outcome.{Outcome, only_word, replied}
use Rattle.cx_model.specs.Rules.{Rules}

-- The round below which rounds are retired, and the rounds that were recorded, rising, with their grids; the set with which it began, if it
-- began in one that followed another; the greatest ballot that it promised, which it stopped under, and the ballot in which it accepted a
-- next set last, with that set.
pub record MatchmakerDurable : Type 0 where
  pub watermark : Round
  pub entries : List Entry
  pub booted : Option (List ℕ)
  pub ballot : Round
  pub accepted : Round
  pub next : List ℕ

-- it has stopped: a ballot is a real round
abbrev pub is_stopped : MatchmakerDurable → Bool
is_stopped d = is_before no_round d.ballot

-- the set that it is a member of: it began in it, or it is one of the first
abbrev pub set_of : Cluster → RoleId → Option (List ℕ) → Option (List ℕ)
set_of c me (Some s) = Some s
set_of c me None = if nat_lt me.index (2 * c.f + 1) then Some (below (2 * c.f + 1)) else None

abbrev pub has_set : Option (List ℕ) → Bool
has_set None = false
has_set (Some s) = true

-- it is a member of a set
abbrev pub is_booted : Cluster → RoleId → MatchmakerDurable → Bool
is_booted c me d = has_set (set_of c me d.booted)

abbrev pub entry : Round → Shape → Entry
entry i g = record { round = i; grid = g }

-- the entries of rounds before this one
abbrev pub entries_before : Round → List Entry → List Entry
entries_before i es = filter (λ (e : Entry). is_before e.round i) es

-- the entries of this round and later ones
abbrev pub entries_since : Round → List Entry → List Entry
entries_since i es = filter (λ (e : Entry). not (is_before e.round i)) es

abbrev pub has_round : Round → List Entry → Bool
has_round i es = list_any (λ (e : Entry). same_round e.round i) es

-- the greatest round that was recorded: that of the last entry
abbrev pub greatest : List Entry → Round
greatest es = option_map_or (λ (e : Entry). e.round) (slice_get es (length es - 1)) no_round

-- a retiring round gets its own entry, before the later ones, where it has none
abbrev pub with_own : Round → Shape → List Entry → List Entry
with_own i g es = if has_round i es then es else entry i g ∷ es

-- whether two grids are the same: their sides and their members
abbrev pub same_grid : Shape → Shape → Bool
same_grid g h = g.rows == h.rows && g.cols == h.cols && bytes_eq g.members h.members

abbrev pub has_grid : Shape → List Entry → Bool
has_grid g es = list_any (λ (e : Entry). same_grid e.grid g) es

-- without the entries with this grid, but for the one of the retirement watermark
abbrev pub without_grid : Round → Shape → List Entry → List Entry
without_grid w g es = filter (λ (e : Entry). same_round e.round w || not (same_grid e.grid g)) es

-- the entries beside which a round with this grid is recorded: all where there are fewer than 16, else it takes the place of those with it
abbrev pub beside : Round → Shape → List Entry → List Entry
beside w g es = if nat_lt (length es) 16 then es else without_grid w g es

-- Whether there is room for a round with this grid: there are fewer than 16 entries; or, where the cluster has one entry a grid, it can
-- take the place of one. After a replacement there may be up to 254: fewer leave room for one more, and for that of a retirement.
abbrev pub has_place : Cluster → Shape → List Entry → Bool
has_place c g es = nat_lt (length es) 16 || (c.one_entry_a_grid && has_grid g es && nat_lt (length es) 254)

abbrev pub matchmaker_after : MatchmakerDurable → Record → MatchmakerDurable
matchmaker_after d (kept.Match i g) = record d { entries = beside d.watermark g d.entries ++ entry i g ∷ [] }
matchmaker_after d (kept.Garbage i g) = record d { watermark = i; entries = with_own i g (entries_since i d.entries) }
matchmaker_after d (kept.Stop b) = record d { ballot = b }
matchmaker_after d (kept.Next b s) = record d { ballot = b; accepted = b; next = s }
matchmaker_after d (kept.Boot s w es) = record d { booted = Some s; watermark = w; entries = es }
matchmaker_after d other = d

-- whether the matchmaker could have appended this record
abbrev pub matchmaker_fits : Cluster → RoleId → MatchmakerDurable → Record → Bool
matchmaker_fits c me d (kept.Match i g) =
    is_booted c me d && not (is_stopped d) && names_round c i && names_grid c g && not (is_before i d.watermark)
    && list_all (λ (e : Entry). is_before e.round i) d.entries && has_place c g d.entries
matchmaker_fits c me d (kept.Garbage i g) =
    is_booted c me d && not (is_stopped d) && names_round c i && names_grid c g && is_before d.watermark i
matchmaker_fits c me d (kept.Stop b) = is_booted c me d && names_ballot c b && is_before d.ballot b
matchmaker_fits c me d (kept.Next b s) =
    is_booted c me d && names_ballot c b && names_set c s && not (is_before b d.ballot) && not (same_round b d.accepted)
matchmaker_fits c me d (kept.Boot s w es) =
    not (is_booted c me d) && is_in me.index s && names_set c s && names_round c w && list_all (λ (e : Entry). names_entry c e) es
matchmaker_fits c me d other = false

abbrev pub match_b_to : RoleId → RoleId → Round → MatchmakerDurable → Letter
match_b_to me leader i d = letter me leader (msg.MatchB i d.watermark (entries_before i d.entries))

-- What a repeat tells: the earlier entries, or all where the cluster has one entry a grid, for the round's own may have taken the place of
-- an earlier one.
abbrev pub again_told : Cluster → Round → List Entry → List Entry
again_told c i es = if c.one_entry_a_grid then es else entries_before i es

abbrev pub match_again_to : Cluster → RoleId → RoleId → Round → MatchmakerDurable → Letter
match_again_to c me leader i d = letter me leader (msg.MatchB i d.watermark (again_told c i d.entries))

abbrev pub match_nack_to : RoleId → RoleId → Round → NackReason → Round → Letter
match_nack_to me leader i reason other = letter me leader (msg.MatchNack i reason other)

-- a leader asks for the earlier rounds and their grids
abbrev pub match_a_row : Cluster → RoleId → MatchmakerDurable → RoleId → Round → Shape → Outcome (Unit {0})
match_a_row c me d from i g =
    if is_before i d.watermark then replied Collected tt (match_nack_to me from i nack.Collected d.watermark ∷ [])
    else if list_any (λ (e : Entry). is_before i e.round) d.entries
    then replied Later tt (match_nack_to me from i nack.Later (greatest d.entries) ∷ [])
    else if has_round i d.entries then replied Same tt (match_again_to c me from i d ∷ [])
    else if not (has_place c g d.entries) then replied Full tt (match_nack_to me from i nack.Full (greatest d.entries) ∷ [])
    else record { why = Matched; kept = Some (kept.Match i g); volatile = tt; sends = match_b_to me from i d ∷ [] }

abbrev pub garbage_b_to : RoleId → RoleId → Round → Letter
garbage_b_to me leader i = letter me leader (msg.GarbageB i)

-- a leader asks to forget the rounds below its own; its own entry stays, or is made (JSys 2021; the entry is this project's own)
abbrev pub garbage_a_row : RoleId → MatchmakerDurable → RoleId → Round → Shape → Outcome (Unit {0})
garbage_a_row me d from i g =
    if is_before d.watermark i
    then record { why = Raised; kept = Some (kept.Garbage i g); volatile = tt; sends = garbage_b_to me from i ∷ [] }
    else replied Same tt (garbage_b_to me from i ∷ [])

-- a reader asks for the retirement watermark and all entries (this project's own)
abbrev pub match_read_row : RoleId → MatchmakerDurable → RoleId → Asking → Outcome (Unit {0})
match_read_row me d from u = replied Asked tt (letter me from (msg.MatchReadAck u d.watermark d.entries) ∷ [])

-- ---- being replaced: in its set it answers ballots as an acceptor of one decree does, and the first ballot stops it

abbrev pub stop_b_to : RoleId → RoleId → Round → MatchmakerDurable → Letter
stop_b_to me replacer b d = letter me replacer (msg.StopB b d.watermark d.entries d.accepted d.next)

abbrev pub stop_nack_to : RoleId → RoleId → Round → MatchmakerDurable → Letter
stop_nack_to me replacer b d = letter me replacer (msg.StopNack b d.ballot)

-- a replacer asks it to stop
abbrev pub stop_a_row : RoleId → MatchmakerDurable → RoleId → Round → Outcome (Unit {0})
stop_a_row me d from b =
    if is_before b d.ballot then replied Nack tt (stop_nack_to me from b d ∷ [])
    else if same_round b d.ballot then replied Same tt (stop_b_to me from b d ∷ [])
    else record { why = Halted; kept = Some (kept.Stop b); volatile = tt; sends = stop_b_to me from b d ∷ [] }

abbrev pub next_b_to : RoleId → RoleId → Round → Letter
next_b_to me replacer b = letter me replacer (msg.NextB b)

-- a replacer asks it to accept the next set
abbrev pub next_a_row : RoleId → MatchmakerDurable → RoleId → Round → List ℕ → Outcome (Unit {0})
next_a_row me d from b s =
    if is_before b d.ballot then replied Nack tt (stop_nack_to me from b d ∷ [])
    else if same_round b d.accepted then replied Same tt (next_b_to me from b ∷ [])
    else record { why = Accepted; kept = Some (kept.Next b s); volatile = tt; sends = next_b_to me from b ∷ [] }

abbrev pub boot_b_to : RoleId → RoleId → List ℕ → Letter
boot_b_to me replacer s = letter me replacer (msg.BootB s)

abbrev pub boot_in : RoleId → RoleId → List ℕ → Round → List Entry → Option (List ℕ) → Outcome (Unit {0})
boot_in me from s w es (Some t) = if bytes_eq s t then replied Same tt (boot_b_to me from s ∷ []) else only_word Old tt
boot_in me from s w es None = record { why = Booted; kept = Some (kept.Boot s w es); volatile = tt; sends = boot_b_to me from s ∷ [] }

-- a replacer asks it to begin in a set that was decided
abbrev pub boot_a_row : Cluster → RoleId → MatchmakerDurable → RoleId → List ℕ → Round → List Entry → Outcome (Unit {0})
boot_a_row c me d from s w es = if is_in me.index s then boot_in me from s w es (set_of c me d.booted) else only_word Unasked tt

-- what only a member of a set does, and what only one that hasn't stopped does
abbrev pub in_set : Cluster → RoleId → MatchmakerDurable → Outcome (Unit {0}) → Outcome (Unit {0})
in_set c me d o = if is_booted c me d then o else only_word New tt

abbrev pub at_work : Cluster → RoleId → MatchmakerDurable → Outcome (Unit {0}) → Outcome (Unit {0})
at_work c me d o = in_set c me d (if is_stopped d then only_word Stopped tt else o)

abbrev pub matchmaker_takes : Cluster → RoleId → MatchmakerDurable → RoleId → Msg → Outcome (Unit {0})
matchmaker_takes c me d from (msg.MatchA i g) = at_work c me d (match_a_row c me d from i g)
matchmaker_takes c me d from (msg.GarbageA i g) = at_work c me d (garbage_a_row me d from i g)
matchmaker_takes c me d from (msg.MatchRead u) = at_work c me d (match_read_row me d from u)
matchmaker_takes c me d from (msg.StopA b) = in_set c me d (stop_a_row me d from b)
matchmaker_takes c me d from (msg.NextA b s) = in_set c me d (next_a_row me d from b s)
matchmaker_takes c me d from (msg.BootA s w es) = boot_a_row c me d from s w es
matchmaker_takes c me d from other = only_word Stranger tt

abbrev pub matchmaker_row : Cluster → RoleId → MatchmakerDurable → Unit {0} → Input → Outcome (Unit {0})
matchmaker_row c me d v (Take letter) =
    if same_role letter.to me && names c letter then matchmaker_takes c me d letter.from letter.msg else only_word Stranger tt
matchmaker_row c me d v Tick = only_word Idle tt
matchmaker_row c me d v (Order order) = only_word Stranger tt

-- all that a matchmaker knows is durable
abbrev pub matchmaker_rules : Rules MatchmakerDurable (Unit {0})
matchmaker_rules = record {
  kind = Matchmaker;
  empty = record { watermark = no_round; entries = []; booted = None; ballot = no_round; accepted = no_round; next = [] };
  after = matchmaker_after;
  fits = matchmaker_fits;
  whole = λ d. true;
  fresh = λ c d. tt;
  row = matchmaker_row;
  snap = λ c me d v. None;
  renewed = λ d first. [];
}
