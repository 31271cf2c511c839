-- The replacer's rows: it stops a set of matchmakers, has the next set decided among them, and lets its members begin with what the earlier
-- ones recorded (JSys 2021: matchmakers are replaced by a consensus among the old; the rows are this project's own).
use Rattle.std.specs.Prelude.{ℕ, ◌==◌, Bool, true, false, not, ◌&&◌, ◌||◌, bytes_eq, nat_lt, map, filter, if◌then◌else◌, List, [], ◌∷◌}
use Rattle.std.specs.Prelude.{◌++◌, length, Option, None, Some}
use Rattle.cx_letter.specs.Prelude.{list_any, Cluster, Replace, Leader, Matchmaker, Reader, Replacer, RoleId, Round, is_in, below}
use Rattle.cx_letter.specs.Prelude.{same_role, role, is_before, same_round, no_round, lead_after, is_above, Entry, Letter, letter}
use Rattle.cx_base.specs.declared.event.Order.{Order as OrderOf}
use Rattle.cx_base.specs.declared.why.Why.TheVariants as why
use Rattle.cx_grid.specs.Quorum.{with_mark}
use Rattle.cx_letter.specs.declared.input.Input.{Input}
use Rattle.cx_letter.specs.declared.input.Input.TheVariants.{Take, Tick, Order}
use Rattle.cx_letter.specs.declared.kept.Record.{Record}
use Rattle.cx_letter.specs.declared.kept.Record.TheVariants as kept
use Rattle.cx_letter.specs.declared.message.Msg.{Msg}
use Rattle.cx_letter.specs.declared.message.Msg.TheVariants as msg
use Rattle.cx_model.specs.declared.states.Halt.{Halt}
use Rattle.cx_model.specs.declared.states.MatchAnswer.{MatchAnswer}
use Rattle.cx_model.specs.declared.states.Replacing.{Replacing}
use Rattle.cx_model.specs.declared.states.Replacing.TheVariants.{Idle, Stopping, Deciding, Booting}
use Rattle.cx_model.specs.Matched.{enough, first_set, later_round, greatest_watermark, live_entries}
use Rattle.cx_model.specs.Names.{names, names_ballot, names_set}
use Rattle.cx_model.specs.Outcome.{Outcome, only_word, replied}
use Rattle.cx_model.specs.Rules.{Rules}

-- the greatest ballot that it began, or none; and the last set that it kept, or none
pub record ReplacerDurable : Type 0 where
  pub own : Round
  pub known : List ℕ

-- What it is doing; the greatest ballot that it was told of; the set that it knows; the set that is to follow: the one that was ordered,
-- then the one that is to be decided; the answers of stopped matchmakers that it counted, and who answered the later questions; and what
-- the members of the next set begin with.
pub record ReplacerVolatile : Type 0 where
  pub mode : Replacing
  pub seen : Round
  pub set : List ℕ
  pub next : List ℕ
  pub halts : List Halt
  pub counted : List ℕ
  pub watermark : Round
  pub entries : List Entry

abbrev pub is_resting : Replacing → Bool
is_resting Idle = true
is_resting Stopping = false
is_resting Deciding = false
is_resting Booting = false

abbrev pub is_stopping : Replacing → Bool
is_stopping Idle = false
is_stopping Stopping = true
is_stopping Deciding = false
is_stopping Booting = false

abbrev pub is_deciding : Replacing → Bool
is_deciding Idle = false
is_deciding Stopping = false
is_deciding Deciding = true
is_deciding Booting = false

abbrev pub is_booting : Replacing → Bool
is_booting Idle = false
is_booting Stopping = false
is_booting Deciding = false
is_booting Booting = true

-- the matchmakers that have stopped, as answers of matchmakers
abbrev pub answers_of : List Halt → List MatchAnswer
answers_of halts = map (λ (h : Halt). h.answer) halts

abbrev pub has_halted : ℕ → List Halt → Bool
has_halted m halts = list_any (λ (h : Halt). h.answer.matchmaker == m) halts

-- entries by rising round; of one round the first stays
abbrev pub with_entry : Entry → List Entry → List Entry
with_entry e [] = e ∷ []
with_entry e (x ∷ xs) =
    if is_before e.round x.round then e ∷ x ∷ xs
    else if same_round e.round x.round then x ∷ xs
    else x ∷ with_entry e xs

abbrev pub sorted_into : List Entry → List Entry → List Entry
sorted_into sorted [] = sorted
sorted_into sorted (e ∷ es) = sorted_into (with_entry e sorted) es

-- what several stopped matchmakers recorded, from their greatest retirement watermark on, by rising round
abbrev pub joined_entries : List Halt → List Entry
joined_entries halts = sorted_into [] (live_entries (answers_of halts))

-- of two answers the one that accepted in the greater ballot; of one ballot the first
abbrev pub later_halt : Halt → Option Halt → Halt
later_halt h None = h
later_halt h (Some x) = if is_before h.accepted x.accepted then x else h

-- the answer of the greatest ballot in which a next set was accepted; of several the one counted first
abbrev pub latest : List Halt → Option Halt
latest [] = None
latest (h ∷ halts) = Some (later_halt h (latest halts))

abbrev pub next_of : List ℕ → Option Halt → List ℕ
next_of ordered None = ordered
next_of ordered (Some h) = if is_before no_round h.accepted then h.next else ordered

-- the set to decide: one that may have been decided already, else the one that was ordered
abbrev pub to_decide : List ℕ → List Halt → List ℕ
to_decide ordered halts = next_of ordered (latest halts)

abbrev pub stop_a_to : RoleId → Round → ℕ → Letter
stop_a_to me b m = letter me (role Matchmaker m) (msg.StopA b)

abbrev pub next_a_to : RoleId → Round → List ℕ → ℕ → Letter
next_a_to me b s m = letter me (role Matchmaker m) (msg.NextA b s)

abbrev pub boot_a_to : RoleId → List ℕ → Round → List Entry → ℕ → Letter
boot_a_to me s w es m = letter me (role Matchmaker m) (msg.BootA s w es)

abbrev pub sets_to : RoleId → List ℕ → RoleId → Letter
sets_to me s to = letter me to (msg.Sets s)

-- the other replacers
abbrev pub others : Cluster → RoleId → List ℕ
others c me = filter (λ x. not (x == me.index)) (below c.replacers)

-- all leaders, readers and other replacers are told the set
abbrev pub sets_to_all : Cluster → RoleId → List ℕ → List Letter
sets_to_all c me s =
    map (λ l. sets_to me s (role Leader l)) (below c.leaders)
    ++ map (λ r. sets_to me s (role Reader r)) (below c.readers)
    ++ map (λ x. sets_to me s (role Replacer x)) (others c me)

-- it begins a ballot, if there is one
abbrev pub begin_in : RoleId → ReplacerVolatile → List ℕ → Option Round → Outcome ReplacerVolatile
begin_in me v s None = only_word why.End v
begin_in me v s (Some b) =
    record {
      why = why.Started;
      kept = Some (kept.Ballot b);
      volatile = record v { mode = Stopping; next = s; halts = []; counted = [] };
      sends = map (stop_a_to me b) v.set;
    }

-- the order to replace the known set by another one, which lies above it
abbrev pub replace_row : Cluster → RoleId → ReplacerDurable → ReplacerVolatile → List ℕ → Outcome ReplacerVolatile
replace_row c me d v s =
    if not (names_set c s) then only_word why.Stranger v
    else if not (is_above s v.set) then only_word why.Old v
    else begin_in me v s (lead_after d.own v.seen me.index)

-- enough matchmakers have stopped: what they recorded is joined, and the next set is asked for
abbrev pub decide : RoleId → ReplacerDurable → ReplacerVolatile → List Entry → List ℕ → Outcome ReplacerVolatile
decide me d v es s =
    if nat_lt 254 (length es) then only_word why.Full (record v { mode = Idle })
    else replied why.Asking
    (record v { mode = Deciding; next = s; counted = []; watermark = greatest_watermark (answers_of v.halts); entries = es })
    (map (next_a_to me d.own s) v.set)

abbrev pub halt_counted : Cluster → RoleId → ReplacerDurable → ReplacerVolatile → Outcome ReplacerVolatile
halt_counted c me d v =
    if nat_lt (length v.halts) (enough c) then only_word why.Counted v
    else decide me d v (joined_entries v.halts) (to_decide v.next v.halts)

-- a matchmaker has stopped
abbrev pub stop_b_row : Cluster → RoleId → ReplacerDurable → ReplacerVolatile → RoleId → Round → Round → List Entry → Round → List ℕ
    → Outcome ReplacerVolatile
stop_b_row c me d v from b w es a s =
    if not (is_stopping v.mode && same_round b d.own && is_in from.index v.set) then only_word why.Old v
    else if has_halted from.index v.halts then only_word why.Same v
    else halt_counted c me d (record v {
      halts = v.halts ++ record { answer = record { matchmaker = from.index; watermark = w; entries = es }; accepted = a; next = s } ∷ [];
    })

abbrev pub next_counted : Cluster → RoleId → ReplacerVolatile → List ℕ → Outcome ReplacerVolatile
next_counted c me v counted =
    if nat_lt (length counted) (enough c) then only_word why.Counted (record v { counted = counted })
    else replied why.Decided (record v { mode = Booting; counted = [] }) (map (boot_a_to me v.next v.watermark v.entries) v.next)

-- a matchmaker has accepted the next set; enough of them decide it
abbrev pub next_b_row : Cluster → RoleId → ReplacerDurable → ReplacerVolatile → RoleId → Round → Outcome ReplacerVolatile
next_b_row c me d v from b =
    if not (is_deciding v.mode && same_round b d.own) then only_word why.Old v
    else if is_in from.index v.counted then only_word why.Same v
    else next_counted c me v (with_mark from.index v.counted)

-- of the set that it kept, or none, and the first one: which it knows when it is opened
abbrev pub kept_or : List ℕ → List ℕ → List ℕ
kept_or first [] = first
kept_or first (m ∷ ms) = m ∷ ms

abbrev pub known_set : Cluster → ReplacerDurable → List ℕ
known_set c d = kept_or (first_set c) d.known

-- where the header says so, a set that it comes to know is kept
abbrev pub known_record : Cluster → ReplacerDurable → List ℕ → Option Record
known_record c d s = if c.keep_sets && is_above s (known_set c d) then Some (kept.Known s) else None

abbrev pub boot_counted : Cluster → RoleId → ReplacerDurable → ReplacerVolatile → List ℕ → Outcome ReplacerVolatile
boot_counted c me d v counted =
    if nat_lt (length counted) (enough c) then only_word why.Counted (record v { counted = counted })
    else record {
      why = why.Replaced;
      kept = known_record c d v.next;
      volatile = record v { mode = Idle; set = v.next };
      sends = sets_to_all c me v.next;
    }

-- a member of the next set has begun; enough of them make it the known set
abbrev pub boot_b_row : Cluster → RoleId → ReplacerDurable → ReplacerVolatile → RoleId → List ℕ → Outcome ReplacerVolatile
boot_b_row c me d v from s =
    if not (is_booting v.mode && bytes_eq s v.next) then only_word why.Old v
    else if is_in from.index v.counted then only_word why.Same v
    else boot_counted c me d v (with_mark from.index v.counted)

abbrev pub with_seen : Round → ReplacerVolatile → ReplacerVolatile
with_seen i v = record v { seen = later_round v.seen i }

-- a matchmaker has promised a greater ballot, which is noted whatever the answer
abbrev pub stop_nack_row : ReplacerDurable → ReplacerVolatile → Round → Round → Outcome ReplacerVolatile
stop_nack_row d v b other =
    if not (same_round b d.own) || is_resting v.mode || is_booting v.mode then only_word why.Old (with_seen other v)
    else only_word why.Nacked (record (with_seen other v) { mode = Idle })

-- another replacer tells a set
abbrev pub sets_row : Cluster → ReplacerDurable → ReplacerVolatile → List ℕ → Outcome ReplacerVolatile
sets_row c d v s =
    if is_above s v.set
    then record { why = why.Learnt; kept = known_record c d s; volatile = record v { mode = Idle; set = s }; sends = [] }
    else only_word why.Old v

abbrev pub replacer_takes : Cluster → RoleId → ReplacerDurable → ReplacerVolatile → RoleId → Msg → Outcome ReplacerVolatile
replacer_takes c me d v from (msg.StopB b w es a s) = stop_b_row c me d v from b w es a s
replacer_takes c me d v from (msg.NextB b) = next_b_row c me d v from b
replacer_takes c me d v from (msg.BootB s) = boot_b_row c me d v from s
replacer_takes c me d v from (msg.StopNack b other) = stop_nack_row d v b other
replacer_takes c me d v from (msg.Sets s) = sets_row c d v s
replacer_takes c me d v from other = only_word why.Stranger v

-- what is waited for is asked again; a later set than the first is told again
abbrev pub tick_in : Cluster → RoleId → ReplacerDurable → ReplacerVolatile → Replacing → Outcome ReplacerVolatile
tick_in c me d v Idle = if is_above v.set (first_set c) then replied why.Resent v (sets_to_all c me v.set) else only_word why.Idle v
tick_in c me d v Stopping = replied why.Resent v (map (stop_a_to me d.own) v.set)
tick_in c me d v Deciding = replied why.Resent v (map (next_a_to me d.own v.next) v.set)
tick_in c me d v Booting = replied why.Resent v (map (boot_a_to me v.next v.watermark v.entries) v.next)

abbrev pub replacer_orders : Cluster → RoleId → ReplacerDurable → ReplacerVolatile → OrderOf → Outcome ReplacerVolatile
replacer_orders c me d v (Replace s) = replace_row c me d v s
replacer_orders c me d v other = only_word why.Stranger v

abbrev pub replacer_row : Cluster → RoleId → ReplacerDurable → ReplacerVolatile → Input → Outcome ReplacerVolatile
replacer_row c me d v (Take letter) =
    if same_role letter.to me && names c letter then replacer_takes c me d v letter.from letter.msg else only_word why.Stranger v
replacer_row c me d v Tick = tick_in c me d v v.mode
replacer_row c me d v (Order order) = replacer_orders c me d v order

abbrev pub replacer_after : ReplacerDurable → Record → ReplacerDurable
replacer_after d (kept.Ballot b) = record d { own = b }
replacer_after d (kept.Known s) = record d { known = s }
replacer_after d other = d

-- whether the replacer could have appended this record
abbrev pub replacer_fits : Cluster → RoleId → ReplacerDurable → Record → Bool
replacer_fits c me d (kept.Ballot b) = names_ballot c b && (b.id == me.index) && is_before d.own b && (b.s == 0)
replacer_fits c me d (kept.Known s) = c.keep_sets && names_set c s && is_above s (known_set c d)
replacer_fits c me d other = false

abbrev pub idle_replacer : Cluster → ReplacerDurable → ReplacerVolatile
idle_replacer c d =
    record {
      mode = Idle;
      seen = no_round;
      set = known_set c d;
      next = [];
      halts = [];
      counted = [];
      watermark = no_round;
      entries = [];
    }

-- its ballot is durable, and a set that it kept; whatever else it knows it learns again
abbrev pub replacer_rules : Rules ReplacerDurable ReplacerVolatile
replacer_rules = record {
  kind = Replacer;
  empty = record { own = no_round; known = [] };
  after = replacer_after;
  fits = replacer_fits;
  whole = λ d. true;
  fresh = idle_replacer;
  row = replacer_row;
  snap = λ c me d v. None;
  renewed = λ d first. [];
}
