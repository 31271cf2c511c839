-- What the words of a command line say, by clap's definitions for this command.
use Rattle.std.specs.Prelude.{◌≡◌, ℕ, List, [], ◌∷◌, codes, pos, Bool, true, false, ◌&&◌, nat_le, Option, Some, None, option_map}
use Rattle.std.specs.Prelude.{option_and_then, if◌then◌else◌, bytes_eq}
use Rattle.std.specs.Option.{option_map_or}
use Rattle.std.specs.Str.Parse.{digits_value, without_leading_plus}
use Rattle.clap.specs.ValueTests.{is_unsigned_in}
use Rattle.clap.specs.Lexer.{usize_max}
use Rattle.clap.specs.Words.{App, Kinds, Row, Rule, Text, all_of, fault_of, new_app, new_rule, one_of, subcommand_of, subcommand_rows_of}
use Rattle.clap.specs.Words.{with_rule, with_subcommand}
use Rattle.clap.specs.declared.builder.action.ArgAction.TheVariants.{SetTrue}
use Rattle.clap.specs.declared.builder.value_parser.ValueParser.TheVariants as parser
use Rattle.clap.specs.declared.parser.matches.ArgMatches.{ArgMatches}
use Rattle.cx_base.specs.declared.role.RoleId.{RoleId}
use Rattle.compax.specs.declared.words.Invocation.{Invocation}
use Rattle.compax.specs.declared.words.Invocation.TheVariants.{Replay, Generate, Node}
use Rattle.compax.specs.Roles.{roles_of}

-- ---- the command: `replay`; `gen` with a number of 64 bits and one of 16, both required; or `node` with a number of turns and a window,
-- which have defaults, another number or none, a flag or none, and after them one role or more

abbrev pub most_seed : ℕ
most_seed = 18446744073709551615

abbrev pub most_count : ℕ
most_count = 65535

abbrev pub most_u32 : ℕ
most_u32 = 4294967295

abbrev pub most_u8 : ℕ
most_u8 = 255

abbrev pub seed_rule : Rule
seed_rule = record (new_rule (codes "SEED")) { required = true; parser = Some (parser.Unsigned 0 most_seed) }

abbrev pub count_rule : Rule
count_rule = record (new_rule (codes "COUNT")) { required = true; parser = Some (parser.Signed (pos 0) (pos most_count)) }

-- `--turns N`, N a number of 32 bits from 1 to 1,000,000,000
abbrev pub turns_rule : Rule
turns_rule = record (new_rule (codes
    "turns")) { long = Some (codes "turns"); defaults = codes "1000000" ∷ []; parser = Some (parser.Signed (pos 1) (pos 1000000000)) }

-- `--tend N`, N a number of 32 bits from 64 to 65,536; it may be left out
abbrev pub tend_rule : Rule
tend_rule = record (new_rule (codes "tend")) { long = Some (codes "tend"); parser = Some (parser.Signed (pos 64) (pos 65536)) }

-- `--window W`, W a number of 8 bits
abbrev pub window_rule : Rule
window_rule = record (new_rule
    (codes "window")) { long = Some (codes "window"); defaults = codes "1" ∷ []; parser = Some (parser.Signed (pos 0) (pos most_u8)) }

-- `--record`
abbrev pub record_rule : Rule
record_rule = record (new_rule (codes "record")) { long = Some (codes "record"); action = Some SetTrue }

abbrev pub roles_rule : Rule
roles_rule = record (new_rule (codes "ROLE")) { required = true; range = Some (record { start_inclusive = 1; end_inclusive = usize_max }) }

abbrev pub replay_app : App
replay_app = new_app (codes "replay")

abbrev pub generate : App
generate = with_rule (with_rule (new_app (codes "gen")) seed_rule) count_rule

-- `node` with its options alone
abbrev pub node_options : App
node_options = with_rule (with_rule (with_rule (with_rule (new_app (codes "node")) turns_rule) tend_rule) window_rule) record_rule

abbrev pub node : App
node = with_rule node_options roles_rule

abbrev pub requires_subcommand : App → App
requires_subcommand a = record a { top = record a.top { subcommand_required = true } }

abbrev pub compax_app : App
compax_app = with_subcommand (with_subcommand (with_subcommand (requires_subcommand (new_app (codes "compax"))) replay_app.top)
    generate.top) node.top

-- ---- what the words say

-- the number up to `most` that a text reads as
abbrev pub text_number : ℕ → Text → Option ℕ
text_number most text = if is_unsigned_in 0 most text then Some (digits_value 10 (without_leading_plus text)) else None

-- the number under an id
abbrev pub number_at : ℕ → Text → List Row → Option ℕ
number_at most id rows = option_and_then (text_number most) (one_of id rows)

abbrev pub generated : List Row → Option Invocation
generated rows = option_and_then (λ seed. option_map (Generate seed) (number_at most_count (codes "COUNT") rows))
    (number_at most_seed (codes "SEED") rows)

-- the roles under an id
abbrev pub roles_at : Text → List Row → Option (List RoleId)
roles_at id rows = option_and_then roles_of (all_of id rows)

-- a client may have 1 to 64 requests outstanding
abbrev pub window_of : ℕ → Option ℕ
window_of window = if nat_le 1 window && nat_le window 64 then Some window else None

abbrev pub window_at : List Row → Option ℕ
window_at rows = option_and_then window_of (number_at most_u8 (codes "window") rows)

-- whether a flag is among the words: its value is `true` then, and else `false`
abbrev pub is_set : Text → List Row → Bool
is_set id rows = option_map_or (λ (t : Text). bytes_eq t (codes "true")) (one_of id rows) false

-- a node with this number of turns and this window
abbrev pub node_with : List Row → ℕ → ℕ → Option Invocation
node_with rows turns window =
    option_map (Node turns (number_at most_u32 (codes "tend") rows) window (is_set (codes "record") rows)) (roles_at (codes "ROLE") rows)

abbrev pub hosted : List Row → Option Invocation
hosted rows = option_and_then (λ turns. option_and_then (node_with rows turns) (window_at rows)) (number_at most_u32 (codes "turns") rows)

-- what a subcommand asks for, by its name and its values
abbrev pub asked_by : Text × List Row → Option Invocation
asked_by met =
    if bytes_eq met.0 (codes "replay") then Some Replay
    else if bytes_eq met.0 (codes "gen") then generated met.1
    else if bytes_eq met.0 (codes "node") then hosted met.1
    else None

-- there is no kind of error
abbrev pub has_no_kind : Kinds → Bool
has_no_kind [] = true
has_no_kind (kind ∷ kinds) = false

-- the subcommand and its values, none where the words give a fault
unfoldable pub said : List Text → Option Invocation
said words = if has_no_kind (fault_of compax_app words) then option_and_then asked_by (subcommand_of compax_app words) else None

-- these are the matches of words, or they give a fault
abbrev pub IsMatch : List Text → Option ArgMatches → Type 0
IsMatch words None = has_no_kind (fault_of compax_app words) ≡ false
IsMatch words (Some matches) =
    (has_no_kind (fault_of compax_app words) ≡ true) × (subcommand_rows_of matches ≡ subcommand_of compax_app words)
