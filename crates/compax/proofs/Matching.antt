-- What a parse of this command's words gives.
use Rattle.std.proofs.Common.{◌≡◌, ◌∙◌, ap, sym, refl, List, [], ◌∷◌, Option, Some, None, true, false, inl, inr, option_map}
use Rattle.std.proofs.Common.{option_and_then, ap₂, is_some, Box}
use Rattle.std.proofs.lemmas.Option.{same_Some}
use Rattle.std.specs.Box.{box_value}
use Rattle.clap.specs.declared.parser.matches.SubCommand.{SubCommand}
use Rattle.clap.specs.declared.parser.matches.ArgMatches.TheViews.{out-ArgMatches, out-SubCommand}
use Rattle.clap.specs.Words.{Row, subcommand_rows, subcommand_name_of, has_subcommand, App, HasMatchesOf, HasKind, Kinds, is_simple}
use Rattle.clap.specs.Words.{is_simple_and_free, fault_of, kind_of, subcommand_of, subcommand_rows_of, Text}
use Rattle.clap.specs.declared.error.Error.{Error}
use Rattle.clap.specs.declared.error.kind.ErrorKind.TheVariants as kind
use Rattle.clap.specs.declared.parser.matches.ArgMatches.{ArgMatches}
use Rattle.clap.proofs.OnLiterals.{clap_on_literals}
use Rattle.compax.specs.Words.{has_no_kind, compax_app, IsMatch, said, asked_by}

is_simple-compax : is_simple compax_app ≡ true
unfolding clap_on_literals
is_simple-compax = refl

is_free-compax : is_simple_and_free compax_app ≡ true
unfolding clap_on_literals
is_free-compax = refl

none_empty : (kinds : Kinds) (e : Error) → (kind_of e ≡ kind.OutOfMemory → ⊥) → HasKind kinds e → has_no_kind kinds ≡ false
none_empty [] e other (inl memory) = absurd (other memory)
none_empty [] e other (inr among) = absurd among
none_empty (k ∷ ks) e other has = refl

pub matched-ok : (a : App) (words : List Text) (m : ArgMatches) → a ≡ compax_app → HasMatchesOf a words m
    → (is_simple_and_free a ≡ true → fault_of a words ≡ []) → IsMatch words (Some m)
matched-ok a words m is has kinds =
    let no_fault : fault_of a words ≡ [] = kinds (ap is_simple_and_free is ∙ is_free-compax) in
    let here : fault_of compax_app words ≡ [] = ap (λ x. fault_of x words) (sym is) ∙ no_fault in
    (ap has_no_kind here, (has (ap is_simple is ∙ is_simple-compax)).1 ∙ ap (λ x. subcommand_of x words) is)

pub matched-err : (a : App) (words : List Text) (e : Error) → a ≡ compax_app → (kind_of e ≡ kind.OutOfMemory → ⊥)
    → (is_simple_and_free a ≡ true → HasKind (fault_of a words) e) → IsMatch words None
matched-err a words e is other kinds = ap (λ x. has_no_kind (fault_of x words)) (sym is)
    ∙ none_empty (fault_of a words) e other (kinds (ap is_simple_and_free is ∙ is_free-compax))

pub said-fault : (words : List Text) → IsMatch words None → None ≡ said words
unfolding said
said-fault words fault = rw fault refl

pub said-match : (words : List Text) (m : ArgMatches) → IsMatch words (Some m)
    → said words ≡ option_and_then asked_by (subcommand_rows_of m)
unfolding said
said-match words m is = rw (is.0, is.1) refl

-- a subcommand that was met, from its name and its rows
pub subcommand_rows-met : {Z : Type 0} (sub : Option (Box SubCommand Z)) (name : Text) (rows : List Row)
    → Some name ≡ option_map (λ b. (out-SubCommand (box_value b)).name.now) sub
    → Some rows ≡ option_map (λ p. p.1) (subcommand_rows sub) → subcommand_rows sub ≡ Some (name, rows)
subcommand_rows-met None name rows named same_rows = cc
subcommand_rows-met (Some b) name rows named same_rows =
    ap₂ (λ (n : Text) (r : List Row). Some (n, r)) (sym (same_Some _ _ named)) (sym (same_Some _ _ same_rows))

subcommand_rows-missing : {Z : Type 0} (sub : Option (Box SubCommand Z)) → false ≡ is_some sub → subcommand_rows sub ≡ None
subcommand_rows-missing None none = refl
subcommand_rows-missing (Some b) none = cc

pub said-met : (words : List Text) (m : ArgMatches) (name : Text) (rows : List Row) → IsMatch words (Some m)
    → Some name ≡ subcommand_name_of m → Some rows ≡ option_map (λ p. p.1) (subcommand_rows_of m) → asked_by (name, rows) ≡ said words
said-met words m name rows is named same_rows =
    ap (option_and_then asked_by) (sym (subcommand_rows-met (out-ArgMatches m).subcommand name rows named same_rows))
    ∙ sym (said-match words m is)

pub said-missing : (words : List Text) (m : ArgMatches) → IsMatch words (Some m) → false ≡ has_subcommand m → None ≡ said words
said-missing words m is none =
    ap (option_and_then asked_by) (sym (subcommand_rows-missing (out-ArgMatches m).subcommand none)) ∙ sym (said-match words m is)
