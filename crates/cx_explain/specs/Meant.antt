-- The word that may be meant in the place of another one.
use Rattle.std.specs.Prelude.{ℕ, ◌==◌, List, [], ◌∷◌, length, codes, find, is_some, Option, None, Some, if◌then◌else◌, nat_eq}
use Rattle.strsim.specs.Edits.{levenshtein_row}
use Rattle.cx_explain.specs.declared.rule.Rule.{Rule}
use Rattle.cx_explain.specs.declared.rule.Rule.TheVariants as rule
use Rattle.cx_script.specs.Places.{kind_part}

-- how many bytes are to be put in, taken away or changed to make the one of the other
abbrev pub edits : List ℕ → List ℕ → ℕ
edits word other = levenshtein_row nat_eq word other (length other)

abbrev pub at_distance : ℕ → List ℕ → List (List ℕ) → Option (List ℕ)
at_distance count word known = find (λ other. edits word other == count) known

abbrev pub or_next : Option (List ℕ) → Option (List ℕ) → Option (List ℕ)
or_next None other = other
or_next (Some word) other = Some word

-- the first of the nearest words, at most two edits away; none where the word is known itself
abbrev pub nearest : List ℕ → List (List ℕ) → Option (List ℕ)
nearest word known = if is_some (at_distance 0 word known) then None else or_next (at_distance 1 word known) (at_distance 2 word known)

abbrev pub events : List (List ℕ)
events =
    codes "write" ∷ codes "read" ∷ codes "session" ∷ codes "deliver" ∷ codes "tick" ∷ codes "lead" ∷ codes "change" ∷ codes "collect"
    ∷ codes "offer" ∷ codes "snap" ∷ codes "replace" ∷ codes "crash" ∷ codes "restart" ∷ []

abbrev pub later_words : List (List ℕ)
later_words = codes "put" ∷ codes "del" ∷ codes "app" ∷ codes "torn" ∷ codes "kept" ∷ []

abbrev pub kinds : List (List ℕ)
kinds =
    codes "client" ∷ codes "batcher" ∷ codes "leader" ∷ codes "proxy" ∷ codes "acceptor" ∷ codes "match" ∷ codes "replica"
    ∷ codes "unbatcher" ∷ codes "reader" ∷ codes "replacer" ∷ []

-- of more than one letter
abbrev pub keys : List (List ℕ)
keys =
    codes "leaders" ∷ codes "proxies" ∷ codes "acceptors" ∷ codes "replicas" ∷ codes "batchers" ∷ codes "unbatchers"
    ∷ codes "readers" ∷ codes "clients" ∷ codes "batch" ∷ codes "base_port" ∷ codes "pool" ∷ codes "replacers"
    ∷ codes "one_entry_a_grid" ∷ codes "own_proxies" ∷ codes "keep_sets" ∷ []

-- what may be meant by a word that breaks a rule: an event, another word, a kind of role, a key
abbrev pub meant : Rule → List ℕ → Option (List ℕ)
meant rule.UnknownEvent word = nearest word events
meant rule.OtherWord word = nearest word later_words
meant rule.Role word = nearest (kind_part word) kinds
meant rule.UnknownKey word = nearest word keys
meant other word = None
