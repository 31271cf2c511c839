use Rattle.cx_base.proofs.Common.{◌≡◌, ◌-◌, ◌∷◌, ◌∙◌, ℕ, List, Option, Some, option_and_then, ap, sym, option_copied, option_map_or}
use Rattle.cx_script.specs.Places.{fitting, seq_and_floor}
use Rattle.cx_script.specs.Words.{word_number, parts_of}
use Rattle.cx_script.proofs.Floors.{read_at_slash}
use Rattle.cx_script.proofs.place.seq_and_floor.Goals as goal

-- what the parts of a word say, once its first is a number
read : (parts : List (List ℕ)) (front : List ℕ) (behind : Option (List ℕ)) (seq : ℕ) → parts ≡ front ∷ parts_of 47 behind
    → Some seq ≡ word_number front → seq_and_floor parts ≡ option_and_then (fitting seq) (option_map_or word_number behind (Some (seq - 1)))
read parts front behind seq cut number =
    ap seq_and_floor cut ∙ read_at_slash front behind
    ∙ ap (option_and_then (λ n. option_and_then (fitting n) (option_map_or word_number behind (Some (n - 1))))) (sym number)

pub returns-in_err-floor : goal.returns-in_err-floor
returns-in_err-floor c =
    rw c.from_residual-in_err-floor.ensures (sym (read _ _ (option_copied c.first_part.result.1) c.in_ok-seq.seq c.first_part.ensures.parts
    c.in_ok-seq.ensures ∙ ap (option_and_then (fitting c.in_ok-seq.seq)) (sym c.in_err-floor.ensures)))

pub returns : goal.returns
returns c =
    c.fitting.ensures ∙ sym (read _ _ (option_copied c.first_part.result.1) c.in_ok-seq.seq c.first_part.ensures.parts c.in_ok-seq.ensures
    ∙ ap (option_and_then (fitting c.in_ok-seq.seq)) (sym c.in_ok-floor.ensures))
