-- Generated events, one by one.
use Rattle.std.proofs.Common.{ap, ◌∙◌, add-one}
use Rattle.cx_model.specs.Prelude.{◌≡◌, ℕ, zero, suc, ◌+◌, List, [], ◌∷◌, ◌++◌, length, refl, Event, World, start, step, run, run_from}
use Rattle.cx_replay.specs.Generated.{gen_state, gen_events}
use Rattle.cx_script.specs.Generator.{gen_cluster, next_event, next_state}

run_push : (w : World) (es : List Event) (e : Event) → run_from w (es ++ e ∷ []) ≡ step (run_from w es) e
run_push w [] e = refl
run_push w (first ∷ es) e = run_push (step w first) es e

pub gen_state_more : (seed n : ℕ) → gen_state seed (n + 1) ≡ next_state (gen_state seed n)
gen_state_more seed n = ap (gen_state seed) (add-one n)

pub made_is : (seed n : ℕ) → (gen_state seed n).made ≡ n
unfolding next_state
made_is seed zero = refl
made_is seed (suc n) = ap (λ (k : ℕ). k + 1) (made_is seed n) ∙ add-one n

pub gen_run_more : (seed n : ℕ) → run gen_cluster (gen_events seed (n + 1))
    ≡ step (run gen_cluster (gen_events seed n)) (next_event (gen_state seed n) (length (run gen_cluster (gen_events seed n)).sent))
gen_run_more seed n =
    ap (λ (k : ℕ). run gen_cluster (gen_events seed k)) (add-one n)
    ∙ run_push (start gen_cluster) (gen_events seed n) (next_event (gen_state seed n) (length (run gen_cluster (gen_events seed n)).sent))
