-- The run of each input is lawful, since each run is, and its events are such as the world takes.
use Rattle.cx_base.proofs.Common.{◌∙◌, ap, sym, and_parts, list_all-append}
use Rattle.cx_model.specs.Prelude.{◌≡◌, ℕ, zero, suc, Bool, true, false, List, [], ◌∷◌, Option, None, Some, Result, Ok, Err, refl, length}
use Rattle.cx_model.specs.Prelude.{if◌then◌else◌, list_all, is_valid_event, Cluster, Event, Begins, run}
use Rattle.cx_cluster.specs.declared.fault.ClusterFault.{ClusterFault}
use Rattle.cx_cluster.specs.Reading.{header_cluster}
use Rattle.cx_promises.proofs.Lawful.{lawful}
use Rattle.cx_replay.specs.Generated.{gen_events, gen_state}
use Rattle.cx_replay.specs.Input.{behind, header_says, input_says}
use Rattle.cx_replay.specs.Lawful.{IsLawfulAlong, IsLawfulRun, IsLawfulInput, IsLawfulGenerated}
use Rattle.cx_replay.specs.ReplayInput.{ReplayInput, Nothing, BadHeader}
use Rattle.cx_script.proofs.Generated.{generated_is_good}
use Rattle.cx_script.proofs.Takes.{schedule_is_good}
use Rattle.cx_script.specs.Generator.{gen_cluster, next_event}
use Rattle.cx_script.specs.Header.{header_and_rest}
use Rattle.cx_script.specs.Input.{begun_input, of_header, whole_input}
use Rattle.cx_script.specs.Lines.{schedule_of}
use Rattle.cx_script.specs.Unended.{settled_text, is_long_header}

-- events that begin others are taken where all are
begins_taken : (so_far es : List Event) → Begins so_far es → list_all is_valid_event es ≡ true → list_all is_valid_event so_far ≡ true
begins_taken so_far es begins all =
    (and_parts (list_all is_valid_event so_far) (list_all is_valid_event begins.0)
    (sym (list_all-append is_valid_event so_far begins.0) ∙ ap (λ (l : List Event). list_all is_valid_event l) (sym begins.1) ∙ all)).0

lawful_along : (c : Cluster) (es : List Event) → list_all is_valid_event es ≡ true → IsLawfulAlong c es
lawful_along c es all = record { lawful = λ so_far begins. lawful c so_far; taken = λ so_far begins. begins_taken so_far es begins all }

lawful_behind : (said : Result Cluster ClusterFault) (rest : List ℕ) → IsLawfulRun (behind said rest)
lawful_behind (Ok c) rest = lawful_along c (schedule_of c rest).events (schedule_is_good c is_valid_event (λ e h. h.taken) rest)
lawful_behind (Err fault) rest = tt

-- what a header and the bytes after it say, where there is a header
lawful_header : (parts : Option (List ℕ × List ℕ)) (without : ReplayInput) → IsLawfulRun without
    → IsLawfulRun (of_header header_says parts without)
lawful_header None without h = h
lawful_header (Some parts) without h = lawful_behind (header_cluster parts.0) parts.1

bad_or_nothing : (long : Bool) → IsLawfulRun (if long then BadHeader else Nothing)
bad_or_nothing true = tt
bad_or_nothing false = tt

lawful_heard : (ended : Bool) (bytes : List ℕ) → IsLawfulRun (input_says ended bytes)
unfolding whole_input begun_input
lawful_heard true bytes = lawful_header (header_and_rest bytes) BadHeader tt
lawful_heard false bytes = lawful_header (header_and_rest (settled_text 1024 bytes))
    (if is_long_header (settled_text 16384 bytes) then BadHeader else Nothing) (bad_or_nothing (is_long_header (settled_text 16384 bytes)))

pub lawful_input : (left left_after : Option (List ℕ)) → IsLawfulInput left left_after
lawful_input left left_after bytes given ended = lawful_heard ended bytes

generated_taken : (seed count : ℕ) → list_all is_valid_event (gen_events seed count) ≡ true
generated_taken seed zero = refl
generated_taken seed (suc count) =
    let before = gen_events seed count in
    let next = next_event (gen_state seed count) (length (run gen_cluster before).sent) in
    list_all-append is_valid_event before (next ∷ [])
    ∙ rw (generated_taken seed count, (generated_is_good (gen_state seed count) (length (run gen_cluster before).sent)).taken) refl

pub lawful_generated : (seed count : ℕ) → IsLawfulGenerated seed count
lawful_generated seed count = lawful_along gen_cluster (gen_events seed count) (generated_taken seed count)
