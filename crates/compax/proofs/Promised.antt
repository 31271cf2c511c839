-- The run that the words ask for is lawful.
use Rattle.std.specs.Prelude.{ℕ, List, Option, None, Some}
use Rattle.cx_replay.proofs.Lawful.{lawful_input, lawful_generated}
use Rattle.compax.specs.Answer.{IsLawfulAnswer}
use Rattle.compax.specs.declared.words.Invocation.{Invocation}
use Rattle.compax.specs.declared.words.Invocation.TheVariants.{Replay, Generate, Node}

pub lawful_answer : (said : Option Invocation) (left left_after : Option (List ℕ)) → IsLawfulAnswer said left left_after
lawful_answer None left left_after = tt
lawful_answer (Some Replay) left left_after = lawful_input left left_after
lawful_answer (Some (Generate seed count)) left left_after = lawful_generated seed count
lawful_answer (Some (Node turns tend window recording roles)) left left_after = tt
