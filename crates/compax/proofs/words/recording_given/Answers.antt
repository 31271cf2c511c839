use Rattle.std.proofs.Common.{◌∙◌, codes}
use Rattle.clap.specs.Words.{found_of}
use Rattle.compax.proofs.Flags.{flag-read}
use Rattle.compax.proofs.words.recording_given.Goals as goal

pub returns : goal.returns
returns c = c.unwrap_or.ensures
    ∙ flag-read _ (found_of c.args.matches.now) (codes "record") c.get_one.result c.get_one.ensures.none c.get_one.ensures.value
