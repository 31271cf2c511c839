use Rattle.clap.specs.Words.{found_of}
use Rattle.cx_node.proofs.Common.{refl, arith, codes, ParsesUnsigned, ExplainsUnsignedError, HasUnsignedDigitsIfOk}
use Rattle.compax.proofs.Numbers.{number_at-read}
use Rattle.compax.proofs.words.turns_given.Goals as goal

pub returns : goal.returns
returns c = number_at-read 32 4294967295 (λ bs r. ParsesUnsigned 32 10 bs r × ExplainsUnsignedError 10 bs r × HasUnsignedDigitsIfOk bs r)
    (found_of c.args.matches.now) (codes "turns") c.get_one.result
    refl (omega arith) (λ t x g. g.0) c.get_one.ensures.none c.get_one.ensures.value
