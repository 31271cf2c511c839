use Rattle.cx_reader.proofs.Turns.{renewable, turn_spelled}
use Rattle.cx_reader.proofs.reader.Reader.has_turn.Goals as goal

pub returns-clause-fits : goal.returns-clause-fits
returns-clause-fits c =
    let i = c.self.inside in
    rw (← c.self.view_is) (λ first is. renewable i.cluster c.args.self.now.me (record { turn = i.turn }) c.self.invariant.turn_fits first)

pub returns-clause-spelled : goal.returns-clause-spelled
returns-clause-spelled c =
    rw (← c.self.view_is) (turn_spelled _ c.self.invariant.turn_fits)
