use Rattle.std.proofs.Common.{rules, ◌≡◌, ◌==◌, ◌&&◌, true, nat_lt, not}
use Rattle.cx_role.specs.Prelude.{length}
use Rattle.cx_model.specs.Reader.{last_turn}
use Rattle.cx_reader.proofs.Entries.{none_apart}
use Rattle.cx_reader.proofs.Turns.{next_in_range, next_turn}
use Rattle.cx_reader.proofs.reader.Reader.finish.Goals as goal

pub invariant_of-self : goal.invariant_of-self
invariant_of-self g c =
    record { turn_fits = c.self.invariant.turn_fits; few = search rules; apart = none_apart c.self.inside.waiting }

pub new-requires-2-clause-turn : goal.new-requires-2-clause-turn
new-requires-2-clause-turn g c =
    let i = c.self.inside in
    let next : (nat_lt 0 (length i.waiting) && not (i.turn == last_turn)) ≡ true = search rules in
    next_in_range i.turn (next_turn i.turn (length i.waiting) c.self.invariant.turn_fits next)

pub returns-in_err-keep : goal.returns-in_err-keep
returns-in_err-keep g c =
    let s = c.args.self.now in
    let next : (nat_lt 0 (length s.volatile.waiting) && not (s.durable.turn == last_turn)) ≡ true = search rules in
    rw next (search rules)

pub returns : goal.returns
returns g c =
    let s = c.args.self.now in
    let next : (nat_lt 0 (length s.volatile.waiting) && not (s.durable.turn == last_turn)) ≡ true = search rules in
    rw next (search rules)
