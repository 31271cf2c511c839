use Rattle.std.proofs.Common.{◌≡◌, ◌==◌, true, false, rules}
use Rattle.cx_choice.proofs.Among.{among, few, more}
use Rattle.cx_choice.proofs.tally.add_value.Goals as goal
use Rattle.cx_choice.specs.Enough.{is_value_among, is_enough}
use Rattle.cx_choice.specs.Sorted.{casts_in}

pub returns-then-is_value_among : goal.returns-then-is_value_among
returns-then-is_value_among c =
    let a = c.args in
    let there : is_value_among a.chosen.now.items a.value.now ≡ true = search rules in
    λ v. among a.chosen.now.items a.rounds.now (casts_in a.votes.now) a.at a.round a.slot a.value.now v there

pub returns-then-not-is_enough : goal.returns-then-not-is_enough
returns-then-not-is_enough c =
    let a = c.args in
    let none : is_enough a.rounds.now (casts_in a.votes.now) a.at a.round a.value.now ≡ false = search rules in
    λ v. few a.chosen.now.items a.rounds.now (casts_in a.votes.now) a.at a.round a.slot a.value.now v none

pub returns : goal.returns
returns c =
    let a = c.args in
    let here : (a.slot == a.at) ≡ true = search rules in
    let enough : is_enough a.rounds.now (casts_in a.votes.now) a.at a.round a.value.now ≡ true = search rules in
    λ v. more a.chosen.now.items c.push.new.self.items a.rounds.now (casts_in a.votes.now) a.at a.round a.slot _ v
    c.in_ok-push.ensures.items here enough
