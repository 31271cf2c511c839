use Rattle.std.proofs.Common.{◌≡◌, ◌-◌, ◌∙◌, refl, arith, rules}
use Rattle.cx_choice.proofs.Chained.{fewer_on, leads_from, leads_within, more_found, more_numbers, one_on, votes_on_from}
use Rattle.cx_choice.specs.Chains.{vote_from}
use Rattle.cx_choice.proofs.chains.votes_in.Goals as goal

pub loop-here-init : goal.loop-here-init
loop-here-init c =
    let begins : c.first_in-here.result ≡ vote_from c.args.slot 0 c.args.kept.now =
    c.first_in-here.ensures ∙ c.requires.have.first c.args.slot c.requires.slot in
    record {
      votes = rw (c.new-found.ensures.items, begins) (votes_on_from c.args.slot 0 c.args.kept.now);
      here = rw begins (leads_from c.args.slot 0 c.args.kept.now);
      numbers = rw (c.new-numbers.ensures.items, c.new-found.ensures.items) refl;
    }

pub at-requires : goal.at-requires
at-requires c =
    let here = c.loop-here.here in
    leads_within c.args.slot here (here - 1) c.args.kept.now (omega (arith, c.loop-here-test.true)) c.loop-here.invariant.here

pub index-here-requires : goal.index-here-requires
index-here-requires c =
    let here = c.loop-here.here in
    let within =
    leads_within c.args.slot here (here - 1) c.args.kept.now (omega (arith, c.loop-here-test.true)) c.loop-here.invariant.here in
    let count = c.requires.have.count in
    search (rules, within, count)

pub loop-here-smaller : goal.loop-here-smaller
loop-here-smaller c =
    let here = c.loop-here.here in
    let leads = one_on c.args.votes.now c.args.kept.now c.args.slot here (here - 1) c.index-here.result.now c.in_ok-at.field-0
    c.requires.have c.requires.slot
    (omega (arith, c.loop-here-test.true)) c.loop-here.invariant.here c.in_ok-at.ensures c.index-here.ensures in
    fewer_on c.args.slot here c.index-here.result.now c.args.kept.now c.in_ok-at.field-0 leads

pub loop-here-preserved : goal.loop-here-preserved
loop-here-preserved c =
    let here = c.loop-here.here in
    let leads = one_on c.args.votes.now c.args.kept.now c.args.slot here (here - 1) c.index-here.result.now c.in_ok-at.field-0
    c.requires.have c.requires.slot
    (omega (arith, c.loop-here-test.true)) c.loop-here.invariant.here c.in_ok-at.ensures c.index-here.ensures in
    record {
      votes = more_found c.loop-here.found.items c.push.new.self.items c.args.kept.now c.args.slot here c.index-here.result.now
          c.in_ok-at.field-0 leads c.in_ok-push.ensures.items c.loop-here.invariant.votes;
      here = leads.goes_on;
      numbers = more_numbers c.args.kept.now c.loop-here.found.items c.push.new.self.items c.loop-here.numbers.items
          c.push-in-loop-here.new.self.items (here - 1) c.in_ok-at.field-0
          c.in_ok-at.ensures c.in_ok-push.ensures.items c.in_ok-push-2.ensures.items c.loop-here.invariant.numbers;
    }
