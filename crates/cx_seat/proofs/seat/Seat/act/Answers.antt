use Rattle.cx_base.proofs.Common.{Option, ap, sym, ◌∙◌, rules, subst, slice_get}
use Rattle.cx_seat.specs.Prelude.{changes_of, changing, HasChangeFailedIn, hosted_of, keeper_of, who, Step, does}
use Rattle.cx_seat.specs.declared.guest.Guest.{Guest}
use Rattle.cx_seat.specs.Guest.{KeeperFails}
use Rattle.cx_course.specs.Hosted.{given}
use Rattle.cx_seat.proofs.Acted.{given_is, sends_are, text_is}
use Rattle.cx_seat.proofs.Named.{is_shown, keeper_named, named_itself, own_name}
use Rattle.cx_seat.proofs.seat.Seat.act.Goals as goal

pub returns-in_err-give-in-Give-clause-step : goal.returns-in_err-give-in-Give-clause-step
returns-in_err-give-in-Give-clause-step g c =
    let gives = changing g.K.Keeper.append_gives g.K.Renew.renew_gives in
    let guest = c.self.inside.guest in
    let input = c.in-Give.input in
    let own = own_name c.self.inside.me guest c.args.self.now c.self.invariant c.self.view_is c.requires.live in
    let shown = is_shown c.self.inside.me guest c.args.self.now own c.self.view_is in
    let moved = given_is guest c.args.self.now c.args.what.now c.in-Give.number input shown c.in-Give.is in
    record {
      role = search rules;
      kept = search rules;
      sends = search rules;
      text = search rules;
      live = search rules;
      rests = search rules;
      failed = λ failed.
          let fails : KeeperFails gives (given (hosted_of guest) input).kept guest c.give.new.guest =
          c.in_err-give-in-Give.ensures.step.failed (search (rules, failed)) in
          let here = subst (λ (m : Step). KeeperFails gives m.kept guest c.give.new.guest) moved fails in
          let there = subst (λ (h : Guest _). KeeperFails gives
          (does (hosted_of c.args.self.now) c.args.what.now).kept h c.give.new.guest) shown here in
          subst (λ (o : Option _). HasChangeFailedIn gives
          (slice_get (changes_of (who c.args.self.now) (does (hosted_of c.args.self.now) c.args.what.now).kept) 0)
          (keeper_of c.args.self.now) o)
          (sym (keeper_named c.self.inside.me c.give.new.guest)) there;
    }

pub returns-in_ok-give-in-Give-clause-step : goal.returns-in_ok-give-in-Give-clause-step
returns-in_ok-give-in-Give-clause-step g c =
    let guest = c.self.inside.guest in
    let input = c.in-Give.input in
    let own = own_name c.self.inside.me guest c.args.self.now c.self.invariant c.self.view_is c.requires.live in
    let shown = is_shown c.self.inside.me guest c.args.self.now own c.self.view_is in
    let moved = given_is guest c.args.self.now c.args.what.now c.in-Give.number input shown c.in-Give.is in
    let after = named_itself c.self.inside.me c.give.new.guest (own ∙ sym c.in_ok-give-in-Give.ensures.name) in
    let step = c.in_ok-give-in-Give.ensures.step in
    let made = given (hosted_of guest) input in
    let asked = does (hosted_of c.args.self.now) c.args.what.now in
    record {
      role = ap (λ (h : Guest _). hosted_of h) after ∙ step.role ∙ ap (λ (m : Step). m.next) moved;
      kept = search rules;
      sends = sends_are made asked c.give.new.out.list moved step.sends;
      text = text_is made asked c.give.new.text.items moved step.text;
      live = search rules;
      rests = search rules;
      failed = search rules;
    }
