use Rattle.cx_base.proofs.Common.{◌≡◌, Option, Ok, Some, subst, sym, ap, ◌∙◌, ◌++◌, ◌∷◌, [], ◌<◌, length, slice_set}
use Rattle.cx_base.specs.declared.event.Event.{Event}
use Rattle.cx_script.specs.Requests.{HasGreatestNumbers, request_line}
use Rattle.cx_script.proofs.Rising.{client_small, is_taken, tells_next}
use Rattle.cx_script.proofs.requests.request.Goals as goal

pub number_rises-requires : goal.number_rises-requires
number_rises-requires c =
    let spelled : request_line c.args.cluster.now c.args.text.now ≡ Ok (Some c.in-Some.event) =
    sym c.in_ok-event.ensures ∙ ap (λ (o : Option Event). Ok o) c.in-Some.is in
    client_small c.args.cluster.now c.args.text.now c.in-Some.event c.in-Some-asker.client c.in-Some-asker.seq spelled
    (sym c.in-Some-asker.ensures)

pub returns-in-Some-asker-clause-request : goal.returns-in-Some-asker-clause-request
returns-in-Some-asker-clause-request c = λ before tells.
    let spelled : request_line c.args.cluster.now c.args.text.now ≡ Ok (Some c.in-Some.event) =
    sym c.in_ok-event.ensures ∙ ap (λ (o : Option Event). Ok o) c.in-Some.is in
    let is = sym c.in-Some-asker.ensures in
    is_taken before c.args.greatest.now c.in-Some.event _ c.in-Some-asker.client c.in-Some-asker.seq spelled is
    (client_small c.args.cluster.now c.args.text.now c.in-Some.event c.in-Some-asker.client c.in-Some-asker.seq spelled is)
    tells (sym c.if-number_rises.ensures.above)

pub returns-in-Some-asker-clause-numbers : goal.returns-in-Some-asker-clause-numbers
returns-in-Some-asker-clause-numbers c = λ before tells.
    let spelled : request_line c.args.cluster.now c.args.text.now ≡ Ok (Some c.in-Some.event) =
    sym c.in_ok-event.ensures ∙ ap (λ (o : Option Event). Ok o) c.in-Some.is in
    let is = sym c.in-Some-asker.ensures in
    let small = client_small c.args.cluster.now c.args.text.now c.in-Some.event c.in-Some-asker.client c.in-Some-asker.seq spelled is in
    let numbers : c.number_rises.new.greatest ≡ slice_set c.args.greatest.now c.in-Some-asker.client c.in-Some-asker.seq =
    c.if-number_rises.ensures.noted in
    let inside : c.in-Some-asker.client < length c.args.greatest.now = rw c.if-number_rises.ensures.clients small in
    subst (HasGreatestNumbers (before ++ c.in-Some.event ∷ [])) (sym numbers) (tells_next before c.args.greatest.now c.in-Some.event
    c.in-Some-asker.client c.in-Some-asker.seq is small inside tells (sym c.if-number_rises.ensures.above))
