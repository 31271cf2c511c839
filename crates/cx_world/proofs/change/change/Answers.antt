use Rattle.std.proofs.Common.{◌∙◌}
use Rattle.cx_model.specs.Prelude.{◌≡◌, ℕ, List, get_or, refl, Happened, role, heard_by, World, change, Give, Letter, Whole}
use Rattle.cx_base.specs.declared.event.Order.TheVariants as order
use Rattle.cx_base.specs.declared.role.Kind.TheVariants as kind
use Rattle.cx_letter.specs.declared.input.Input.TheVariants as input
use Rattle.cx_world.specs.Heard.{Hears}
use Rattle.cx_world.specs.declared.turned.Changed.{Changed}
use Rattle.cx_world.specs.World.{ChangesAfter, IsChange, lists_of}
use Rattle.cx_world.proofs.Answered.{ok_then}
use Rattle.cx_world.proofs.Asking.{act_from}
use Rattle.cx_world.proofs.change.change.Goals as goal

-- so many values the client has heard of in each world with these histories
heard_in : (numbers : List ℕ) (sent : List Letter) (events : List Happened) (client heard : ℕ) → Hears numbers sent events
    → heard ≡ get_or numbers client 0 → (w : World) → w.sent ≡ sent → w.events ≡ events → heard ≡ heard_by client w.sent w.events
heard_in numbers sent events client heard hears is w same known = is ∙ hears client ∙ rw (same, known) refl

pub returns-in-Write : goal.returns-in-Write
returns-in-Write c = ok_then _ (λ (x : Changed). ChangesAfter (λ w. change w c.args.event.now) c.args.sent.now c.args.events.now
    c.args.seats.now x c.args.seats.now c.ask.new.out.list) c.ask.result
    (λ x h w same known has. rw c.in-Write.is (rw c.in-Write.is at (h w known (heard_in c.args.heard.now c.args.sent.now c.args.events.now
    _ _ c.requires.hears c.by.ensures.number w same known) (lists_of c.args.seats.now) has))) c.ask.ensures

pub returns-in-Read : goal.returns-in-Read
returns-in-Read c = ok_then _ (λ (x : Changed). ChangesAfter (λ w. change w c.args.event.now) c.args.sent.now c.args.events.now
    c.args.seats.now x c.args.seats.now c.ask-in-Read.new.out.list) c.ask-in-Read.result
    (λ x h w same known has. rw c.in-Read.is (rw c.in-Read.is at (h w known (heard_in c.args.heard.now c.args.sent.now c.args.events.now
    _ _ c.requires.hears c.by-in-Read.ensures.number w same known) (lists_of c.args.seats.now) has))) c.ask-in-Read.ensures

pub returns-in-Session : goal.returns-in-Session
returns-in-Session c = ok_then _ (λ (x : Changed). ChangesAfter (λ w. change w c.args.event.now) c.args.sent.now c.args.events.now
    c.args.seats.now x c.args.seats.now c.ask-in-Session.new.out.list) c.ask-in-Session.result
    (λ x h w same known has.
    rw c.in-Session.is (rw c.in-Session.is at (h w known (heard_in c.args.heard.now c.args.sent.now c.args.events.now _ _ c.requires.hears
    c.by-in-Session.ensures.number w same known) (lists_of c.args.seats.now) has))) c.ask-in-Session.ensures

pub returns-in-Order : goal.returns-in-Order
returns-in-Order c = ok_then _ (λ (x : Changed). ChangesAfter (λ w. change w c.args.event.now) c.args.sent.now c.args.events.now
    c.args.seats.now x c.act-in-Order.new.seats c.act-in-Order.new.out.list) c.act-in-Order.result
    (λ x h w same known has. rw c.in-Order.is (act_from w (λ ch. IsChange w ch x.who x.why x.kept (lists_of c.act-in-Order.new.seats)
    c.act-in-Order.new.out.list) c.give-order.result (Give (input.Order c.in-Order.order) c.in-Order.cut) c.new-who.result
    (role kind.Leader c.in-Order.leader) c.give-order.ensures c.new-who.ensures (h w has))) c.act-in-Order.ensures

pub returns-in-Offer : goal.returns-in-Offer
returns-in-Offer c = ok_then _ (λ (x : Changed). ChangesAfter (λ w. change w c.args.event.now) c.args.sent.now c.args.events.now
    c.args.seats.now x c.act-in-Offer.new.seats c.act-in-Offer.new.out.list) c.act-in-Offer.result
    (λ x h w same known has. rw c.in-Offer.is (act_from w (λ ch. IsChange w ch x.who x.why x.kept (lists_of c.act-in-Offer.new.seats)
    c.act-in-Offer.new.out.list) c.give-order-in-Offer.result (Give (input.Order (order.Offer c.in-Offer.to c.in-Offer.slot)) Whole)
    c.new-who-in-Offer.result (role kind.Replica c.in-Offer.replica)
    c.give-order-in-Offer.ensures c.new-who-in-Offer.ensures (h w has))) c.act-in-Offer.ensures

pub returns-in-Replace : goal.returns-in-Replace
returns-in-Replace c = ok_then _ (λ (x : Changed). ChangesAfter (λ w. change w c.args.event.now) c.args.sent.now c.args.events.now
    c.args.seats.now x c.act-in-Replace.new.seats c.act-in-Replace.new.out.list) c.act-in-Replace.result
    (λ x h w same known has. rw c.in-Replace.is (act_from w (λ ch. IsChange w ch x.who x.why x.kept (lists_of c.act-in-Replace.new.seats)
    c.act-in-Replace.new.out.list) c.give-order-in-Replace.result (Give (input.Order (order.Replace c.in-Replace.set)) c.in-Replace.cut)
    c.new-who-in-Replace.result (role kind.Replacer c.in-Replace.replacer)
    c.give-order-in-Replace.ensures c.new-who-in-Replace.ensures (h w has))) c.act-in-Replace.ensures
