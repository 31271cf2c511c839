use Rattle.cx_role.proofs.Common.{◌≡◌, false, List, ap, length, refl, subst, take, take_all, arith, ◌∙◌, World, event_list, step}
use Rattle.cx_promises.proofs.Lawful.{lawful}
use Rattle.cx_world.specs.World.{BeginWith, WorldState, seat_roles, lists_of, world_of}
use Rattle.cx_world.proofs.Answered.{on_err}
use Rattle.cx_world.proofs.Steps.{all_taken_after, held_after, stepped}
use Rattle.cx_world.proofs.world.World.step.Goals as goal

pub invariant_of-self-2 : goal.invariant_of-self-2
invariant_of-self-2 c =
    let fields = c.self.inside in
    let fresh : fields.spent ≡ false = ap (λ (x : WorldState). x.spent) c.self.view_is ∙ c.requires.fresh in
    let holds = c.self.invariant fresh in
    let w : World = record {
      cluster = fields.cluster;
      roles = seat_roles (lists_of fields.seats);
      events = fields.events;
      kept = fields.kept;
      sent = fields.sent;
    } in
    let changed = c.in_ok-who.field-0 in
    λ _. held_after w c.args.event.now changed.who changed.why changed.kept (lists_of c.change.new.seats) c.change.new.out.list
    (c.in_ok-who.ensures w refl refl holds.seats) holds.ran holds.taken c.requires.taken
    fields.heard c.hear.new.heard holds.hears holds.hears_sent c.in_ok-hear.ensures
    c.note.new.events c.note.new.kept c.note.new.sent c.note.new.out.list
    c.in_ok-note.ensures.events c.in_ok-note.ensures.kept c.in_ok-note.ensures.sent c.in_ok-note.ensures.out

pub returns-clause-ok : goal.returns-clause-ok
returns-clause-ok c =
    let fields = c.self.inside in
    let fresh : fields.spent ≡ false = ap (λ (x : WorldState). x.spent) c.self.view_is ∙ c.requires.fresh in
    let holds = c.self.invariant fresh in
    let w : World = record {
      cluster = fields.cluster;
      roles = seat_roles (lists_of fields.seats);
      events = fields.events;
      kept = fields.kept;
      sent = fields.sent;
    } in
    let changed = c.in_ok-who.field-0 in
    let after : World = record {
      cluster = fields.cluster;
      roles = seat_roles (lists_of c.change.new.seats);
      events = c.note.new.events;
      kept = c.note.new.kept;
      sent = c.note.new.sent;
    } in
    subst (λ (x : WorldState). after ≡ step (world_of x) c.args.event.now) c.self.view_is (stepped w c.args.event.now changed.who
    changed.why changed.kept (lists_of c.change.new.seats) c.change.new.out.list (c.in_ok-who.ensures w refl refl holds.seats)
    c.note.new.events c.note.new.kept c.note.new.sent c.in_ok-note.ensures.events c.in_ok-note.ensures.kept c.in_ok-note.ensures.sent)

pub returns-clause-lawful : goal.returns-clause-lawful
returns-clause-lawful c = lawful c.self.inside.cluster (event_list c.note.new.events)

pub returns-clause-all_taken : goal.returns-clause-all_taken
returns-clause-all_taken c =
    let fields = c.self.inside in
    let fresh : fields.spent ≡ false = ap (λ (x : WorldState). x.spent) c.self.view_is ∙ c.requires.fresh in
    let holds = c.self.invariant fresh in
    all_taken_after fields.events c.note.new.events c.args.event.now c.in_ok-who.field-0.why holds.taken c.requires.taken
    c.in_ok-note.ensures.events

begins : {A : Type 0} (xs : List A) → take (length xs) xs ≡ xs
begins xs = take_all (length xs) xs (omega arith)

-- where what was heard isn't noted, nothing was
pub returns-in_err-hear-clause-begun : goal.returns-in_err-hear-clause-begun
returns-in_err-hear-clause-begun c =
    let fields = c.self.inside in
    let now : World = record {
      cluster = fields.cluster;
      roles = seat_roles (lists_of c.change.new.seats);
      events = fields.events;
      kept = fields.kept;
      sent = fields.sent;
    } in
    on_err (BeginWith (world_of c.args.self.now) now) c.from_residual-in_err-hear.result
    (subst (λ (x : WorldState). BeginWith (world_of x) now) c.self.view_is
    (record { events = begins fields.events; kept = begins fields.kept; sent = begins fields.sent }))
