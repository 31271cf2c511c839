use Rattle.cx_base.proofs.Common.{◌≡◌, ◌++◌, true, false, length, Err, ap, sym, ◌∙◌, rules, err_from_is_err_and}
use Rattle.cx_seat.specs.Prelude.{step_events, does, changing, changes_of, hosted_of, keeper_of, who, has_room}
use Rattle.cx_course.specs.Course.{own_event, requests_by}
use Rattle.cx_node.proofs.Done.{rests_itself}
use Rattle.cx_node.proofs.Fitting.{all_events, full_own, own_is_all, rests_without}
use Rattle.cx_node.proofs.acting.ask_noting.Goals as goal

-- its own event doesn't fit
pub returns-then-not-has_room-clause-full : goal.returns-then-not-has_room-clause-full
returns-then-not-has_room-clause-full g c =
    let h = c.args.seat.now in
    let own : c.note_own.new.events.items ≡ own_event (who h) c.args.what.now = search rules in
    let full : has_room (length c.note_own.new.events.items) c.args.recorder.now ≡ false = search rules in
    λ e. (
      full_own h c.args.what.now c.args.recorder.now c.note_own.new.events.items own full,
      rests_itself (changing g.K.Keeper.append_gives g.K.Renew.renew_gives) (keeper_of h),
    )

-- only the store of a role that sends no requests can fail
pub returns-in_err-ask-clause-room : goal.returns-in_err-ask-clause-room
returns-in_err-ask-clause-room g c =
    let h = c.args.seat.now in
    let own : c.note_own.new.events.items ≡ own_event (who h) c.args.what.now = search rules in
    let room : has_room (length c.note_own.new.events.items) c.args.recorder.now ≡ true = search rules in
    let p = err_from_is_err_and c.from_residual-in_err-ask.result c.from_residual-in_err-ask.ensures.1 in
    let is : c.from_residual-in_err-ask.result ≡ Err c.in_err-ask.field-0.0 = p.1 ∙ ap Err p.2 in
    λ role e. own_is_all (changing g.K.Keeper.append_gives g.K.Renew.renew_gives) h c.args.what.now _
    (keeper_of c.ask.new.seat) c.args.recorder.now (c.in_err-ask.ensures.failed role (sym is ∙ e)).1
    (ap (λ es. has_room (length es) c.args.recorder.now) (sym own) ∙ room)

-- a client keeps no records
pub returns-in_err-fit-clause-rests : goal.returns-in_err-fit-clause-rests
returns-in_err-fit-clause-rests g c =
    let h = c.args.seat.now in
    λ e. rests_without (changing g.K.Keeper.append_gives g.K.Renew.renew_gives)
    (changes_of (who h) (does (hosted_of h) c.args.what.now).kept) (keeper_of h) (keeper_of c.ask.new.seat)
    c.in_ok-ask.ensures.kept c.in_err-fit.ensures.client

-- its requests don't fit
pub returns-then-not-fit-clause-full : goal.returns-then-not-fit-clause-full
returns-then-not-fit-clause-full g c =
    let h = c.args.seat.now in
    let own : c.note_own.new.events.items ≡ own_event (who h) c.args.what.now = search rules in
    let room : has_room (length c.note_own.new.events.items) c.args.recorder.now ≡ true = search rules in
    let no : c.in_ok-fit.fit ≡ false = search rules in
    let added : c.note_requests.new.events.items
    ≡ c.note_own.new.events.items ++ requests_by (hosted_of c.ask.new.seat) c.ask.new.outbox.list = search rules in
    let all : c.note_requests.new.events.items ≡ step_events (hosted_of h) c.args.what.now =
    all_events h c.ask.new.seat c.args.what.now c.note_own.new.events.items c.note_requests.new.events.items c.ask.new.outbox.list
    own added c.in_ok-ask.ensures.role c.in_ok-ask.ensures.sends in
    λ e. (
      ap (λ es. has_room (length es) c.args.recorder.now) (sym all) ∙ sym (c.in_ok-fit.ensures.room room) ∙ no,
      rests_without (changing g.K.Keeper.append_gives g.K.Renew.renew_gives)
          (changes_of (who h) (does (hosted_of h) c.args.what.now).kept) (keeper_of h) (keeper_of c.ask.new.seat)
          c.in_ok-ask.ensures.kept (c.in_ok-fit.ensures.none no),
    )

pub returns-clause-events : goal.returns-clause-events
returns-clause-events g c =
    let h = c.args.seat.now in
    let own : c.note_own.new.events.items ≡ own_event (who h) c.args.what.now = search rules in
    let added : c.note_requests.new.events.items
    ≡ c.note_own.new.events.items ++ requests_by (hosted_of c.ask.new.seat) c.ask.new.outbox.list = search rules in
    all_events h c.ask.new.seat c.args.what.now c.note_own.new.events.items c.note_requests.new.events.items c.ask.new.outbox.list
    own added c.in_ok-ask.ensures.role c.in_ok-ask.ensures.sends

pub returns-clause-fits : goal.returns-clause-fits
returns-clause-fits g c =
    let room : has_room (length c.note_own.new.events.items) c.args.recorder.now ≡ true = search rules in
    let yes : c.in_ok-fit.fit ≡ true = search rules in
    sym (c.in_ok-fit.ensures.room room) ∙ yes
