use Rattle.std.specs.Prelude.{filter, sum_by}
use Rattle.cx_node.proofs.Common.{◌≡◌, Ok, length, List, min, refl, sym, ap, ◌∙◌, scene_of, changing, hosted_of, NodeState, course_at}
use Rattle.cx_node.proofs.Common.{stays, is_client, clients_tended, completed, those_tick, tended, Guest, acts_nothing, counts_as, act_as}
use Rattle.cx_node.proofs.Common.{moved_as}
use Rattle.cx_base.specs.declared.role.Kind.TheVariants as kind
use Rattle.cx_course.specs.Tending.{is_of_kind, kind_ticks, next_pass, within}
use Rattle.cx_node.proofs.Tended.{all_there, clients_ask, clients_over, clients_there, clients_wait, kind_is, on_ok}
use Rattle.cx_node.proofs.node.Node.ask_clients.Goals as goal

pub returns-then-asks_again-clause-acts : goal.returns-then-asks_again-clause-acts
returns-then-asks_again-clause-acts g c =
    let same = ap (λ (s : NodeState g.row.K.Denot). s.guests) c.self.view_is in
    moved_as (changing g.K.Keeper.append_gives g.K.Renew.renew_gives) c.args.self.now.cluster
    (clients_tended (tended c.args.care.now (course_at c.args.self.now)))
    (within (kind_ticks kind.Client) (tended c.note_clients.new.self (course_at c.args.self.now))) c.tick_those.result
    (scene_of g.L.Link g.W.Sink c.args.self.now c.args.link.now c.args.out.now) (scene_of g.L.Link g.W.Sink c.tick_those.new.self
    c.tick_those.new.link c.tick_those.new.out) (clients_ask c.args.care.now c.note_clients.new.self c.all_completed-done.result
    (course_at c.args.self.now) c.note_clients.ensures (c.all_completed-done.ensures ∙ ap (λ (l : List (Guest g.row.K.Denot)).
    min (sum_by (λ (guest : Guest g.row.K.Denot). completed (hosted_of guest)) l) 18446744073709551615) (c.deref.ensures.value ∙ same)
    ∙ all_there c.args.self.now.guests) (sym c.asks_again.ensures ∙ c.if-asks_again.true))
    (act_as (changing g.K.Keeper.append_gives g.K.Renew.renew_gives) c.args.self.now.cluster (kind_ticks kind.Client
    (course_at c.args.self.now)) (those_tick (λ i h. is_of_kind kind.Client h) (course_at c.args.self.now)) c.tick_those.result
    (scene_of g.L.Link g.W.Sink c.args.self.now c.args.link.now c.args.out.now) (scene_of g.L.Link g.W.Sink c.tick_those.new.self
    c.tick_those.new.link c.tick_those.new.out) (kind_is kind.Client (course_at c.args.self.now)) c.tick_those.ensures.acts)

pub returns-then-asks_again-clause-care : goal.returns-then-asks_again-clause-care
returns-then-asks_again-clause-care g c =
    let same = ap (λ (s : NodeState g.row.K.Denot). s.guests) c.self.view_is in
    counts_as (clients_tended (tended c.args.care.now (course_at c.args.self.now))) (within (kind_ticks kind.Client)
    (tended c.note_clients.new.self (course_at c.args.self.now))) c.tick_those.result c.note_clients.new.self (clients_ask c.args.care.now
    c.note_clients.new.self c.all_completed-done.result (course_at c.args.self.now) c.note_clients.ensures (c.all_completed-done.ensures
    ∙ ap (λ (l : List (Guest g.row.K.Denot)). min (sum_by (λ (guest : Guest g.row.K.Denot). completed (hosted_of guest)) l)
    18446744073709551615) (c.deref.ensures.value ∙ same) ∙ all_there c.args.self.now.guests)
    (sym c.asks_again.ensures ∙ c.if-asks_again.true)) (on_ok c.tick_those.result (c.note_clients.new.self ≡ c.note_clients.new.self) refl)

pub returns-then-passes-clause-acts : goal.returns-then-passes-clause-acts
returns-then-passes-clause-acts g c =
    let same = ap (λ (s : NodeState g.row.K.Denot). s.guests) c.self.view_is in
    moved_as (changing g.K.Keeper.append_gives g.K.Renew.renew_gives) c.args.self.now.cluster (clients_tended (tended c.args.care.now
    (course_at c.args.self.now))) (next_pass (tended c.note_clients.new.self (course_at c.args.self.now))) c.end_pass.result
    (scene_of g.L.Link g.W.Sink c.args.self.now c.args.link.now c.args.out.now) (scene_of g.L.Link g.W.Sink c.end_pass.new.self
    c.end_pass.new.link c.end_pass.new.out) (clients_over c.args.care.now c.note_clients.new.self c.count_clients-clients.result
    c.all_completed-done.result (course_at c.args.self.now) c.note_clients.ensures (c.all_completed-done.ensures
    ∙ ap (λ (l : List (Guest g.row.K.Denot)). min (sum_by (λ (guest : Guest g.row.K.Denot). completed (hosted_of guest)) l)
    18446744073709551615) (c.deref.ensures.value ∙ same) ∙ all_there c.args.self.now.guests) (c.count_clients-clients.ensures
    ∙ ap (λ (l : List (Guest g.row.K.Denot)). length (filter (λ (guest : Guest g.row.K.Denot). is_client (hosted_of guest)) l))
    (c.deref-2.ensures.value ∙ same) ∙ clients_there c.args.self.now.guests) (sym c.asks_again.ensures ∙ c.if-asks_again.false)
    (sym c.passes.ensures ∙ c.if-passes.true)) c.end_pass.ensures.acts

pub returns-then-passes-clause-care : goal.returns-then-passes-clause-care
returns-then-passes-clause-care g c =
    let same = ap (λ (s : NodeState g.row.K.Denot). s.guests) c.self.view_is in
    counts_as (clients_tended (tended c.args.care.now (course_at c.args.self.now)))
    (next_pass (tended c.note_clients.new.self (course_at c.args.self.now))) c.end_pass.result c.end_pass.new.care
    (clients_over c.args.care.now c.note_clients.new.self c.count_clients-clients.result c.all_completed-done.result
    (course_at c.args.self.now) c.note_clients.ensures (c.all_completed-done.ensures ∙ ap (λ (l : List (Guest g.row.K.Denot)).
    min (sum_by (λ (guest : Guest g.row.K.Denot). completed (hosted_of guest)) l) 18446744073709551615) (c.deref.ensures.value ∙ same)
    ∙ all_there c.args.self.now.guests) (c.count_clients-clients.ensures
    ∙ ap (λ (l : List (Guest g.row.K.Denot)). length (filter (λ (guest : Guest g.row.K.Denot). is_client (hosted_of guest)) l))
    (c.deref-2.ensures.value ∙ same) ∙ clients_there c.args.self.now.guests) (sym c.asks_again.ensures ∙ c.if-asks_again.false)
    (sym c.passes.ensures ∙ c.if-passes.true)) c.end_pass.ensures.care

pub returns-clause-acts : goal.returns-clause-acts
returns-clause-acts g c =
    let same = ap (λ (s : NodeState g.row.K.Denot). s.guests) c.self.view_is in
    moved_as (changing g.K.Keeper.append_gives g.K.Renew.renew_gives) c.args.self.now.cluster (clients_tended (tended c.args.care.now
    (course_at c.args.self.now))) (stays (tended c.note_clients.new.self (course_at c.args.self.now))) (Ok tt) (scene_of g.L.Link
    g.W.Sink c.args.self.now c.args.link.now c.args.out.now) (scene_of g.L.Link g.W.Sink c.args.self.now c.args.link.now c.args.out.now)
    (clients_wait c.args.care.now c.note_clients.new.self c.count_clients-clients.result c.all_completed-done.result
    (course_at c.args.self.now) c.note_clients.ensures (c.all_completed-done.ensures ∙ ap (λ (l : List (Guest g.row.K.Denot)).
    min (sum_by (λ (guest : Guest g.row.K.Denot). completed (hosted_of guest)) l) 18446744073709551615) (c.deref.ensures.value ∙ same)
    ∙ all_there c.args.self.now.guests) (c.count_clients-clients.ensures
    ∙ ap (λ (l : List (Guest g.row.K.Denot)). length (filter (λ (guest : Guest g.row.K.Denot). is_client (hosted_of guest)) l))
    (c.deref-2.ensures.value ∙ same) ∙ clients_there c.args.self.now.guests) (sym c.asks_again.ensures ∙ c.if-asks_again.false)
    (sym c.passes.ensures ∙ c.if-passes.false)) (acts_nothing (changing g.K.Keeper.append_gives g.K.Renew.renew_gives)
    c.args.self.now.cluster (scene_of g.L.Link g.W.Sink c.args.self.now c.args.link.now c.args.out.now) c.requires.ready)

pub returns-clause-care : goal.returns-clause-care
returns-clause-care g c =
    let same = ap (λ (s : NodeState g.row.K.Denot). s.guests) c.self.view_is in
    counts_as (clients_tended (tended c.args.care.now (course_at c.args.self.now)))
    (stays (tended c.note_clients.new.self (course_at c.args.self.now))) (Ok tt) c.note_clients.new.self
    (clients_wait c.args.care.now c.note_clients.new.self c.count_clients-clients.result c.all_completed-done.result
    (course_at c.args.self.now) c.note_clients.ensures (c.all_completed-done.ensures ∙ ap (λ (l : List (Guest g.row.K.Denot)).
    min (sum_by (λ (guest : Guest g.row.K.Denot). completed (hosted_of guest)) l) 18446744073709551615) (c.deref.ensures.value ∙ same)
    ∙ all_there c.args.self.now.guests) (c.count_clients-clients.ensures
    ∙ ap (λ (l : List (Guest g.row.K.Denot)). length (filter (λ (guest : Guest g.row.K.Denot). is_client (hosted_of guest)) l))
    (c.deref-2.ensures.value ∙ same) ∙ clients_there c.args.self.now.guests) (sym c.asks_again.ensures ∙ c.if-asks_again.false)
    (sym c.passes.ensures ∙ c.if-passes.false)) refl
