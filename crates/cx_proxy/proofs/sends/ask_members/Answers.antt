use Rattle.cx_role.proofs.Common.{◌≤◌, arith, ◌∙◌, sym, length, phase2a_to}
use Rattle.cx_proxy.proofs.Receivers.{members_left, members_room}
use Rattle.cx_proxy.proofs.sends.ask_members.Goals as goal

pub ask-requires-clause-room : goal.ask-requires-clause-room
ask-requires-clause-room c =
    let loop = c.loop-acceptor in
    let grid = c.members-members.ensures.grid in
    let most : length c.args.pending.now.grid.members ≤ 16 = omega (arith, grid.room, grid.count) in
    let passes = sym c.is_member.ensures ∙ c.if-is_member.true in
    let left = members_left _ _ _ _ _ most loop.acceptor c.loop-acceptor-test.true passes loop.invariant.list in
    omega (arith, left)

pub returns-clause-room : goal.returns-clause-room
returns-clause-room c =
    let grid = c.members-members.ensures.grid in
    let most : length c.args.pending.now.grid.members ≤ 16 = omega (arith, grid.room, grid.count) in
    let loop = c.loop-acceptor in
    let room = members_room (phase2a_to c.args.me c.args.pending.now) _ _ loop.out.list _ most _ loop.invariant.list in
    omega (arith, room)
