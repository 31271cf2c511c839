use Rattle.cx_role.proofs.Common.{◌≡◌, ◌++◌, drop, flat_map, Letter}
use Rattle.cx_course.specs.Course.{request_by}
use Rattle.cx_seat.proofs.noting.note_requests.Given as goal

abbrev pub invariant-loop-letter : goal.invariant-loop-letter
invariant-loop-letter l = l.events.items
    ++ flat_map (λ (d : Letter). request_by l.floor d.from d.to d.msg) (drop l.letter-index l.sends)
    ≡ l.fn.events.items ++ flat_map (λ (d : Letter). request_by l.floor d.from d.to d.msg) l.sends
