use Rattle.cx_course.proofs.Fresh.{fresh_stands}
use Rattle.cx_course.proofs.Following.{stands_follow}
use Rattle.cx_course.proofs.Moments.{follows_between, keeps_next}
use Rattle.cx_course.proofs.Turns.{run_go}
use Rattle.cx_course.proofs.law.recorded_runs_follow.Goals as goal
use Rattle.cx_course.specs.Course.{course_of}
use Rattle.cx_course.specs.Tending.{node_run}
use Rattle.std.specs.Prelude.{true, []}

pub returns-clause-follows : goal.returns-clause-follows
returns-clause-follows g tend c takes hs fresh =
    let m = node_run tend c takes (course_of true hs) in
    let r = run_go c tend takes [] (course_of true hs) (fresh_stands c hs fresh) in
    follows_between c [] m.actions r.0 (stands_follow c m.actions m.next r.1)

pub returns-clause-in_flight : goal.returns-clause-in_flight
returns-clause-in_flight g tend c takes hs fresh =
    let m = node_run tend c takes (course_of true hs) in
    let r = run_go c tend takes [] (course_of true hs) (fresh_stands c hs fresh) in
    keeps_next c [] m.actions r.0
