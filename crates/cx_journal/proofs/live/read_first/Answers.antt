use Rattle.cx_journal.proofs.Common.{rules, inl, ◌∙◌, IsBlank, IsLive, file_image}
use Rattle.cx_journal.proofs.Moments.{leaves_weaker, leaves_in_turn}
use Rattle.cx_journal.proofs.Readings.{file_read, one_full}
use Rattle.cx_journal.proofs.live.read_first.Goals as goal

pub returns-then-is_blank-clause-found : goal.returns-then-is_blank-clause-found
returns-then-is_blank-clause-found g c = λ file rests gen.
    let blank : IsBlank file = c.in-Ok.ensures.yes file rests.0 (search rules) in
    let still : IsLive g.D.Disk.seen g.D.Disk.may_leave c.is_blank.new.disk file =
    (c.is_blank.ensures.seen ∙ rests.0, λ k left. rests.1 k (c.is_blank.ensures.crash k left)) in
    c.read_blank.ensures.found c.args.kind file still blank

pub returns-then-is_blank-clause-broken : goal.returns-then-is_blank-clause-broken
returns-then-is_blank-clause-broken g c = λ file rests gen. c.read_blank.ensures.broken (file_image c.args.kind file) file

pub returns-then-is_blank-clause-any_moment : goal.returns-then-is_blank-clause-any_moment
returns-then-is_blank-clause-any_moment g c = λ file rests.
    let blank : IsBlank file = c.in-Ok.ensures.yes file rests.0 (search rules) in
    let still : IsLive g.D.Disk.seen g.D.Disk.may_leave c.is_blank.new.disk file =
    (c.is_blank.ensures.seen ∙ rests.0, λ k left. rests.1 k (c.is_blank.ensures.crash k left)) in
    leaves_in_turn g.D.Disk.moment g.D.Disk.left_since _ _ _ _
    (leaves_weaker g.D.Disk.moment g.D.Disk.left_since _ _ _ _ (λ k left. inl (rests.1 k left)) c.is_blank.ensures.quiet)
    (c.read_blank.ensures.any_moment file still blank)

pub returns-clause-found : goal.returns-clause-found
returns-clause-found g c = λ file rests gen.
    let full = c.in-Ok.ensures.no file rests.0 (search rules) in
    let still : IsLive g.D.Disk.seen g.D.Disk.may_leave c.is_blank.new.disk file =
    (c.is_blank.ensures.seen ∙ rests.0, λ k left. rests.1 k (c.is_blank.ensures.crash k left)) in
    file_read g.D.Disk.seen g.D.Disk.may_leave c.args.kind file full c.read_live.new.disk (c.read_live.ensures.rests file still)
    c.read_live.result (c.read_live.ensures.found file still gen (one_full g.D.Disk.seen g.D.Disk.may_leave c.args.kind file full))
