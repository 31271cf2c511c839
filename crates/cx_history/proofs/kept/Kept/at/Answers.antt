use Rattle.std.proofs.Common.{◌<◌, List, length, ap, arith}
use Rattle.cx_letter.specs.declared.input.KeptRecord.{KeptRecord}
use Rattle.cx_history.specs.Kept.{changes_in}
use Rattle.cx_history.proofs.Keeping.{counts, is_within, one_kept}
use Rattle.cx_history.proofs.kept.Kept.at.Goals as goal

pub index-role-requires : goal.index-role-requires
index-role-requires c =
    let inside = c.self.inside in
    let all = counts inside.roles.items inside.changes c.self.invariant in
    omega (arith, c.requires, ap (λ (l : List KeptRecord). length l) c.self.view_is, all, c.self.invariant.same_count, inside.roles.ok.0)

pub read_change-requires-clause-number : goal.read_change-requires-clause-number
read_change-requires-clause-number c =
    let inside = c.self.inside in
    let all = counts inside.roles.items inside.changes c.self.invariant in
    omega (arith, c.requires, ap (λ (l : List KeptRecord). length l) c.self.view_is, all)

pub returns : goal.returns
returns c =
    let inside = c.self.inside in
    let all = counts inside.roles.items inside.changes c.self.invariant in
    let within : c.args.number < length inside.roles.items =
    omega (arith, c.requires, ap (λ (l : List KeptRecord). length l) c.self.view_is, all, c.self.invariant.same_count) in
    rw (← c.self.view_is) (one_kept inside.roles.items (changes_in inside.changes) c.args.number c.index-role.result.now c.in_ok-what.what
    (is_within inside.roles.items c.args.number c.index-role.result.now within c.index-role.ensures) c.in_ok-what.ensures.what)
