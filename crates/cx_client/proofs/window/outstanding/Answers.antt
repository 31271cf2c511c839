use Rattle.std.proofs.lemmas.List.{take_min}
use Rattle.cx_role.proofs.Common.{◌≡◌, ap, sym, ◌∙◌, None, Some, not, take, position, Event}
use Rattle.cx_client.specs.Window.{first_of, is_near}
use Rattle.cx_client.proofs.Windows.{outstanding_all, outstanding_to}
use Rattle.cx_client.proofs.window.outstanding.Goals as goal

pub returns-in-Some : goal.returns-in-Some
returns-in-Some c =
    let same : take c.min.result c.args.left.now ≡ take c.args.window c.args.left.now =
    ap (λ n. take n c.args.left.now) c.min.ensures ∙ take_min c.args.window c.args.left.now in
    let is : position (λ (e : Event). not (is_near (first_of c.args.left.now) e)) (take c.args.window c.args.left.now)
    ≡ Some c.in-Some.place = rw (← c.first_of.ensures, ← same) (sym c.first_far.ensures ∙ c.in-Some.is) in
    rw same (outstanding_to c.args.window c.args.left.now c.requires.rising c.in-Some.place is)

pub returns-in-None : goal.returns-in-None
returns-in-None c =
    let same : take c.min.result c.args.left.now ≡ take c.args.window c.args.left.now =
    ap (λ n. take n c.args.left.now) c.min.ensures ∙ take_min c.args.window c.args.left.now in
    let is : position (λ (e : Event). not (is_near (first_of c.args.left.now) e)) (take c.args.window c.args.left.now) ≡ None =
    rw (← c.first_of.ensures, ← same) (sym c.first_far.ensures ∙ c.in-None.is) in
    rw same (outstanding_all c.args.window c.args.left.now c.requires.rising is)
