use Rattle.cx_base.proofs.Common.{◌≡◌, rules, Some, map, string_bytes}
use Rattle.compax.specs.Words.{said}
use Rattle.compax.specs.declared.words.Invocation.TheVariants.{Node}
use Rattle.compax.proofs.Hosting.{answered_node}
use Rattle.compax.proofs.Windows.{window_fits}
use Rattle.compax.proofs.top.answer.Goals as goal

pub serve-requires-clause-some_window : goal.serve-requires-clause-some_window
serve-requires-clause-some_window g c =
    let asked : said (map string_bytes c.args.words.now)
    ≡ Some (Node c.in-Node.turns c.in-Node.tend c.in-Node.window c.in-Node.recording c.as_slice.result.now) = search rules in
    (window_fits _ _ _ _ _ _ asked).0

pub serve-requires-clause-window : goal.serve-requires-clause-window
serve-requires-clause-window g c =
    let asked : said (map string_bytes c.args.words.now)
    ≡ Some (Node c.in-Node.turns c.in-Node.tend c.in-Node.window c.in-Node.recording c.as_slice.result.now) = search rules in
    (window_fits _ _ _ _ _ _ asked).1

pub returns-in-Node-clause-answered : goal.returns-in-Node-clause-answered
returns-in-Node-clause-answered g c =
    let asked : said (map string_bytes c.args.words.now)
    ≡ Some (Node c.in-Node.turns c.in-Node.tend c.in-Node.window c.in-Node.recording c.as_slice.result.now) = search rules in
    answered_node _ _ _ _ _ _ _ _ _ asked c.serve.ensures.answered c.serve.ensures.complete c.serve.ensures.tells_used
    c.serve.ensures.tells_bad
