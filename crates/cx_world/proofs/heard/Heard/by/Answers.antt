use Rattle.std.proofs.Common.{◌≡◌, ◌≤◌, ℕ, List, get_or, length, sym, subst, arith}
use Rattle.std.proofs.lemmas.List.{get_or_past}
use Rattle.cx_world.proofs.Hearing.{zero_fits}
use Rattle.cx_world.proofs.heard.Heard.by.Goals as goal

pub returns-else-client-lt-CLIENTS-clause-number : goal.returns-else-client-lt-CLIENTS-clause-number
returns-else-client-lt-CLIENTS-clause-number c =
    let past : length c.self.inside.numbers ≤ c.args.client =
    omega (arith, c.if-client-lt-CLIENTS.false, c.from-client.ensures, c.self.invariant.clients) in
    sym (subst (λ (l : List ℕ). get_or l c.args.client 0 ≡ 0) c.self.view_is (get_or_past c.self.inside.numbers c.args.client 0 past))

pub returns-else-client-lt-CLIENTS-clause-fits : goal.returns-else-client-lt-CLIENTS-clause-fits
returns-else-client-lt-CLIENTS-clause-fits c = zero_fits
