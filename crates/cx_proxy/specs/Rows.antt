-- The rows of a proxy leader, in the state in which it is.
use Rattle.cx_role.specs.Prelude.{ℕ, Round, Pending, Outcome, Running}
use Rattle.cx_model.specs.Proxy.{ProxyVolatile, pending_at, propose_row, raised_to, vote_for}

-- a leader hands over a value for a slot
abbrev pub row_on_proposal : Running (Unit {0}) ProxyVolatile → Pending → Outcome ProxyVolatile
row_on_proposal s p = propose_row s.cluster s.me (raised_to p.cw s.volatile) p

-- an acceptor reports its vote in a round for a slot
abbrev pub row_on_vote : Running (Unit {0}) ProxyVolatile → ℕ → Round → ℕ → Outcome ProxyVolatile
row_on_vote s acceptor i slot = vote_for s.cluster s.me s.volatile acceptor i (pending_at slot s.volatile.pending)
