-- A link over sockets: what contracts see of it.
use Rattle.std.specs.Prelude.{◌≡◌, ◌⊎◌, ◌≤◌, ℕ, List, length, ⊤}
use Rattle.std.specs.declared.io.ErrorKind.{ErrorKind}
use Rattle.std.specs.declared.io.ErrorKind.TheVariants as error
use Rattle.cx_edge.specs.declared.link.TakeEnd.{TakeEnd}
use Rattle.cx_edge.specs.declared.link.TakeEnd.TheVariants.{Got, Nothing, Failed}

-- its counts
pub record UdpState : Type 0 where
  pub faults : ℕ
  pub losses : ℕ

-- the errors of a socket that are no fault: nothing is there, or the network answers an earlier send
abbrev pub IsNoFault : ErrorKind → Type 0
IsNoFault kind = (kind ≡ error.WouldBlock) ⊎ ((kind ≡ error.ConnectionRefused)
    ⊎ ((kind ≡ error.ConnectionReset) ⊎ ((kind ≡ error.HostUnreachable) ⊎ (kind ≡ error.NetworkUnreachable))))

-- what a take answers where a socket gave an error of this kind
abbrev pub EndsAs : ErrorKind → TakeEnd → Type 0
EndsAs kind (Got count) = ⊥
EndsAs kind Nothing = IsNoFault kind
EndsAs kind Failed = IsNoFault kind → ⊥

-- the bytes that were taken are in the buffer
abbrev pub TakenFits : List ℕ → TakeEnd → Type 0
TakenFits buffer (Got count) = count ≤ length buffer
TakenFits buffer Nothing = ⊤
TakenFits buffer Failed = ⊤
