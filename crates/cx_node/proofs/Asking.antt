-- What a link was asked to send, one datagram after another.
use Rattle.cx_role.proofs.Common.{◌≡◌, ◌∷◌, [], List, ℕ, true, Option, None, Some, option_map, Result, Ok, Err, take, sym, ◌∙◌, refl, inl}
use Rattle.cx_role.proofs.Common.{inr, same_Some, Cluster, names_role, Letter}
use Rattle.cx_disk.specs.declared.disk.Failed.{Failed}
use Rattle.cx_edge.specs.Link.{LinkHistory, Sends, with_sent}
use Rattle.cx_msg.specs.Datagrams.{spelling}
use Rattle.cx_node.specs.Doing.{HasLinkSent, HasLinkSentPart}
use Rattle.cx_node.specs.Ports.{port_of}

asks_told : (c : Cluster) (d : Letter) (old new : Option LinkHistory) → names_role c d.to ≡ true
    → new ≡ option_map (with_sent d.from (port_of c d.to) (spelling d)) old → HasLinkSent c (d ∷ []) old new
asks_told c d None new named is_sent after is = cc
asks_told c d (Some h) new named is_sent after is =
    (h, refl, rw named (same_Some after (with_sent d.from (port_of c d.to) (spelling d) h) (sym is ∙ is_sent)))

-- the datagram of a role that the cluster has
pub asks_one : (c : Cluster) (d : Letter) (old new : Option LinkHistory) (answer : Result (Unit {0}) Failed)
    → names_role c d.to ≡ true → Sends old new d.from (port_of c d.to) (spelling d) answer → HasLinkSent c (d ∷ []) old new
asks_one c d old new (Ok u) named sends = asks_told c d old new named sends
asks_one c d old new (Err e) named (inl is_sent) = asks_told c d old new named is_sent
asks_one c d old new (Err e) named (inr silent) = λ after is. cc

-- no more than these was asked
pub asks_part : (c : Cluster) (letters : List Letter) (i : ℕ) (old mid new : Option LinkHistory)
    → HasLinkSent c (take i letters) old mid → new ≡ mid → HasLinkSentPart c letters old new
asks_part c letters i old mid new asks still = (i, λ after is. asks after (sym still ∙ is))
