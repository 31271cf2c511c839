use Rattle.cx_role.proofs.Common.{◌≡◌, ℕ, List, Option, None, Some, ◌∙◌, sym, ap, Pending, pending_at}
use Rattle.cx_proxy.specs.Slots.{ring_with}
use Rattle.cx_proxy.proofs.Holding.{found_slot}
use Rattle.cx_proxy.proofs.Same.{put_again}
use Rattle.cx_proxy.proofs.pendings.update_pending.Goals as goal

pub returns-in-Some-put_pending-clause-some : goal.returns-in-Some-put_pending-clause-some
returns-in-Some-put_pending-clause-some c = λ p h.
    let ring = c.args.pendings.now in
    let hollow : Pending = c.hollow-hollow.result in
    let noted : Pending → Pending = λ q. record q { marks = c.args.marks; done = c.args.done } in
    let ps = ring.items in
    let slot : hollow.slot ≡ c.args.slot = c.hollow-hollow.ensures ∙ found_slot _ ps _ (sym c.in-Some.ensures) in
    let found : Some c.in-Some-put_pending.noted ≡ Some p =
    c.in-Some-put_pending.ensures.earlier ∙ ap (λ (s : ℕ). pending_at s ps) slot ∙ h in
    let same : c.in-Some-put_pending.noted ≡ p = cc in
    c.put_pending-in-Some-put_pending.ensures.items
    ∙ ap (λ (q : Pending). ring_with (noted q) c.put_pending.new.pendings) same
    ∙ ap (ring_with (noted p)) c.put_pending.ensures.items
    ∙ ap (λ (l : List Pending). record ring { items = l })
    (put_again hollow (noted p) ps (found_slot _ ps p h ∙ sym slot))

pub returns-in_default-put_pending-clause-some : goal.returns-in_default-put_pending-clause-some
returns-in_default-put_pending-clause-some c = λ p h.
    let ps = c.args.pendings.now.items in
    let slot : c.hollow-hollow.result.slot ≡ c.args.slot =
    c.hollow-hollow.ensures ∙ found_slot _ ps _ (sym c.in-Some.ensures) in
    let nothing : Option Pending = None in
    let found : nothing ≡ Some p = c.in_default-put_pending.ensures.earlier ∙ ap (λ (s : ℕ). pending_at s ps) slot ∙ h in
    cc
