-- The number of a bad line is at most 65,536.
use Rattle.cx_base.proofs.Common.{◌≡◌, ◌≤◌, ◌+◌, ℕ, Bool, true, false, List, []}
use Rattle.cx_base.proofs.Common.{◌∷◌, Option, Some, Result, Ok, Err, is_none, nat_lt, if◌then◌else◌}
use Rattle.cx_base.proofs.Common.{refl, ap, subst, true≢false, arith, nat_tests, same_Some}
use Rattle.cx_base.specs.declared.cluster.Cluster.{Cluster}
use Rattle.cx_base.specs.declared.event.Event.{Event}
use Rattle.cx_script.specs.declared.fault.LineFault.{LineFault}
use Rattle.cx_script.specs.Lines.{ParsedLines, with_line}
use Rattle.cx_script.specs.Requests.{request_behind, request_line, requests_from, requests_of, with_event}

-- one line, by the test of its number and by what it spells
tested : (t : Bool) (n m : ℕ) (r : Result (Option Event) LineFault) (later : ParsedLines) → n ≤ 65536
    → (t ≡ false → later.bad ≡ Some m → m ≤ 65536)
    → (if t then record { events = []; bad = Some n } else with_line n r later).bad ≡ Some m → m ≤ 65536
tested true n m r later small behind is = subst (λ k. k ≤ 65536) (same_Some n m is) small
tested false n m (Err fault) later small behind is = subst (λ k. k ≤ 65536) (same_Some n m is) small
tested false n m (Ok event) later small behind is = behind refl is

from : (c : Cluster) (n m : ℕ) (before : List Event) (lines : List (List ℕ)) → n ≤ 65536 → (requests_from c n before lines).bad ≡ Some m
    → m ≤ 65536
from c n m before [] small is = absurd (true≢false (ap is_none is))
from c n m before (line ∷ lines) small is =
    let r = request_behind before (request_line c line) in
    let later = requests_from c (n + 1) (with_event before (request_line c line)) lines in
    tested (nat_lt 65535 n) n m r later small
    (λ few. from c (n + 1) m (with_event before (request_line c line)) lines (grind (arith, nat_tests)))
    is

pub request_number : (c : Cluster) (bytes : List ℕ) (m : ℕ) → (requests_of c bytes).bad ≡ Some m → m ≤ 65536
unfolding requests_of
request_number c bytes m is = from c 1 m [] _ (omega arith) is
