-- The proxy leader of a slot is one of the cluster.
use Rattle.std.proofs.Common.{◌<◌, ◌≤◌, ◌+◌, ◌*◌, ◌/◌, ◌%◌, ◌==◌, ◌≡◌, ℕ, suc, Bool, true, false, arith, refl, subst, if◌then◌else◌}
use Rattle.cx_base.proofs.Common.{nat_tests}
use Rattle.std.proofs.Math.Nat.{mul-le-mul_right, mul-div-le, suc-mul}
use Rattle.std.proofs.lemmas.Nat.{mod_below}
use Rattle.cx_letter.specs.Prelude.{Cluster}
use Rattle.cx_model.specs.Leader.{own_share, proxy_of}

through : (a b c : ℕ) → a ≤ b → b ≤ c → a ≤ c
through a b c low high = omega (arith, low, high)

shares_there : (own : Bool) (proxies leaders leader : ℕ) → leader < leaders
    → leader * (if own then proxies / leaders else 0) + (if own then proxies / leaders else 0) ≤ proxies
shares_there true proxies leaders leader there =
    let share = proxies / leaders in
    let next : suc leader ≤ leaders = omega (arith, there) in
    through (leader * share + share) (leaders * share) proxies
    (subst (λ n. n ≤ leaders * share) (suc-mul leader share) (mul-le-mul_right share next))
    (mul-div-le proxies leaders)
shares_there false proxies leaders leader there = omega arith

-- the proxy leaders of this leader and of those before it are there
pub shares_fit : (c : Cluster) (leader : ℕ) → leader < c.leaders → leader * own_share c + own_share c ≤ c.proxies
shares_fit c leader there = shares_there c.own_proxies c.proxies c.leaders leader there

within : (before rest share proxies : ℕ) → rest < share → before + share ≤ proxies → before + rest < proxies
within before rest share proxies low fits = omega (arith, low, fits)

-- where each has some, or not
turn_below : (none : Bool) (share leader slot proxies : ℕ) → (share == 0) ≡ none → 1 ≤ proxies → leader * share + share ≤ proxies
    → (if none then slot % proxies else leader * share + slot % share) < proxies
turn_below true share leader slot proxies is some fits = mod_below slot proxies (omega (arith, some))
turn_below false share leader slot proxies is some fits =
    within (leader * share) (slot % share) share proxies (mod_below slot share (grind (arith, nat_tests, is))) fits

pub proxy_below : (c : Cluster) (leader slot : ℕ) → leader < c.leaders → proxy_of c leader slot < c.proxies
proxy_below c leader slot there =
    turn_below (own_share c == 0) (own_share c) leader slot c.proxies refl c.some_proxy (shares_fit c leader there)
