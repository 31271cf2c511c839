-- Two leaders share four proxy leaders out: each has two, which take turns. Where they aren't shared out all four take turns.
use Rattle.std.specs.Prelude.{◌≡◌, ◌∷◌, [], map, true, false}
use Rattle.std.proofs.Common.{lit≤}
use Rattle.cx_letter.specs.Prelude.{Cluster, below}
use Rattle.cx_model.specs.Examples.{two_leaders}
use Rattle.cx_model.specs.Leader.{proxy_of}

-- two leaders and four proxy leaders, two for each
abbrev pub two_each : Cluster
two_each =
    record two_leaders {
      proxies = 4;
      some_proxy = lit≤ tt;
      proxies_fit = lit≤ tt;
      own_proxies = true;
    }

-- the proxy leaders of the slots 0 to 3
pub record LeadersHaveOwnProxies : Type 0 where
  pub first : map (proxy_of two_each 0) (below 4) ≡ 0 ∷ 1 ∷ 0 ∷ 1 ∷ []
  pub second : map (proxy_of two_each 1) (below 4) ≡ 2 ∷ 3 ∷ 2 ∷ 3 ∷ []
  pub shared : map (proxy_of (record two_each { own_proxies = false }) 1) (below 4) ≡ 0 ∷ 1 ∷ 2 ∷ 3 ∷ []
