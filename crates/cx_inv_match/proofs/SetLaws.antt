-- What is so of sets, after one more record: a ballot that a matchmaker promised, a set that it accepted, a log with which it began, a
-- round that it recorded; and any other record.
use Rattle.cx_inv_run.proofs.Common.{◌≡◌, true, ◌⊎◌, ℕ, List, sym, ⊎_elim, Cluster, RoleId, Round, Shape, is_before, Entry, Letter}
use Rattle.cx_inv_run.proofs.Common.{KeptRecord, Member}
use Rattle.cx_inv_match.specs.Words.{HasMatch, HasBoot, HasNext, IsUsed, IsNextSet, IsBoot, IsMember, SetFacts}
use Rattle.cx_inv_match.proofs.Grow.{Grows, grown_next, grown_boot, grown_member}

module _ (c : Cluster) (history : List KeptRecord) (sent : List Letter) (longer : List KeptRecord) (wider : List Letter)
    (grows : Grows history sent longer wider) (facts : SetFacts c history) where
  -- The facts on sets, from what the longer history may have more: a set that was accepted, a log that began, a round that was recorded.
  pub grown_sets : ((m : RoleId) (b : Round) (t : List ℕ) → HasNext longer m b t
      → HasNext history m b t ⊎ (IsNextSet c history m b t × ((o : RoleId) (u : List ℕ) → HasNext longer o b u → u ≡ t)))
      → ((m : RoleId) (s : List ℕ) (w : Round) (es : List Entry) → HasBoot longer m s w es
      → HasBoot history m s w es ⊎ (Member m.index s × IsBoot c history s w es
      × ((i : Round) (g : Shape) → HasMatch longer m i g → (e : Entry) → Member e es → is_before e.round i ≡ true)))
      → ((m : RoleId) (i : Round) (g : Shape) → HasMatch longer m i g → HasMatch history m i g
      ⊎ ((s : List ℕ) (w : Round) (es : List Entry) → HasBoot longer m s w es → (e : Entry) → Member e es → is_before e.round i ≡ true))
      → ((m : RoleId) → IsUsed longer m → IsUsed history m ⊎ IsMember c longer m)
      → SetFacts c longer
  grown_sets new_next new_boot new_match new_used = record {
    nexted =
        λ m b t x. grown_next c history sent longer wider grows m b t (⊎_elim (λ o. facts.nexted m b t o) (λ n. n.0) (new_next m b t x));
    one_next = λ m o b t u x y. ⊎_elim
        (λ p. ⊎_elim (λ q. facts.one_next m o b t u p q) (λ q. q.1 m t x) (new_next o b u y))
        (λ p. sym (p.1 o u y))
        (new_next m b t x);
    booted = λ m s w es x.
        let r : Member m.index s × IsBoot c history s w es =
        ⊎_elim (λ o. facts.booted m s w es o) (λ n. (n.0, n.1)) (new_boot m s w es x) in
        (r.0, grown_boot c history sent longer wider grows s w es r.1);
    members = λ m x. ⊎_elim (λ o. grown_member c history sent longer wider grows m (facts.members m o)) (λ n. n) (new_used m x);
    above_boot = λ m s w es i g x y. ⊎_elim
        (λ p. ⊎_elim (λ q. facts.above_boot m s w es i g p q) (λ q. q s w es x) (new_match m i g y))
        (λ p. p.2 i g y)
        (new_boot m s w es x);
  }
