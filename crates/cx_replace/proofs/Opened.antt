-- A replacer that was just opened.
use Rattle.cx_role.proofs.Common.{◌≡◌, ◌<◌, ℕ, true, nat_lt, IsTrue, [], refl, ap, sym, arith, ltb-true, Cluster, Kind, RoleId, Round}
use Rattle.cx_role.proofs.Common.{role, names_role, no_round}
use Rattle.cx_role.proofs.Common.kind
use Rattle.cx_field.proofs.ListLaws.{joined_fit}
use Rattle.cx_model.specs.declared.states.Replacing.TheVariants.{Idle}
use Rattle.cx_replace.specs.State.{IsReplacer}
use Rattle.cx_replace.proofs.JoinLaws.{none_fits}

-- a role of a replacer's kind is the replacer of its index
pub replacer_itself : (me : RoleId) → me.kind ≡ kind.Replacer → role kind.Replacer me.index ≡ me
replacer_itself me is = ap (λ (k : Kind). role k me.index) (sym is)

pub replacer_named : (c : Cluster) (me : RoleId) → me.kind ≡ kind.Replacer → IsTrue (names_role c me) → me.index < c.replacers
replacer_named c me is named = let below : nat_lt me.index c.replacers ≡ true = rw is at named in ltb-true me.index c.replacers below

-- one that has counted nobody yet
pub idle_is : (c : Cluster) (index : ℕ) (own : Round) → index < c.replacers → IsReplacer c index own Idle [] [] no_round []
idle_is c index own named =
    record {
      named = named;
      begun = refl;
      few = λ e. omega arith;
      told = refl;
      counts = omega arith;
      from_water = none_fits;
      begins = joined_fit [] (omega arith) refl refl;
    }

-- what opening a replacer needs
pub ruleset openings = (replacer_itself, replacer_named)
