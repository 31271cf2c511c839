-- Why a role could not be opened.
use Rattle.std.specs.Prelude.{◌≡◌, ℕ, true, List, Option, Some}
use Rattle.cx_model.specs.Rules.{Rules, Running, folded_from, refused_from}
use Rattle.cx_letter.specs.declared.kept.Record.{Record as Kept}
use Rattle.cx_role.specs.declared.role.WakeFault.{WakeFault}
use Rattle.cx_role.specs.declared.role.WakeFault.TheVariants.{Record, NoMemory}

-- a record is named only where it is the first that is refused
abbrev pub IsWakeFault : Option ℕ → WakeFault → Type 0
IsWakeFault refused (Record index) = refused ≡ Some index
IsWakeFault refused NoMemory = Unit {0}

-- a role that was opened again: what its records left, with these after them
abbrev pub reopened : {D V : Type 0} → Rules D V → Running D V → List Kept → Running D V
reopened rules s rs =
    record {
      cluster = s.cluster;
      me = s.me;
      live = true;
      durable = folded_from rules s.durable rs;
      volatile = rules.fresh s.cluster (folded_from rules s.durable rs);
    }

-- the place of the first of these records that a role could not have appended
abbrev pub refused_behind : {D V : Type 0} → Rules D V → Running D V → List Kept → Option ℕ
refused_behind rules s rs = refused_from rules s.cluster s.me s.durable 0 rs
