-- A collector as contracts see it.
use Rattle.std.specs.Prelude.{◌≡◌, ◌≤◌, ◌+◌, ℕ, Bool, not, ◌&&◌, nat_le, if◌then◌else◌, [], length, IsTrue}
use Rattle.cx_model.specs.Prelude.{Shape, is_in, Collection, is_informing, is_collecting, with_informed, with_forgotten}

-- the grid whose columns are informed, how many matchmakers may be lost, and how far it is
pub record CollectorState : Type 0 where
  pub grid : Shape
  pub f : ℕ
  pub collection : Collection

-- whether an acceptor's answer with this number of slots counts
abbrev pub counts_informed : ℕ → ℕ → CollectorState → Bool
counts_informed id cw k =
    is_informing k.collection.stage && nat_le k.collection.mark cw && is_in id k.grid.members && not (is_in id k.collection.counted)

-- what it leaves
abbrev pub informed_by : ℕ → ℕ → CollectorState → CollectorState
informed_by id cw k = if counts_informed id cw k then record k { collection = with_informed k.grid id k.collection } else k

-- whether a matchmaker's answer counts
abbrev pub counts_forgotten : ℕ → CollectorState → Bool
counts_forgotten id k = is_collecting k.collection.stage && not (is_in id k.collection.counted)

-- what it leaves
abbrev pub forgotten_by : ℕ → CollectorState → CollectorState
forgotten_by id k = if counts_forgotten id k then record k { collection = with_forgotten (k.f + 1) id k.collection } else k

-- the matchmakers of another set are asked in the place of those that were counted
abbrev pub recounted : CollectorState → CollectorState
recounted k = record k { collection = record k.collection { counted = [] } }

-- While matchmakers are asked, `forgotten` of them are counted: at most f, since one more ends the stage.
pub record IsCount (f forgotten : ℕ) (k : Collection) : Type 0 where
  pub count : IsTrue (is_collecting k.stage) → length k.counted ≡ forgotten
  pub most : IsTrue (is_collecting k.stage) → forgotten ≤ f
