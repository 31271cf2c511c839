-- What is so of every replacer.
use Rattle.std.specs.Prelude.{◌≤◌, ◌<◌, ◌&&◌, ◌||◌, ◌∷◌, ◌++◌, ℕ, Bool, List, [], length, IsTrue}
use Rattle.cx_letter.specs.Prelude.{list_all, Cluster, Entry, Round, entries, joined, round, round0}
use Rattle.cx_model.specs.declared.states.Halt.{Halt}
use Rattle.cx_model.specs.declared.states.Replacing.{Replacing}
use Rattle.cx_base.specs.declared.why.Why.TheVariants as why
use Rattle.cx_letter.specs.Prelude.{RoleId}
use Rattle.cx_model.specs.declared.states.Replacing.TheVariants.{Idle}
use Rattle.cx_model.specs.Outcome.{Outcome}
use Rattle.cx_model.specs.Replacer.{ReplacerDurable, ReplacerVolatile, is_resting, is_stopping, known_record, sets_to_all}

-- whether what a matchmaker told as it stopped is in its ranges
abbrev pub halt_fits : Halt → Bool
halt_fits h = round0.fits h.answer.watermark && entries.fits h.answer.entries

-- one more matchmaker has stopped
abbrev pub with_halt : Halt → ReplacerVolatile → ReplacerVolatile
with_halt h v = record v { halts = v.halts ++ h ∷ [] }

-- enough members of the next set have begun: it is the known one, kept where it is to be, and told to all
abbrev pub next_known : Cluster → RoleId → ReplacerDurable → ReplacerVolatile → Outcome ReplacerVolatile
next_known c me d v =
    record {
      why = why.Replaced;
      kept = known_record c d v.next;
      volatile = record v { mode = Idle; set = v.next };
      sends = sets_to_all c me v.next;
    }

-- It is one of the cluster's. While it asks for something it has a ballot. It has counted at most f answers, but for those of the
-- matchmakers that have stopped, of which one more ends the mode. What they told is in its ranges, and so is what they had
-- together, with which the members of the next set begin.
pub record IsReplacer (c : Cluster) (index : ℕ) (own : Round) (mode : Replacing) (halts : List Halt) (counted : List ℕ)
    (watermark : Round) (es : List Entry) : Type 0 where
  pub named : index < c.replacers
  pub begun : IsTrue (is_resting mode || round.fits own)
  pub few : IsTrue (is_stopping mode) → length halts ≤ c.f
  pub told : IsTrue (list_all (λ (h : Halt). halt_fits h) halts)
  pub counts : length counted ≤ c.f
  pub from_water : IsTrue (round0.fits watermark)
  pub begins : IsTrue (joined.fits es)
