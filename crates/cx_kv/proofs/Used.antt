-- What a client table says of commands, and of one more.
use Rattle.std.proofs.Common.{◌≡◌, ℕ, Bool, true, false, not, List, [], ◌∷◌, ◌++◌, refl, sym, ◌∙◌, ap}
use Rattle.cx_base.specs.declared.command.Command.{Command}
use Rattle.cx_base.specs.declared.command.Reply.{Reply}
use Rattle.cx_base.specs.Fold.{acts}
use Rattle.cx_base.specs.Noted.{Table, is_used, new_table, with_answer, with_told}
use Rattle.cx_base.proofs.Used.{rising_behind, used_again, used_noted}
use Rattle.cx_kv.specs.Acting.{IsDecidingTable}
use Rattle.cx_table.specs.Judged.{is_new, judge_of}
use Rattle.cx_table.proofs.Judging.{new_unused}

pub decides_none : IsDecidingTable new_table []
decides_none = record { rising = refl; used = λ client seq. refl }

module _ (t : Table) (list : List Command) (c : Command) (is : IsDecidingTable t list) where
  -- a command acts whose number is new
  pub acts_new : is_new (judge_of t c.client c.seq) ≡ acts list c
  acts_new = new_unused t c.client c.seq ∙ ap not (sym (is.used c.client c.seq))

  pub decides_noted : (at : ℕ) (reply : Reply)
      → IsDecidingTable (with_answer (record { client = c.client; seq = c.seq; at = at; reply = reply }) c.floor t)
      (list ++ c ∷ [])
  decides_noted at reply = record {
    rising = rising_behind list t c is.rising is.used;
    used = used_noted list t c is.rising is.used at reply;
  }

  pub decides_told : is_new (judge_of t c.client c.seq) ≡ false
      → IsDecidingTable (with_told c.client c.floor t) (list ++ c ∷ [])
  decides_told old = record {
    rising = rising_behind list t c is.rising is.used;
    used = used_again list t c is.rising is.used (turned (is_used c.client c.seq t) (sym (new_unused t c.client c.seq) ∙ old));
  }
    where
      turned : (b : Bool) → not b ≡ false → b ≡ true
      turned true e = refl
      turned false e = cc
