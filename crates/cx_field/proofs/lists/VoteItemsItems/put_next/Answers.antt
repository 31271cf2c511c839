use Rattle.cx_base.proofs.Common.{◌≡◌, ◌++◌, Bool, List, ℕ, Result, Ok, Err, OnOk, append_assoc}
use Rattle.cx_field.specs.declared.parts.Vote.{Vote}
use Rattle.cx_field.specs.Fields.{round, slot, value, vote_with}
use Rattle.cx_field.proofs.Floors.{value_spells}
use Rattle.cx_field.proofs.lists.VoteItemsItems.put_next.Goals as goal

on_ok : {X E P Q : Type 0} (result : Result X E) → OnOk result P → (P → Q) → OnOk result Q
on_ok (Ok x) holds f = f holds
on_ok (Err e) holds f = tt

spelled : (floors : Bool) (cw : ℕ) (before : List Vote) (v : Vote) (old bytes : List ℕ)
    → bytes ≡ old ++ round.spell v.round ++ slot.spell v.slot ++ value.spell v.value → bytes ≡ old ++ (vote_with floors cw before).spell v
unfolding vote_with
spelled floors cw before v old bytes h = rw (value_spells floors v.value, ← append_assoc, ← append_assoc) h

pub returns-clause-bytes : goal.returns-clause-bytes
returns-clause-bytes c =
    on_ok c.put_value.result c.put_value.ensures
    (λ put before. spelled c.args.self.now.floors c.args.self.now.cw before c.args.vote.now c.args.out.now.items c.put_value.new.out.items
    (rw (← c.in_ok-put_round.ensures.real.bytes, ← c.in_ok-put_slot.ensures.bytes) put.bytes))
