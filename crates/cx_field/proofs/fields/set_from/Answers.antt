use Rattle.cx_field.proofs.SetLaws.{read_members_rise}
use Rattle.cx_field.proofs.fields.set_from.Goals as goal

pub new-requires-clause-rising : goal.new-requires-clause-rising
new-requires-clause-rising c =
    rw c.deref.ensures.value (read_members_rise _ c.u8.new.self (c.in_ok-ids.ids.items, c.items_from.new.reader) c.in_ok-ids.ensures.read)
