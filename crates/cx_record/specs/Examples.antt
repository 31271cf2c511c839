-- Events, each with its line, written out.
use Rattle.std.specs.Prelude.{◌≡◌, [], ◌∷◌, codes}
use Rattle.cx_letter.specs.Prelude.{Put, Del, Whole, Torn, Kept, Lead, Change, Collect, Acceptor, Replica, make_grid, role}
use Rattle.cx_base.specs.declared.event.Event.TheVariants as event
use Rattle.cx_record.specs.Lines.{line_text}

pub record Worked : Type 0 where
  pub write : line_text (event.Write (record { client = 0; seq = 1; floor = 0; op = Del (codes "k") }) 0)
      ≡ codes "write client:0 1 batcher:0 del k"
  -- a floor that isn't the number before
  pub floor : line_text (event.Write (record { client = 1; seq = 7; floor = 3; op = Put (codes "k") (codes "v") }) 2)
      ≡ codes "write client:1 7/3 batcher:2 put k v"
  pub session : line_text (event.Session 2 5 4 1 (codes "k")) ≡ codes "session client:2 5 replica:1 k"
  pub lead : line_text (event.Order 1 (Lead (make_grid 2 2 (0 ∷ 1 ∷ 2 ∷ 3 ∷ []))) Whole) ≡ codes "lead leader:1 2x2 0,1,2,3"
  pub change : line_text (event.Order 0 (Change (make_grid 1 2 (4 ∷ 5 ∷ []))) Kept) ≡ codes "change leader:0 1x2 4,5 kept"
  pub collect : line_text (event.Order 0 Collect Whole) ≡ codes "collect leader:0"
  pub replace : line_text (event.Replace 1 (3 ∷ 4 ∷ 5 ∷ []) Torn) ≡ codes "replace replacer:1 3,4,5 torn"
  pub offer : line_text (event.Offer 0 2 5) ≡ codes "offer replica:0 replica:2 5"
  pub snap : line_text (event.Snap (role Replica 1) Whole) ≡ codes "snap replica:1"
  pub snap_of_acceptor : line_text (event.Snap (role Acceptor 2) Kept) ≡ codes "snap acceptor:2 kept"
