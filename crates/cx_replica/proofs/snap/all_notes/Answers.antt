use Rattle.cx_role.proofs.Common.{◌≡◌, ◌+◌, ◌++◌, ◌∷◌, [], ◌∙◌, map, arith, refl, subst, sym, append-nil, length-append, List, Floor}
use Rattle.cx_role.proofs.Common.{notes_of}
use Rattle.cx_replica.proofs.Snapping.{fit_more, floor_next, floor_none, floors_all, floors_end, floors_from, next_piece}
use Rattle.cx_replica.proofs.snap.all_notes.Goals as goal
use Rattle.cx_replica.proofs.snap.all_notes.Goals.{in-Some+in_ok-what+in_ok-push, in_default}

pub loop-client-init : goal.loop-client-init
loop-client-init c =
    let table = c.args.machine.now.left.table in
    record {
      items = rw (c.new-records.ensures.items, floors_all table.floors c.requires.ordered.floors_rise) refl;
      few = rw c.new-records.ensures.items (omega arith);
      fit = rw c.new-records.ensures.items refl;
    }

pub loop-client-preserved : goal.loop-client-preserved
loop-client-preserved c =
    let table = c.args.machine.now.left.table in
    let client = c.loop-client.client in
    let done = c.loop-client.records.items in
    elim c.match-floor.branch [
      | in-Some+in_ok-what+in_ok-push w ↦
          let floor : Floor = record { client = client; floor = w.in-Some.floor } in
          let next : floors_from client table.floors ≡ floor ∷ floors_from (client + 1) table.floors
          = floor_next client w.in-Some.floor table.floors c.requires.ordered.floors_rise (sym w.in-Some.ensures) in
          record {
            items = rw (w.records-is, w.in_ok-push.ensures.items, w.in_ok-what.ensures.is) (next_piece (notes_of table) done floor
                (floors_from client table.floors) (floors_from (client + 1) table.floors) _ next c.loop-client.invariant.items);
            few = rw (w.records-is, w.in_ok-push.ensures.items)
                (omega (arith, length-append done (w.in_ok-what.what ∷ []), c.loop-client.invariant.few));
            fit = rw (w.records-is, w.in_ok-push.ensures.items)
                (fit_more done w.in_ok-what.what c.loop-client.invariant.fit w.in_ok-what.ensures.fits);
          }
      | in_default w ↦
          let same : floors_from client table.floors ≡ floors_from (client + 1) table.floors
          = floor_none client table.floors c.requires.ordered.floors_rise (sym w.in_default.ensures) in
          record {
            items = rw w.records-is (subst (λ (fs : List Floor). done ++ map (notes_of table) fs ≡ map (notes_of table) table.floors) same
                c.loop-client.invariant.items);
            few = rw w.records-is (omega (arith, c.loop-client.invariant.few));
            fit = rw w.records-is c.loop-client.invariant.fit;
          }
    ]

pub returns-clause-items : goal.returns-clause-items
returns-clause-items c =
    let table = c.args.machine.now.left.table in
    let none : floors_from c.loop-client.client table.floors ≡ []
    = floors_end c.args.cluster.now.clients c.loop-client.client table.floors c.loop-client-test.false c.requires.noted.clients in
    sym (append-nil c.loop-client.records.items)
    ∙ subst (λ (fs : List Floor). c.loop-client.records.items ++ map (notes_of table) fs ≡ map (notes_of table) table.floors) none
    c.loop-client.invariant.items
