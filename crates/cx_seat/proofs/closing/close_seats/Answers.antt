use Rattle.std.proofs.Common.{◌≡◌, ◌∙◌, [], None, Some, rules, sym, ap}
use Rattle.cx_seat.specs.Prelude.{One, Two, keeper_of, disks_in, lent_to}
use Rattle.cx_seat.proofs.StoresBack.{shown_by}
use Rattle.cx_seat.proofs.GivenBack.{all_back, apart_disks, cause_all, first_is_out, first_taken, goes_on, held_all, later_all, no_items}
use Rattle.cx_seat.proofs.GivenBack.{one_is_out, one_taken, others_all, second_is_out, second_taken, skipped, still_all, told_all}
use Rattle.cx_seat.proofs.closing.close_seats.Goals as goal

pub close-requires : goal.close-requires
close-requires g c =
    let shown = shown_by g.D.Depot g.D.Store.Disk in
    let l = c.loop-seat in
    let keeps = sym c.into_keeper.ensures ∙ c.in-Some-One.is ∙ ap Some c.in-Some-One.field-0-is in
    rw c.name-me.ensures
    (one_is_out shown c.in-Some.seat c.next.new.self.rest.items l.seat-iterator.rest.items c.in-Some.ensures.steps.0
    (g.D.Depot.out l.depot) c.in-Some-One.journal l.invariant.out keeps)

pub loop-seat-preserved-in-Some-One : goal.loop-seat-preserved-in-Some-One
loop-seat-preserved-in-Some-One g c =
    let shown = shown_by g.D.Depot g.D.Store.Disk in
    let l = c.loop-seat in
    let after = c.next.new.self.rest.items in
    let before = l.seat-iterator.rest.items in
    let keeps = sym c.into_keeper.ensures ∙ c.in-Some-One.is ∙ ap Some c.in-Some-One.field-0-is in
    let closed = rw (c.name-me.ensures, c.into_disk.ensures) at c.close.ensures in
    record {
      can = tt;
      ends = tt;
      out = closed.out ∙ one_taken shown c.in-Some.seat after before c.in-Some.ensures.steps.0
          (g.D.Depot.out l.depot) c.in-Some-One.journal l.invariant.out keeps;
      back = goes_on shown c.in-Some.seat after before c.in-Some.ensures.steps.0 l.depot c.close.new.self
          (disks_in c.args.seats.items) c.args.depot.now (Some (One c.in-Some-One.journal)) keeps
          (λ end rest. (
            c.close.new.self,
            record {
              tells_same = closed.tells_same;
              stored = closed.stored;
              others_stored = closed.others_stored;
              cause = closed.cause;
              still = closed.still;
              others = closed.others;
              later = closed.later;
            },
            rest,
          ))
          l.invariant.back;
    }

pub close-requires-in-Some-Two : goal.close-requires-in-Some-Two
close-requires-in-Some-Two g c =
    let shown = shown_by g.D.Depot g.D.Store.Disk in
    let l = c.loop-seat in
    let keeps = sym c.into_keeper.ensures ∙ c.in-Some-Two.is ∙ ap Some c.in-Some-Two.field-0-is in
    rw c.name-me.ensures
    (first_is_out shown c.in-Some.seat c.next.new.self.rest.items l.seat-iterator.rest.items c.in-Some.ensures.steps.0
    (g.D.Depot.out l.depot) c.in-Some-Two.twin l.invariant.out keeps)

pub close-requires-in-Some-Two-2 : goal.close-requires-in-Some-Two-2
close-requires-in-Some-Two-2 g c =
    let shown = shown_by g.D.Depot g.D.Store.Disk in
    let l = c.loop-seat in
    let after = c.next.new.self.rest.items in
    let keeps = sym c.into_keeper.ensures ∙ c.in-Some-Two.is ∙ ap Some c.in-Some-Two.field-0-is in
    let closed = rw c.name-me.ensures at c.close-in-Some-Two.ensures in
    rw c.name-me.ensures
    (second_is_out shown c.in-Some.seat after l.seat-iterator.rest.items c.in-Some.ensures.steps.0
    (g.D.Depot.out c.close-in-Some-Two.new.self)
    (closed.out ∙ first_taken shown c.in-Some.seat after l.seat-iterator.rest.items c.in-Some.ensures.steps.0
    (g.D.Depot.out l.depot) c.in-Some-Two.twin l.invariant.out keeps))

pub loop-seat-preserved-in-Some-Two : goal.loop-seat-preserved-in-Some-Two
loop-seat-preserved-in-Some-Two g c =
    let shown = shown_by g.D.Depot g.D.Store.Disk in
    let l = c.loop-seat in
    let after = c.next.new.self.rest.items in
    let before = l.seat-iterator.rest.items in
    let keeps = sym c.into_keeper.ensures ∙ c.in-Some-Two.is ∙ ap Some c.in-Some-Two.field-0-is in
    let first = rw (c.name-me.ensures, c.into_disks-first.ensures) at c.close-in-Some-Two.ensures in
    let second = rw (c.name-me.ensures, c.into_disks-first.ensures) at c.close-in-Some-Two-2.ensures in
    let mid = c.close-in-Some-Two.new.self in
    record {
      can = tt;
      ends = tt;
      out = second.out ∙ second_taken shown c.in-Some.seat after before c.in-Some.ensures.steps.0 (g.D.Depot.out mid)
          (first.out ∙ first_taken shown c.in-Some.seat after before c.in-Some.ensures.steps.0
          (g.D.Depot.out l.depot) c.in-Some-Two.twin l.invariant.out keeps);
      back = goes_on shown c.in-Some.seat after before c.in-Some.ensures.steps.0 l.depot c.close-in-Some-Two-2.new.self
          (disks_in c.args.seats.items) c.args.depot.now (Some (Two c.in-Some-Two.twin)) keeps
          (λ end rest. (
            mid,
            record {
              tells_same = first.tells_same;
              stored = first.stored;
              others_stored = first.others_stored;
              cause = first.cause;
              still = first.still;
              others = first.others;
              later = first.later;
            },
            (
              c.close-in-Some-Two-2.new.self,
              record {
                tells_same = second.tells_same;
                stored = second.stored;
                others_stored = second.others_stored;
                cause = second.cause;
                still = second.still;
                others = second.others;
                later = second.later;
              },
              rest,
            ),
          ))
          l.invariant.back;
    }

pub loop-seat-preserved : goal.loop-seat-preserved
loop-seat-preserved g c =
    let shown = shown_by g.D.Depot g.D.Store.Disk in
    let l = c.loop-seat in
    let after = c.next.new.self.rest.items in
    let before = l.seat-iterator.rest.items in
    let none : keeper_of c.in-Some.seat ≡ None = search rules in
    record {
      can = tt;
      ends = tt;
      out = skipped shown c.in-Some.seat after before c.in-Some.ensures.steps.0 (g.D.Depot.out l.depot)
          l.invariant.out none;
      back = goes_on shown c.in-Some.seat after before c.in-Some.ensures.steps.0 l.depot l.depot
          (disks_in c.args.seats.items) c.args.depot.now None none (λ end rest. rest) l.invariant.back;
    }

pub returns-clause-out : goal.returns-clause-out
returns-clause-out g c =
    let rest = c.loop-seat.seat-iterator.rest in
    let empty : rest.items ≡ [] = no_items rest.items rest.len (search rules) c.in-None.ensures.steps.0 in
    c.loop-seat.invariant.out ∙ ap lent_to empty

pub returns-clause-tells_same : goal.returns-clause-tells_same
returns-clause-tells_same g c =
    let shown = shown_by g.D.Depot g.D.Store.Disk in
    let disks = disks_in c.args.seats.items in
    let old = c.args.depot.now in
    let new = c.loop-seat.depot in
    let rest = c.loop-seat.seat-iterator.rest in
    let empty : rest.items ≡ [] = no_items rest.items rest.len (search rules) c.in-None.ensures.steps.0 in
    told_all shown disks old new (all_back shown rest.items disks old new empty c.loop-seat.invariant.back)

pub returns-clause-back : goal.returns-clause-back
returns-clause-back g c =
    let shown = shown_by g.D.Depot g.D.Store.Disk in
    let disks = disks_in c.args.seats.items in
    let old = c.args.depot.now in
    let new = c.loop-seat.depot in
    let rest = c.loop-seat.seat-iterator.rest in
    let empty : rest.items ≡ [] = no_items rest.items rest.len (search rules) c.in-None.ensures.steps.0 in
    let all = all_back shown rest.items disks old new empty c.loop-seat.invariant.back in
    record {
      holds = held_all shown disks old new all (apart_disks c.args.seats.items c.requires.distinct);
      others = others_all shown disks old new all;
      failed = cause_all shown disks old new all;
      still = still_all shown disks old new all;
      later = later_all shown disks old new all;
    }
