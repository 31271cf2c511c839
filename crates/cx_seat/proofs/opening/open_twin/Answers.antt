use Rattle.cx_role.proofs.Common.{◌≡◌, ◌∙◌, ◌++◌, ◌∷◌, [], List, Some, Result, Err, true, ap, sym, refl, append_assoc, replica_rules}
use Rattle.cx_seat.specs.Prelude.{shelf, Shelf, files_records, unwoken_stop, has_second}
use Rattle.cx_edge.proofs.ShelfLaws.{without_last}
use Rattle.cx_seat.specs.declared.opening.OpenStop.{OpenStop}
use Rattle.cx_seat.specs.declared.opening.OpenStop.TheVariants as open_stop
use Rattle.cx_seat.proofs.Lending.{apart_closed, apart_opened, apart_then, lends_none, lends_these}
use Rattle.cx_seat.proofs.Lent.{files_by_sides, second_is_out, sides_differ, two_stay, without_both}
use Rattle.cx_seat.proofs.Woken.{bad_two, unwoken_bad}
use Rattle.cx_seat.proofs.opening.open_twin.Goals as goal

same_stop : {T : Type 0} (a b : OpenStop) → ◌≡◌ {A = Result T OpenStop} (Err a) (Err b) → a ≡ b
same_stop a b e = cc

pub returns-in_default-open-clause-lends : goal.returns-in_default-open-clause-lends
returns-in_default-open-clause-lends g c =
    let lent = c.in-Ok.ensures in
    let failed = c.in_default-open.ensures in
    let back = c.close.ensures in
    lends_none g.D.Depot c.args.me _ (open_stop.StoreFault c.args.me) c.args.depot.now c.close.new.self
    (apart_then g.D.Depot c.args.me c.args.depot.now c.open.new.self c.close.new.self
    (apart_opened g.D.Depot c.args.me _ _ lent.tells_same lent.stored lent.later lent.others)
    (apart_then g.D.Depot c.args.me c.open.new.self c.open-2.new.self c.close.new.self
    (apart_opened g.D.Depot c.args.me _ _ failed.tells_same failed.stored failed.later failed.others)
    (apart_closed g.D.Depot c.args.me 0 _ _ back.tells_same back.others_stored back.later back.others)))
    (rw (back.out, failed.refused, lent.out)
    (without_last (shelf c.args.me 0) (g.D.Depot.out c.args.depot.now) (c.requires.in_depot 0)))
    (λ t. ap (λ files. files_records (Some files)) (files_by_sides (g.D.Depot.stored c.args.depot.now)
    (g.D.Depot.stored c.close.new.self) c.args.me (back.stored (failed.tells_same ∙ lent.tells_same ∙ t) _ (lent.seen t))
    (back.others_stored (shelf c.args.me 1) (λ e. sides_differ c.args.me (sym e)) ∙ failed.stored (shelf c.args.me 1)
    ∙ lent.stored (shelf c.args.me 1))))
    (λ none. absurd (none refl))

pub close-requires-in-Err-2 : goal.close-requires-in-Err-2
close-requires-in-Err-2 g c =
    rw (c.close-in-Err.ensures.out, c.in-Ok-open.ensures.out, c.in-Ok.ensures.out)
    (second_is_out c.args.me (g.D.Depot.out c.args.depot.now) c.requires.in_depot)

pub returns-in-Ok-wake_twin-clause-lends : goal.returns-in-Ok-wake_twin-clause-lends
returns-in-Ok-wake_twin-clause-lends g c =
    let first = c.in-Ok.ensures in
    let second = c.in-Ok-open.ensures in
    lends_these g.D.Depot c.args.me _ _ c.args.depot.now c.open-2.new.self
    (second.out ∙ ap (λ (out : List Shelf). out ++ shelf c.args.me 1 ∷ []) first.out
    ∙ append_assoc (g.D.Depot.out c.args.depot.now) (shelf c.args.me 0 ∷ []) (shelf c.args.me 1 ∷ []))
    (second.tells_same ∙ first.tells_same) (λ place. second.stored place ∙ first.stored place)
    (λ who. second.still who ∙ first.still who)

pub returns-in-Err-clause-lends : goal.returns-in-Err-clause-lends
returns-in-Err-clause-lends g c =
    let first = c.in-Ok.ensures in
    let second = c.in-Ok-open.ensures in
    let first_back = c.close-in-Err.ensures in
    let second_back = c.close-in-Err-2.ensures in
    let two : has_second c.args.me.kind ≡ true = ap has_second c.requires.kind in
    lends_none g.D.Depot c.args.me _ c.unwoken.result c.args.depot.now c.close-in-Err-2.new.self
    (apart_then g.D.Depot c.args.me c.args.depot.now c.open.new.self c.close-in-Err-2.new.self
    (apart_opened g.D.Depot c.args.me _ _ first.tells_same first.stored first.later first.others)
    (apart_then g.D.Depot c.args.me c.open.new.self c.open-2.new.self c.close-in-Err-2.new.self
    (apart_opened g.D.Depot c.args.me _ _ second.tells_same second.stored second.later second.others)
    (apart_then g.D.Depot c.args.me c.open-2.new.self c.close-in-Err.new.self c.close-in-Err-2.new.self
    (apart_closed g.D.Depot c.args.me 0 _ _ first_back.tells_same first_back.others_stored first_back.later first_back.others)
    (apart_closed g.D.Depot c.args.me 1 _ _ second_back.tells_same second_back.others_stored second_back.later
    second_back.others))))
    (rw (second_back.out, first_back.out, second.out, first.out)
    (without_both c.args.me (g.D.Depot.out c.args.depot.now) c.requires.in_depot))
    (λ t. two_stay g.D.Store.Disk.seen c.args.me (g.D.Depot.stored c.args.depot.now)
    (g.D.Depot.stored c.close-in-Err-2.new.self) c.in-Ok.first c.in-Ok-open.second c.in-Err.first c.in-Err.second two
    (first.seen t) (second.seen (first.tells_same ∙ t) ∙ ap Some (first.stored (shelf c.args.me 1)))
    c.in-Err.ensures.first_tells c.in-Err.ensures.second_tells c.in-Err.ensures.same
    (λ file e. second_back.others_stored (shelf c.args.me 0) (sides_differ c.args.me)
    ∙ first_back.stored (second.tells_same ∙ first.tells_same ∙ t) file e)
    (second_back.stored (first_back.tells_same ∙ second.tells_same ∙ first.tells_same ∙ t)))
    (λ none. let same = c.in-Err.ensures.still
    (λ failed. none (c.unwoken.ensures.stop ∙ ap (unwoken_stop c.args.me) failed)) in
    second_back.still (same.1 ∙ second.fresh) ∙ first_back.still (same.0 ∙ first.fresh) ∙ second.still c.args.me
    ∙ first.still c.args.me)

pub returns-in-Err-clause-bad : goal.returns-in-Err-clause-bad
returns-in-Err-clause-bad g c = λ role at e.
    let first = c.in-Ok.ensures in
    let second = c.in-Ok-open.ensures in
    let why = unwoken_bad c.args.me c.in-Err.stop role at (sym c.unwoken.ensures.stop ∙ same_stop _ _ e) in (
      why.1,
      λ t. bad_two replica_rules c.args.cluster.now (g.D.Depot.stored c.args.depot.now) c.args.me at
          (ap has_second c.requires.kind)
          (c.in-Err.ensures.bad (g.D.Depot.stored c.args.depot.now (shelf c.args.me 0))
          (g.D.Depot.stored c.args.depot.now (shelf c.args.me 1)) at (first.seen t)
          (second.seen (first.tells_same ∙ t) ∙ ap Some (first.stored (shelf c.args.me 1))) why.0),
    )
