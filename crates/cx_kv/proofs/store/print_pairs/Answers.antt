use Rattle.std.proofs.Common.{◌≡◌, ◌+◌, ℕ, suc, List, ◌++◌, drop, append_assoc, ap, sym, ◌∙◌, arith}
use Rattle.cx_base.specs.declared.command.Pair.{Pair}
use Rattle.cx_kv.specs.Printed.{map_text, pair_text}
use Rattle.cx_kv.proofs.Picking.{begins, drop_at}
use Rattle.cx_kv.proofs.store.print_pairs.Goals as goal

pub loop-place-preserved : goal.loop-place-preserved
loop-place-preserved c =
    let pairs = c.args.map.now.pairs in
    let i = c.loop-place.place in
    let p = c.at.result.now in
    let out = c.loop-place.out.items in
    let next : i + 1 ≡ suc i = omega arith in
    let more = drop_at pairs i p (rw (← c.len-place-end.ensures.len) c.loop-place-test.true) c.at.ensures in (
      ap (λ (l : List ℕ). l ++ map_text (drop (i + 1) pairs)) c.in_ok-print_pair.ensures.ok
          ∙ append_assoc out (pair_text p) (map_text (drop (i + 1) pairs))
          ∙ ap (λ (k : ℕ). out ++ (pair_text p ++ map_text (drop k pairs))) next
          ∙ sym (ap (λ (l : List Pair). out ++ map_text l) more)
          ∙ c.loop-place.invariant.0,
      begins c.args.out.now.items out (pair_text p) c.print_pair.new.out.items c.in_ok-print_pair.ensures.ok c.loop-place.invariant.1,
    )
