use Rattle.cx_role.proofs.Common.{◌≡◌, length, arith, ◌∙◌, sym}
use Rattle.std.proofs.lemmas.Bool.{eq-eqb, ne_eqb}
use Rattle.cx_acceptor.proofs.VoteLaws.{first_within, is_first_from, with_set, with_insert}
use Rattle.cx_acceptor.proofs.votes.place.Goals as goal
use Rattle.cx_acceptor.proofs.votes.place.Goals.{else-at-len-via-then-at-len+else-index-vote, else-at-len-via-else-at-len}

pub insert-requires : goal.insert-requires
insert-requires c =
    let v = c.args.vote in
    let vs = c.args.votes.now.items in
    let end : c.len.result ≡ length vs = omega (arith, c.args.votes.now.ok.0) in
    let at = is_first_from v.slot vs _ _ _ _ c.deref.ensures.value c.first_from.ensures c.unwrap_or-at.ensures end in
    omega (arith, at, first_within v.slot vs, c.args.votes.now.ok.0)

pub returns-then-index-vote : goal.returns-then-index-vote
returns-then-index-vote c =
    let v = c.args.vote in
    let vs = c.args.votes.now.items in
    let end : c.len.result ≡ length vs = omega (arith, c.args.votes.now.ok.0) in
    let at = is_first_from v.slot vs _ _ _ _ c.deref.ensures.value c.first_from.ensures c.unwrap_or-at.ensures end in
    let same = rw (c.index.ensures, at) at (eq-eqb _ _ c.if-index-vote.true) in
    rw at (sym (with_set v vs c.index.result.now (omega (arith, at, end)) same))

pub returns-else-at-len : goal.returns-else-at-len
returns-else-at-len c =
    let v = c.args.vote in
    let vs = c.args.votes.now.items in
    let end : c.len.result ≡ length vs = omega (arith, c.args.votes.now.ok.0) in
    let at = is_first_from v.slot vs _ _ _ _ c.deref.ensures.value c.first_from.ensures c.unwrap_or-at.ensures end in
    let placed = rw (c.unwrap.ensures, at) at c.insert.ensures.items in
    placed ∙ elim c.else-at-len.branch [
      | else-at-len-via-then-at-len+else-index-vote w ↦
          sym (with_insert v vs w.index.result.now
          (λ _. rw (← at, ← w.index.ensures) (ne_eqb _ _ w.if-index-vote.false)))
      | else-at-len-via-else-at-len w ↦ sym (with_insert v vs v (λ within. absurd (omega (arith, at, end))))
    ]
