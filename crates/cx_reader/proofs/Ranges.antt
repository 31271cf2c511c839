-- The ranges of what a batch sends.
use Rattle.cx_role.specs.Prelude.{Acked, greatest_mark}
use Rattle.cx_role.proofs.Common.{◌≡◌, ◌<◌, ◌≤◌, ◌+◌, true, length, Option, Some, List, [], ◌∷◌, ◌++◌, refl, arith, nat_lt, nat_tests}
use Rattle.cx_role.proofs.Common.{lt-ltb, list_all-append, MatchAnswer, greatest_watermark, Asked, Batch}
use Rattle.cx_wire.specs.Format.{u16, u32, u64}
use Rattle.cx_field.specs.Fields.{mark, round0}
use Rattle.cx_reader.specs.Running.{has_fitting_watermarks, is_ack, are_acks, count_running}

-- the greatest of watermarks in their range
pub watermark_fits : (told : List MatchAnswer) → has_fitting_watermarks told ≡ true → round0.fits (greatest_watermark told) ≡ true
unfolding round0 u16 u32
watermark_fits [] fit = refl
watermark_fits (a ∷ told) fit = grind (arith, nat_tests, watermark_fits told)

pub one_more_ack : (acks : List Acked) (a : Acked) → are_acks acks ≡ true → a.acceptor < 64 → mark.fits a.mark ≡ true
    → are_acks (acks ++ a ∷ []) ≡ true
one_more_ack acks a fit below one =
    let marked : nat_lt a.acceptor 64 ≡ true = lt-ltb a.acceptor 64 below in
    rw (list_all-append (λ (x : Acked). is_ack x) acks (a ∷ []), fit, marked, one) refl

-- the greatest of numbers of slots in their range
pub mark_fits : (acks : List Acked) → are_acks acks ≡ true → mark.fits (greatest_mark acks) ≡ true
unfolding mark u64
mark_fits [] fit = refl
mark_fits (a ∷ acks) fit = grind (arith, nat_tests, mark_fits acks)

-- what waits, and what of the batch that runs
pub few_with : (waiting : List Asked) (running : Option Batch) (b : Batch) → running ≡ Some b
    → length waiting + count_running running ≤ 64 → length waiting + length b.reads ≤ 64
few_with waiting running b is few = rw is at few
