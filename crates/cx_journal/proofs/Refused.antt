-- A change that nothing is done for.
use Rattle.cx_journal.proofs.Common.{◌≡◌, ℕ, List, Option, Err, refl, ap, Failed, JournalState, told_records, IsJournalReady}
use Rattle.cx_base.specs.Faults.{one_more}
use Rattle.cx_journal.specs.Store.{IsRefused}
use Rattle.cx_journal.proofs.Moments.{started}
use Rattle.cx_journal.proofs.Ready.{lasts_of}

module _ {D : Type 0} (seen : D → Option (List ℕ)) (may_leave : D → List ℕ → Type 0) (size moment : D → ℕ)
    (left_since : D → ℕ → List ℕ → Type 0) where
  pub refused : (j : JournalState D) (faults : ℕ) → IsJournalReady seen may_leave size j
      → ((disk : D) (c : List ℕ) → left_since disk (moment disk) c → may_leave disk c) → faults ≡ one_more j.faults
      → IsRefused seen may_leave moment left_since j (Err Failed)
      (record { disk = j.disk; gates = j.gates; gate = j.gate; whole = j.whole; faults = faults })
  refused j faults ready only_now more =
      record {
        failed = refl;
        counted = ap (λ (n : ℕ). record { disk = j.disk; gates = j.gates; gate = j.gate; whole = j.whole; faults = n }) more;
        quiet = started moment left_since j.disk (may_leave j.disk) (only_now j.disk);
        any_moment = λ whole is_seen. started moment left_since j.disk _ (λ c left. lasts_of seen may_leave size j.disk j.gate
            (told_records (seen j.disk)) (ready.fit is_seen) (ready.rests whole is_seen) c (only_now j.disk c left));
      }
