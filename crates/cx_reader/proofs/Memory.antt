-- An answer that is counted may take memory.
use Rattle.cx_role.proofs.Common.{◌≡◌, false, ◌&&◌, ◌==◌, not, nat_lt, length, refl, ℕ, List, [], ◌∷◌, Cluster, RoleId, Entry, Outcome}
use Rattle.cx_role.proofs.Common.{by_test, live_entries, rows_whole}
use Rattle.cx_role.specs.Role.{takes_no_memory}
use Rattle.cx_model.specs.Reader.{Batch, ReaderDurable, ReaderVolatile, acked_by, finish, is_matched, last_turn, match_ack_counted, matched}
use Rattle.cx_model.specs.Reader.{pre_read_counted}

abbrev MayTake : Outcome ReaderVolatile → Type 0
MayTake o = takes_no_memory o.why ≡ false

module _ (c : Cluster) (me : RoleId) (d : ReaderDurable) (v : ReaderVolatile) (b : Batch) where
  finish_takes : (n : ℕ) → MayTake (finish me d v b n)
  finish_takes n =
      by_test MayTake (nat_lt 0 (length v.waiting) && not (d.turn == last_turn)) _ _ (λ _. refl) (λ _. refl)

  matched_takes : (es : List Entry) → MayTake (matched c me d v b es)
  matched_takes [] = finish_takes 0
  matched_takes (e ∷ es) = refl

  pub match_ack_takes : takes_no_memory (match_ack_counted c me d v b).why ≡ false
  match_ack_takes =
      by_test MayTake (is_matched c b) _ _ (λ _. matched_takes (live_entries b.told)) (λ _. refl)

  pub pre_read_takes : takes_no_memory (pre_read_counted c me d v b).why ≡ false
  pre_read_takes =
      by_test MayTake (rows_whole (live_entries b.told) (acked_by b.acks)) _ _ (λ _. finish_takes _) (λ _. refl)
