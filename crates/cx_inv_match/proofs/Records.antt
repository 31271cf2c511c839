-- One law for each kind of record: the facts hold once it is kept and its role has stopped.
use Rattle.cx_inv_run.proofs.Common.{◌≡◌, ℕ, true, List, ◌∷◌, inr, RoleId, Round, Shape, is_before, Entry, Letter, KeptRecord, Record}
use Rattle.cx_inv_run.proofs.Common.{entry_by}
use Rattle.cx_inv_match.specs.Words.{HasMatch, HasGarbage, HasBoot, HasLog, HasNext, HasBallot, HasStopped, IsUsed}
use Rattle.cx_inv_match.proofs.Grow.{Grows}
use Rattle.cx_inv_match.proofs.Keep.{IsVoteRecord, IsWaterRecord, IsMatchRecord, IsGarbageRecord, IsBootRecord, IsNextRecord, old_boots}
use Rattle.cx_inv_match.proofs.Keep.{old_nexts, old_matches, old_garbages, old_votes, old_marks}

abbrev pub no : ⊥ → ⊥
no x = x

-- of records that are no acceptor's: what they add is no vote and no watermark
pub grows_with : (history : List KeptRecord) (sent : List Letter) (me : RoleId) (r : Record) → (IsVoteRecord r → ⊥) → (IsWaterRecord r → ⊥)
    → ((m : RoleId) (i j : Round) (h : Shape) → is_before j i ≡ true → HasLog history m i → HasMatch (entry_by me r ∷ history) m j h
    → HasMatch history m j h)
    → ((m : RoleId) (s : List ℕ) (w : Round) (es : List Entry) → IsUsed history m → HasBoot (entry_by me r ∷ history) m s w es
    → HasBoot history m s w es)
    → ((m : RoleId) (i : Round) (g : Shape) → HasStopped history m → HasMatch (entry_by me r ∷ history) m i g → HasMatch history m i g)
    → ((m : RoleId) (i : Round) (g : Shape) → HasStopped history m → HasGarbage (entry_by me r ∷ history) m i g → HasGarbage history m i g)
    → ((m : RoleId) (a b : Round) (u : List ℕ) → is_before a b ≡ true → HasBallot history m b → HasNext (entry_by me r ∷ history) m a u
    → HasNext history m a u) → Grows history sent (entry_by me r ∷ history) sent
grows_with history sent me r vote water no_match no_boot halted_match halted_garbage no_next = record {
  more = λ k m. inr m;
  wide = λ d m. m;
  no_vote = λ a j s v past x. old_votes me r history vote a j s v x;
  no_mark = λ a j n past x. old_marks me r history vote water a j n x;
  no_match = no_match;
  no_boot = no_boot;
  halted_match = halted_match;
  halted_garbage = halted_garbage;
  no_next = no_next;
  no_proposal = λ j s v l x. x;
}

-- of records that are no matchmaker's either
pub grows_else : (history : List KeptRecord) (sent : List Letter) (me : RoleId) (r : Record) → (IsVoteRecord r → ⊥) → (IsWaterRecord r → ⊥)
    → (IsMatchRecord r → ⊥) → (IsGarbageRecord r → ⊥) → (IsBootRecord r → ⊥) → (IsNextRecord r → ⊥)
    → Grows history sent (entry_by me r ∷ history) sent
grows_else history sent me r vote water matches garbages boots nexts =
    grows_with history sent me r vote water
    (λ m k j h l x y. old_matches me r history matches m j h y) (λ m s w es u x. old_boots me r history boots m s w es x)
    (λ m i g u x. old_matches me r history matches m i g x) (λ m i g u x. old_garbages me r history garbages m i g x)
    (λ m a b u l p x. old_nexts me r history nexts m a u x)
