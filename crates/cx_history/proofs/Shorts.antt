-- One more datagram among the pieces that hold those that were sent.
use Rattle.cx_base.proofs.Common.{◌≡◌, ◌∙◌, ℕ, true, List, [], ◌∷◌, ◌++◌, All, ap, map-append}
use Rattle.cx_letter.specs.Letter.{Letter, fits}
use Rattle.cx_msg.specs.Spelled.{IsShort, letter_of, short}
use Rattle.cx_msg.proofs.SpelledLaws.{letter_again, short_again}
use Rattle.cx_history.specs.Short.{letters_of}
use Rattle.cx_history.proofs.Steps.{All-push}

pub letters_more : (d : Letter) (pieces : List (List ℕ)) → fits d ≡ true → letters_of (pieces ++ short d ∷ []) ≡ letters_of pieces ++ d ∷ []
letters_more d pieces fit =
    map-append (λ (p : List ℕ). letter_of p) pieces (short d ∷ []) ∙ ap (λ x. letters_of pieces ++ x ∷ []) (letter_again d fit)

pub shorts_more : (d : Letter) (pieces : List (List ℕ)) → fits d ≡ true → All IsShort pieces → All IsShort (pieces ++ short d ∷ [])
shorts_more d pieces fit all = All-push IsShort pieces (short d) all (short_again d fit)
