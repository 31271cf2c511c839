-- What a seat's role did is what the seat shows.
use Rattle.cx_inv_run.proofs.Common.{◌≡◌, ℕ, List, ap, sym, ◌∙◌, Letter, Input}
use Rattle.cx_seat.specs.Prelude.{Doing, Give, hosted_of, Step}
use Rattle.cx_seat.specs.declared.guest.Guest.{Guest}
use Rattle.cx_course.specs.Hosted.{does, given}

-- what a role that the seat shows was given is what was to be done
pub given_is : {K : Type 0} (h self : Guest K) (what : Doing) (n : ℕ) (i : Input) → h ≡ self → what ≡ Give n i
    → given (hosted_of h) i ≡ does (hosted_of self) what
unfolding does
given_is h self what n i same is =
    ap (λ (s : Guest _). given (hosted_of s) i) same ∙ ap (λ (w : Doing). does (hosted_of self) w) (sym is)

pub sends_are : (old : Step) (new : Step) (sent : List Letter) → old ≡ new → sent ≡ old.sends → sent ≡ new.sends
sends_are old new sent same is = is ∙ ap (λ (m : Step). m.sends) same

pub text_is : (old : Step) (new : Step) (text : List ℕ) → old ≡ new → text ≡ old.text → text ≡ new.text
text_is old new text same is = is ∙ ap (λ (m : Step). m.text) same
