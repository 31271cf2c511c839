-- What a matchmaker sends to a leader whose round it has recorded.
use Rattle.std.proofs.Common.{ap, sym, ◌∙◌}
use Rattle.cx_role.specs.Prelude.{◌≡◌, List, [], ◌∷◌, ◌++◌, role, Entry, Leader, Letter, Matchmaker, RoleId, Round, letter}
use Rattle.cx_role.proofs.Common.msg

-- its answer alone, with what it tells of its entries
pub one_told : (says : List Entry → List Entry) (me from : RoleId) (round w : Round) (es seen told : List Entry)
    (begun before after : List Letter) (d : Letter)
    → me ≡ role Matchmaker me.index → from ≡ role Leader from.index → told ≡ says seen → seen ≡ es
    → begun ≡ [] → before ≡ begun → after ≡ before ++ d ∷ []
    → d ≡ letter (role Matchmaker me.index) (role Leader from.index) (msg.MatchB round w told)
    → after ≡ letter me from (msg.MatchB round w (says es)) ∷ []
one_told says me from round w es seen told begun before after d who sender earlier same none room push is =
    let mine : letter (role Matchmaker me.index) (role Leader from.index) (msg.MatchB round w told) ≡ letter me (role Leader from.index)
    (msg.MatchB round w told) = ap (λ (x : RoleId). letter x (role Leader from.index) (msg.MatchB round w told)) (sym who) in
    let theirs : letter me (role Leader from.index) (msg.MatchB round w told) ≡ letter me from (msg.MatchB round w told)
    = ap (λ (x : RoleId). letter me x (msg.MatchB round w told)) (sym sender) in
    let entries : letter me from (msg.MatchB round w told) ≡ letter me from (msg.MatchB round w (says es))
    = ap (λ (xs : List Entry). letter me from (msg.MatchB round w xs)) (earlier ∙ ap says same) in
    push ∙ ap (λ (ls : List Letter). ls ++ d ∷ []) (room ∙ none) ∙ ap (λ (l : Letter). l ∷ []) (is ∙ mine ∙ theirs ∙ entries)
