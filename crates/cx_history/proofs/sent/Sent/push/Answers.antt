use Rattle.cx_base.proofs.Common.{◌≡◌, ◌+◌, ◌∷◌, ◌++◌, ◌∙◌, [], ℕ, List, length, length-append, ap, sym, arith, length-map}
use Rattle.cx_letter.specs.Letter.{Letter}
use Rattle.cx_msg.specs.Spelled.{letter_of}
use Rattle.cx_history.specs.Answers.{is_answer, is_read_answer}
use Rattle.cx_history.specs.Short.{letters_of}
use Rattle.cx_history.proofs.Counting.{filtered_least}
use Rattle.cx_history.proofs.sent.Sent.push.Goals as goal

-- as many datagrams as pieces
count : (pieces : List (List ℕ)) → length (letters_of pieces) ≡ length pieces
count pieces = length-map pieces (λ (p : List ℕ). letter_of p)

one_more : (old new : List (List ℕ)) (d : Letter) → letters_of new ≡ letters_of old ++ d ∷ [] → length new ≡ length (letters_of old) + 1
one_more old new d h = sym (count new) ∙ ap length h ∙ length-append (letters_of old) (d ∷ [])

pub counted-self-inside-requires : goal.counted-self-inside-requires
counted-self-inside-requires c =
    let old = c.self.inside.pieces in
    let least = filtered_least (λ (d : Letter). is_answer d.msg) (letters_of old) in
    let more = one_more old c.put_datagram.new.pieces c.args.datagram.now c.in_ok-put_datagram.ensures.letters in
    omega (arith, c.self.invariant.answers_are, least, more, c.len.ensures, c.len.type_inv)

pub counted-self-inside-requires-2 : goal.counted-self-inside-requires-2
counted-self-inside-requires-2 c =
    let old = c.self.inside.pieces in
    let least = filtered_least (λ (d : Letter). is_read_answer d.msg) (letters_of old) in
    let more = one_more old c.put_datagram.new.pieces c.args.datagram.now c.in_ok-put_datagram.ensures.letters in
    omega (arith, c.self.invariant.reads_are, least, more, c.len.ensures, c.len.type_inv)
