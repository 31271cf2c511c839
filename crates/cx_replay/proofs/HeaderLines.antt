-- The lines of a header, one by one.
use Rattle.std.specs.Io.KnownBytes.{IsAtEnd}
use Rattle.std.proofs.KnownBytes.{Consumes-whole}
use Rattle.cx_base.proofs.Common.{◌==◌, ◌≡◌, ◌≤◌, ◌<◌, ◌+◌, ◌++◌, ℕ, Bool, true, false, List, [], ◌∷◌, length, map, refl, sym, ap, ◌∙◌}
use Rattle.cx_base.proofs.Common.{subst, append_assoc, append-nil, arith, nat_lt, nat_le, if◌then◌else◌, Option, None, Some, option_map}
use Rattle.cx_base.proofs.Common.{option_and_then, length-append, IfSome, Consumes, strip_carriage_return, cond_both, nat_tests}
use Rattle.cx_edge.specs.Lines.{Hands, BeginsLong, IsOpenLine}
use Rattle.cx_replay.specs.ReplayInput.{Nothing, BadHeader}
use Rattle.cx_replay.specs.Input.{header_says, lines}
use Rattle.cx_replay.specs.Streamed.{HasHeader, IsHeader}
use Rattle.cx_replay.proofs.WholeText.{whole_text, counted_text, counted_open, text_push, free_push, hands_on, hands_held, of_all}
use Rattle.cx_script.specs.Header.{is_rule, header_in, header_and_rest, of_length}
use Rattle.cx_script.specs.Input.{begun_input, of_header}
use Rattle.cx_script.specs.Lines.{lines_of}
use Rattle.cx_script.specs.Unended.{lines_text, settled_text, is_long_header}
use Rattle.cx_script.proofs.Cuts.{split_free}
use Rattle.cx_script.proofs.Feeds.{IsFree, AreFree, split_feed, split_more, strip_more, long_no_rule, lines_of_text}
use Rattle.cx_script.proofs.GoesOn.{in_front, overlong}
use Rattle.cx_script.proofs.Schedules.{rule_found}
use Rattle.cx_script.proofs.WholeLines.{parts}

-- a header with a text before it
abbrev Found : Type 0
Found = Option (List ℕ × List (List ℕ))

abbrev pub behind_text : List ℕ → Found → Found
behind_text text found = option_map (λ (front, rest). (text ++ front, rest)) found

-- the lines of a header that hasn't ended were handed out, and this is their text
pub record InHeader (left now : Option (List ℕ)) (buffered text : List ℕ) : Type 0 where
  pub ls : List (List ℕ)
  pub free : AreFree ls
  pub consumed : Consumes left now (lines_text ls ++ buffered)
  pub header : (more : List ℕ) → header_in (parts (lines_text ls ++ more)) ≡ behind_text text (header_in (parts more))
  pub text_is : text ≡ lines_text (map strip_carriage_return ls)
  pub room : length text ≤ 16384

no_text : (found : Found) → found ≡ behind_text [] found
no_text None = refl
no_text (Some (front, rest)) = refl

pub begins_header : (left : Option (List ℕ)) (buffered text : List ℕ) → Consumes left left buffered → text ≡ []
    → InHeader left left buffered text
begins_header left buffered text consumed none =
    record {
      ls = [];
      free = tt;
      consumed = consumed;
      header = λ more. no_text (header_in (parts more)) ∙ ap (λ t. behind_text t (header_in (parts more))) (sym none);
      text_is = none;
      room = rw none (omega arith);
    }

-- another line goes before
text_front : (text line : List ℕ) (found : Found)
    → behind_text text (option_map (in_front line) found) ≡ behind_text (text ++ (line ++ 10 ∷ [])) found
text_front text line None = refl
text_front text line (Some (front, rest)) = ap (λ (t : List ℕ). Some (t, rest)) (sym (append_assoc text (line ++ 10 ∷ []) front))

not_rule : (part : List ℕ) (ps : List (List ℕ)) → is_rule (strip_carriage_return part) ≡ false
    → header_in (part ∷ ps) ≡ option_map (in_front (strip_carriage_return part)) (header_in ps)
not_rule part ps other =
    ap (λ (b : Bool). if b then Some ([], ps) else option_map (in_front (strip_carriage_return part)) (header_in ps)) other

parts_line : (part more : List ℕ) → IsFree part → parts ((part ++ 10 ∷ []) ++ more) ≡ part ∷ parts more
parts_line part more free = ap parts (append_assoc part (10 ∷ []) more) ∙ split_feed part more free

text_of_push : (ls : List (List ℕ)) (part : List ℕ) → lines_text (map strip_carriage_return (ls ++ part ∷ []))
    ≡ lines_text (map strip_carriage_return ls) ++ (strip_carriage_return part ++ 10 ∷ [])
text_of_push [] part = refl
text_of_push (l ∷ ls) part =
    ap (λ rest. strip_carriage_return l ++ 10 ∷ rest) (text_of_push ls part)
    ∙ sym (append_assoc (strip_carriage_return l) (10 ∷ lines_text (map strip_carriage_return ls)) (strip_carriage_return part ++ 10 ∷ []))

module _ (left now : Option (List ℕ)) (buffered text : List ℕ) (h : InHeader left now buffered text) (next : Option (List ℕ)) where
  header_is : (more : List ℕ)
      → header_and_rest (lines_text h.ls ++ more) ≡ option_and_then of_length (behind_text text (header_in (parts more)))
  unfolding header_and_rest
  header_is more = ap (option_and_then of_length) (h.header more)

  -- a line of the header
  pub goes_header : (buffered_next part text_next : List ℕ) → IsFree part → Hands now next buffered buffered_next (part ++ 10 ∷ [])
      → is_rule (strip_carriage_return part) ≡ false
      → text_next ≡ text ++ (strip_carriage_return part ++ 10 ∷ []) → length text_next ≤ 16384 → InHeader left next buffered_next text_next
  goes_header buffered_next part text_next free hands other is room =
      let line = part ++ 10 ∷ [] in
      record {
        ls = h.ls ++ part ∷ [];
        free = free_push h.ls part h.free free;
        consumed = subst (λ l. Consumes left next (l ++ buffered_next)) (sym (text_push h.ls part))
            (hands_on left now next (lines_text h.ls) buffered buffered_next line h.consumed hands);
        header = λ more. ap (λ l. header_in (parts (l ++ more))) (text_push h.ls part)
            ∙ ap (λ l. header_in (parts l)) (append_assoc (lines_text h.ls) line more) ∙ h.header (line ++ more)
            ∙ ap (λ ps. behind_text text (header_in ps)) (parts_line part more free)
            ∙ ap (behind_text text) (not_rule part (parts more) other)
            ∙ text_front text (strip_carriage_return part) (header_in (parts more))
            ∙ ap (λ t. behind_text t (header_in (parts more))) (sym is);
        text_is = is ∙ ap (λ t. t ++ (strip_carriage_return part ++ 10 ∷ [])) h.text_is ∙ sym (text_of_push h.ls part);
        room = room;
      }

  -- the line that ends it
  pub rule_header : (buffered_next part : List ℕ) → IsFree part → Hands now next buffered buffered_next (part ++ 10 ∷ [])
      → is_rule (strip_carriage_return part) ≡ true → HasHeader left next buffered_next text
  rule_header buffered_next part free hands rule =
      let line = part ++ 10 ∷ [] in
      record {
        bytes = lines_text (h.ls ++ part ∷ []);
        whole = whole_text (h.ls ++ part ∷ []) (free_push h.ls part h.free free);
        consumed = subst (λ l. Consumes left next (l ++ buffered_next)) (sym (text_push h.ls part))
            (hands_on left now next (lines_text h.ls) buffered buffered_next line h.consumed hands);
        header = λ more. ap (λ l. header_and_rest (l ++ more)) (text_push h.ls part)
            ∙ ap header_and_rest (append_assoc (lines_text h.ls) line more) ∙ header_is (line ++ more)
            ∙ ap (λ ps. option_and_then of_length (behind_text text (header_in ps))) (parts_line part more free)
            ∙ rule_found text part (Some more) rule h.room;
      }

  pub rule_alone : (part : List ℕ) → IsFree part → Hands now next buffered [] part → IsAtEnd next
      → is_rule (strip_carriage_return part) ≡ true → IsHeader left next text
  rule_alone part free hands at_end rule =
      record {
        bytes = lines_text h.ls ++ part;
        consumed = subst (Consumes left next) (append-nil (lines_text h.ls ++ part))
            (hands_on left now next (lines_text h.ls) buffered [] part h.consumed hands);
        at_end = at_end;
        header = header_is part ∙ ap (λ ps. option_and_then of_length (behind_text text (header_in ps)))
            (split_free (λ b. b == 10) part free) ∙ rule_found text part None rule h.room;
      }

  -- a header that is too long has no end
  too_long : (found : Found) → IfSome found (λ p. 16384 < length text + length p.0)
      → option_and_then of_length (behind_text text found) ≡ None
  too_long None long = refl
  too_long (Some (front, rest)) long =
      let test : nat_le (length (text ++ front)) 16384 ≡ false = grind (arith, nat_tests, length-append text front) in
      rw test refl

  pub long_header : (buffered_next part : List ℕ) → IsFree part → Hands now next buffered buffered_next (part ++ 10 ∷ [])
      → is_rule (strip_carriage_return part) ≡ false
      → 16384 < length (text ++ (strip_carriage_return part ++ 10 ∷ [])) → IfSome left (λ all. header_and_rest all ≡ None)
  long_header buffered_next part free hands other long =
      let line = part ++ 10 ∷ [] in
      of_all left next ((lines_text h.ls ++ line) ++ buffered_next) (λ all. header_and_rest all ≡ None)
      (hands_on left now next (lines_text h.ls) buffered buffered_next line h.consumed hands) (λ more.
      let rest = buffered_next ++ more in
      ap header_and_rest (append_assoc (lines_text h.ls ++ line) buffered_next more ∙ append_assoc (lines_text h.ls) line rest)
      ∙ header_is (line ++ rest) ∙ ap (λ ps. option_and_then of_length (behind_text text (header_in ps))) (parts_line part rest free)
      ∙ ap (λ found. option_and_then of_length (behind_text text found)) (not_rule part (parts rest) other)
      ∙ too_long (option_map (in_front (strip_carriage_return part)) (header_in (parts rest))) (in_front_long (header_in (parts rest))))
    where
      in_front_long : (found : Found)
          → IfSome (option_map (in_front (strip_carriage_return part)) found) (λ p. 16384 < length text + length p.0)
      in_front_long None = tt
      in_front_long (Some (front, rest)) = omega (
        arith,
        long,
        length-append text (strip_carriage_return part ++ 10 ∷ []),
        length-append (strip_carriage_return part ++ 10 ∷ []) front,
      )

  -- a line is too long for it
  pub long_line : (buffered_next : List ℕ) → Hands now next buffered buffered_next [] → BeginsLong 16384 buffered_next
      → IfSome left (λ all. header_and_rest all ≡ None)
  long_line buffered_next hands long = of_all left next (lines_text h.ls ++ buffered_next) (λ all. header_and_rest all ≡ None)
      (hands_held left now next (lines_text h.ls) buffered buffered_next h.consumed hands) (λ more.
      let begins = split_more long.part (long.behind ++ more) long.free in
      let line = strip_carriage_return (long.part ++ begins.first) in
      let longer : 16384 < length line = omega (arith, long.long, strip_more long.part begins.first) in
      let whole : buffered_next ++ more ≡ long.part ++ (long.behind ++ more) =
      ap (λ l. l ++ more) long.is ∙ append_assoc long.part long.behind more in
      ap header_and_rest (append_assoc (lines_text h.ls) buffered_next more) ∙ header_is (buffered_next ++ more)
      ∙ ap (λ ps. option_and_then of_length (behind_text text (header_in ps))) (ap parts whole ∙ begins.is)
      ∙ ap (λ found. option_and_then of_length (behind_text text found))
      (not_rule (long.part ++ begins.first) begins.rest (long_no_rule line (omega (arith, longer))))
      ∙ too_long (option_map (in_front line) (header_in begins.rest)) (in_front_long line longer (header_in begins.rest)))
    where
      in_front_long : (line : List ℕ) → 16384 < length line → (found : Found)
          → IfSome (option_map (in_front line) found) (λ p. 16384 < length text + length p.0)
      in_front_long line longer None = tt
      in_front_long line longer (Some (front, rest)) =
          omega (arith, longer, length-append (line ++ 10 ∷ []) front, length-append line (10 ∷ []))

  none_open : (most : ℕ) (last : List ℕ) → 3 ≤ most → IsFree last → header_in (parts (overlong most last)) ≡ None
  none_open most last least free =
      cond_both (nat_lt most (length (strip_carriage_return last))) last [] (λ l. header_in (parts l) ≡ None)
      (λ e.
      let long : most < length (strip_carriage_return last) = grind (arith, nat_tests) in
      ap header_in (split_free (λ b. b == 10) last free)
      ∙ not_rule last [] (long_no_rule (strip_carriage_return last) (omega (arith, long)))) (λ e. refl)

  -- it hasn't ended where the input has
  pub ended_header : Hands now next buffered [] [] → IsAtEnd next → IfSome left (λ all. header_and_rest all ≡ None)
  ended_header hands at_end = Consumes-whole left next (lines_text h.ls ++ []) (λ all. header_and_rest all ≡ None)
      (hands_held left now next (lines_text h.ls) buffered [] h.consumed hands) at_end (header_is [])

  pub ended_last : (part : List ℕ) → IsFree part → Hands now next buffered [] part → IsAtEnd next
      → is_rule (strip_carriage_return part) ≡ false → IfSome left (λ all. header_and_rest all ≡ None)
  ended_last part free hands at_end other = Consumes-whole left next ((lines_text h.ls ++ part) ++ []) (λ all. header_and_rest all ≡ None)
      (hands_on left now next (lines_text h.ls) buffered [] part h.consumed hands) at_end
      (ap header_and_rest (append-nil (lines_text h.ls ++ part)) ∙ header_is part ∙ ap (λ found.
      option_and_then of_length (behind_text text found)) (ap header_in (split_free (λ b. b == 10) part free) ∙ not_rule part [] other))

  -- nor where a read fails
  pub fails_header : (buffered_next : List ℕ) → Hands now next buffered buffered_next [] → IsOpenLine 16384 buffered_next
      → (bytes : List ℕ) × Consumes left next bytes × (lines bytes ≡ Nothing)
  unfolding begun_input is_long_header
  fails_header buffered_next hands open_yet =
      let bytes = lines_text h.ls ++ buffered_next in
      let short : is_long_header (settled_text 16384 bytes) ≡ false =
      ap is_long_header (counted_open 16384 h.ls buffered_next h.free open_yet.0 open_yet.1) ∙ not_long in
      let none : header_and_rest (settled_text 1024 bytes) ≡ None =
      ap header_and_rest (counted_text 1024 h.ls buffered_next h.free open_yet.0) ∙ header_is (overlong 1024 buffered_next)
      ∙ ap (λ found. option_and_then of_length (behind_text text found)) (none_open 1024 buffered_next (omega arith) open_yet.0) in (
        bytes,
        hands_held left now next (lines_text h.ls) buffered buffered_next h.consumed hands,
        ap (λ found. of_header header_says found (if is_long_header (settled_text 16384 bytes) then BadHeader else Nothing)) none
            ∙ ap (λ (b : Bool). if b then BadHeader else Nothing) short,
      )
    where
      not_long : is_long_header (lines_text h.ls) ≡ false
      not_long =
          let lines_are : lines_of (lines_text h.ls) ≡ map strip_carriage_return h.ls =
          ap lines_of (sym (append-nil (lines_text h.ls))) ∙ lines_of_text h.ls [] h.free ∙ append-nil (map strip_carriage_return h.ls) in
          let length_is : length (lines_text (lines_of (lines_text h.ls))) ≡ length text =
          ap (λ ls. length (lines_text ls)) lines_are ∙ ap length (sym h.text_is) in
          let most : length (lines_text (lines_of (lines_text h.ls))) ≤ 16384 = omega (arith, length_is, h.room) in
          grind (arith, nat_tests)
