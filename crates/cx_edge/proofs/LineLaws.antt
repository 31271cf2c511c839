-- Lines in bytes, and bytes that are read and buffered.
use Rattle.std.proofs.Common.{take-take}
use Rattle.std.specs.Io.KnownBytes.{Keeps}
use Rattle.std.proofs.KnownBytes.{Consumes-nil, Consumes-kept}
use Rattle.std.proofs.lemmas.List.{drop-take}
use Rattle.std.proofs.lemmas.List.Elements.{All-from_get_or}
use Rattle.std.proofs.lemmas.List.Folds.{list_any_none}
use Rattle.std.proofs.lemmas.Slice.{take-put_mid_below}
use borrow.Rule.Slice.PartMut.{put_mid}
use Rattle.cx_base.proofs.Common.{◌≡◌, ◌≤◌, ◌<◌, ◌+◌, ◌-◌, ◌==◌, ◌++◌, ℕ, false, List, [], ◌∷◌, Option, None, Some, unwrap_or, length, take}
use Rattle.cx_base.proofs.Common.{drop, get_or, sym, ap, ◌∙◌, subst, append_assoc, append-nil, arith, take-append-drop, take_all}
use Rattle.cx_base.proofs.Common.{length-append, length-take, drop-drop, get_or-take, eqb-true, nat_lt, Consumes, Consumes-trans, position}
use Rattle.cx_base.proofs.Common.{position_or_len, slice_index, strip_carriage_return, cond_both, nat_tests, common_steps, take_more}
use Rattle.cx_base.proofs.Common.{position-Some, fails_before_first, take-append-add, take-append-le}
use Rattle.cx_edge.specs.Source.{ReadsBytes}
use Rattle.cx_edge.specs.declared.source.ReadEnd.{ReadEnd}
use Rattle.cx_edge.specs.declared.source.ReadEnd.TheVariants as end
use Rattle.cx_edge.specs.Lines.{ReadsBehind, IsFree, IsOpenLine, Hands, BeginsLong, IsFirstLine}

-- the place of the first line feed
abbrev pub feed_at : List ℕ → Option ℕ
feed_at bytes = position (λ b. b == 10) bytes

free_up_to : (bytes : List ℕ) (n : ℕ) → ((k : ℕ) → k < n → (get_or bytes k 0 == 10) ≡ false) → IsFree (take n bytes)
free_up_to bytes n none =
    list_any_none (λ b. b == 10) (take n bytes) (All-from_get_or (λ b. (b == 10) ≡ false) (take n bytes) 0 (λ k l.
    let within : k < n = omega (arith, length-take n bytes) in
    rw (get_or-take n bytes k 0 within) (none k within)))

no_feed : (bytes : List ℕ) → feed_at bytes ≡ None → (k : ℕ) → k < length bytes → (get_or bytes k 0 == 10) ≡ false
no_feed bytes none k l = cond_both (nat_lt (position_or_len (λ b. b == 10) bytes) (length bytes))
    (Some (position_or_len (λ b. b == 10) bytes)) None (λ o. o ≡ None → (get_or bytes k 0 == 10) ≡ false) (λ e h. cc)
    (λ e h. fails_before_first (λ b. b == 10) bytes k 0 (grind (arith, nat_tests)))
    none

is_free : (bytes : List ℕ) → feed_at bytes ≡ None → IsFree bytes
is_free bytes none = subst IsFree (take_all (length bytes) bytes (omega arith)) (free_up_to bytes (length bytes) (no_feed bytes none))

-- a part without a carriage return is a prefix of it
pub strip_short : (part : List ℕ) → length (strip_carriage_return part) ≤ length part
strip_short part =
    cond_both (slice_index part (length part - 1) == 13) (take (length part - 1) part) part (λ s. length s ≤ length part)
    (λ e. omega (arith, length-take (length part - 1) part)) (λ e. omega arith)

pub strip_long : (part : List ℕ) → length part ≤ length (strip_carriage_return part) + 1
strip_long part =
    cond_both (slice_index part (length part - 1) == 13) (take (length part - 1) part) part (λ s. length part ≤ length s + 1)
    (λ e. grind (arith, common_steps)) (λ e. omega arith)

strip_front : (part : List ℕ) → take (length (strip_carriage_return part)) part ≡ strip_carriage_return part
strip_front part =
    cond_both (slice_index part (length part - 1) == 13) (take (length part - 1) part) part (λ s. take (length s) part ≡ s)
    (λ e. grind (arith, common_steps)) (λ e. take_all (length part) part (omega arith))

-- the first line, ended or not, is too long
pub begins_long : (max : ℕ) (bytes : List ℕ) (place : Option ℕ) (n len : ℕ) → feed_at bytes ≡ place → n ≡ unwrap_or place (length bytes)
    → len ≡ length (strip_carriage_return (take n bytes)) → max < len → BeginsLong max bytes
begins_long max bytes None n len found is size long =
    record {
      part = take n bytes;
      behind = drop n bytes;
      is = sym (take-append-drop n bytes);
      free = free_up_to bytes n (λ k l. no_feed bytes found k (omega (arith, l, is)));
      long = omega (arith, size, long);
    }
begins_long max bytes (Some place) n len found is size long =
    let at = position-Some (λ b. b == 10) bytes place 0 found in
    record {
      part = take n bytes;
      behind = drop n bytes;
      is = sym (take-append-drop n bytes);
      free = free_up_to bytes n (λ k l. at.2 k (omega (arith, l, is)));
      long = omega (arith, size, long);
    }

-- the first line has its line feed
pub first_line : (max : ℕ) (bytes : List ℕ) (place n len : ℕ) → feed_at bytes ≡ Some place → n ≡ place
    → len ≡ length (strip_carriage_return (take n bytes)) → len ≤ max → IsFirstLine max bytes len (place + 1)
first_line max bytes place n len found is size fits =
    let at = position-Some (λ b. b == 10) bytes place 0 found in
    let feed : get_or bytes place 0 ≡ 10 = eqb-true (get_or bytes place 0) 10 at.1 in
    let part = take place bytes in
    let long : len ≡ length (strip_carriage_return part) = rw is at size in
    let shorter : len ≤ place = omega (arith, long, strip_short part, length-take place bytes) in
    record {
      part = part;
      free = free_up_to bytes place at.2;
      fits = omega (arith, long, fits);
      text = sym (take-take len place bytes shorter) ∙ ap (λ k. take k part) long ∙ strip_front part;
      whole = sym (take-append-drop (place + 1) bytes)
          ∙ ap (λ l. l ++ drop (place + 1) bytes) (take_more bytes place 0 at.0 ∙ ap (λ b. part ++ b ∷ []) feed);
      shorter = omega (arith, shorter);
      inside = omega (arith, at.0);
    }

-- and there is no line feed yet
pub is_open : (max : ℕ) (bytes : List ℕ) (n len : ℕ) → feed_at bytes ≡ None → n ≡ length bytes
    → len ≡ length (strip_carriage_return (take n bytes)) → len ≤ max → IsOpenLine max bytes
is_open max bytes n len none is size fits =
    let all : take n bytes ≡ bytes = take_all n bytes (omega (arith, is)) in
    (is_free bytes none, omega (arith, rw all at size, fits))

-- a part of a list, of its middle
pub drop_between : {X : Type 0} (xs : List X) (start end size : ℕ) → start + size ≤ end
    → drop size (take (end - start) (drop start xs)) ≡ take (end - (start + size)) (drop (start + size) xs)
drop_between xs start end size inside =
    let count : end - start ≡ size + (end - (start + size)) = omega arith in
    ap (λ n. drop size (take n (drop start xs))) count ∙ drop-take size (end - (start + size)) (drop start xs)
    ∙ ap (take (end - (start + size))) (drop-drop size start xs)

pub take_between : {X : Type 0} (xs : List X) (start end len : ℕ) → start + len ≤ end
    → take len (take (end - start) (drop start xs)) ≡ take (start + len - start) (drop start xs)
take_between xs start end len inside =
    let count : start + len - start ≡ len = omega arith in
    take-take len (end - start) (drop start xs) (omega arith) ∙ ap (λ n. take n (drop start xs)) (sym count)

-- what a read into the rest of a buffer leaves
pub reads_behind : (left left_after : Option (List ℕ)) (buffered : ℕ) (old part : List ℕ) (end : ReadEnd) → buffered < length old
    → length part ≡ length old - buffered
    → ReadsBytes left left_after end part → ReadsBehind left left_after buffered old (put_mid buffered (length old - buffered) old part) end
reads_behind left left_after buffered old part (end.Got count) room same reads =
    let rest = part ++ drop (length old - buffered) (drop buffered old) in
    let front : length (take buffered old) ≡ buffered = omega (arith, room, length-take buffered old) in
    record {
      read = take count part;
      size = omega (arith, reads.fits, length-take count part);
      inside = omega (
        arith,
        front,
        reads.fits,
        same,
        room,
        length-append (take buffered old) rest,
        length-append part (drop (length old - buffered) (drop buffered old)),
      );
      consumed = reads.bytes;
      whole = ap (λ n. take (n + count) (take buffered old ++ rest)) (sym front) ∙ take-append-add (take buffered old) rest count
          ∙ ap (λ l. take buffered old ++ l) (take-append-le count part (drop (length old - buffered) (drop buffered old)) reads.fits);
      at_end = λ none. reads.at_end none (omega (arith, same, room));
    }
reads_behind left left_after buffered old part end.Failed room same reads =
    (reads, take-put_mid_below buffered (length old - buffered) old part buffered (omega arith) (omega (arith, room)))

-- what is buffered grows by what is read
pub hands_none : (left : Option (List ℕ)) (buffered : List ℕ) → Hands left left buffered buffered []
hands_none left buffered = record { read = []; consumed = Consumes-nil left; whole = append-nil buffered }

pub hands_more : (left now next : Option (List ℕ)) (buffered held_now buffered_next read : List ℕ) → Hands left now buffered held_now []
    → Consumes now next read → buffered_next ≡ held_now ++ read → Hands left next buffered buffered_next []
hands_more left now next buffered held_now buffered_next read h consumed grown =
    record {
      read = h.read ++ read;
      consumed = Consumes-trans left now next h.read read h.consumed consumed;
      whole = sym (append_assoc buffered h.read read) ∙ ap (λ l. l ++ read) h.whole ∙ sym grown;
    }

pub hands_kept : (left now next : Option (List ℕ)) (buffered held_now buffered_next : List ℕ) → Hands left now buffered held_now []
    → Keeps now next → buffered_next ≡ held_now → Hands left next buffered buffered_next []
hands_kept left now next buffered held_now buffered_next h unchanged same =
    record { read = h.read; consumed = Consumes-kept left now next h.read h.consumed unchanged; whole = h.whole ∙ sym same }

-- and is given from the start
pub hands_out : (left now : Option (List ℕ)) (buffered held_now buffered_next out : List ℕ) → Hands left now buffered held_now []
    → held_now ≡ out ++ buffered_next → Hands left now buffered buffered_next out
hands_out left now buffered held_now buffered_next out h cut = record { read = h.read; consumed = h.consumed; whole = h.whole ∙ cut }
