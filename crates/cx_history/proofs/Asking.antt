-- What is noted of the requests that were sent, once one more is noted.
use Rattle.std.proofs.lemmas.List.Folds.{list_any-append}
use Rattle.cx_base.proofs.Common.{◌∙◌, ap, sym, subst, inl, inr, arith, and_parts, cases_Bool, eqb-true, nat_tests, length-append}
use Rattle.cx_model.specs.Prelude.{nat_le, ◌≡◌, ◌==◌, ◌&&◌, ◌||◌, ◌<◌, ◌++◌, ◌∷◌, ◌⊎◌, [], ℕ, zero, suc, Bool, true, false, List, Option}
use Rattle.cx_model.specs.Prelude.{Some, None, length, slice_get, is_some, if◌then◌else◌, not, refl, list_any, bytes_eq, is_done, Event}
use Rattle.cx_model.specs.Prelude.{Happened, Token, floor_in, is_past, is_stale, same_read, same_token}
use Rattle.cx_history.proofs.Among.{floor_alone, other_alone, token_alone}
use Rattle.cx_history.specs.Held.{ArePlaces, RequestsState, IsRequestNoted, IsPiecePlace, NotesRequest, IsRequestsStateOf, asked_with}
use Rattle.cx_history.specs.Held.{asks_other, floor_told, is_stale_by, is_unlike, max_floor}
use Rattle.cx_history.specs.Requests.{asked, asks_another, has_token, sent_token, has_floor_past}
use Rattle.cx_history.specs.declared.requests.Asked.{Asked}
use Rattle.cx_history.specs.declared.requests.Asked.TheVariants.{One, Several}

or_false : (b : Bool) → (b || false) ≡ b
or_false true = refl
or_false false = refl

or_true : (b : Bool) → (b || true) ≡ true
or_true true = refl
or_true false = refl

-- one element more, by what the test says of it
any_more : {A : Type 0} (p : A → Bool) (xs : List A) (x : A) (b : Bool) → p x ≡ b → list_any p (xs ++ x ∷ []) ≡ (list_any p xs || b)
any_more p xs x b is = list_any-append p xs (x ∷ []) ∙ ap (λ y. list_any p xs || y) (or_false (p x) ∙ is)

-- tokens

turned_test : (a b : ℕ) → (a == b) ≡ (b == a)
turned_test a b = grind (arith, nat_tests)

same_read_turned : (t u : Token) → same_read t u ≡ same_read u t
same_read_turned t u =
    ap (λ b. b && (t.seq == u.seq)) (turned_test t.client u.client) ∙ ap (λ b. (u.client == t.client) && b) (turned_test t.seq u.seq)

same_tokens : (t u : Token) → same_read t u ≡ true → t ≡ u
same_tokens t u h =
    let both = and_parts (t.client == u.client) (t.seq == u.seq) h in
    λ j. record { client = eqb-true t.client u.client both.0 j; seq = eqb-true t.seq u.seq both.1 j }

-- pieces of bytes

-- a piece stays where it is
get_front : (pieces more : List (List ℕ)) (n : ℕ) → n < length pieces → slice_get (pieces ++ more) n ≡ slice_get pieces n
get_front [] more n h = absurd (omega (arith, h))
get_front (p ∷ pieces) more zero h = refl
get_front (p ∷ pieces) more (suc n) h = get_front pieces more n (omega (arith, h))

still_asks : (pieces more : List (List ℕ)) (o : Option Asked) (asks : List ℕ) → IsPiecePlace pieces o
    → asks_other (pieces ++ more) o asks ≡ asks_other pieces o asks
still_asks pieces more None asks is = refl
still_asks pieces more (Some (One piece)) asks is = ap (is_unlike asks) (get_front pieces more piece is)
still_asks pieces more (Some Several) asks is = refl

still_place : (pieces more : List (List ℕ)) (o : Option Asked) → IsPiecePlace pieces o → IsPiecePlace (pieces ++ more) o
still_place pieces more None is = tt
still_place pieces more (Some (One piece)) is = omega (arith, is, length-append pieces more)
still_place pieces more (Some Several) is = tt

-- floors

done_raised : (seq floor : ℕ) (o : Option ℕ) → is_done seq (Some (max_floor o floor)) ≡ (is_done seq o || nat_le seq floor)
done_raised seq floor None = refl
done_raised seq floor (Some told) = grind (arith, nat_tests)

-- one event more

-- no request that was sent
module _ (events : List Happened) (h : Happened) (requests : RequestsState) (none : sent_token h ≡ None)
    (tells : IsRequestsStateOf events requests) where
  nothing_more : IsRequestsStateOf (events ++ h ∷ []) requests
  nothing_more = record {
    places = tells.places;
    numbers = λ t. any_more (has_token t) events h false (token_alone t h ∙ ap (same_token t) none)
        ∙ or_false (list_any (has_token t) events) ∙ tells.numbers t;
    others = λ t e. any_more (asks_another t e) events h false
        (other_alone t e h ∙ ap (λ o. same_token t o && not (bytes_eq (asked e) (asked h.event))) none)
        ∙ or_false (list_any (asks_another t e) events) ∙ tells.others t e;
    floors = λ t. any_more (has_floor_past t) events h false (floor_alone t h ∙ ap (λ o. is_past t o (floor_in h.event)) none)
        ∙ or_false (list_any (has_floor_past t) events) ∙ tells.floors t;
  }

module _ (events : List Happened) (h : Happened) (u : Token) (old new : RequestsState) (some : sent_token h ≡ Some u)
    (noted : IsRequestNoted u (floor_in h.event) (asked h.event) old new) (tells : IsRequestsStateOf events old) where
  places_more : ArePlaces new.pieces new.asked
  places_more t =
      subst (λ o. IsPiecePlace new.pieces o) (sym (noted.numbers t))
      (elim (same_read u t) as (λ b. IsPiecePlace new.pieces (if b then Some noted.one else asked_with t old.asked)) [
        | true ↦ noted.place
        | false ↦ subst (λ ps. IsPiecePlace ps (asked_with t old.asked)) (sym noted.pieces)
            (still_place old.pieces noted.more (asked_with t old.asked) (tells.places t))
      ])

  numbers_more : (t : Token) → list_any (has_token t) (events ++ h ∷ []) ≡ is_some (asked_with t new.asked)
  numbers_more t =
      any_more (has_token t) events h (same_read u t) (token_alone t h ∙ ap (same_token t) some ∙ same_read_turned t u)
      ∙ rw (noted.numbers t, tells.numbers t) (elim (same_read u
      t) as (λ b. (is_some (asked_with t old.asked) || b) ≡ is_some (if b then Some noted.one else asked_with t old.asked)) [
        | true ↦ or_true (is_some (asked_with t old.asked))
        | false ↦ or_false (is_some (asked_with t old.asked))
      ])

  others_more : (t : Token) (e : Event)
      → list_any (asks_another t e) (events ++ h ∷ []) ≡ asks_other new.pieces (asked_with t new.asked) (asked e)
  others_more t e =
      any_more (asks_another t e) events h (same_read u t && not (bytes_eq (asked e) (asked h.event)))
      (other_alone t e h ∙ ap (λ o. same_token t o && not (bytes_eq (asked e) (asked h.event))) some
      ∙ ap (λ b. b && not (bytes_eq (asked e) (asked h.event))) (same_read_turned t u))
      ∙ rw (noted.numbers t, tells.others t e) (by_number (cases_Bool (same_read u t)))
    where
      by_number : (same_read u t ≡ true) ⊎ (same_read u t ≡ false)
          → (asks_other old.pieces (asked_with t old.asked) (asked e) || (same_read u t && not (bytes_eq (asked e) (asked h.event))))
          ≡ asks_other new.pieces (if same_read u t then Some noted.one else asked_with t old.asked) (asked e)
      by_number (inl same) =
          rw same (subst (λ x. (asks_other old.pieces (asked_with x old.asked) (asked e) || not (bytes_eq (asked e) (asked h.event)))
          ≡ asks_other new.pieces (Some noted.one) (asked e)) (same_tokens u t same) (sym (noted.others (asked e))))
      by_number (inr other) = rw (other, noted.pieces) (or_false (asks_other old.pieces (asked_with t old.asked) (asked e))
          ∙ sym (still_asks old.pieces noted.more (asked_with t old.asked) (asked e) (tells.places t)))

  floors_more : (t : Token) → list_any (has_floor_past t) (events ++ h ∷ []) ≡ is_done t.seq (floor_told t.client new.floors)
  floors_more t =
      any_more (has_floor_past t) events h (u.client == t.client && nat_le t.seq (floor_in h.event)) (floor_alone t h
      ∙ ap (λ o. is_past t o (floor_in h.event)) some ∙ ap (λ b. b && nat_le t.seq (floor_in h.event)) (turned_test t.client u.client))
      ∙ rw (noted.floors t.client, tells.floors t) (by_client (cases_Bool (u.client == t.client)))
    where
      by_client : ((u.client == t.client) ≡ true) ⊎ ((u.client == t.client) ≡ false)
          → (is_done t.seq (floor_told t.client old.floors) || (u.client == t.client && nat_le t.seq (floor_in h.event)))
          ≡ is_done t.seq (if u.client == t.client then Some (max_floor (floor_told u.client old.floors) (floor_in h.event))
          else floor_told t.client old.floors)
      by_client (inl same) = rw same (subst (λ c. (is_done t.seq (floor_told c old.floors) || nat_le t.seq (floor_in h.event))
          ≡ is_done t.seq (Some (max_floor (floor_told u.client old.floors) (floor_in h.event))))
          (eqb-true u.client t.client same) (sym (done_raised t.seq (floor_in h.event) (floor_told u.client old.floors))))
      by_client (inr other) = rw other (or_false (is_done t.seq (floor_told t.client old.floors)))

  one_more : IsRequestsStateOf (events ++ h ∷ []) new
  one_more = record { places = places_more; numbers = numbers_more; others = others_more; floors = floors_more }

pub tells_more : (events : List Happened) (h : Happened) (old new : RequestsState) → NotesRequest (sent_token h) h.event old new
    → IsRequestsStateOf events old → IsRequestsStateOf (events ++ h ∷ []) new
tells_more events h old new notes tells = by_token (sent_token h) refl notes
  where
    by_token : (o : Option Token) → sent_token h ≡ o → NotesRequest o h.event old new → IsRequestsStateOf (events ++ h ∷ []) new
    by_token None none same = subst (IsRequestsStateOf (events ++ h ∷ [])) (sym same) (nothing_more events h old none tells)
    by_token (Some u) some noted = one_more events h u old new some noted tells

-- nothing is noted of no events
pub tells_none : IsRequestsStateOf [] (record { asked = []; pieces = []; floors = [] })
tells_none = record { places = λ t. tt; numbers = λ t. refl; others = λ t e. refl; floors = λ t. refl }

-- so what is noted tells whether a request is stale
pub told_stale : (events : List Happened) (requests : RequestsState) (t : Token) (e : Event) → IsRequestsStateOf events requests
    → is_stale t e events ≡ is_stale_by t (asked e) requests
told_stale events requests t e tells =
    let stale : Bool → Bool → Bool → Bool = λ x y z. x || (not y && z) in
    ap (λ x. stale x (list_any (has_token t) events) (list_any (has_floor_past t) events)) (tells.others t e)
    ∙ ap (λ y. stale (asks_other requests.pieces (asked_with t requests.asked) (asked e)) y (list_any (has_floor_past t) events))
    (tells.numbers t)
    ∙ ap (λ z. stale (asks_other requests.pieces (asked_with t requests.asked) (asked e)) (is_some (asked_with t requests.asked)) z)
    (tells.floors t)
