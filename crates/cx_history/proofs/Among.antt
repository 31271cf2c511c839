-- What an event tells of a request is what its bytes and its floor tell.
use Rattle.std.proofs.Common.{ap, sym}
use Rattle.std.proofs.Math.Dec.{eqb-zero-suc, eqb-suc-zero, eqb-suc-suc}
use Rattle.cx_model.specs.Prelude.{◌≡◌, ◌==◌, ◌&&◌, ◌++◌, ◌∷◌, [], ℕ, true, false, List, None, length, if◌then◌else◌, not, refl, bytes_eq}
use Rattle.cx_model.specs.Prelude.{Command, Op, Put, Del, App, Event, Happened, same_op, Token, floor_in, is_past, same_request, same_token}
use Rattle.cx_model.specs.Prelude.{token_of, was_sent}
use Rattle.cx_base.specs.declared.event.Event.TheVariants as event
use Rattle.cx_history.specs.Requests.{asked, asked_op, asks_another, has_token, sent_token, has_floor_past}

-- two lists, one after the other, and the length of the first
both_eq : (k l t u : List ℕ) → ((length k == length l) && bytes_eq (k ++ t) (l ++ u)) ≡ (bytes_eq k l && bytes_eq t u)
both_eq [] [] t u = refl
both_eq [] (y ∷ l) t u = rw (eqb-zero-suc (length l)) refl
both_eq (x ∷ k) [] t u = rw (eqb-suc-zero (length k)) refl
both_eq (x ∷ k) (y ∷ l) t u = rw (eqb-suc-suc (length k) (length l))
    (elim (x == y) as (λ b. ((length k == length l) && (b && bytes_eq (k ++ t) (l ++ u))) ≡ ((b && bytes_eq k l) && bytes_eq t u)) [
      | true ↦ both_eq k l t u
      | false ↦ elim (length k == length l) as (λ b. (b && false) ≡ false) [ true ↦ refl | false ↦ refl ]
    ])

same_asked_op : (o p : Op) → same_op o p ≡ bytes_eq (asked_op o) (asked_op p)
same_asked_op (Put k t) (Put l u) = sym (both_eq k l t u)
same_asked_op (Put k t) (Del l) = refl
same_asked_op (Put k t) (App l u) = refl
same_asked_op (Del k) (Put l u) = refl
same_asked_op (Del k) (Del l) = refl
same_asked_op (Del k) (App l u) = refl
same_asked_op (App k t) (Put l u) = refl
same_asked_op (App k t) (Del l) = refl
same_asked_op (App k t) (App l u) = sym (both_eq k l t u)

none_asks : (p : Op) → false ≡ bytes_eq [] (asked_op p)
none_asks (Put l u) = refl
none_asks (Del l) = refl
none_asks (App l u) = refl

read_asks : (key : List ℕ) (p : Op) → false ≡ bytes_eq (0 ∷ key) (asked_op p)
read_asks key (Put l u) = refl
read_asks key (Del l) = refl
read_asks key (App l u) = refl

write_asks : (o : Op) (key : List ℕ) → false ≡ bytes_eq (asked_op o) (0 ∷ key)
write_asks (Put l u) key = refl
write_asks (Del l) key = refl
write_asks (App l u) key = refl

session_asks : (key : List ℕ) (p : Op) → false ≡ bytes_eq (4 ∷ key) (asked_op p)
session_asks key (Put l u) = refl
session_asks key (Del l) = refl
session_asks key (App l u) = refl

write_asks_no_session : (o : Op) (key : List ℕ) → false ≡ bytes_eq (asked_op o) (4 ∷ key)
write_asks_no_session (Put l u) key = refl
write_asks_no_session (Del l) key = refl
write_asks_no_session (App l u) key = refl

-- two requests ask the same where the same bytes spell what they ask
same_write : (e : Event) (command : Command) (batcher : ℕ)
    → same_request e (event.Write command batcher) ≡ bytes_eq (asked e) (asked_op command.op)
same_write (event.Write other another) command batcher = same_asked_op other.op command.op
same_write (event.Read client seq floor reader replica key) command batcher = read_asks key command.op
same_write (event.Session client seq floor replica key) command batcher = session_asks key command.op
same_write other command batcher = none_asks command.op

same_key : (e : Event) (client seq floor reader replica : ℕ) (key : List ℕ)
    → same_request e (event.Read client seq floor reader replica key) ≡ bytes_eq (asked e) (0 ∷ key)
same_key (event.Write command batcher) client seq floor reader replica key = write_asks command.op key
same_key other client seq floor reader replica key = refl

same_session : (e : Event) (client seq floor replica : ℕ) (key : List ℕ)
    → same_request e (event.Session client seq floor replica key) ≡ bytes_eq (asked e) (4 ∷ key)
same_session (event.Write command batcher) client seq floor replica key = write_asks_no_session command.op key
same_session other client seq floor replica key = refl

-- the tests on an event, by its client and number where it is a request that was sent
pub token_alone : (t : Token) (h : Happened) → has_token t h ≡ same_token t (sent_token h)
token_alone t h = elim (was_sent h) as (λ b.
    (b && same_token t (token_of h.event)) ≡ same_token t (if b then token_of h.event else None)) [ true ↦ refl | false ↦ refl ]

pub floor_alone : (t : Token) (h : Happened) → has_floor_past t h ≡ is_past t (sent_token h) (floor_in h.event)
floor_alone t h = elim (was_sent h) as (λ b.
    (b && is_past t (token_of h.event) (floor_in h.event)) ≡ is_past t (if b then token_of h.event else None) (floor_in h.event)) [
      | true ↦ refl
      | false ↦ refl
    ]

other_request : (t : Token) (e f : Event)
    → (same_token t (token_of f) && not (same_request e f)) ≡ (same_token t (token_of f) && not (bytes_eq (asked e) (asked f)))
other_request t e (event.Write command batcher) =
    ap (λ b. same_token t (token_of (event.Write command batcher)) && not b) (same_write e command batcher)
other_request t e (event.Read client seq floor reader replica key) =
    ap (λ b. same_token t (token_of (event.Read client seq floor reader replica key)) && not b)
    (same_key e client seq floor reader replica key)
other_request t e (event.Session client seq floor replica key) =
    ap (λ b. same_token t (token_of (event.Session client seq floor replica key)) && not b) (same_session e client seq floor replica key)
other_request t e other = refl

pub other_alone : (t : Token) (e : Event) (h : Happened)
    → asks_another t e h ≡ (same_token t (sent_token h) && not (bytes_eq (asked e) (asked h.event)))
other_alone t e h =
    elim (was_sent h) as (λ b. (b && same_token t (token_of h.event) && not (same_request e h.event))
    ≡ (same_token t (if b then token_of h.event else None) && not (bytes_eq (asked e) (asked h.event)))) [
      | true ↦ other_request t e h.event
      | false ↦ refl
    ]
