-- What is known of the requests of a script, and why none of them is stale.
use Rattle.cx_letter.specs.Prelude.{Op, Put, Del, App, same_op}
use Rattle.cx_inv_run.proofs.Common.{◌≡◌, ◌≤◌, ◌<◌, ◌==◌, ◌&&◌, ◌||◌, not, nat_le, ℕ, zero, suc, Bool, true, false, List, [], ◌∷◌, drop}
use Rattle.cx_inv_run.proofs.Common.{Option, None, Some, ap, sym, ◌∙◌, subst, refl, inl, inr, arith, list_any, bytes_eq, and_parts}
use Rattle.cx_inv_run.proofs.Common.{and_from, cases_Bool, true≢false, nat_tests, none-some, same_Some, Cluster, Event, Happened}
use Rattle.cx_inv_run.proofs.Common.{floor_fits, is_valid_event, Token, all-Member, same_number, number_itself, Member, floor_in, is_past}
use Rattle.cx_inv_run.proofs.Common.{is_stale, same_request, same_token, token_of, was_sent, World}
use Rattle.cx_base.specs.declared.event.Event.TheVariants as event
use Rattle.cx_client.specs.Asking.{shifted}
use Rattle.cx_client.specs.Client.{ClientState, left}
use Rattle.cx_client.specs.Window.{floor_for, event_with_floor}
use Rattle.cx_client.proofs.Shifted.{named_shifted}
use Rattle.cx_record.specs.Readable.{HasRanges, IsRecordable, tells_all}
use Rattle.cx_script.specs.Names.{names_event}
use Rattle.cx_script.specs.Requests.{asks, number_of}
use Rattle.cx_course.proofs.Asker.{IsAsker}

bytes_itself : (bs : List ℕ) → bytes_eq bs bs ≡ true
bytes_itself [] = refl
bytes_itself (b ∷ bs) = and_from _ _ (number_itself b) (bytes_itself bs)

op_itself : (o : Op) → same_op o o ≡ true
op_itself (Put k t) = and_from _ _ (bytes_itself k) (bytes_itself t)
op_itself (Del k) = bytes_itself k
op_itself (App k t) = and_from _ _ (bytes_itself k) (bytes_itself t)

-- ---- a line with a floor, perhaps to others

abbrev pub sent_as : Cluster → Option ℕ → ℕ → Event → Event
sent_as c o floor e = event_with_floor floor (shifted c o e)

abbrev pub token_by : ℕ → ℕ → Token
token_by client seq = record { client = client; seq = seq }

-- a client's own request has its token
pub own_token : (c : Cluster) (o : Option ℕ) (client floor : ℕ) (e : Event) → asks client e ≡ true
    → token_of (sent_as c o floor e) ≡ Some (token_by client (number_of e))
own_token c o client floor (event.Write command batcher) is = ap (λ n. Some (token_by n command.seq)) (same_number command.client client is)
own_token c o client floor (event.Read other seq before reader replica key) is =
    ap (λ n. Some (token_by n seq)) (same_number other client is)
own_token c o client floor (event.Session other seq before replica key) is = ap (λ n. Some (token_by n seq)) (same_number other client is)
own_token c o client floor other is = cc

-- of a line that has a token, a request that tells a floor has its number, and asks the same with each other floor, whoever is asked
pub record IsLine (c : Cluster) (o : Option ℕ) (line : Event) (floor : ℕ) (t : Token) : Type 0 where
  pub seq : t.seq ≡ number_of line
  pub floor_is : floor_in (sent_as c o floor line) ≡ floor
  pub same : (other : ℕ) (p : Option ℕ) → same_request (sent_as c p other line) (sent_as c o floor line) ≡ true

line_of : (c : Cluster) (o : Option ℕ) (line : Event) (floor : ℕ) (t : Token) → token_of (sent_as c o floor line) ≡ Some t
    → IsLine c o line floor t
line_of c o (event.Write command batcher) floor t is =
    record { seq = ap (λ (u : Token). u.seq) (sym (same_Some _ _ is)); floor_is = refl; same = λ other p. op_itself command.op }
line_of c o (event.Read client seq before reader replica key) floor t is =
    record { seq = ap (λ (u : Token). u.seq) (sym (same_Some _ _ is)); floor_is = refl; same = λ other p. bytes_itself key }
line_of c o (event.Session client seq before replica key) floor t is =
    record { seq = ap (λ (u : Token). u.seq) (sym (same_Some _ _ is)); floor_is = refl; same = λ other p. bytes_itself key }
line_of c o other floor t is = absurd (none-some t is)

-- it names what it named without the floor
pub names_telling : (c : Cluster) (floor : ℕ) (e : Event) → names_event c (event_with_floor floor e) ≡ names_event c e
names_telling c floor (event.Write command batcher) = refl
names_telling c floor other = refl

-- and is valid where the floor fits its number
valid_telling : (c : Cluster) (o : Option ℕ) (floor : ℕ) (e : Event) → floor_fits (number_of e) floor ≡ true
    → is_valid_event (sent_as c o floor e) ≡ true
valid_telling c o floor (event.Write command batcher) fits = fits
valid_telling c o floor (event.Read client seq before reader replica key) fits = fits
valid_telling c o floor (event.Session client seq before replica key) fits = fits
valid_telling c o floor other fits = refl

-- and can be recorded as the line can
pub recordable_telling : (c : Cluster) (o : Option ℕ) (floor : ℕ) (e : Event) → IsRecordable c e → floor_fits (number_of e) floor ≡ true
    → IsRecordable c (sent_as c o floor e)
recordable_telling c o floor e line fits = record {
  ranges = ranges e line.ranges;
  valid = valid_telling c o floor e fits;
  named = names_telling c floor (shifted c o e) ∙ named_shifted c o e line.named;
  complete = stays_complete e line.complete;
}
  where
    ranges : (e : Event) → HasRanges e → HasRanges (sent_as c o floor e)
    ranges (event.Write command batcher) is = is
    ranges other is = is

    stays_complete : (e : Event) → tells_all e ≡ true → tells_all (sent_as c o floor e) ≡ true
    stays_complete (event.Write command batcher) is = is
    stays_complete other is = is

-- what is left is of the script
pub dropped : (n : ℕ) (e : Event) (es : List Event) → Member e (drop n es) → Member e es
dropped zero e es m = m
dropped (suc n) e [] m = m
dropped (suc n) e (x ∷ es) m = inr (dropped n e es m)

-- ---- tests of lists, and of tokens

none_any : {X : Type 0} (p : X → Bool) (xs : List X) → ((x : X) → Member x xs → p x ≡ true → ⊥) → list_any p xs ≡ false
none_any p [] none = refl
none_any p (x ∷ xs) none = elim (cases_Bool (p x)) [
  | inl t ↦ absurd (none x (inl refl) t)
  | inr f ↦ rw f (none_any p xs (λ y m. none y (inr m)))
]

token_same : (t : Token) (o : Option Token) → same_token t o ≡ true → (u : Token) × (o ≡ Some u) × (u.client ≡ t.client) × (u.seq ≡ t.seq)
token_same t None is = cc
token_same t (Some u) is =
    let both = and_parts (t.client == u.client) (t.seq == u.seq) is in
    (u, refl, sym (same_number t.client u.client both.0), sym (same_number t.seq u.seq both.1))

token_past : (t : Token) (o : Option Token) (floor : ℕ) → is_past t o floor ≡ true
    → (u : Token) × (o ≡ Some u) × (u.client ≡ t.client) × (t.seq ≤ floor)
token_past t None floor is = cc
token_past t (Some u) floor is =
    let both = and_parts (t.client == u.client) (nat_le t.seq floor) is in
    (u, refl, sym (same_number t.client u.client both.0), at_most t.seq floor both.1)
  where
    at_most : (m n : ℕ) → nat_le m n ≡ true → m ≤ n
    at_most m n t = grind (arith, nat_tests)

-- ---- no line that is left is stale

module _ (w : World) (s : ClientState) (is : IsAsker w s) (o : Option ℕ) (e : Event) (here : Member e (left s)) where
  abbrev pub Mine : Token
  Mine = token_by s.me.index (number_of e)

  abbrev pub Out : Event
  Out = sent_as s.cluster o (floor_for (left s)) e

  pub its_own : asks s.me.index e ≡ true
  its_own = all-Member (asks s.me.index) (left s) is.client.script.own e here

  pub its_token : token_of Out ≡ Some Mine
  its_token = own_token s.cluster o s.me.index (floor_for (left s)) e its_own

  its_line : Member e s.script
  its_line = dropped s.done e s.script here

  -- an earlier request with its number asks the same
  asks_same : (h : Happened) (u : Token) → Member h w.events → was_sent h ≡ true → token_of h.event ≡ Some u → u.client ≡ s.me.index
      → u.seq ≡ number_of e → same_request Out h.event ≡ true
  asks_same h u m sent token client seq =
      let told = is.asked h u m sent token client in
      let line = line_of s.cluster told.shift told.line told.floor u (ap token_of (sym told.is) ∙ token) in
      let same : told.line ≡ e = is.one_line told.line e told.own its_line (sym line.seq ∙ seq) in
      ap (same_request Out) told.is ∙ subst (λ (x : Event). same_request (sent_as s.cluster o (floor_for (left s)) x)
      (sent_as s.cluster told.shift told.floor told.line) ≡ true) same (line.same (floor_for (left s)) o)

  -- and each tells a floor below its number
  tells_below : (h : Happened) (u : Token) → Member h w.events → was_sent h ≡ true → token_of h.event ≡ Some u → u.client ≡ s.me.index
      → floor_in h.event < number_of e
  tells_below h u m sent token client =
      let told = is.asked h u m sent token client in
      let line = line_of s.cluster told.shift told.line told.floor u (ap token_of (sym told.is) ∙ token) in
      subst (λ (n : ℕ). n < number_of e) (sym (ap floor_in told.is ∙ line.floor_is)) (told.below e here)

  never_other : list_any (λ (h : Happened). was_sent h && same_token Mine (token_of h.event) && not (same_request Out h.event)) w.events
      ≡ false
  never_other =
      none_any (λ (h : Happened). was_sent h && same_token Mine (token_of h.event) && not (same_request Out h.event)) w.events (λ h m t.
      let more = and_parts (was_sent h && same_token Mine (token_of h.event)) (not (same_request Out h.event)) t in
      let both = and_parts (was_sent h) (same_token Mine (token_of h.event)) more.0 in
      let u = token_same Mine (token_of h.event) both.1 in
      true≢false (sym more.1 ∙ ap not (asks_same h u.0 m both.0 u.1 u.2 u.3)))

  never_past : list_any (λ (h : Happened). was_sent h && is_past Mine (token_of h.event) (floor_in h.event)) w.events ≡ false
  never_past = none_any (λ (h : Happened). was_sent h && is_past Mine (token_of h.event) (floor_in h.event)) w.events (λ h m t.
      let both = and_parts (was_sent h) (is_past Mine (token_of h.event) (floor_in h.event)) t in
      let u = token_past Mine (token_of h.event) (floor_in h.event) both.1 in
      let less = tells_below h u.0 m both.0 u.1 u.2 in
      let most = u.3 in
      omega (arith, less, most))

  pub not_stale : is_stale Mine Out w.events ≡ false
  not_stale = rw (never_other, never_past) (none (list_any (λ (h : Happened). was_sent h && same_token Mine (token_of h.event)) w.events))
    where
      none : (b : Bool) → (false || (not b && false)) ≡ false
      none true = refl
      none false = refl
