-- The order of the calls of a run: its command list, woven with the reads that were answered.
use Rattle.cx_inv_run.proofs.Common.{◌≡◌, ◌⊎◌, ℕ, zero, suc, ◌+◌, ◌<◌, ◌≤◌, true, false, List, [], ◌∷◌, ◌++◌, length, take, map}
use Rattle.cx_inv_run.proofs.Common.{Option, Some, inl, inr, ap, sym, subst, ◌∙◌, refl, arith, slice_get, cases_lt, not-true}
use Rattle.cx_inv_run.proofs.Common.{same_Some, length-append, true≢false, Cluster, Command, Event, Happened, Token, Letter}
use Rattle.cx_inv_run.proofs.Common.{Pair, letter, command_list, map_behind, mark_told, was_asked, Stands, Member}
use Rattle.cx_inv_run.proofs.Common.{Member-at, Member-first, run, WasRead}
use Rattle.cx_base.specs.declared.event.Event.TheVariants as event
use Rattle.cx_base.specs.declared.why.Why.TheVariants as why
use Rattle.cx_base.specs.Fold.{acts, text_at}
use Rattle.cx_letter.specs.declared.message.Msg.TheVariants as msg
use Rattle.cx_inv_run.proofs.Members.{at-Member}
use Rattle.cx_model.specs.Promises.{WantsText}
use Rattle.cx_inv_list.proofs.Answers.{one_list, commands_were_asked, reads_tell}
use Rattle.cx_inv_read.proofs.Requests.{was_asked_by}
use Rattle.cx_linear.specs.Linearizable.{ClientCall, Response, left_by, left_by_all, response_by}
use Rattle.cx_linear.specs.Linearizable.{Replied, Found, Invoke, Respond}
use Rattle.cx_linear.specs.History.{seen_as, counts, history_of, IsLinearizableRun}
use Rattle.cx_linear.proofs.Calls.{IsReply, IsText, call_invoked, response_delivered, response_sent, same_parts}
use Rattle.cx_linear.proofs.Logs.{mark_of, split_stands, stands_split, stands_from, stands_below, mark_grows, mark_within, fold_front}
use Rattle.cx_linear.proofs.Runs.{happens, cut_run, heard_then, sent_begins}
use Rattle.cx_inv_list.proofs.Once.{Member-in}
use Rattle.cx_linear.proofs.Seen.{IsSeen, cuts, one_response, seen_both, seen_one}
use Rattle.cx_linear.proofs.Texts.{Text, values, texts_have, text_item, reads, reads_are, reads_get, reads_have, reads_ranked, reads_sorted}
use Rattle.cx_linear.proofs.Times.{IsTold, apart, command_later, read_asked, read_later}
use Rattle.cx_linear.proofs.Weave.{Item, IsBefore, HasPlace, Sorted, call_by, command_item, left_after, weave, weave_has, weave_sorted}
use Rattle.cx_linear.proofs.Weave.{command_place, read_place, placed_before, placed_same}

-- the calls of items, and what they leave

abbrev calls_of : List Item → List ClientCall
calls_of items = map (λ (x : Item). x.call) items

calls_at : (items : List Item) (n : ℕ) (x : ClientCall) → slice_get (calls_of items) n ≡ Some x
    → (i : Item) × (slice_get items n ≡ Some i) × (i.call ≡ x)
calls_at [] n x h = cc
calls_at (i ∷ items) zero x h = (i, refl, same_Some i.call x h)
calls_at (i ∷ items) (suc n) x h = calls_at items n x h

calls_leave : (map : List Pair) (items : List Item) → left_by_all map (calls_of items) ≡ left_after map items
calls_leave map [] = refl
calls_leave map (i ∷ items) = calls_leave (left_by map i.call.operation) items

split_at : (front rest : List Item) (x : Item) → slice_get (calls_of (front ++ x ∷ rest)) (length front) ≡ Some x.call
split_at [] rest x = refl
split_at (i ∷ front) rest x = split_at front rest x

split_front : (front rest : List Item) (x : Item) → take (length front) (calls_of (front ++ x ∷ rest)) ≡ calls_of front
split_front [] rest x = refl
split_front (i ∷ front) rest x = ap (λ l. i.call ∷ l) (split_front front rest x)

-- an item with its place answers so
abbrev IsAnsweredAt : List ClientCall → ClientCall → List Pair → Type 0
IsAnsweredAt order x map = (n : ℕ) × (slice_get order n ≡ Some x) × (left_by_all [] (take n order) ≡ map)

answered_at : (items : List Item) (x : Item) (map : List Pair) → HasPlace items x [] map → IsAnsweredAt (calls_of items) x.call map
answered_at items x map h = (
  length h.front,
  subst (λ l. slice_get (calls_of l) (length h.front) ≡ Some x.call) (sym h.split) (split_at h.front h.rest x),
  ap (λ l. left_by_all [] (take (length h.front) (calls_of l))) h.split ∙ ap (λ l. left_by_all [] l) (split_front h.front h.rest x)
      ∙ calls_leave [] h.front ∙ h.left,
)

-- which datagram an event delivers
abbrev number_of : Event → ℕ
number_of (event.Deliver n cut) = n
number_of other = 0

module _ (c : Cluster) (es : List Event) where
  abbrev commands : List Command
  commands = command_list (values c es)

  abbrev items : List Item
  items = weave (reads c es) (reads_sorted c es) (reads_ranked c es) (reads_get c es) 0 [] commands

  abbrev order : List ClientCall
  order = calls_of items

  sorted : Sorted items
  sorted = weave_sorted (reads c es) (reads_sorted c es) (reads_ranked c es) (reads_get c es) commands 0 []

  -- which items there are

  record IsCommand (x : Item) : Type 0 where
    slot : ℕ
    before : List Command
    command : Command
    stands : Stands (values c es) slot before command
    acting : acts before command ≡ true
    item_is : x ≡ command_item (length before) command

  abbrev IsTextItem : Item → Type 0
  IsTextItem x = (r : Text c es) × (x ≡ text_item c es r)

  kinds : (x : Item) → Member x items → IsTextItem x ⊎ IsCommand x
  kinds x m = elim (weave_has (reads c es) (reads_sorted c es) (reads_ranked c es) (reads_get c es) commands 0 [] x m) [
    | inl r ↦ (let q = reads_are c es (0 + r.0) x r.2 in inl (q.0, q.2))
    | inr a ↦ (let s = split_stands (values c es) a.earlier a.later a.command a.split in
        inr (record {
          slot = s.0;
          before = a.earlier;
          command = a.command;
          stands = s.1;
          acting = a.acts_here;
          item_is = a.item_is ∙ ap (λ n. command_item n a.command) (omega arith);
        }))
  ]

  abbrev IsItemAt : ℕ → ClientCall → Type 0
  IsItemAt n x = (i : Item) × (slice_get items n ≡ Some i) × (i.call ≡ x) × (IsTextItem i ⊎ IsCommand i)

  item_at : (n : ℕ) (x : ClientCall) → slice_get order n ≡ Some x → IsItemAt n x
  item_at n x h = let i = calls_at items n x h in (i.0, i.1, i.2, kinds i.0 (Member-at i.0 items n i.1))

  was_sent : (x : Item) (h : IsCommand x) → (b : ℕ)
      × Member (happens (event.Write h.command b) why.Sent) (run c es).events
  was_sent x h = commands_were_asked c es h.slot h.before h.command h.stands

  item_invoked : (i : Item) → IsTextItem i ⊎ IsCommand i → Member (Invoke i.call) (history_of (run c es))
  item_invoked i (inl (r, e)) =
      let a = r.asked in
      call_invoked c es (event.Read r.token.client r.token.seq a.0 a.1 a.2 r.key) i.call a.3
      (ap (λ (x : Item). Some (Invoke x.call)) (sym e))
  item_invoked i (inr h) =
      let a = was_sent i h in
      call_invoked c es (event.Write h.command a.0) i.call a.1 (ap (λ (x : Item). Some (Invoke x.call)) (sym h.item_is))

  -- items of one token are one

  same_text : (r q : Text c es) → r.token ≡ q.token
      → ((r.seen).before ≡ (q.seen).before) × ((r.seen).now ≡ (q.seen).now)
  same_text r q e =
      let seen = subst (λ t. IsSeen (run c es).sent (run c es).events (Respond t (Found r.found))) e r.seen in
      one_response (run c es).sent (run c es).events q.token (Found r.found) (Found q.found)
      (record {
        before = (r.seen).before;
        now = (r.seen).now;
        later = (r.seen).later;
        split = (r.seen).split;
        seen = subst (λ t. seen_as (run c es).sent (r.seen).now.why (r.seen).now.event ≡ Some (Respond t (Found r.found))) e (r.seen).seen;
        counted = subst (λ t. counts (run c es).sent (r.seen).before (Respond t (Found r.found)) ≡ true) e (r.seen).counted;
      }) q.seen

  abbrev number_in : Happened → ℕ
  number_in h = number_of h.event

  same_mark : (r q : Text c es) → (r.seen).now ≡ (q.seen).now → r.n ≡ q.n
  same_mark r q e =
      let number : r.number ≡ q.number = sym (ap number_in r.now_is) ∙ ap number_in e ∙ ap number_in q.now_is in
      let there = sym r.there ∙ ap (λ k. slice_get (run c es).sent k) number ∙ q.there in
      ap (λ (d : Letter). mark_told d.msg) (same_Some (letter r.from r.to (msg.ReadAnswer r.token.seq r.n r.found))
      (letter q.from q.to (msg.ReadAnswer q.token.seq q.n q.found)) there)

  abbrev IsSameItem : Item → Item → Type 0
  IsSameItem i j = (i.rank ≡ j.rank) × (i.turn ≡ j.turn)

  token_apart : (i j : Item) (r : Text c es) → i ≡ text_item c es r → (h : IsCommand j) → j.call.token ≡ i.call.token → ⊥
  token_apart i j r e h q =
      apart c es r.token h.command r.key (was_sent j h) (sym (ap (λ (x : Item). x.call.token) e) ∙ sym q
      ∙ ap (λ (x : Item). x.call.token) h.item_is) r.asked

  same_item : (i j : Item) → IsTextItem i ⊎ IsCommand i → IsTextItem j ⊎ IsCommand j → i.call.token ≡ j.call.token → IsSameItem i j
  same_item i j (inl (r, e)) (inl (q, f)) t =
      let own : r.token ≡ q.token = sym (ap (λ (x : Item). x.call.token) e) ∙ t ∙ ap (λ (x : Item). x.call.token) f in
      let s = same_text r q own in
      let n = same_mark r q s.1 in (
        ap (λ (x : Item). x.rank) e ∙ ap (λ k. mark_of k (values c es) + mark_of k (values c es)) n ∙ sym (ap (λ (x : Item). x.rank) f),
        ap (λ (x : Item). x.turn) e ∙ ap (λ (l : List Happened). length l) s.0 ∙ sym (ap (λ (x : Item). x.turn) f),
      )
  same_item i j (inl (r, e)) (inr h) t = absurd (token_apart i j r e h (sym t))
  same_item i j (inr h) (inl (r, e)) t = absurd (token_apart j i r e h t)
  same_item i j (inr g) (inr h) t =
      let own = sym (ap (λ (x : Item). x.call.token) g.item_is) ∙ t ∙ ap (λ (x : Item). x.call.token) h.item_is in
      let once = one_list.none_acts_twice (values c es) g.slot h.slot g.before h.before g.command h.command g.stands h.stands
      g.acting h.acting
      (ap (λ (u : Token). u.client) own) (ap (λ (u : Token). u.seq) own) in (
        ap (λ (x : Item). x.rank) g.item_is ∙ ap (λ (l : List Command). suc (length l + length l)) once.0
            ∙ sym (ap (λ (x : Item). x.rank) h.item_is),
        ap (λ (x : Item). x.turn) g.item_is ∙ sym (ap (λ (x : Item). x.turn) h.item_is),
      )

  -- RESPONSES

  abbrev IsAnswered : Token → Response → Type 0
  IsAnswered t r = (n : ℕ) × (x : ClientCall) × (slice_get order n ≡ Some x) × (x.token ≡ t)
      × (r ≡ response_by (left_by_all [] (take n order)) x.operation)

  answered : (t : Token) (r : Response) (x : ClientCall) (map : List Pair) → x.token ≡ t → r ≡ response_by map x.operation
      → IsAnsweredAt order x map → IsAnswered t r
  answered t r x map e q a = (a.0, x, a.1, e, q ∙ ap (λ m. response_by m x.operation) (sym a.2))

  reply_answered : (t : Token) (r : Response) → IsReply (run c es).sent t r → IsAnswered t r
  reply_answered t r p =
      let h = (one_list.answers_are_right c es p.from p.to p.seq p.at p.reply p.sent_it).0 in
      let s = stands_split (values c es) h.slot h.before h.command h.stands in
      let place = command_place (reads c es) (reads_sorted c es) (reads_ranked c es) (reads_get c es)
      h.before h.command s.0 [] 0 [] h.acting in
      let here : HasPlace items (command_item (0 + length h.before) h.command) [] (map_behind [] [] h.before) =
      subst (λ l. HasPlace (weave (reads c es) (reads_sorted c es) (reads_ranked c es) (reads_get c es) 0 [] l)
      (command_item (0 + length h.before) h.command) [] (map_behind [] [] h.before)) (sym s.1) place in
      answered t r (call_by h.command) (map_behind [] [] h.before)
      (same_parts (call_by h.command).token t (h.client_is ∙ p.client_is) (h.seq_is ∙ p.seq_is))
      (p.is ∙ ap (λ o. Replied o) h.reply_is)
      (answered_at items (command_item (0 + length h.before) h.command) (map_behind [] [] h.before) here)

  response_parts : (t u : Token) (x y : Response) → Some (Respond t x) ≡ Some (Respond u y) → (t ≡ u) × (x ≡ y)
  response_parts t u x y e = (cc, cc)

  text_answered : (t : Token) (r : Response) → IsSeen (run c es).sent (run c es).events (Respond t r) → IsText (run c es).sent t r
      → IsAnswered t r
  text_answered t r s p =
      let own = subst (λ x. IsSeen (run c es).sent (run c es).events (Respond t x)) p.is s in
      let q = texts_have c es t p.found own in
      let k = q.0 in
      let tokens : k.token ≡ t = one_token k own q.3 in
      let founds : Found k.found ≡ r = one_found k own q.3 in
      let place = read_place (reads c es) (reads_sorted c es) (reads_ranked c es) (reads_get c es) (mark_of k.n (values c es)) commands [] 0
      (text_item c es k) [] (mark_within (values c es) k.n)
      (subst (λ n. Member (text_item c es k) (reads c es n)) (omega arith) (reads_have c es k q.1)) in
      answered t r (text_item c es k).call (map_behind [] [] (take (mark_of k.n (values c es)) commands)) tokens
      (sym founds ∙ ap (λ o. Found o) (k.found_is ∙ ap (λ m. text_at k.key m) (fold_front (values c es) k.n)))
      (answered_at items (text_item c es k) (map_behind [] [] (take (mark_of k.n (values c es)) commands)) place)
    where
      parts : (k : Text c es) (own : IsSeen (run c es).sent (run c es).events (Respond t (Found p.found))) → (k.seen).now ≡ own.now
          → (k.token ≡ t) × (Found k.found ≡ Found p.found)
      parts k own e =
          response_parts k.token t (Found k.found) (Found p.found)
          (sym (k.seen).seen ∙ ap (λ (h : Happened). seen_as (run c es).sent h.why h.event) e ∙ own.seen)

      one_token : (k : Text c es) → (own : IsSeen (run c es).sent (run c es).events (Respond t (Found p.found))) → (k.seen).now ≡ own.now
          → k.token ≡ t
      one_token k own e = (parts k own e).0

      one_found : (k : Text c es) → (own : IsSeen (run c es).sent (run c es).events (Respond t (Found p.found))) → (k.seen).now ≡ own.now
          → Found k.found ≡ r
      one_found k own e = (parts k own e).1 ∙ sym p.is

  responses : (t : Token) (r : Response) → Member (Respond t r) (history_of (run c es)) → IsAnswered t r
  responses t r m =
      let at = at-Member (Respond t r) (history_of (run c es)) m in
      let s = seen_one (run c es).sent (run c es).events at.0 (Respond t r) at.1 in
      let d = response_delivered (run c es).sent s.now.why s.now.event t r s.seen in
      elim (response_sent (run c es).sent d.letter_is.from d.letter_is.to d.letter_is.msg t r
      (Member-at d.letter_is (run c es).sent d.number d.there) d.tells) [
        | inl p ↦ reply_answered t r p
        | inr p ↦ text_answered t r s p
      ]

  -- REAL TIME

  abbrev marked : ℕ → ℕ
  marked n = mark_of n (values c es) + mark_of n (values c es)

  -- An item whose response a client had heard by a moment was told of by then, with a number of slots that it stands below. Only of reads
  -- it may stand right there, and their turns are as their responses.
  record IsBelow (then : List Event) (turn : ℕ) (i : Item) : Type 0 where
    at : ℕ
    told : IsTold (run c then).sent at
    below : (suc i.rank ≤ marked at) ⊎ ((i.rank ≤ marked at) × (i.turn ≡ turn))

  text_below : (then later : List Event) → es ≡ then ++ later → (i : Item) (k : Text c es) → i ≡ text_item c es k
      → Member (k.seen).now (run c then).events → IsBelow then (length (k.seen).before) i
  text_below then later split i k e m =
      let heard = subst (λ h. Member h (run c then).events) k.now_is m in
      let there = subst (λ l. slice_get (run c l).sent k.number ≡ Some (letter k.from k.to (msg.ReadAnswer k.token.seq k.n k.found))) split
      k.there in
      record {
        at = k.n;
        told = inr (k.from, k.to, k.token.seq, k.found, heard_then c then later k.number k.cut _ heard there);
        below = (let r = ap (λ (x : Item). x.rank) e in inr (omega arith, ap (λ (x : Item). x.turn) e));
      }

  reply_below : (then later : List Event) → es ≡ then ++ later → (turn : ℕ) (i : Item) (h : IsCommand i) (r : Response)
      → IsReply (run c then).sent i.call.token r → IsBelow then turn i
  reply_below then later split turn i h r p =
      let b = sent_begins c then later in
      let final : Member (letter p.from p.to (msg.Answer p.seq p.at p.reply)) (run c es).sent =
      subst (λ l. Member (letter p.from p.to (msg.Answer p.seq p.at p.reply)) (run c l).sent) (sym split)
      (subst (λ l. Member (letter p.from p.to (msg.Answer p.seq p.at p.reply)) l) (sym b.1)
      (Member-first _ (run c then).sent b.0 p.sent_it)) in
      let g = (one_list.answers_are_right c es p.from p.to p.seq p.at p.reply final).0 in
      let own = ap (λ (x : Item). x.call.token) h.item_is in
      let once = one_list.none_acts_twice (values c es) g.slot h.slot g.before h.before g.command h.command g.stands h.stands
      g.acting h.acting
      (g.client_is ∙ p.client_is ∙ ap (λ (u : Token). u.client) own) (g.seq_is ∙ p.seq_is ∙ ap (λ (u : Token). u.seq) own) in
      let l = stands_below (values c es) g.slot g.before g.command g.stands in
      let next : p.at ≡ suc g.slot = g.at_is ∙ (omega arith) in
      let mark : mark_of p.at (values c es) ≡ mark_of (suc g.slot) (values c es) = ap (λ n. mark_of n (values c es)) next in
      let same = ap (λ (x : List Command). length x) once.0 in
      let rank = ap (λ (x : Item). x.rank) h.item_is in
      record {
        at = p.at;
        told = inl (p.from, p.to, p.seq, p.reply, p.sent_it);
        below = inl (omega arith);
      }

  heard_below : (then later : List Event) → es ≡ then ++ later → (i : Item) → IsTextItem i ⊎ IsCommand i → (r : Response)
      (s : IsSeen (run c es).sent (run c es).events (Respond i.call.token r)) → Member s.now (run c then).events
      → IsBelow then (length s.before) i
  heard_below then later split i (inl (k, e)) r s m =
      let own = ap (λ (x : Item). x.call.token) e in
      let same = one_response (run c es).sent (run c es).events k.token (Found k.found) r k.seen (seen_of k.token own) in
      subst (λ (l : List Happened). IsBelow then (length l) i) same.0
      (text_below then later split i k e (subst (λ h. Member h (run c then).events) (sym same.1) m))
    where
      seen_of : (t : Token) → i.call.token ≡ t → IsSeen (run c es).sent (run c es).events (Respond t r)
      seen_of t e = record {
        before = s.before;
        now = s.now;
        later = s.later;
        split = s.split;
        seen = subst (λ u. seen_as (run c es).sent s.now.why s.now.event ≡ Some (Respond u r)) e s.seen;
        counted = subst (λ u. counts (run c es).sent s.before (Respond u r) ≡ true) e s.counted;
      }
  heard_below then later split i (inr h) r s m =
      let d = response_delivered (run c es).sent s.now.why s.now.event i.call.token r s.seen in
      let now : s.now ≡ happens (event.Deliver d.number d.cut) why.Heard = (λ j. record { event = d.event_is j; why = d.why_is j }) in
      let there = subst (λ l. slice_get (run c l).sent d.number ≡ Some d.letter_is) split d.there in
      let sent = heard_then c then later d.number d.cut d.letter_is (subst (λ x. Member x (run c then).events) now m) there in
      elim (response_sent (run c then).sent d.letter_is.from d.letter_is.to d.letter_is.msg i.call.token r sent d.tells) [
        | inl p ↦ reply_below then later split (length s.before) i h r p
        | inr p ↦ absurd (never p.found p.is)
      ]
    where
      never : (found : Option (List ℕ)) → r ≡ Found found → ⊥
      never found is =
          let own = subst (λ x. IsSeen (run c es).sent (run c es).events (Respond i.call.token x)) is s in
          let k = texts_have c es i.call.token found own in
          let parts = response_parts (k.0).token i.call.token (Found (k.0).found) (Found found)
          (sym ((k.0).seen).seen ∙ ap (λ (x : Happened). seen_as (run c es).sent x.why x.event) k.3 ∙ own.seen) in
          apart c es (k.0).token h.command (k.0).key (was_sent i h) (parts.0 ∙ ap (λ (x : Item). x.call.token) h.item_is) (k.0).asked

  wants_asked : (then : List Event) (t : Token) (key : List ℕ) → WantsText (run c then).events t.client t.seq key
      → was_asked t (run c then).events ≡ true
  wants_asked then t key (inl r) = read_asked c then t key r
  wants_asked then t key (inr (floor, replica, m)) =
      was_asked_by t (run c then) (event.Session t.client t.seq floor replica key) m refl

  -- a read's response isn't before its invocation
  responds_later : (then later : List Event) → es ≡ then ++ later → (k : Text c es) (x : ClientCall)
      (u : IsSeen (run c es).sent (run c es).events (Invoke x)) → (run c then).events ≡ u.before
      → was_asked k.token (run c then).events ≡ false → length u.before ≤ length (k.seen).before
  responds_later then later split k x u events unasked =
      elim (cuts u.before u.later (k.seen).before (k.seen).later u.now (k.seen).now (sym u.split ∙ (k.seen).split)) [
        | inl e ↦ (let l = ap (λ (x : List Happened). length x) e.0 in omega arith)
        | inr e ↦ elim e [
          | inl m ↦ (let l = ap (λ (x : List Happened). length x) m.1 in omega (arith, l, length-append u.before (u.now ∷ m.0)))
          | inr m ↦ absurd (never (subst (λ l. Member (k.seen).now l) (sym (events ∙ m.1)) (Member-in (k.seen).now (k.seen).before m.0)))
        ]
      ]
    where
      never : Member (k.seen).now (run c then).events → ⊥
      never m =
          let heard = subst (λ h. Member h (run c then).events) k.now_is m in
          let there = subst (λ l. slice_get (run c l).sent k.number ≡ Some (letter k.from k.to (msg.ReadAnswer k.token.seq k.n k.found)))
          split
          k.there in
          let sent = heard_then c then later k.number k.cut _ heard there in
          let right = reads_tell c then k.from k.to k.token.seq k.n k.found sent in
          true≢false (sym (wants_asked then k.token right.key
          (subst (λ a. WantsText (run c then).events a k.token.seq right.key) k.client_is right.asked)) ∙ unasked)

  below_first : (then later : List Event) → es ≡ then ++ later → (turn : ℕ) (i j : Item) → IsBelow then turn i
      → IsTextItem j ⊎ IsCommand j → (u : IsSeen (run c es).sent (run c es).events (Invoke j.call)) → (run c then).events ≡ u.before
      → was_asked j.call.token (run c then).events ≡ false → turn < length u.before → IsBefore i j
  below_first then later split turn i j b (inr h) u events unasked l =
      let stands = subst (λ x. Stands (values c x) h.slot h.before h.command) split h.stands in
      let o = command_later c then later b.at b.told j.call.token unasked h.slot h.before h.command stands
      (ap (λ (x : Item). x.call.token) h.item_is) in
      let m = mark_grows (values c es) b.at h.slot o in
      let f = stands_from (values c es) h.slot h.before h.command h.stands in
      let r = ap (λ (x : Item). x.rank) h.item_is in
      inl (least b.below (omega arith))
    where
      least : (suc i.rank ≤ marked b.at) ⊎ ((i.rank ≤ marked b.at) × (i.turn ≡ turn)) → marked b.at < j.rank → i.rank < j.rank
      least (inl p) q = omega arith
      least (inr p) q = let s = p.0 in omega arith
  below_first then later split turn i j b (inl (k, e)) u events unasked l =
      let own = ap (λ (x : Item). x.call.token) e in
      let unasked_k = subst (λ t. was_asked t (run c then).events ≡ false) own unasked in
      let asked = subst (λ x. WasRead (run c x).events k.token.client k.token.seq k.key) split k.asked in
      let there = subst (λ x. Member (letter k.from k.to (msg.ReadAnswer k.token.seq k.n k.found)) (run c x).sent) split
      (Member-at _ (run c es).sent k.number k.there) in
      let o = read_later c then later b.at b.told k.token unasked_k k.key asked k.from k.to k.n k.found k.client_is there in
      let m = mark_grows (values c es) b.at k.n o in
      let r = ap (λ (x : Item). x.rank) e in
      let t = ap (λ (x : Item). x.turn) e in
      let later_turn = responds_later then later split k j.call u events unasked_k in
      first b.below (omega arith) (omega arith)
    where
      first : (suc i.rank ≤ marked b.at) ⊎ ((i.rank ≤ marked b.at) × (i.turn ≡ turn)) → marked b.at ≤ j.rank → turn < j.turn → IsBefore i j
      first (inl p) q s = inl (omega arith)
      first (inr p) q s = elim (cases_lt i.rank j.rank) [
        | inl o ↦ inl o
        | inr o ↦ (let a = p.0 in let d = p.1 in inr (omega arith, omega arith))
      ]

  in_order : (i j : Item) → IsTextItem i ⊎ IsCommand i → IsTextItem j ⊎ IsCommand j → (r : Response)
      (s : IsSeen (run c es).sent (run c es).events (Respond i.call.token r)) (u : IsSeen (run c es).sent (run c es).events (Invoke j.call))
      → length s.before < length u.before → IsBefore i j
  in_order i j a b r s u l =
      let q = cut_run c es u.before (u.now ∷ u.later) u.split in
      let none : was_asked j.call.token u.before ≡ false = not-true (was_asked j.call.token u.before) u.counted in
      let unasked = subst (λ x. was_asked j.call.token x ≡ false) (sym q.events_are) none in
      let member = subst (λ x. Member s.now x) (sym q.events_are)
      (earlier (cuts s.before s.later u.before u.later s.now u.now (sym s.split ∙ u.split))) in
      below_first q.then q.later q.split (length s.before) i j (heard_below q.then q.later q.split i a r s member) b
      u q.events_are unasked l
    where
      earlier : ((s.before ≡ u.before) × (s.now ≡ u.now)) ⊎ (((m : List Happened) × (u.before ≡ s.before ++ s.now ∷ m))
          ⊎ ((m : List Happened) × (s.before ≡ u.before ++ u.now ∷ m))) → Member s.now u.before
      earlier (inl e) = let k = ap (λ (x : List Happened). length x) e.0 in absurd (omega arith)
      earlier (inr (inl m)) = subst (λ x. Member s.now x) (sym m.1) (Member-in s.now s.before m.0)
      earlier (inr (inr m)) =
          let k = ap (λ (x : List Happened). length x) m.1 in absurd (omega (arith, k, l, length-append u.before (u.now ∷ m.0)))

  real_time : (i j m n : ℕ) (x y : ClientCall) (r : Response)
      → slice_get (history_of (run c es)) i ≡ Some (Respond x.token r) → slice_get (history_of (run c es)) j ≡ Some (Invoke y) → i < j
      → slice_get order m ≡ Some x → slice_get order n ≡ Some y → m < n
  real_time i j m n x y r g h l p q =
      let a = item_at m x p in
      let b = item_at n y q in
      let there = subst (λ (z : ClientCall). slice_get (history_of (run c es)) i ≡ Some (Respond z.token r)) (sym a.2) g in
      let asked = subst (λ z. slice_get (history_of (run c es)) j ≡ Some (Invoke z)) (sym b.2) h in
      let both = seen_both (run c es).sent (run c es).events (run c es).events [] refl i j (Respond (a.0).call.token r) (Invoke (b.0).call)
      there asked l in
      placed_before items sorted m n a.0 b.0 a.1 b.1 (in_order a.0 b.0 a.3 b.3 r both.0 both.1 both.2)

  once : (m n : ℕ) (x y : ClientCall) → slice_get order m ≡ Some x → slice_get order n ≡ Some y → x.token ≡ y.token → m ≡ n
  once m n x y p q t =
      let a = item_at m x p in
      let b = item_at n y q in
      let same = same_item a.0 b.0 a.3 b.3 (ap (λ (z : ClientCall). z.token) a.2 ∙ t ∙ sym (ap (λ (z : ClientCall). z.token) b.2)) in
      placed_same items sorted m n a.0 b.0 a.1 b.1 same.0 same.1

  pub linearizable : IsLinearizableRun c es
  linearizable = (
    order,
    record {
      invoked = λ n x p. let a = item_at n x p in
          subst (λ z. Member (Invoke z) (history_of (run c es))) a.2 (item_invoked a.0 a.3);
      once = once;
      responses = responses;
      real_time = real_time;
    },
  )
