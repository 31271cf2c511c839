-- The lines of events are read as these events.
use Rattle.cx_base.proofs.Common.{◌∙◌, ap, sym, arith, append-nil, true≢false, and_parts, nat_tests}
use Rattle.cx_letter.specs.Prelude.{◌≡◌, ◌≤◌, ◌<◌, ◌+◌, ◌-◌, ◌*◌, ◌^◌, ◌==◌, ◌&&◌, not, nat_lt, ℕ, zero, suc, Bool, true, false, List, []}
use Rattle.cx_letter.specs.Prelude.{◌∷◌, length, map, None, Some, Ok, refl, codes, slice_index, All, join_with_byte, strip_carriage_return}
use Rattle.cx_letter.specs.Prelude.{Cluster, Command, Op, Put, Del, App, Cut, Whole, Torn, Kept, Event, Lead, Change, Collect, Offer}
use Rattle.cx_letter.specs.Prelude.{Client, Batcher, Leader, Replica, Reader, Replacer, RoleId, count_of, puts_anew, IsGrid, Shape}
use Rattle.cx_letter.specs.Prelude.{Replace, role_text, nat_le}
use Rattle.cx_base.specs.declared.event.Event.TheVariants as event
use Rattle.cx_script.specs.Grammar.{collect_event, deliver_event, event_in, event_of, line_event, op_at, read_event, replace_event}
use Rattle.cx_script.specs.Grammar.{grid_order_of, offer_event, server_of, session_event, snap_event, write_event}
use Rattle.cx_script.specs.Lines.{lines_of, schedule_of, spelled_from}
use Rattle.cx_script.specs.Names.{is_client, names_event, names_members, names_server, names_set}
use Rattle.cx_script.specs.Unended.{lines_text}
use Rattle.cx_script.proofs.Feeds.{AreFree, IsFree, lines_of_text}
use Rattle.cx_record.specs.Lines.{cut_words, line_text, line_words, op_words, round_words}
use Rattle.cx_record.specs.Readable.{AreRead, HasNames, IsRecordable}
use Rattle.cx_record.proofs.Digits.{decimal_word}
use Rattle.cx_record.proofs.Grids.{members_are_word, members_back, set_back, set_is_word, sides_are_word, sides_back}
use Rattle.cx_record.proofs.Spelling.{cut_are_words, cut_back, index_back, key_back, name_word, number_word_back, plain_word, role_word}
use Rattle.cx_record.proofs.Spelling.{other_back, seq_back, seq_is_word, server_back, slot_back, small_slot, snap_back, text_back}
use Rattle.cx_record.proofs.Words.{AreWords, Avoids, is_break, joined_avoids, joined_short, words_avoid, words_back}

-- ---- what a line of an event is: words, few of them, that say the event
pub record IsLine (c : Cluster) (line : List (List ℕ)) (e : Event) : Type 0 where
  pub words : AreWords line
  pub few : length line ≤ 8
  pub said : event_in c line ≡ Ok (Some e)

-- ---- requests

op_are_words : (o : Op) → HasNames o → AreWords (op_words o)
op_are_words (Put k t) is =
    (plain_word (codes "put") refl refl refl, (name_word 32 k (omega arith) is.0, (name_word 64 t (omega arith) is.1, tt)))
op_are_words (Del k) is = (plain_word (codes "del") refl refl refl, (name_word 32 k (omega arith) is, tt))
op_are_words (App k t) is =
    (plain_word (codes "app") refl refl refl, (name_word 32 k (omega arith) is.0, (name_word 64 t (omega arith) is.1, tt)))

few_op : (o : Op) → length (op_words o) ≤ 3
few_op (Put k t) = omega arith
few_op (Del k) = omega arith
few_op (App k t) = omega arith

op_back : (o : Op) → HasNames o → op_at (op_words o) ≡ Ok (o, [])
op_back (Put k t) is = rw (key_back k is.0, text_back t is.1) refl
op_back (Del k) is = rw (key_back k is) refl
op_back (App k t) is = rw (key_back k is.0, text_back t is.1) refl

write_line : (c : Cluster) (command : Command) (batcher : ℕ) → IsRecordable c (event.Write command batcher)
    → IsLine c (line_words (event.Write command batcher)) (event.Write command batcher)
unfolding event_of write_event
write_line c command batcher is =
    let named = and_parts (nat_lt command.client c.clients) (nat_lt batcher c.batchers) is.named in
    let few = few_op command.op in
    record {
      words = (
        plain_word (codes "write") refl refl refl,
        (
          role_word c Client command.client named.0,
          (
            seq_is_word command.seq command.floor is.ranges.0 is.valid,
            (role_word c Batcher batcher named.1, op_are_words command.op is.ranges.1),
          ),
        ),
      );
      few = omega (arith, few);
      said = rw (
        index_back c Client command.client named.0,
        seq_back command.seq command.floor is.ranges.0 is.valid,
        index_back c Batcher batcher named.1,
        op_back command.op is.ranges.1,
      ) refl;
    }

read_line : (c : Cluster) (client seq floor reader replica : ℕ) (key : List ℕ)
    → IsRecordable c (event.Read client seq floor reader replica key)
    → IsLine c (line_words (event.Read client seq floor reader replica key)) (event.Read client seq floor reader replica key)
unfolding event_of read_event
read_line c client seq floor reader replica key is =
    let both = and_parts (nat_lt client c.clients && nat_lt reader c.readers) (nat_lt replica c.replicas) is.named in
    let named = and_parts (nat_lt client c.clients) (nat_lt reader c.readers) both.0 in
    record {
      words = (
        plain_word (codes "read") refl refl refl,
        (
          role_word c Client client named.0,
          (
            seq_is_word seq floor is.ranges.0 is.valid,
            (role_word c Reader reader named.1, (role_word c Replica replica both.1, (name_word 32 key (omega arith) is.ranges.1, tt))),
          ),
        ),
      );
      few = omega arith;
      said = rw (
        index_back c Client client named.0,
        seq_back seq floor is.ranges.0 is.valid,
        index_back c Reader reader named.1,
        index_back c Replica replica both.1,
        key_back key is.ranges.1,
      ) refl;
    }

session_line : (c : Cluster) (client seq floor replica : ℕ) (key : List ℕ) → IsRecordable c (event.Session client seq floor replica key)
    → IsLine c (line_words (event.Session client seq floor replica key)) (event.Session client seq floor replica key)
unfolding event_of session_event
session_line c client seq floor replica key is =
    let named = and_parts (nat_lt client c.clients) (nat_lt replica c.replicas) is.named in
    record {
      words = (
        plain_word (codes "session") refl refl refl,
        (
          role_word c Client client named.0,
          (
            seq_is_word seq floor is.ranges.0 is.valid,
            (role_word c Replica replica named.1, (name_word 32 key (omega arith) is.ranges.1, tt)),
          ),
        ),
      );
      few = omega arith;
      said = rw (
        index_back c Client client named.0,
        seq_back seq floor is.ranges.0 is.valid,
        index_back c Replica replica named.1,
        key_back key is.ranges.1,
      ) refl;
    }

-- ---- what happens to roles

few_cut : (cut : Cut) → length (cut_words cut) ≤ 1
few_cut Whole = omega arith
few_cut Torn = omega arith
few_cut Kept = omega arith

deliver_line : (c : Cluster) (n : ℕ) (cut : Cut) → n < 2 ^ 64 → IsLine c (line_words (event.Deliver n cut)) (event.Deliver n cut)
unfolding event_of deliver_event
deliver_line c n cut small =
    let few = few_cut cut in
    record {
      words = (plain_word (codes "deliver") refl refl refl, (decimal_word n small, cut_are_words cut));
      few = omega (arith, few);
      said = rw (number_word_back n small, cut_back cut) refl;
    }

snap_line : (c : Cluster) (r : RoleId) (cut : Cut) → names_event c (event.Snap r cut) ≡ true
    → IsLine c (line_words (event.Snap r cut)) (event.Snap r cut)
unfolding event_of snap_event
snap_line c r cut named =
    let few = few_cut cut in
    let parts = and_parts (puts_anew r.kind) (nat_lt r.index (count_of c r.kind)) named in
    record {
      words = (plain_word (codes "snap") refl refl refl, (role_word c r.kind r.index parts.1, cut_are_words cut));
      few = omega (arith, few);
      said = rw (snap_back c r.kind r.index parts.1 parts.0, cut_back cut) refl;
    }

replace_line : (c : Cluster) (replacer : ℕ) (s : List ℕ) (cut : Cut) → IsRecordable c (event.Replace replacer s cut)
    → IsLine c (line_words (event.Replace replacer s cut)) (event.Replace replacer s cut)
unfolding event_of replace_event
replace_line c replacer s cut is =
    let named = and_parts (nat_lt replacer c.replacers) (names_set c s) is.named in
    let few = few_cut cut in
    record {
      words = (
        plain_word (codes "replace") refl refl refl,
        (role_word c Replacer replacer named.0, (set_is_word c s named.1, cut_are_words cut)),
      );
      few = omega (arith, few);
      said = rw (index_back c Replacer replacer named.0, set_back c s named.1, cut_back cut) refl;
    }

offer_line : (c : Cluster) (replica to slot : ℕ) → IsRecordable c (event.Offer replica to slot)
    → IsLine c (line_words (event.Offer replica to slot)) (event.Offer replica to slot)
unfolding event_of offer_event
offer_line c replica to slot is =
    let named = and_parts (nat_lt replica c.replicas && nat_lt to c.replicas && not (to == replica)) (nat_le slot 1099511627776) is.named in
    let apart = and_parts (nat_lt replica c.replicas && nat_lt to c.replicas) (not (to == replica)) named.0 in
    let both = and_parts (nat_lt replica c.replicas) (nat_lt to c.replicas) apart.0 in
    record {
      words = (
        plain_word (codes "offer") refl refl refl,
        (role_word c Replica replica both.0, (role_word c Replica to both.1, (decimal_word slot (small_slot slot named.1), tt))),
      );
      few = omega arith;
      said = rw (index_back c Replica replica both.0, other_back c Replica replica to both.1 apart.1, slot_back slot named.1) refl;
    }

-- a role that is no client
abbrev IsServer : Cluster → RoleId → Type 0
IsServer c r = names_server c r ≡ true

server_words : (c : Cluster) (verb : List ℕ) (r : RoleId) → IsServer c r → AreWords (verb ∷ []) → AreWords (verb ∷ role_text r ∷ [])
server_words c verb r named is =
    let parts = and_parts (not (is_client r.kind)) (nat_lt r.index (count_of c r.kind)) named in
    (is.0, (role_word c r.kind r.index parts.1, tt))

server_said : (c : Cluster) (r : RoleId) → IsServer c r → server_of c (role_text r ∷ []) ≡ Ok r
unfolding server_of
server_said c r named =
    let parts = and_parts (not (is_client r.kind)) (nat_lt r.index (count_of c r.kind)) named in
    rw (server_back c r.kind r.index parts.1 parts.0) refl

tick_line : (c : Cluster) (r : RoleId) → IsServer c r → IsLine c (line_words (event.Tick r)) (event.Tick r)
unfolding event_of
tick_line c r named = record {
  words = server_words c (codes "tick") r named (plain_word (codes "tick") refl refl refl, tt);
  few = omega arith;
  said = rw (server_said c r named) refl;
}

crash_line : (c : Cluster) (r : RoleId) → IsServer c r → IsLine c (line_words (event.Crash r)) (event.Crash r)
unfolding event_of
crash_line c r named = record {
  words = server_words c (codes "crash") r named (plain_word (codes "crash") refl refl refl, tt);
  few = omega arith;
  said = rw (server_said c r named) refl;
}

restart_line : (c : Cluster) (r : RoleId) → IsServer c r → IsLine c (line_words (event.Restart r)) (event.Restart r)
unfolding event_of
restart_line c r named = record {
  words = server_words c (codes "restart") r named (plain_word (codes "restart") refl refl refl, tt);
  few = omega arith;
  said = rw (server_said c r named) refl;
}

-- ---- orders

round_are_words : (c : Cluster) (l : ℕ) (g : Shape) (cut : Cut) → IsGrid g → nat_lt l c.leaders ≡ true → names_members c g ≡ true
    → AreWords (round_words l g cut)
round_are_words c l g cut is leader members =
    (role_word c Leader l leader, (sides_are_word g is, (members_are_word c g is members, cut_are_words cut)))

round_said : (c : Cluster) (l : ℕ) (g : Shape) (cut : Cut) → IsGrid g → nat_lt l c.leaders ≡ true → names_members c g ≡ true
    → grid_order_of c (round_words l g cut) ≡ Ok (l, g, cut)
unfolding grid_order_of
round_said c l g cut is leader members = rw (index_back c Leader l leader, sides_back g is, members_back c g is members, cut_back cut) refl

lead_line : (c : Cluster) (l : ℕ) (g : Shape) (cut : Cut) → IsRecordable c (event.Order l (Lead g) cut)
    → IsLine c (line_words (event.Order l (Lead g) cut)) (event.Order l (Lead g) cut)
unfolding event_of
lead_line c l g cut is =
    let named = and_parts (nat_lt l c.leaders) (names_members c g) is.named in
    let few = few_cut cut in
    record {
      words = (plain_word (codes "lead") refl refl refl, round_are_words c l g cut is.ranges named.0 named.1);
      few = omega (arith, few);
      said = rw (round_said c l g cut is.ranges named.0 named.1) refl;
    }

change_line : (c : Cluster) (l : ℕ) (g : Shape) (cut : Cut) → IsRecordable c (event.Order l (Change g) cut)
    → IsLine c (line_words (event.Order l (Change g) cut)) (event.Order l (Change g) cut)
unfolding event_of
change_line c l g cut is =
    let named = and_parts (nat_lt l c.leaders) (names_members c g) is.named in
    let few = few_cut cut in
    record {
      words = (plain_word (codes "change") refl refl refl, round_are_words c l g cut is.ranges named.0 named.1);
      few = omega (arith, few);
      said = rw (round_said c l g cut is.ranges named.0 named.1) refl;
    }

collect_line : (c : Cluster) (l : ℕ) → nat_lt l c.leaders ≡ true
    → IsLine c (line_words (event.Order l Collect Whole)) (event.Order l Collect Whole)
unfolding event_of collect_event
collect_line c l leader =
    record {
      words = (plain_word (codes "collect") refl refl refl, (role_word c Leader l leader, tt));
      few = omega arith;
      said = rw (index_back c Leader l leader) refl;
    }

-- ---- any event

is_line : (c : Cluster) (e : Event) → IsRecordable c e → IsLine c (line_words e) e
is_line c (event.Write command batcher) is = write_line c command batcher is
is_line c (event.Read client seq floor reader replica key) is = read_line c client seq floor reader replica key is
is_line c (event.Session client seq floor replica key) is = session_line c client seq floor replica key is
is_line c (event.Deliver n cut) is = deliver_line c n cut is.ranges
is_line c (event.Tick r) is = tick_line c r is.named
is_line c (event.Order l (Lead g) cut) is = lead_line c l g cut is
is_line c (event.Order l (Change g) cut) is = change_line c l g cut is
is_line c (event.Order l Collect Whole) is = collect_line c l (and_parts (nat_lt l c.leaders) true is.named).0
is_line c (event.Order l Collect Torn) is = absurd (true≢false (sym is.complete))
is_line c (event.Order l Collect Kept) is = absurd (true≢false (sym is.complete))
is_line c (event.Order l (Replace s) cut) is = absurd (true≢false (sym (and_parts (nat_lt l c.leaders) false is.named).1))
is_line c (event.Order l (Offer to s) cut) is = absurd (true≢false (sym (and_parts (nat_lt l c.leaders) false is.named).1))
is_line c (event.Replace replacer s cut) is = replace_line c replacer s cut is
is_line c (event.Offer replica to slot) is = offer_line c replica to slot is
is_line c (event.Snap r cut) is = snap_line c r cut is.named
is_line c (event.Crash r) is = crash_line c r is.named
is_line c (event.Restart r) is = restart_line c r is.named

-- its line has less than 1,024 bytes
short_line : (c : Cluster) (e : Event) → IsRecordable c e → nat_lt 1024 (length (line_text e)) ≡ false
unfolding line_text
short_line c e is =
    let line = is_line c e is in
    go (length (line_words e)) (length (join_with_byte 32 (line_words e))) line.few (joined_short (line_words e) line.words)
  where
    go : (words bytes : ℕ) → words ≤ 8 → bytes ≤ 65 * words → nat_lt 1024 bytes ≡ false
    go words bytes few short = let most : bytes ≤ 1024 = omega (arith, few, short) in grind (arith, nat_tests)

pub line_back : (c : Cluster) (e : Event) → IsRecordable c e → line_event c (line_text e) ≡ Ok (Some e)
unfolding line_event line_text
line_back c e is =
    let line = is_line c e is in
    rw (short_line c e is, words_back (line_words e) line.words) line.said

-- ---- the whole text

feed_less : (b : ℕ) → is_break b ≡ false → (b == 10) ≡ false
feed_less b off = grind (arith, nat_tests)

return_less : (b : ℕ) → is_break b ≡ false → (b == 13) ≡ false
return_less b off = grind (arith, nat_tests)

not_last : (w : List ℕ) → Avoids (λ b. b == 13) w → (k : ℕ) → (slice_index w k == 13) ≡ false
not_last [] off k = refl
not_last (b ∷ w) off zero = off.0
not_last (b ∷ w) off (suc k) = not_last w off.1 k

whole_line : (w : List ℕ) → Avoids (λ b. b == 13) w → strip_carriage_return w ≡ w
whole_line w off = rw (not_last w off (length w - 1)) refl

no_feed : (w : List ℕ) → Avoids (λ b. b == 10) w → IsFree w
no_feed [] off = refl
no_feed (b ∷ w) off = rw (off.0, no_feed w off.1) refl

line_avoids : (p : ℕ → Bool) → ((b : ℕ) → is_break b ≡ false → p b ≡ false) → p 32 ≡ false → (c : Cluster) (e : Event) → IsRecordable c e
    → Avoids p (line_text e)
unfolding line_text
line_avoids p less blank c e is = joined_avoids p 32 blank (line_words e) (words_avoid p less (line_words e) (is_line c e is).words)

-- events of which each can be recorded
abbrev AreRecordable : Cluster → List Event → Type 0
AreRecordable c [] = Unit {0}
AreRecordable c (e ∷ es) = IsRecordable c e × AreRecordable c es

each_of : (c : Cluster) (es : List Event) → All (IsRecordable c) es → AreRecordable c es
each_of c [] all = tt
each_of c (e ∷ es) all = (all 0 e (omega arith), each_of c es (λ k d within. all (suc k) d (omega (arith, within))))

lines_are_free : (c : Cluster) (es : List Event) → AreRecordable c es → AreFree (map line_text es)
lines_are_free c [] are = tt
lines_are_free c (e ∷ es) are = (no_feed (line_text e) (line_avoids (λ b. b == 10) feed_less refl c e are.0), lines_are_free c es are.1)

lines_are_whole : (c : Cluster) (es : List Event) → AreRecordable c es → map strip_carriage_return (map line_text es) ≡ map line_text es
lines_are_whole c [] are = refl
lines_are_whole c (e ∷ es) are =
    rw (whole_line (line_text e) (line_avoids (λ b. b == 13) return_less refl c e are.0), lines_are_whole c es are.1) refl

spelled_so : (c : Cluster) (n : ℕ) (es : List Event) → n + length es ≤ 65536 → AreRecordable c es
    → spelled_from c n (map line_text es) ≡ record { events = es; bad = None }
spelled_so c n [] most are = refl
spelled_so c n (e ∷ es) most are =
    rw (within n (length es) most, line_back c e are.0, spelled_so c (n + 1) es (omega (arith, most)) are.1) refl
  where
    within : (n k : ℕ) → n + suc k ≤ 65536 → nat_lt 65535 n ≡ false
    within n k l = grind (arith, nat_tests)

-- the lines of recorded events, as many as a schedule may have, are read as these events
pub events_back : (c : Cluster) (es : List Event) → length es ≤ 65535 → All (IsRecordable c) es → AreRead c es
unfolding schedule_of
events_back c es most all =
    let are = each_of c es all in
    let lines = map line_text es in
    ap (spelled_from c 1) (ap lines_of (sym (append-nil (lines_text lines))) ∙ lines_of_text lines [] (lines_are_free c es are)
    ∙ append-nil (map strip_carriage_return lines) ∙ lines_are_whole c es are) ∙ spelled_so c 1 es (omega (arith, most)) are
