-- The rows of a proxy leader, as its code takes them.
use Rattle.std.proofs.Common.{if◌then◌else◌, Option, Result, IsErr, ap, ◌∙◌, sym, arith}
use Rattle.std.proofs.lemmas.Bool.Decides.{nat_tests}
use Rattle.cx_role.specs.Prelude.{◌≡◌, ℕ, ◌≤◌, Bool, true, false, max, List, [], ◌∷◌, ◌&&◌, not, length, map, None, Some, Ok, Err, refl}
use Rattle.cx_role.specs.Prelude.{nat_lt, Cluster, RoleId, Round, Why, is_in, is_before, same_round, Letter, Record, Pending, Outcome}
use Rattle.cx_role.specs.Prelude.{only_word, replied, Running, refused_from, IsReply, ProxyVolatile, proxy_rules, pending_at, phase2a_to}
use Rattle.cx_role.specs.Prelude.{column_for, takes_no_memory}
use Rattle.cx_role.proofs.Common.why
use Rattle.cx_grid.specs.Quorum.{with_mark}
use Rattle.cx_model.specs.Proxy.{raised_to, ask, propose_over, vote_counted, vote_for}
use Rattle.cx_ring.specs.Ring.{RingState, raise_ring}
use Rattle.cx_ring.proofs.Window.{value_at-from}
use Rattle.cx_proxy.specs.Declined.{declined, declined_over, uncounted}
use Rattle.cx_proxy.specs.Holds.{proxy_view}
use Rattle.cx_proxy.specs.Rows.{row_on_proposal, row_on_vote}
use Rattle.cx_proxy.specs.Slots.{ring_with, slot_of}
use Rattle.cx_proxy.proofs.Same.{pending_at_value}

pub proxy_refuses : (c : Cluster) (me : RoleId) (d : Unit {0}) (rs : List Record) → 1 ≤ length rs
    → refused_from proxy_rules c me d 0 rs ≡ Some 0
proxy_refuses c me d [] h = absurd (omega arith)
proxy_refuses c me d (r ∷ rs) h = refl

-- a row that only answers where there is an answer, and else does more
abbrev or_else : Option Why → ProxyVolatile → Outcome ProxyVolatile → Outcome ProxyVolatile
or_else None v more = more
or_else (Some w) v more = only_word w v

-- one test more in both
tested : (b : Bool) (w : Why) (v : ProxyVolatile) (row more : Outcome ProxyVolatile) (o : Option Why)
    → (b ≡ false → row ≡ or_else o v more)
    → (if b then only_word w v else row) ≡ or_else (if b then Some w else o) v more
tested true w v row more o e = refl
tested false w v row more o e = e refl

-- a row that keeps nothing, as a reply
replies : {E : Type 0} {s : Running (Unit {0}) ProxyVolatile} {row : Outcome ProxyVolatile}
    (w : Why) (v : ProxyVolatile) (sent : List Letter) → row ≡ replied w v sent
    → IsReply {E = E} proxy_rules s row (Ok w) (record s { volatile = v }) sent
replies w v sent e = rw e (record {
  ok = record { why = refl; nothing = refl; state = refl; sends = refl };
  no_memory = tt;
  spared = tt;
  sends = tt;
})

module _ (c : Cluster) (me : RoleId) (live : Bool) (ring : RingState Pending) (p : Pending) where
  abbrev before : Running (Unit {0}) ProxyVolatile
  before = proxy_view c me live ring

  abbrev later : ProxyVolatile
  later = raised_to p.cw before.volatile

  over : (old : Option Pending) → propose_over c me later p old ≡ or_else (declined_over p old) later (ask c me later p)
  over None = refl
  over (Some old) =
      tested (is_before p.round old.round) why.Old later _ _ _ (λ _.
      tested (same_round old.round p.round) why.Same later _ _ None (λ _. refl))

  -- what lies below the watermark doesn't matter
  proposes : row_on_proposal before p ≡ or_else (declined ring p) later (ask c me later p)
  proposes =
      tested (nat_lt p.slot later.known) why.Past later _ _ _ (λ from.
      let same : pending_at p.slot later.pending ≡ pending_at p.slot ring.items =
      pending_at_value p.slot later.pending
      ∙ value_at-from slot_of later.known p.slot ring.items (grind (arith, nat_tests, from))
      ∙ sym (pending_at_value p.slot ring.items) in
      ap (propose_over c me later p) same ∙ over (pending_at p.slot ring.items))

  -- a value that is declined raises the watermark
  pub declines : {E : Type 0} (w : Why) → declined ring p ≡ Some w
      → IsReply {E = E} proxy_rules before (row_on_proposal before p) (Ok w)
      (proxy_view c me live (raise_ring slot_of p.cw ring)) []
  declines w h = replies w later [] (proposes ∙ ap (λ (o : Option Why). or_else o later (ask c me later p)) h)

  asked : declined ring p ≡ None → row_on_proposal before p ≡ ask c me later p
  asked h = proposes ∙ ap (λ (o : Option Why). or_else o later (ask c me later p)) h

  -- another is asked for
  pub asks : {E : Type 0} → declined ring p ≡ None
      → IsReply {E = E} proxy_rules before (row_on_proposal before p) (Ok why.Asking)
      (proxy_view c me live (ring_with p (raise_ring slot_of p.cw ring))) (map (phase2a_to me p) (column_for c p))
  asks h = replies why.Asking _ _ (asked h)

  -- which takes memory
  pub lacks : {E : Type 0} (r : Result Why E) → IsErr r → declined ring p ≡ None
      → IsReply proxy_rules before (row_on_proposal before p) r before []
  lacks (Ok w) is h = cc
  lacks (Err e) is h = record {
    ok = tt;
    no_memory = refl;
    spared = ap (λ (o : Outcome ProxyVolatile). takes_no_memory o.why) (asked h);
    sends = refl;
  }

  -- and is not past
  pub not_past : declined ring p ≡ None → max ring.first p.cw ≤ p.slot
  not_past h = grind (arith, nat_tests, h)

-- a vote that doesn't count changes nothing
pub vote_stops : {E : Type 0} (s : Running (Unit {0}) ProxyVolatile) (acceptor : ℕ) (i : Round) (slot : ℕ)
    (p : Pending) (w : Why) → pending_at slot s.volatile.pending ≡ Some p → uncounted acceptor i p ≡ Some w
    → IsReply {E = E} proxy_rules s (row_on_vote s acceptor i slot) (Ok w) s []
vote_stops s acceptor i slot p w is h = replies w s.volatile [] (
    ap (vote_for s.cluster s.me s.volatile acceptor i) is
    ∙ votes
    ∙ ap (λ (o : Option Why). or_else o s.volatile counted) h)
  where
    counted : Outcome ProxyVolatile
    counted = vote_counted s.cluster s.me s.volatile (record p { marks = with_mark acceptor p.marks })

    votes : vote_for s.cluster s.me s.volatile acceptor i (Some p) ≡ or_else (uncounted acceptor i p) s.volatile counted
    votes =
        tested (not (same_round p.round i && is_in acceptor p.grid.members)) why.Unasked _ _ _ _ (λ _.
        tested p.done why.Done _ _ _ _ (λ _. tested (is_in acceptor p.marks) why.Same _ _ _ None (λ _. refl)))
