-- How a hosted client stands beside the model's run of what was recorded.
use Rattle.cx_inv_run.proofs.Common.{◌≡◌, ◌<◌, ℕ, true, Option, Some, ap, sym, ◌∙◌, subst, drop, length, Cluster, Cut, Event, Happened}
use Rattle.cx_inv_run.proofs.Common.{Token, heard_by, Member, names_role, token_of, was_sent, World, start, Letter}
use Rattle.cx_base.specs.declared.event.Event.TheVariants as event
use Rattle.cx_client.specs.Asking.{shifted}
use Rattle.cx_client.specs.Client.{ClientState, IsClient, left}
use Rattle.cx_client.proofs.Windows.{one_number}
use Rattle.cx_client.specs.Window.{event_with_floor}
use Rattle.cx_model.specs.Heard.{is_heard}
use Rattle.cx_record.specs.Readable.{IsRecordable}
use Rattle.cx_script.specs.Requests.{number_of, rise_above}
use Rattle.cx_course.specs.Alike.{IsFreshClient}

-- Every datagram is from a role of the cluster, and whatever was delivered had been sent. So a client hears of each answer that is
-- delivered to it, as the model counts, and what was heard of earlier datagrams stays as it was.
pub record IsTraced (w : World) : Type 0 where
  pub named : (d : Letter) → Member d w.sent → names_role w.cluster d.from ≡ true
  pub there : (h : Happened) (n : ℕ) (cut : Cut) → Member h w.events → is_heard h.why ≡ true → h.event ≡ event.Deliver n cut
      → n < length w.sent

-- a request that went out is a line of the script, perhaps to others, with a floor that is below the number of each line that is left
pub record IsTold (s : ClientState) (e : Event) : Type 0 where
  pub line : Event
  pub floor : ℕ
  pub shift : Option ℕ
  pub own : Member line s.script
  pub is : e ≡ event_with_floor floor (shifted s.cluster shift line)
  pub below : (l : Event) → Member l (left s) → floor < number_of l

-- a client that has heard nothing, and else is as this one
abbrev pub unheard : ClientState → ClientState
unheard s = record s { heard = 0 }

-- A hosted client: each of its requests that went out is one of its script's, and it has heard what was delivered to it.
pub record IsAsker (w : World) (s : ClientState) : Type 0 where
  -- what it has heard need not have 64 bits
  pub client : IsClient (unheard s)
  pub cluster : s.cluster ≡ w.cluster
  pub named : names_role w.cluster s.me ≡ true
  pub lines : (l : Event) → Member l s.script → IsRecordable w.cluster l
  -- two lines have different numbers
  pub one_line : (a b : Event) → Member a s.script → Member b s.script → number_of a ≡ number_of b → a ≡ b
  pub asked : (h : Happened) (t : Token) → Member h w.events → was_sent h ≡ true → token_of h.event ≡ Some t → t.client ≡ s.me.index
      → IsTold s h.event
  pub heard : s.heard ≡ heard_by s.me.index w.sent w.events

-- some events change nothing for the client of this index: not what it asked for, and not what it has heard
pub record SparesClient (w after : World) (index : ℕ) : Type 0 where
  pub asked : (h : Happened) (t : Token) → Member h after.events → was_sent h ≡ true → token_of h.event ≡ Some t → t.client ≡ index
      → Member h w.events
  pub heard : heard_by index after.sent after.events ≡ heard_by index w.sent w.events

-- so it stands as before
pub still_asks : (w after : World) (s : ClientState) → after.cluster ≡ w.cluster → SparesClient w after s.me.index → IsAsker w s
    → IsAsker after s
still_asks w after s same spares is = record {
  client = is.client;
  cluster = is.cluster ∙ sym same;
  named = ap (λ c. names_role c s.me) same ∙ is.named;
  lines = λ l m. subst (λ c. IsRecordable c l) (sym same) (is.lines l m);
  one_line = is.one_line;
  asked = λ h t m sent token mine. is.asked h t (spares.asked h t m sent token mine) sent token mine;
  heard = is.heard ∙ sym spares.heard;
}

-- ---- how it begins

-- nothing was sent yet
pub first_traced : (c : Cluster) → IsTraced (start c)
first_traced c = record { named = λ d m. absurd m; there = λ h n cut m heard is. absurd m }

-- a fresh client has asked for nothing
pub first_asker : (c : Cluster) (s : ClientState) → IsFreshClient c s → IsAsker (start c) s
first_asker c s fresh = record {
  client = subst IsClient (ap (λ (n : ℕ). record s { heard = n }) fresh.heard) fresh.client;
  cluster = fresh.cluster;
  named = fresh.named;
  lines = fresh.lines;
  one_line = λ a b m o same. one_number 0 s.script rising a b m o same;
  asked = λ h t m sent token mine. absurd m;
  heard = fresh.heard;
}
  where
    rising : rise_above 0 s.script ≡ true
    rising = subst (λ (n : ℕ). rise_above 0 (drop n s.script) ≡ true) fresh.done fresh.client.script.rising
