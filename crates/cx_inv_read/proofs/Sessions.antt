-- A client's questions in a session: what is so of the number in each at its asking is so of all that are sent.
use Rattle.cx_inv_run.proofs.Common.{◌≡◌, ℕ, List, [], ◌++◌, sym, subst, refl, Cluster, Event, Kind, RoleId, role, Token, Letter}
use Rattle.cx_inv_run.proofs.Common.{KeptRecord, Msg, acceptor_rules, leader_rules, matchmaker_rules, Outcome, reader_rules, replacer_rules}
use Rattle.cx_inv_run.proofs.Common.{replica_rules, request, run, IsSender, OfKind, Lands, Laws, AllAllowed, anything, State, durable_of}
use Rattle.cx_inv_run.proofs.Common.{HoldsIn, Member-both, Member-one, batcher_kinds, proxy_kinds, acceptor_kinds, matchmaker_kinds}
use Rattle.cx_inv_run.proofs.Common.{replica_kinds, unbatcher_kinds, reader_kinds, leader_kinds, replacer_kinds, run_keeps, run_from_keeps}
use Rattle.cx_inv_run.proofs.Common.{run_append, run_cluster}
use Rattle.cx_base.specs.declared.event.Event.TheVariants as event
use Rattle.cx_base.specs.declared.role.Kind.TheVariants as kind
use Rattle.cx_letter.specs.declared.message.Msg.TheVariants as msg
use Rattle.cx_inv_run.proofs.Steps.{along_anything}
use Rattle.cx_inv_read.specs.Reads.{SessionSays, Sessions}
use Rattle.cx_inv_read.proofs.Requests.{IsSessionFor}
use Rattle.cx_inv_read.proofs.Rows.{Each}
use Rattle.cx_inv_read.proofs.Says.{told_lands}

module _ (t : Token) (Marks : ℕ → Type 0) where
  abbrev Says : List KeptRecord → Letter → Type 0
  Says history d = SessionSays t Marks d.from d.msg

  -- only clients ask so
  others : (k : Kind) → (k ≡ kind.Client → ⊥) → (from : RoleId) (m : Msg) → IsSender k m → SessionSays t Marks from m
  others k other from (msg.SessRead seq n key) s = absurd (other s)
  others k other from m s = tt

  lands : {V : Type 0} (history : List KeptRecord) (sent : List Letter) (states : RoleId → State) → Sessions t Marks history sent states
      → (me : RoleId) (make : V → State) (o : Outcome V) → (me.kind ≡ kind.Client → ⊥) → OfKind me o
      → Lands (Sessions t Marks) history sent states me make o
  lands history sent states told me make o other kinds =
      told_lands Says (λ a r h d x. x) history sent states told me make o (λ d m. others me.kind other d.from d.msg (kinds.sends d m).1)

  abbrev pub IsMarked : ℕ → Event → Type 0
  IsMarked n e = IsSessionFor t e → Marks n

  asks : (n : ℕ) (e : Event) → IsMarked n e → Each (λ d. SessionSays t Marks d.from d.msg) (request n e)
  asks n (event.Write command batcher) marked = Member-one (λ (d : Letter). SessionSays t Marks d.from d.msg) _ tt
  asks n (event.Read client seq floor reader replica key) marked = Member-one (λ (d : Letter). SessionSays t Marks d.from d.msg) _ tt
  asks n (event.Session client seq floor replica key) marked = Member-one (λ (d : Letter). SessionSays t Marks d.from d.msg) _ marked
  asks n (event.Deliver k cut) marked = λ d m. absurd m
  asks n (event.Tick r) marked = λ d m. absurd m
  asks n (event.Order l order cut) marked = λ d m. absurd m
  asks n (event.Snap r cut) marked = λ d m. absurd m
  asks n (event.Replace x set cut) marked = λ d m. absurd m
  asks n (event.Offer p to s) marked = λ d m. absurd m
  asks n (event.Crash r) marked = λ d m. absurd m
  asks n (event.Restart r) marked = λ d m. absurd m

  session_laws : (c : Cluster) → Laws c IsMarked anything (Sessions t Marks)
  session_laws c = record {
    same = λ history sent states others e h. h;
    start = λ states h d m. absurd m;
    stop = λ history sent states me h. h;
    wake = λ history sent states me h down. h;
    ask = λ history sent states n e marked known h.
        Member-both (λ (d : Letter). SessionSays t Marks d.from d.msg) sent (request n e) h (asks n e marked);
    batcher = λ history sent states b v i known h up given.
        lands history sent states h (role kind.Batcher b) _ _ (λ e. cc) (batcher_kinds c (role kind.Batcher b) refl v i);
    leader = λ history sent states l v i known h up given.
        lands history sent states h (role kind.Leader l) _ _ (λ e. cc)
        (leader_kinds c (role kind.Leader l) refl (durable_of leader_rules (role kind.Leader l) history) v i);
    proxy = λ history sent states p v i known h up given.
        lands history sent states h (role kind.Proxy p) _ _ (λ e. cc) (proxy_kinds c (role kind.Proxy p) refl v i);
    acceptor = λ history sent states a i known h up given.
        lands history sent states h (role kind.Acceptor a) _ _ (λ e. cc)
        (acceptor_kinds c (role kind.Acceptor a) refl (durable_of acceptor_rules (role kind.Acceptor a) history) i);
    matchmaker = λ history sent states m i known h up given.
        lands history sent states h (role kind.Matchmaker m) _ _ (λ e. cc)
        (matchmaker_kinds c (role kind.Matchmaker m) refl (durable_of matchmaker_rules (role kind.Matchmaker m) history) i);
    replica = λ history sent states p v i known h up given.
        lands history sent states h (role kind.Replica p) _ _ (λ e. cc)
        (replica_kinds c (role kind.Replica p) refl (durable_of replica_rules (role kind.Replica p) history) v i);
    snap = λ history sent states p v first known h up e. h;
    acceptor_anew = λ history sent states p first known h up e. h;
    reader_anew = λ history sent states p first v known h up e. h;
    unbatcher = λ history sent states u i known h up given.
        lands history sent states h (role kind.Unbatcher u) _ _ (λ e. cc) (unbatcher_kinds c (role kind.Unbatcher u) refl i);
    reader = λ history sent states r v i known h up given. lands history sent states h (role kind.Reader r) _ _ (λ e. cc)
        (reader_kinds c (role kind.Reader r) refl (durable_of reader_rules (role kind.Reader r) history) v i);
    replacer = λ history sent states x v i known h up given.
        lands history sent states h (role kind.Replacer x) _ _ (λ e. cc)
        (replacer_kinds c (role kind.Replacer x) refl (durable_of replacer_rules (role kind.Replacer x) history) v i);
  }

  pub sessions_hold : (c : Cluster) (es : List Event) → AllAllowed IsMarked (run c []) es → HoldsIn (Sessions t Marks) (run c es)
  sessions_hold c es marked = run_keeps c IsMarked anything (Sessions t Marks) (session_laws c) es (along_anything (run c []) es) marked

  pub sessions_from : (c : Cluster) (es more : List Event) → HoldsIn (Sessions t Marks) (run c es) → AllAllowed IsMarked (run c es) more
      → HoldsIn (Sessions t Marks) (run c (es ++ more))
  sessions_from c es more now marked =
      let later = run_from_keeps c IsMarked anything (Sessions t Marks) (session_laws c) (run c es) (run_cluster c es) now more
      (along_anything (run c es) more) marked in
      subst (λ x. HoldsIn (Sessions t Marks) x) (sym (run_append c es more)) later
