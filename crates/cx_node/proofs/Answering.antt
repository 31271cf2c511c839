-- What a node answered, from what hosting answered over an input that was accepted.
use Rattle.cx_role.proofs.Common.{◌≡◌, ◌⊎◌, ◌<◌, ℕ, arith, Bool, true, false, List, Option, None, Some, Result, Err, refl, sym, ap, ◌∙◌}
use Rattle.cx_role.proofs.Common.{subst, inl, inr, IfSome, is_some, slice_get, same_Some, Rises, Cluster, Event, RoleId}
use Rattle.cx_seat.specs.Prelude.{Action, Filled, Took, Files, ParsedLines, IsFirstBad, IsFirstUsed, is_store_used}
use Rattle.cx_base.specs.declared.status.Status.{Status}
use Rattle.cx_base.specs.declared.status.Status.TheVariants as status
use Rattle.cx_node.specs.declared.input.NodeInput.{NodeInput}
use Rattle.cx_node.specs.declared.input.NodeInput.TheVariants.{Lines}
use Rattle.cx_node.specs.declared.input.Refusal.{Refusal}
use Rattle.cx_node.specs.declared.input.Refusal.TheVariants as refusal
use Rattle.cx_node.specs.declared.node.RunEnd.{RunEnd}
use Rattle.cx_node.specs.declared.node.RunEnd.TheVariants as end
use Rattle.cx_node.specs.Hosting.{HasOpened, HasRun, HostAnswered, HostBinding, HostDid, HostEnds, HostEndsAt}
use Rattle.cx_node.specs.Input.{FailsRead, input_of, may_host, refused_of}
use Rattle.cx_node.specs.Serving.{AllRead, IsNodeAnswer, AnswersPart, NodeCompletes, Ends, EndsAt, EndsBinding, EndsWell, IsUntouched}
use Rattle.cx_node.specs.Serving.{Outside, InputSays, TellsBad, TellsUsed, options_of, recorded_header, refused_status}
use Rattle.cx_seat.proofs.FirstBad.{one_first}
use Rattle.cx_node.proofs.HostedRuns.{records_header}

-- what was heard is what the input says, and it is refused for nothing
pub says_heard : (recording : Bool) (roles : List RoleId) (left : Option (List ℕ)) (text : List ℕ) (c : Cluster) (spelled : ParsedLines)
    → IfSome left (λ all. input_of all ≡ Lines text c spelled) → spelled.bad ≡ None → may_host recording c roles ≡ true
    → InputSays recording roles left (recorded_header recording text) c spelled.events
says_heard recording roles left text c spelled heard good hosts = record { text = text; header_is = refl; said = said left heard }
  where
    said : (left : Option (List ℕ)) → IfSome left (λ all. input_of all ≡ Lines text c spelled)
        → IfSome left (λ all. (input_of all ≡ Lines text c (record { events = spelled.events; bad = None }))
        × (refused_of recording roles (input_of all) ≡ None))
    said None heard = tt
    said (Some all) heard =
        let so = heard ∙ ap (λ b. Lines text c (record { events = spelled.events; bad = b })) good in
        (so, ap (refused_of recording roles) so ∙ rw hosts refl)

-- a node that has a header is to record
records_so : (recording : Bool) (roles : List RoleId) (left header : Option (List ℕ)) (c : Cluster) (events : List Event)
    → InputSays recording roles left header c events → is_some header ≡ recording
records_so recording roles left header c events says = ap is_some says.header_is ∙ records_header recording says.text

pub answered_so : (recording : Bool) (roles : List RoleId) (tend : Option ℕ) (header : Option (List ℕ)) (c : Cluster) (window : ℕ)
    (events : List Event) (turns : ℕ) (old new : Outside) (s : Status) → InputSays recording roles old.left header c events
    → AllRead old new
    → HostAnswered roles tend header c (options_of tend window) events turns old new s
    → IsNodeAnswer roles tend window recording turns old new s
answered_so recording roles tend header c window events turns old new s says reads host = record {
  done = λ e. ended end.Done (did status.Done e);
  turns_ended = λ e. ended end.Turns (did status.Turns e);
  bad_words = λ e. absurd (did status.BadWords e);
  bad_input = λ line e. absurd (did (status.BadInput line) e);
  read_fault = λ e. absurd (did status.ReadFault e);
  link_fault = λ e. let h = did status.LinkFault e in (h.1, ended_at None h.0);
  link_fault_at = λ e. let h = did status.LinkFault e in elim h.2 [
    | inl b ↦ inl (binding b)
    | inr t ↦ inr (t.0, ended_at (Some (Took t.0)) t.1)
  ];
  write_fault = λ e. let h = did status.WriteFault e in (h.1, ended_at None h.0);
  store_fault = λ role e. let h = did (status.StoreFault role) e in (h.1, ended_at None h.0);
  store_fault_at = λ role e. let h = did (status.StoreFault role) e in elim h.2 [
    | inl b ↦ inl (binding b)
    | inr x ↦ inr (header, c, events, x.0, x.1, x.2, x.3, says, reads, x.4, x.5, x.6)
  ];
  bad_store = λ role at e. let h = did (status.BadStore role at) e in ended_at None h.0;
  bad_place = λ role at e t. let h = did (status.BadStore role at) e in (header, c, events, says, h.1 t);
  not_fresh = λ role e. let h = did (status.NotFresh role) e in (records h.1, ended_at None h.0, h.2);
  used = λ role e t. let h = did (status.NotFresh role) e in h.3 t;
  record_full = λ e. let h = did status.RecordFull e in (records h.1, ended_at (Some Filled) h.0);
  no_memory = λ e. inr (ended_at None (did status.NoMemory e));
  heard = inl reads.1;
  written = host.written;
  linked = host.linked;
  stored = host.stored;
}
  where
    did : (t : Status) → s ≡ t → HostDid roles tend header c (options_of tend window) events turns old new t
    did t e = subst (HostDid roles tend header c (options_of tend window) events turns old new) e host.did

    records : is_some header ≡ true → recording ≡ true
    records has = sym (records_so recording roles old.left header c events says) ∙ has

    ended : (e : RunEnd) → HostEnds roles tend header c (options_of tend window) events turns e old new
        → Ends roles tend window recording turns e old new
    ended e h = (header, c, events, h.0, h.1, says, reads, h.2, h.3)

    binding : HostBinding roles c old new → EndsBinding roles recording old new
    binding b = (header, c, events, b.0, says, reads, b.1)

    ended_at : (next : Option Action) → HostEndsAt next roles tend header c (options_of tend window) events turns old new
        → EndsAt next roles tend window recording turns old new
    ended_at next h = (header, c, events, h.0, h.1, h.2, says, reads, h.3, h.4, h.5)

-- a failed read of an input that is refused
pub heard_so : (recording : Bool) (roles : List RoleId) (left left_after : Option (List ℕ)) (reads reads_after : ℕ) (why : Refusal)
    (s : Status) → s ≡ refused_status why
    → (reads_after ≡ reads) ⊎ FailsRead recording roles left left_after why → (reads_after ≡ reads)
    ⊎ AnswersPart recording roles left left_after s
heard_so recording roles left left_after reads reads_after why s is (inl still) = inl still
heard_so recording roles left left_after reads reads_after why s is (inr fails) = inr (why, is, fails)

pub err_is : {A : Type 0} {why other : Refusal} → why ≡ other → ◌≡◌ {A = Result A Refusal} (Err why) (Err other)
err_is e = ap Err e

-- what is answered where the input is refused, and nothing else was used
pub refused_so : (recording : Bool) (roles : List RoleId) (tend : Option ℕ) (window turns : ℕ) (old new : Outside) (why : Refusal)
    (s : Status) → s ≡ refused_status why → IsUntouched old new
    → (why ≡ refusal.BadWords → IfSome old.left (λ all. refused_of recording roles (input_of all) ≡ Some refusal.BadWords))
    → ((line : ℕ) → why ≡ refusal.BadInput line → IfSome old.left
    (λ all. refused_of recording roles (input_of all) ≡ Some (refusal.BadInput line)))
    → (why ≡ refusal.ReadFault → Rises old.reads new.reads) → (new.reads ≡ old.reads)
    ⊎ FailsRead recording roles old.left new.left why → IsNodeAnswer roles tend window recording turns old new s
refused_so recording roles tend window turns old new why s is untouched words line fault fails = record {
  done = λ e. absurd (untrue (ran e));
  turns_ended = λ e. absurd (untrue (ran e));
  bad_words = λ e. (words (of_words why (sym is ∙ e)), untouched);
  bad_input = λ n e. (line n (of_line why n (sym is ∙ e)), untouched);
  read_fault = λ e. (fault (of_fault why (sym is ∙ e)), untouched);
  link_fault = λ e. absurd (untrue (ran e));
  link_fault_at = λ e. absurd (untrue (ran e));
  write_fault = λ e. absurd (untrue (ran e));
  store_fault = λ role e. absurd (untrue (ran e));
  store_fault_at = λ role e. absurd (untrue (ran e));
  bad_store = λ role at e. absurd (untrue (ran e));
  bad_place = λ role at e. absurd (untrue (ran e));
  not_fresh = λ role e. absurd (untrue (ran e));
  used = λ role e. absurd (untrue (ran e));
  record_full = λ e. absurd (untrue (ran e));
  no_memory = λ e. inl untouched;
  heard = heard_so recording roles old.left new.left old.reads new.reads why s is fails;
  written = λ _. untouched.writes;
  linked = λ _. untouched.links;
  stored = λ role _. untouched.stores role;
}
  where
    -- whether a status is that of an input that is refused
    before_run : Status → Bool
    before_run status.NoMemory = true
    before_run status.ReadFault = true
    before_run (status.BadInput line) = true
    before_run status.BadWords = true
    before_run t = false

    is_before : (why : Refusal) → before_run (refused_status why) ≡ true
    is_before refusal.NoMemory = refl
    is_before refusal.ReadFault = refl
    is_before (refusal.BadInput line) = refl
    is_before refusal.BadWords = refl

    untrue : false ≡ true → ⊥
    untrue e = cc

    ran : {t : Status} → s ≡ t → before_run t ≡ true
    ran e = ap before_run (sym e ∙ is) ∙ is_before why

    of_words : (why : Refusal) → refused_status why ≡ status.BadWords → why ≡ refusal.BadWords
    of_words refusal.NoMemory e = cc
    of_words refusal.ReadFault e = cc
    of_words (refusal.BadInput line) e = cc
    of_words refusal.BadWords e = refl

    of_line : (why : Refusal) (n : ℕ) → refused_status why ≡ status.BadInput n → why ≡ refusal.BadInput n
    of_line refusal.NoMemory n e = cc
    of_line refusal.ReadFault n e = cc
    of_line (refusal.BadInput line) n e = let same : line ≡ n = cc in ap refusal.BadInput same
    of_line refusal.BadWords n e = cc

    of_fault : (why : Refusal) → refused_status why ≡ status.ReadFault → why ≡ refusal.ReadFault
    of_fault refusal.NoMemory e = cc
    of_fault refusal.ReadFault e = refl
    of_fault (refusal.BadInput line) e = cc
    of_fault refusal.BadWords e = cc

not_refused : (recording : Bool) (roles : List RoleId) (left : Option (List ℕ)) (why : Refusal) (all : List ℕ) → left ≡ Some all
    → refused_of recording roles (input_of all) ≡ None
    → IfSome left (λ all. refused_of recording roles (input_of all) ≡ Some why) → ⊥
not_refused recording roles left why all known accepted refused =
    let here : refused_of recording roles (input_of all) ≡ Some why = subst
    (λ o. IfSome o (λ all. refused_of recording roles (input_of all) ≡ Some why)) known refused in
    none_some (sym accepted ∙ here)
  where
    none_some : {x : Refusal} → None ≡ Some x → ⊥
    none_some e = cc

-- what is answered where all is good and nothing fails
pub completes_so : (recording : Bool) (roles : List RoleId) (tend : Option ℕ) (window turns : ℕ) (old new : Outside) (s : Status)
    → IsNodeAnswer roles tend window recording turns old new s → NodeCompletes recording roles old new s
completes_so recording roles tend window turns old new s is whole good = go s refl
  where
    go : (t : Status) → s ≡ t → EndsWell recording t
    go status.Done e = tt
    go status.Turns e = tt
    go status.NoMemory e = tt
    go status.RecordFull e = (is.record_full e).0
    go (status.NotFresh role) e = (is.not_fresh role e).0
    go status.BadWords e =
        absurd (not_refused recording roles old.left refusal.BadWords good.all good.left good.accepted (is.bad_words e).0)
    go (status.BadInput line) e =
        absurd (not_refused recording roles old.left (refusal.BadInput line) good.all good.left good.accepted
        (is.bad_input line e).0)
    go status.ReadFault e = absurd (whole.reads (is.read_fault e).0)
    go status.LinkFault e = absurd (whole.links (is.link_fault e).0)
    go status.WriteFault e = absurd (whole.writes (is.write_fault e).0)
    go (status.StoreFault role) e = absurd (whole.stores role (is.store_fault role e).0)
    go (status.BadStore role at) e =
        let p = is.bad_place role at e good.tells in absurd
        (good.stores p.0 p.1 p.2 p.4.place role at p.3 p.4.here p.4.bad)

-- ---- stores that are none of their roles'

-- a whole input says one cluster
one_cluster : (recording : Bool) (roles : List RoleId) (left : Option (List ℕ)) (all : List ℕ) (header other : Option (List ℕ))
    (c d : Cluster)
    (events more : List Event) → left ≡ Some all → InputSays recording roles left header c events
    → InputSays recording roles left other d more → c ≡ d
one_cluster recording roles left all header other c d events more known one two =
    same_cluster (sym (said header c events one).0 ∙ (said other d more two).0)
  where
    said : (h : Option (List ℕ)) (e : Cluster) (es : List Event) (so : InputSays recording roles left h e es)
        → (input_of all ≡ Lines so.text e (record { events = es; bad = None })) × (refused_of recording roles (input_of all) ≡ None)
    said h e es so = subst (λ o. IfSome o (λ all. (input_of all ≡ Lines so.text e (record { events = es; bad = None }))
        × (refused_of recording roles (input_of all) ≡ None))) known so.said

    same_cluster : {t u : List ℕ} → ◌≡◌ {A = NodeInput} (Lines t c (record { events = events; bad = None }))
        (Lines u d (record { events = more; bad = None })) → c ≡ d
    same_cluster e = cc

-- what is answered where the whole input is known and the store of a hosted role is none of its own
pub tells_bad_so : (recording : Bool) (roles : List RoleId) (tend : Option ℕ) (header : Option (List ℕ)) (c : Cluster) (window : ℕ)
    (events : List Event) (turns : ℕ) (old new : Outside) (s : Status) → InputSays recording roles old.left header c events
    → HostAnswered roles tend header c (options_of tend window) events turns old new s
    → TellsBad recording roles old new s
tells_bad_so recording roles tend header c window events turns old new s says host whole tells all known other d more role at said bad =
    go s refl
  where
    first : IsFirstBad roles c old.stored role at
    first =
        subst (λ e. IsFirstBad roles e old.stored role at)
        (one_cluster recording roles old.left all other header d c more events known said says) bad

    did : (t : Status) → s ≡ t → HostDid roles tend header c (options_of tend window) events turns old new t
    did t e = subst (HostDid roles tend header c (options_of tend window) events turns old new) e host.did

    not_opened : (t : Status) → s ≡ t → HasOpened t → ⊥
    not_opened t e opened = host.good (subst HasOpened (sym e) opened) tells first.place role at first.here first.bad

    go : (t : Status) → s ≡ t → (s ≡ status.BadStore role at) ⊎ (s ≡ status.NoMemory)
    go status.Done e = absurd (not_opened status.Done e tt)
    go status.Turns e = absurd (not_opened status.Turns e tt)
    go status.NoMemory e = inr e
    go status.BadWords e = absurd (did status.BadWords e)
    go (status.BadInput line) e = absurd (did (status.BadInput line) e)
    go status.ReadFault e = absurd (did status.ReadFault e)
    go status.LinkFault e = absurd (whole.links (did status.LinkFault e).1)
    go status.WriteFault e = absurd (whole.writes (did status.WriteFault e).1)
    go status.RecordFull e = absurd (not_opened status.RecordFull e tt)
    go (status.NotFresh other) e = absurd (not_opened (status.NotFresh other) e tt)
    go (status.StoreFault other) e = absurd (whole.stores other (did (status.StoreFault other) e).1)
    go (status.BadStore other place) e =
        let one = one_first roles c old.stored other role place at ((did
        (status.BadStore other place) e).1 tells) first in
        inl (e ∙ ap (λ r. status.BadStore r place) one.0 ∙ ap (λ n. status.BadStore role n) one.1)

-- the same where the input was refused
pub refused_tells_bad : (recording : Bool) (roles : List RoleId) (tend : Option ℕ) (window turns : ℕ) (old new : Outside) (why : Refusal)
    (s : Status) → s ≡ refused_status why → IsNodeAnswer roles tend window recording turns old new s → TellsBad recording roles old new s
refused_tells_bad recording roles tend window turns old new why s is answered whole tells all known header c events role at said bad =
    go why is
  where
    accepted : refused_of recording roles (input_of all) ≡ None
    accepted = (subst (λ o. IfSome o (λ all. (input_of all ≡ Lines said.text c (record { events = events; bad = None }))
        × (refused_of recording roles (input_of all) ≡ None))) known said.said).1

    go : (why : Refusal) → s ≡ refused_status why → (s ≡ status.BadStore role at) ⊎ (s ≡ status.NoMemory)
    go refusal.NoMemory e = inr e
    go refusal.ReadFault e = absurd (whole.reads (answered.read_fault e).0)
    go (refusal.BadInput line) e =
        absurd (not_refused recording roles old.left (refusal.BadInput line) all known accepted (answered.bad_input line e).0)
    go refusal.BadWords e =
        absurd (not_refused recording roles old.left refusal.BadWords all known accepted (answered.bad_words e).0)

-- ---- stores that have records

by_order : (m n : ℕ) → (m < n) ⊎ ((m ≡ n) ⊎ (n < m))
by_order m n = grind arith

not_both : (b : Bool) → b ≡ true → b ≡ false → ⊥
not_both b is other = cc

-- one store is the first that has a record
one_used : (roles : List RoleId) (stored : RoleId → Files) (role other : RoleId) → IsFirstUsed roles stored role
    → IsFirstUsed roles stored other → role ≡ other
one_used roles stored role other one two = go (by_order one.place two.place)
  where
    go : (one.place < two.place) ⊎ ((one.place ≡ two.place) ⊎ (two.place < one.place)) → role ≡ other
    go (inl before) = absurd (not_both (is_store_used role (stored role)) one.used (two.first one.place role before one.here))
    go (inr (inr behind)) = absurd (not_both (is_store_used other (stored other)) two.used (one.first two.place other behind two.here))
    go (inr (inl place)) = same_Some role other (sym one.here ∙ ap (slice_get roles) place ∙ two.here)

-- what is answered where all is good and nothing fails, and a store of a node that is to record has a record
pub tells_used_so : (recording : Bool) (roles : List RoleId) (tend : Option ℕ) (header : Option (List ℕ)) (c : Cluster) (window : ℕ)
    (events : List Event) (turns : ℕ) (old new : Outside) (s : Status) → InputSays recording roles old.left header c events
    → HostAnswered roles tend header c (options_of tend window) events turns old new s
    → TellsUsed recording roles old new s
tells_used_so recording roles tend header c window events turns old new s says host whole good records role first =
    go s refl
  where
    did : (t : Status) → s ≡ t → HostDid roles tend header c (options_of tend window) events turns old new t
    did t e = subst (HostDid roles tend header c (options_of tend window) events turns old new) e host.did

    not_run : (t : Status) → s ≡ t → HasRun t → ⊥
    not_run t e run = not_both (is_store_used role (old.stored role)) first.used
        (host.unused (subst HasRun (sym e) run) (records_so recording roles old.left header c events says ∙ records) good.tells
        first.place role first.here)

    go : (t : Status) → s ≡ t → (s ≡ status.NotFresh role) ⊎ (s ≡ status.NoMemory)
    go status.Done e = absurd (not_run status.Done e tt)
    go status.Turns e = absurd (not_run status.Turns e tt)
    go status.NoMemory e = inr e
    go status.BadWords e = absurd (did status.BadWords e)
    go (status.BadInput line) e = absurd (did (status.BadInput line) e)
    go status.ReadFault e = absurd (did status.ReadFault e)
    go status.LinkFault e = absurd (whole.links (did status.LinkFault e).1)
    go status.WriteFault e = absurd (whole.writes (did status.WriteFault e).1)
    go status.RecordFull e = absurd (not_run status.RecordFull e tt)
    go (status.StoreFault other) e = absurd (whole.stores other (did (status.StoreFault other) e).1)
    go (status.BadStore other at) e =
        let bad = (did (status.BadStore other at) e).1 good.tells in
        absurd (good.stores header c events bad.place other at says bad.here bad.bad)
    go (status.NotFresh other) e =
        inl (e ∙ ap status.NotFresh (one_used roles old.stored other role ((did (status.NotFresh other) e).3 good.tells) first))

-- the same where the input was refused
pub refused_tells_used : (recording : Bool) (roles : List RoleId) (tend : Option ℕ) (window turns : ℕ) (old new : Outside) (why : Refusal)
    (s : Status) → s ≡ refused_status why → IsNodeAnswer roles tend window recording turns old new s → TellsUsed recording roles old new s
refused_tells_used recording roles tend window turns old new why s is answered whole good records role first =
    go why is
  where
    go : (why : Refusal) → s ≡ refused_status why → (s ≡ status.NotFresh role) ⊎ (s ≡ status.NoMemory)
    go refusal.NoMemory e = inr e
    go refusal.ReadFault e = absurd (whole.reads (answered.read_fault e).0)
    go (refusal.BadInput line) e =
        absurd (not_refused recording roles old.left (refusal.BadInput line) good.all good.left good.accepted (answered.bad_input line e).0)
    go refusal.BadWords e =
        absurd (not_refused recording roles old.left refusal.BadWords good.all good.left good.accepted (answered.bad_words e).0)
