-- What was first asked for after an answer comes later than it.
use Rattle.cx_inv_run.proofs.Common.{◌≡◌, ◌⊎◌, ℕ, ◌<◌, ◌≤◌, true, false, List, ◌++◌, Option, Some, inl, inr, ap, sym, subst}
use Rattle.cx_inv_run.proofs.Common.{◌∙◌, refl, arith, cases_lt, true≢false, Cluster, Command, Event, Reply, RoleId, Token, role}
use Rattle.cx_inv_run.proofs.Common.{letter, commands_of, chosen_prefix, Stands, Member, run, was_asked, WasRead}
use Rattle.cx_base.specs.declared.event.Event.TheVariants as event
use Rattle.cx_base.specs.declared.role.Kind.TheVariants as kind
use Rattle.cx_letter.specs.declared.message.Msg.TheVariants as msg
use Rattle.cx_letter.specs.Letter.{Letter}
use Rattle.cx_model.specs.Promises.{WasSent}
use Rattle.cx_inv_vote.proofs.Agree.{agreement}
use Rattle.cx_inv_list.proofs.Answers.{one_list, chosen_asked, chosen_later, reads_tell}
use Rattle.cx_inv_list.proofs.Prefix.{prefix_chosen}
use Rattle.cx_inv_list.proofs.Requests.{requests_are_once}
use Rattle.cx_inv_list.proofs.Right.{get_there}
use Rattle.cx_inv_read.proofs.Questions.{answers_hold}
use Rattle.cx_inv_read.proofs.Requests.{was_asked_by}
use Rattle.cx_inv_read.proofs.Results.{after_answers, after_reads}
use Rattle.cx_inv_list.proofs.Once.{Member-in}
use Rattle.cx_linear.proofs.Weave.{call_by}

-- an answer by this number of slots was sent, to a command or to a read
abbrev pub IsTold : List Letter → ℕ → Type 0
IsTold sent at =
    ((from : RoleId) × (to : RoleId) × (seq : ℕ) × (reply : Reply) × Member (letter from to (msg.Answer seq at reply)) sent)
    ⊎ ((from : RoleId) × (to : RoleId) × (seq : ℕ) × (found : Option (List ℕ)) × Member (letter from to (msg.ReadAnswer seq at found)) sent)

command_asked : (c : Cluster) (es : List Event) (t : Token) (command : Command) → t ≡ (call_by command).token
    → WasSent (run c es).events command
    → was_asked t (run c es).events ≡ true
command_asked c es t command own (b, m) = was_asked_by t (run c es) (event.Write command b) m (ap (λ u. Some u) (sym own))

pub read_asked : (c : Cluster) (es : List Event) (t : Token) (key : List ℕ) → WasRead (run c es).events t.client t.seq key
    → was_asked t (run c es).events ≡ true
read_asked c es t key (floor, reader, replica, m) =
    was_asked_by t (run c es) (event.Read t.client t.seq floor reader replica key) m refl

-- a command
pub command_later : (c : Cluster) (then later : List Event) (at : ℕ) → IsTold (run c then).sent at → (t : Token)
    → was_asked t (run c then).events ≡ false → (s : ℕ) (before : List Command) (command : Command)
    → Stands (chosen_prefix (run c (then ++ later)).kept) s before command → t ≡ (call_by command).token → at ≤ s
command_later c then later at (inl told) t unasked s before command h own =
    one_list.order c (then ++ later) then later refl told.0 told.1 told.2 at told.3 told.4 s before command h
    (λ sent. true≢false (sym (command_asked c then t command own sent) ∙ unasked))
command_later c then later at (inr told) t unasked s before command h own =
    elim (cases_lt s at) [ inl l ↦ absurd (earlier l) | inr l ↦ omega arith ]
  where
    earlier : s < at → ⊥
    earlier l =
        let within = (reads_tell c then told.0 told.1 told.2 at told.3 told.4).within in
        let u = get_there (chosen_prefix (run c then).kept) s (omega arith) in
        let old = prefix_chosen (run c then).kept s u.0 u.1 in
        let same : h.value ≡ u.0 = agreement c (then ++ later) s h.value u.0 (prefix_chosen (run c (then ++ later)).kept s h.value h.has)
        (chosen_later c then later s u.0 old) in
        let member : Member command (commands_of u.0) =
        subst (λ v. Member command (commands_of v)) same
        (subst (λ ks. Member command ks) (sym h.place) (Member-in command h.earlier h.later)) in
        true≢false (sym (command_asked c then t command own (chosen_asked c then s u.0 old command member)) ∙ unasked)

-- a client is answered
pub to_client : (c : Cluster) (es : List Event) (from to : RoleId) (seq n : ℕ) (found : Option (List ℕ))
    → Member (letter from to (msg.ReadAnswer seq n found)) (run c es).sent → to ≡ role kind.Client to.index
to_client c es from to seq n found m =
    let x = answers_hold c es _ m in
    x.client_is ∙ ap (λ k. role kind.Client k) (sym (ap (λ (r : RoleId). r.index) x.client_is))

-- a read
pub read_later : (c : Cluster) (then later : List Event) (at : ℕ) → IsTold (run c then).sent at → (t : Token)
    → was_asked t (run c then).events ≡ false → (key : List ℕ) → WasRead (run c (then ++ later)).events t.client t.seq key
    → (from to : RoleId) (n : ℕ) (found : Option (List ℕ)) → to.index ≡ t.client
    → Member (letter from to (msg.ReadAnswer t.seq n found)) (run c (then ++ later)).sent → at ≤ n
read_later c then later at (inl told) t unasked key was from to n found is m =
    after_answers c (then ++ later) then later refl told.0 told.1 told.2 at told.3 told.4 t unasked key was from to n found
    (to_client c (then ++ later) from to t.seq n found m ∙ ap (λ k. role kind.Client k) is) m
read_later c then later at (inr told) t unasked key was from to n found is m =
    after_reads c (then ++ later) then later refl told.0 told.1 told.2 at told.3 told.4 t unasked key was from to n found
    (to_client c (then ++ later) from to t.seq n found m ∙ ap (λ k. role kind.Client k) is) m

-- a command's number isn't a read's
pub apart : (c : Cluster) (es : List Event) (t : Token) (command : Command) (key : List ℕ) → WasSent (run c es).events command
    → t ≡ (call_by command).token → WasRead (run c es).events t.client t.seq key → ⊥
apart c es t command key (b, m) own (floor, reader, replica, n) =
    true≢false (sym (requests_are_once c es t (event.Write command b) (event.Read t.client t.seq floor reader replica key) m n
    (ap (λ u. Some u) (sym own)) refl))
