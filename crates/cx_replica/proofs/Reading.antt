-- What is sent once values are executed, and the state then.
use Rattle.cx_role.proofs.Common.{◌≡◌, ℕ, ◌+◌, Bool, true, List, [], ◌++◌, length, length-append, ap, ◌∙◌, arith, Cluster, Placed, Value}
use Rattle.cx_role.proofs.Common.{RoleId, ready_values, Letter, Deferred, Machine, machine_from, replica_rules, still_deferred}
use Rattle.cx_role.proofs.Common.{running_after}
use Rattle.cx_base.specs.Log.{still_early}
use Rattle.cx_model.specs.Replica.{read_answers, results_from}
use Rattle.cx_replica.specs.Answering.{answers_at}
use Rattle.cx_replica.specs.Rows.{applied_in, replica_view}
use Rattle.cx_replica.specs.declared.wanted.Wanted.{Wanted}
use Rattle.cx_rlog.specs.State.{LogState, held}

-- what the values and then the reads are answered
pub sent_behind : (c : Cluster) (me : RoleId) (n : ℕ) (ready vs ws : List Value) (left m after : Machine) (first now : ℕ)
    (reads given : List Deferred) (before sent all : List Letter)
    → m ≡ left → first ≡ n → ws ≡ vs → vs ≡ ready → given ≡ reads
    → after ≡ machine_from first m ws → now ≡ n + length vs → before ≡ []
    → sent ≡ before ++ results_from c me first m ws → all ≡ sent ++ answers_at me now after.map given
    → all ≡ results_from c me n left ready ++ read_answers me (n + length ready) (machine_from n left ready) reads
sent_behind c me n ready vs ws left m after first now reads given before sent all
    stays from same is_ready is_given ran is_now none is_sent is_all =
    let values : ws ≡ ready = same ∙ is_ready in
    let executed : after ≡ machine_from n left ready =
    ran ∙ (λ j. machine_from (from j) (stays j) (values j)) in
    let held_now : now ≡ n + length ready = is_now ∙ ap (λ (l : List Value). n + length l) is_ready in
    let results : sent ≡ results_from c me n left ready =
    is_sent ∙ (λ j. none j ++ results_from c me (from j) (stays j) (values j)) in
    is_all ∙ (λ j. results j ++ answers_at me (held_now j) (executed j).map (is_given j))

-- the values are held, and what waited for them waits no longer
pub state_behind : (c : Cluster) (me : RoleId) (live : Bool) (log new : LogState) (m n : Machine) (w : Wanted) (fetched : ℕ)
    (value : Value) (vs ws : List Value) (waiting : List Placed) (reads left : List Deferred) (now : ℕ)
    → new.first ≡ log.first → new.list ≡ log.list ++ ws → ws ≡ vs → vs ≡ ready_values (held log) log.early value
    → new.early ≡ still_early (held new) waiting → waiting ≡ log.early
    → left ≡ still_deferred now reads → now ≡ held new → n ≡ machine_from (held log) m vs
    → replica_view c me live new n (record w { begun = true }) left fetched
    ≡ running_after replica_rules (replica_view c me live log m w reads fetched)
    (applied_in (replica_view c me live log m w reads fetched) value)
state_behind c me live log new m n w fetched value vs ws waiting reads left now is_first is_new same is_ready is_later waits is_left
    is_now ran =
    let ready = ready_values (held log) log.early value in
    let list : new.list ≡ log.list ++ ready = is_new ∙ ap (λ (more : List Value). log.list ++ more) (same ∙ is_ready) in
    let size : length new.list ≡ length log.list + length ready =
    ap (λ (l : List Value). length l) list ∙ length-append log.list ready in
    let count : held new ≡ held log + length ready = omega (arith, is_first, size) in
    let e : new.early ≡ still_early (held log + length ready) log.early =
    is_later ∙ (λ j. still_early (count j) (waits j)) in
    let d : left ≡ still_deferred (held log + length ready) reads =
    is_left ∙ ap (λ (h : ℕ). still_deferred h reads) (is_now ∙ count) in
    let machine : n ≡ machine_from (held log) m ready = ran ∙ ap (machine_from (held log) m) is_ready in
    λ j. replica_view c me live (record { first = is_first j; list = list j; early = e j; spare = new.spare }) (machine j)
    (record w { begun = true }) (d j) fetched
