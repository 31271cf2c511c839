-- A step of any hosted role, beside the events that are recorded of it.
use Rattle.cx_role.proofs.Common.{◌≡◌, ◌<◌, ◌⊎◌, ◌==◌, ℕ, Bool, true, false, List, [], ◌∷◌, ◌++◌, length, None, Some, ap, sym, ◌∙◌, subst}
use Rattle.cx_role.proofs.Common.{refl, inl, inr, append-nil, nat_lt, slice_get, if◌then◌else◌, and_from, true≢false, none-some}
use Rattle.cx_role.proofs.Common.{slice_get_within, Cluster, Cut, Whole, Event, Order, Kind, RoleId, count_of, code_of, role, same_role}
use Rattle.cx_role.proofs.Common.{State, same_role-itself, Member, names_role, replica_rules, World, act_at, come, run_from, Letter, Input}
use Rattle.cx_base.specs.declared.event.Event.TheVariants as event
use Rattle.cx_base.specs.declared.event.Order.TheVariants.{Lead, Change, Collect, Offer, Replace}
use Rattle.cx_base.specs.declared.role.Kind.TheVariants as kind
use Rattle.cx_base.specs.Role.{puts_anew}
use Rattle.cx_client.specs.Client.{ClientState}
use Rattle.cx_model.specs.Lists.{role_from_parts}
use Rattle.cx_letter.specs.declared.input.Act.TheVariants as act
use Rattle.cx_letter.specs.declared.input.Input.TheVariants as input
use Rattle.cx_record.specs.Readable.{HasGrid, IsRecordable, tells_all}
use Rattle.cx_script.specs.Names.{names_order}
use Rattle.cx_script.specs.Names as script
use Rattle.cx_course.specs.declared.doing.Doing.{Doing}
use Rattle.cx_course.specs.declared.doing.Doing.TheVariants.{Begin, Give, Snap}
use Rattle.cx_course.specs.Course.{own_event, requests_by, step_events}
use Rattle.cx_course.specs.Hosted.{Hosted, ClientAt, ReplicaAt, Step, by_snap, does, given, kind_at, name_of, rests, snapped}
use Rattle.cx_role.specs.Snap.{snap_of}
use Rattle.cx_course.specs.Run.{is_client}
use Rattle.cx_course.proofs.Alike.{IsAlike, Moves}
use Rattle.cx_course.proofs.Asker.{IsAsker, IsTraced}
use Rattle.cx_course.proofs.Clients.{Comes, IsClients, client_lands}
use Rattle.cx_course.proofs.Hearing.{other_kind, told_none, told_other}
use Rattle.cx_course.proofs.Requests.{Sends}
use Rattle.cx_course.proofs.Roles.{IsAct, Lands, is_no, is_one, no_client, role_lands, snap_lands}

-- ---- what a recording node knows of what it does

-- an order goes to a leader, and its grid is one, of acceptors of the cluster
pub record IsOrder (c : Cluster) (me : RoleId) (o : Order) : Type 0 where
  pub leader : me.kind ≡ kind.Leader
  pub grid : HasGrid o
  pub named : names_order c o ≡ true

-- what is taken is a datagram that was sent, to this role, by its number
abbrev pub IsFair : World → RoleId → Doing → Type 0
IsFair w me Begin = Unit {0}
IsFair w me (Give n (input.Take d)) = (slice_get w.sent n ≡ Some d) × (d.to ≡ me)
IsFair w me (Give n input.Tick) = Unit {0}
IsFair w me (Give n (input.Order o)) = IsOrder w.cluster me o
IsFair w me Snap = Unit {0}

-- an event is a delivery of one of so many datagrams, or can be recorded
abbrev pub FitsIn : Cluster → ℕ → Event → Type 0
FitsIn c many e = ((n : ℕ) × (cut : Cut) × (e ≡ event.Deliver n cut) × (n < many)) ⊎ IsRecordable c e

-- ---- names

named_so : (w : World) (h : Hosted) → IsAlike w h → names_role w.cluster (name_of h) ≡ true
named_so w (ClientAt s) is = is.named
named_so w other is = is.named

by_kind_name : (k : Kind) (me : RoleId) → me.kind ≡ k → me ≡ role k me.index
by_kind_name k me is = role_from_parts me.kind k me.index me.index is refl

-- ---- a client's step

moves_client : (w after : World) (s : ClientState) (ds : List Letter) → s.me.kind ≡ kind.Client → Sends w after s ds → IsTraced after
    → Moves w after s.me None ds
moves_client w after s ds client sends traced = record {
  cluster = sends.cluster;
  kept = sends.kept ∙ sym (append-nil w.kept);
  sent = sends.sent;
  traced = traced;
  others = λ a differs. record {
    state = ap (λ (r : RoleId → State). r a) sends.roles;
    client = λ is. sends.others a.index (λ same. true≢false (sym (ap (λ x. same_role x s.me)
        (role_from_parts a.kind s.me.kind a.index s.me.index (is ∙ sym client) same) ∙ same_role-itself s.me) ∙ differs));
  };
}

comes_so : (w : World) (me : RoleId) (what : Doing) → IsFair w me what → Comes w me what
comes_so w me Begin fair = tt
comes_so w me (Give n (input.Take d)) fair = fair
comes_so w me (Give n input.Tick) fair = tt
comes_so w me (Give n (input.Order o)) fair = tt
comes_so w me Snap fair = tt

client_fits : (w : World) (me : RoleId) (what : Doing) (e : Event) → IsFair w me what → IsClients w what e
    → FitsIn w.cluster (length w.sent) e
client_fits w me what e fair (inr can) = inr can
client_fits w me what e fair (inl x) =
    let given : IsFair w me (Give x.0 (input.Take x.1)) = subst (IsFair w me) x.2 fair in
    inl (x.0, Whole, x.3, slice_get_within w.sent x.0 x.1 given.0)

client_steps : (w : World) (s : ClientState) (what : Doing) → IsTraced w → IsAsker w s → IsFair w s.me what
    → Lands w (step_events (ClientAt s) what) s.me (does (ClientAt s) what)
    × ((e : Event) → Member e (step_events (ClientAt s) what) → FitsIn w.cluster (length w.sent) e)
client_steps w s what traced is fair =
    let x = client_lands w s is traced what (comes_so w s.me what fair) in
    let after = run_from w (step_events (ClientAt s) what) in (
      record {
        what = None;
        moves = moves_client w after s (does (ClientAt s) what).sends (ap (λ (a : RoleId). a.kind) is.client.me) x.sends x.traced;
        alike = subst (IsAlike after) (sym x.next_is) x.asker;
        name = ap name_of x.next_is ∙ x.me;
        kept = x.keeps;
        may = tt;
        next = λ y is. absurd (none-some y is);
        answers = x.answers;
      },
      λ e m. client_fits w s.me what e fair (x.events e m),
    )

-- ---- a step of a role of the protocol

abbrev pub is_asker : Hosted → Bool
is_asker (ClientAt s) = true
is_asker other = false

-- it asks for nothing
pub asks_nothing : (h : Hosted) (what : Doing) → is_asker h ≡ false → requests_by (does h what).next (does h what).sends ≡ []
unfolding does
asks_nothing (ClientAt s) what off = absurd (true≢false off)
asks_nothing other Begin off = refl
asks_nothing other (Give n i) off = refl
asks_nothing other Snap off = refl

-- nothing happens
nothing_moves : (w : World) (me : RoleId) → IsTraced w → Moves w w me None []
nothing_moves w me traced = record {
  cluster = refl;
  kept = sym (append-nil w.kept);
  sent = sym (append-nil w.sent);
  traced = traced;
  others = λ a differs. record { state = refl; client = λ is. record { asked = λ h t m sent token mine. m; heard = refl } };
}

rests_lands : (w : World) (h : Hosted) → IsTraced w → IsAlike w h → Lands w [] (name_of h) (rests h)
rests_lands w h traced is = record {
  what = None;
  moves = nothing_moves w (name_of h) traced;
  alike = is;
  name = refl;
  kept = refl;
  may = tt;
  next = λ y is. absurd (none-some y is);
  answers = λ d m. absurd m;
}

begins_so : (h : Hosted) → is_asker h ≡ false → does h Begin ≡ rests h
unfolding does
begins_so (ClientAt s) off = absurd (true≢false off)
begins_so other off = refl

no_client_event : (w : World) (h : Hosted) → is_asker h ≡ false → IsAlike w h → is_client h ≡ false
no_client_event w (ClientAt s) off is = absurd (true≢false off)
no_client_event w other off is = is_no kind.Client (kind_at other) (name_of other) is.kind_is refl

server_so : (c : Cluster) (k : Kind) (me : RoleId) → me.kind ≡ k → script.is_client k ≡ false → names_role c me ≡ true
    → script.names_server c me ≡ true
server_so c k me is other named = rw (is, other) (ap (λ j. nat_lt me.index (count_of c j)) (sym is) ∙ named)

is_server : (w : World) (h : Hosted) → is_asker h ≡ false → IsAlike w h → script.names_server w.cluster (name_of h) ≡ true
is_server w (ClientAt s) off is = absurd (true≢false off)
is_server w other off is = server_so w.cluster (kind_at other) (name_of other) is.kind_is refl is.named

-- the step lands, and each of its events fits
abbrev pub Steps : World → Hosted → Doing → Type 0
Steps w h what = Lands w (step_events h what) (name_of h) (does h what)
    × ((e : Event) → Member e (step_events h what) → FitsIn w.cluster (length w.sent) e)

own_alone : (h : Hosted) (what : Doing) → is_asker h ≡ false → step_events h what ≡ own_event (name_of h) what
own_alone h what off = ap (λ l. own_event (name_of h) what ++ l) (asks_nothing h what off) ∙ append-nil (own_event (name_of h) what)

gives_so : (h : Hosted) (n : ℕ) (i : Input) → does h (Give n i) ≡ given h i
unfolding does
gives_so h n i = refl

snaps_so : (h : Hosted) → does h Snap ≡ snapped h
unfolding does
snaps_so h = refl

module _ (w : World) (traced : IsTraced w) where
  steps_by : (h : Hosted) (what : Doing) (es : List Event) (x : Step) → is_asker h ≡ false → own_event (name_of h) what ≡ es
      → does h what ≡ x → Lands w es (name_of h) x → ((e : Event) → Member e es → FitsIn w.cluster (length w.sent) e) → Steps w h what
  steps_by h what es x off own is lands fits =
      let all : step_events h what ≡ es = own_alone h what off ∙ own in (
        subst (λ l. Lands w l (name_of h) (does h what)) (sym all) (subst (λ y. Lands w es (name_of h) y) (sym is) lands),
        λ e m. fits e (subst (λ l. Member e l) all m),
      )

  nothing_fits : (e : Event) → Member e [] → FitsIn w.cluster (length w.sent) e
  nothing_fits e m = absurd m

  one_fits : (x : Event) → FitsIn w.cluster (length w.sent) x → (e : Event) → Member e (x ∷ []) → FitsIn w.cluster (length w.sent) e
  one_fits x fits e (inl is) = subst (λ y. FitsIn w.cluster (length w.sent) y) (sym is) fits
  one_fits x fits e (inr never) = absurd never

  rests_so : (h : Hosted) (what : Doing) → is_asker h ≡ false → IsAlike w h → own_event (name_of h) what ≡ [] → does h what ≡ rests h
      → Steps w h what
  rests_so h what off is own does_nothing = steps_by h what [] (rests h) off own does_nothing (rests_lands w h traced is) nothing_fits

  gives : (h : Hosted) (n : ℕ) (i : Input) (e : Event) → is_asker h ≡ false → IsAlike w h → own_event (name_of h) (Give n i) ≡ e ∷ []
      → IsAct w e (act.Give i Whole) (name_of h) → FitsIn w.cluster (length w.sent) e → Steps w h (Give n i)
  gives h n i e off is own this fits = steps_by h (Give n i) (e ∷ []) (given h i) off own (gives_so h n i)
      (role_lands w h i e (no_client_event w h off is) traced is this) (one_fits e fits)

  told_whole : (l : ℕ) (o : Order) → tells_all (event.Order l o Whole) ≡ true
  told_whole l (Lead grid) = refl
  told_whole l (Change grid) = refl
  told_whole l Collect = refl
  told_whole l (Replace set) = refl
  told_whole l (Offer to slot) = refl

  in_cluster : (k : Kind) (me : RoleId) → me.kind ≡ k → names_role w.cluster me ≡ true → nat_lt me.index (count_of w.cluster k) ≡ true
  in_cluster k me is named = ap (λ j. nat_lt me.index (count_of w.cluster j)) (sym is) ∙ named

  role_gives : (h : Hosted) (n : ℕ) (i : Input) → is_asker h ≡ false → IsAlike w h → IsFair w (name_of h) (Give n i) → Steps w h (Give n i)
  role_gives h n input.Tick off is fair =
      let me = name_of h in
      gives h n input.Tick (event.Tick me) off is (ap (λ b. if b then [] else event.Tick me ∷ []) (no_client_event w h off is)) (record {
        change = refl;
        plain = record { no_request = refl; unheard = λ client u. told_none client w (record { event = event.Tick me; why = u }) refl };
      }) (inr (record { ranges = tt; valid = refl; named = is_server w h off is; complete = refl }))
  role_gives h n (input.Take d) off is fair =
      gives h n (input.Take d) (event.Deliver n Whole) off is refl
      (record {
        change = ap (come w Whole) fair.0 ∙ ap (act_at w (act.Give (input.Take d) Whole)) fair.1;
        plain = record {
          no_request = refl;
          unheard = λ client u. told_other client w (record { event = event.Deliver n Whole; why = u }) n Whole d refl fair.0
              (other_kind client d.to
              (λ clients. no_client (name_of h) (no_client_event w h off is) (ap (λ (a : RoleId). a.kind) (sym fair.1) ∙ clients)));
        };
      })
      (inl (n, Whole, refl, slice_get_within w.sent n d fair.0))
  role_gives h n (input.Order o) off is fair =
      let me = name_of h in
      gives h n (input.Order o) (event.Order me.index o Whole) off is
      (ap (λ b. if b then event.Order me.index o Whole ∷ [] else []) (is_one kind.Leader me fair.leader))
      (record {
        change = ap (act_at w (act.Give (input.Order o) Whole)) (sym (by_kind_name kind.Leader me fair.leader));
        plain = record {
          no_request = refl;
          unheard = λ client u. told_none client w (record { event = event.Order me.index o Whole; why = u }) refl;
        };
      })
      (inr (record {
        ranges = fair.grid;
        valid = refl;
        named = and_from (nat_lt me.index w.cluster.leaders) (names_order w.cluster o)
            (in_cluster kind.Leader me fair.leader (named_so w h is)) fair.named;
        complete = told_whole me.index o;
      }))

  no_snap : (me : RoleId) (k : Kind) → me.kind ≡ k → (code_of k == code_of kind.Replica) ≡ false → own_event me Snap ≡ []
  no_snap me k is other = ap (λ b. if b then event.Snap me Whole ∷ [] else []) (is_no kind.Replica k me is other)

  role_snaps : (h : Hosted) → is_asker h ≡ false → IsAlike w h → Steps w h Snap
  role_snaps (ClientAt s) off is = absurd (true≢false off)
  role_snaps (ReplicaAt s) off is =
      let e = event.Snap s.me Whole in
      steps_by (ReplicaAt s) Snap (e ∷ []) (by_snap s (snap_of replica_rules s)) off
      (ap (λ b. if b then e ∷ [] else []) (is_one kind.Replica s.me is.kind_is)) (snaps_so (ReplicaAt s))
      (snap_lands w s traced is e (record {
        change = refl;
        plain = record { no_request = refl; unheard = λ client u. told_none client w (record { event = e; why = u }) refl };
      }))
      (one_fits e (inr (record {
        ranges = tt;
        valid = refl;
        named = and_from (puts_anew s.me.kind) (nat_lt s.me.index (count_of w.cluster s.me.kind)) (ap puts_anew is.kind_is) is.named;
        complete = refl;
      })))
  role_snaps other off is = rests_so other Snap off is (no_snap (name_of other) (kind_at other) is.kind_is refl) (snaps_so other)

  role_steps : (h : Hosted) (what : Doing) → is_asker h ≡ false → IsAlike w h → IsFair w (name_of h) what → Steps w h what
  role_steps h Begin off is fair = rests_so h Begin off is refl (begins_so h off)
  role_steps h (Give n i) off is fair = role_gives h n i off is fair
  role_steps h Snap off is fair = role_snaps h off is

  -- whatever a hosted role does in a recording node is what its events do in the model
  pub hosted_steps : (h : Hosted) (what : Doing) → IsAlike w h → IsFair w (name_of h) what → Steps w h what
  hosted_steps (ClientAt s) what is fair = client_steps w s what traced is fair
  hosted_steps other what is fair = role_steps other what refl is fair
