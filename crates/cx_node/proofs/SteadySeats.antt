-- What a run leaves as it was: the names of the hosted roles, their order, and which of them have a store.
use Rattle.cx_role.proofs.Common.{◌≡◌, ◌⊎◌, ◌==◌, ℕ, suc, arith, Bool, true, false, List, [], ◌∷◌, length, length-set, map, take, Option}
use Rattle.cx_role.proofs.Common.{None, Some, option_map, Result, Ok, Err, refl, sym, ap, ap₂, ◌∙◌, subst, inl, inr, ◌++◌, IfErr, IfOk}
use Rattle.cx_role.proofs.Common.{slice_get, slice_set, Appends, list_any, map-append, take-map, same_Some, Cluster, RoleId, bool_cases}
use Rattle.cx_role.proofs.Common.{get_set_other, get_set_same, not_both, number_itself, same_number, KeeperChange, KeepFault, Failed}
use Rattle.cx_seat.specs.Prelude.{shelf, Shelf, RecordStore, One, Two, Action, Printed, is_filled, kept_in, printed_in, changes_of}
use Rattle.cx_seat.specs.Prelude.{Changing, Refuses, LinkHistory, Recorded, AreDistinct, AreChangesMade, HasChangeFailedIn, Grows, Rests}
use Rattle.cx_seat.specs.Prelude.{hosted_in, hosted_of, keeper_of, who, name_of, disks_in, lent_to, Lent, disks_of, is_two, places_of}
use Rattle.cx_seat.specs.Prelude.{node_run}
use Rattle.cx_keep.specs.declared.keeper.KeepFault.TheVariants.{NoMemory}
use Rattle.cx_seat.specs.declared.guest.Guest.{Guest}
use Rattle.cx_node.specs.declared.node.RunEnd.{RunEnd}
use Rattle.cx_node.specs.declared.node.Stop.{Stop}
use Rattle.cx_node.specs.declared.node.Stop.TheVariants as stop
use Rattle.cx_edge.specs.Sink.{AppendsPart}
use Rattle.cx_node.specs.Acts.{Failures}
use Rattle.cx_node.specs.Hosting.{Ran, RunsBehind, RunsPartBehind}
use Rattle.cx_node.specs.Doing.{Did, GuestFails, GuestsGrow, GuestsRest, Linked, Scene, StopsAt, course_in, scene, with_actions}
use Rattle.cx_node.specs.Node.{Runs, RunsPart}
use Rattle.cx_node.proofs.Asked.{linked_nothing}
use Rattle.cx_node.proofs.Done.{did_nothing, did_then, guests_rest, same_at, then_part}
use Rattle.cx_node.proofs.Grown.{before}
use Rattle.cx_seat.proofs.OpenedRoles.{get_beside, get_map, map_get}
use Rattle.cx_node.proofs.Turned.{no_end}

-- nothing is kept, and nothing left out, among printed bytes
text_kept : (bytes : List ℕ) → kept_in (map Printed bytes) ≡ []
text_kept [] = refl
text_kept (b ∷ bs) = text_kept bs

text_printed : (bytes : List ℕ) → printed_in (map Printed bytes) ≡ bytes
text_printed [] = refl
text_printed (b ∷ bs) = ap (λ l. b ∷ l) (text_printed bs)

-- nothing is bound, taken or sent among them
text_same : (c : Cluster) (bytes : List ℕ) (h : LinkHistory) → with_actions c [] h ≡ with_actions c (map Printed bytes) h
text_same c [] h = refl
text_same c (b ∷ bs) h = text_same c bs h

linked_text : (c : Cluster) (bytes : List ℕ) (a : Option LinkHistory) → Linked c (map Printed bytes) a a
linked_text c bytes a = λ after e. let one = linked_nothing c a after e in (one.0, one.1, one.2 ∙ text_same c bytes one.0)

text_made : (bytes : List ℕ) → list_any is_filled (map Printed bytes) ≡ false
text_made [] = refl
text_made (b ∷ bs) = text_made bs

-- each role has its name, and a store of the same shape, if it has one
pub record IsSteady {K : Type 0} (shape : K → Bool) (old new : List (Guest K)) : Type 0 where
  pub count : length new ≡ length old
  pub each : (i : ℕ) (g h : Guest K) → slice_get old i ≡ Some g → slice_get new i ≡ Some h → (who h ≡ who g)
      × (option_map shape (keeper_of h) ≡ option_map shape (keeper_of g))

pub steady_then : {K : Type 0} (shape : K → Bool) (old mid new : List (Guest K)) → IsSteady shape old mid
    → IsSteady shape mid new → IsSteady shape old new
steady_then shape old mid new p q = record {
  count = q.count ∙ p.count;
  each = λ i g h a b.
      let m = get_beside old mid i g p.count a in
      let one = p.each i g m.0 a m.1 in
      let two = q.each i m.0 h m.1 b in
      (two.0 ∙ one.0, two.1 ∙ one.1);
}

-- the places of a store of this shape
abbrev places_by : RoleId → Option Bool → List Shelf
places_by me None = []
places_by me (Some false) = shelf me 0 ∷ []
places_by me (Some true) = shelf me 0 ∷ shelf me 1 ∷ []

places_so : {D : Type 0} (me : RoleId) (o : Option (RecordStore D)) → places_of (disks_of me o) ≡ places_by me (option_map is_two o)
places_so me None = refl
places_so me (Some (One j)) = refl
places_so me (Some (Two t)) = refl

first_places : {D : Type 0} (g : Guest (RecordStore D)) (gs : List (Guest (RecordStore D)))
    → lent_to (g ∷ gs) ≡ places_by (who g) (option_map is_two (keeper_of g)) ++ lent_to gs
first_places g gs =
    map-append (λ (l : Lent _). l.place) (disks_of (who g) (keeper_of g)) (disks_in gs)
    ∙ ap (λ l. l ++ lent_to gs) (places_so (who g) (keeper_of g))

pub lent_steady : {D : Type 0} (old new : List (Guest (RecordStore D))) → IsSteady is_two old new → lent_to new ≡ lent_to old
lent_steady [] [] steady = refl
lent_steady [] (h ∷ hs) steady = let n = steady.count in absurd (omega (arith, n))
lent_steady (g ∷ gs) [] steady = let n = steady.count in absurd (omega (arith, n))
lent_steady (g ∷ gs) (h ∷ hs) steady =
    let n = steady.count in
    let fewer : length hs ≡ length gs = omega (arith, n) in
    let one = steady.each 0 g h refl refl in
    first_places h hs
    ∙ ap₂ (λ l m. l ++ m) (ap₂ places_by one.0 one.1)
    (lent_steady gs hs (record { count = fewer; each = λ i. steady.each (suc i) }))
    ∙ sym (first_places g gs)

pub distinct_steady : {K : Type 0} (shape : K → Bool) (old new : List (Guest K)) → IsSteady shape old new
    → AreDistinct (hosted_in old) → AreDistinct (hosted_in new)
distinct_steady shape old new steady distinct i j a b here there same =
    let g = get_map hosted_of new i a here in
    let h = get_map hosted_of new j b there in
    let o = get_beside new old i g.0 (sym steady.count) g.1 in
    let p = get_beside new old j h.0 (sym steady.count) h.1 in
    distinct i j (hosted_of o.0) (hosted_of p.0) (map_get hosted_of old i o.0 o.1) (map_get hosted_of old j p.0 p.1)
    (sym (steady.each i o.0 g.0 o.1 g.1).0 ∙ ap name_of (sym g.2) ∙ same ∙ ap name_of h.2
    ∙ (steady.each j p.0 h.0 p.1 h.1).0)

module _ {K : Type 0} (gives : Changing K) (shape : K → Bool)
    (stays : (a : K) (change : KeeperChange) (answer : Result (Unit {0}) KeepFault) (b : K) → gives a change answer b
    → shape b ≡ shape a) where
  changed_stays : (cs : List KeeperChange) (a b : K) → AreChangesMade gives cs a b → shape b ≡ shape a
  changed_stays [] a b p = ap shape p
  changed_stays (c ∷ cs) a b p = changed_stays cs p.0 b p.2 ∙ stays a c (Ok tt) p.0 p.1

  grows_stays : (cs : List KeeperChange) (o p : Option K) → Grows gives cs o p → option_map shape p ≡ option_map shape o
  grows_stays cs None None g = refl
  grows_stays cs None (Some k) g = absurd g
  grows_stays cs (Some k) None g = absurd g
  grows_stays cs (Some j) (Some k) g = ap Some (changed_stays cs j k g)

  refused_stays : (a b : K) → Refuses gives a b → shape b ≡ shape a
  refused_stays a b (inl same) = ap shape same
  refused_stays a b (inr p) = stays a p.0 (Err NoMemory) b p.1

  rests_stays : (o p : Option K) → Rests gives o p → option_map shape p ≡ option_map shape o
  rests_stays None None g = refl
  rests_stays None (Some k) g = absurd g
  rests_stays (Some k) None g = absurd g
  rests_stays (Some j) (Some k) g = ap Some (refused_stays j k g)

  fails_stays : (r : Option KeeperChange) (o p : Option K) → HasChangeFailedIn gives r o p → option_map shape p ≡ option_map shape o
  fails_stays r None p g = absurd g
  fails_stays r (Some j) None g = absurd g
  fails_stays None (Some j) (Some k) g = absurd g
  fails_stays (Some c) (Some j) (Some k) g = ap Some (stays j c (Err Failed) k g)

  pub steady_did : (c : Cluster) (actions : List Action) (old new : Scene K) → Did gives c actions old new
      → IsSteady shape old.guests new.guests
  steady_did c actions old new did = record {
    count = did.kept.0;
    each = λ i g h a b. (
      same_at who old.guests new.guests i g h did.names a b,
      grows_stays (changes_of (who g) (kept_in actions)) (keeper_of g) (keeper_of h) (did.kept.1 i g h a b),
    );
  }

  steady_rest : (old new : List (Guest K)) → GuestsRest gives old new → IsSteady shape old new
  steady_rest old new rest = record {
    count = rest.0;
    each = λ i g h a b. let one = rest.1 i g h a b in (one.0, rests_stays (keeper_of g) (keeper_of h) one.1);
  }

  steady_fail : (role : RoleId) (r : KeeperChange) (old new : List (Guest K)) → GuestFails gives role r old new
      → IsSteady shape old new
  steady_fail role r old new f = subst (λ gs. IsSteady shape old gs) (sym f.others) (record {
    count = length-set old f.place f.after;
    each = λ i g h a b. go i g h a b (bool_cases (i == f.place));
  })
    where
      go : (i : ℕ) (g h : Guest K) → slice_get old i ≡ Some g → slice_get (slice_set old f.place f.after) i ≡ Some h
          → ((i == f.place) ≡ true) ⊎ ((i == f.place) ≡ false)
          → (who h ≡ who g) × (option_map shape (keeper_of h) ≡ option_map shape (keeper_of g))
      go i g h a b (inl t) =
          let p = same_number i f.place t in
          let first : f.guest ≡ g = same_Some f.guest g (sym f.here ∙ ap (slice_get old) (sym p) ∙ a) in
          let second : f.after ≡ h = same_Some f.after h
          (sym (get_set_same old f.place f.guest f.after f.here)
          ∙ ap (slice_get (slice_set old f.place f.after)) (sym p) ∙ b) in
          subst (λ x. (who x ≡ who g) × (option_map shape (keeper_of x) ≡ option_map shape (keeper_of g))) second
          (subst (λ x. (who f.after ≡ who x) × (option_map shape (keeper_of f.after) ≡ option_map shape (keeper_of x))) first
          (f.same, fails_stays (Some r) (keeper_of f.guest) (keeper_of f.after) f.fails))
      go i g h a b (inr t) =
          let differs : (i ≡ f.place → ⊥) = λ p. not_both (i == f.place)
          (subst (λ k. (i == k) ≡ true) p (number_itself i)) t in
          let still : g ≡ h = same_Some g h (sym a ∙ sym (get_set_other old f.place i f.after differs) ∙ b) in
          subst (λ x. (who x ≡ who g) × (option_map shape (keeper_of x) ≡ option_map shape (keeper_of g))) still (refl, refl)

  pub steady_stops : (e : Stop) (next : Option Action) (old new : List (Guest K)) → StopsAt gives e next old new
      → IsSteady shape old new
  steady_stops stop.NoMemory next old new s = steady_rest old new s
  steady_stops stop.WriteFault next old new s = steady_rest old new s
  steady_stops stop.LinkFault next old new s = steady_rest old new s.1
  steady_stops stop.RecordFull next old new s = steady_rest old new s.1
  steady_stops (stop.StoreFault role) next old new s = steady_fail role s.0 old new s.2

  -- a run leaves all of it
  pub steady_run : (tend : Option ℕ) (c : Cluster) (turns : ℕ) (text : List ℕ) (answer : Result RunEnd Stop) (old new : Scene K)
      → IfOk answer (λ e. RunsBehind gives tend c turns text e old new)
      → IfErr answer (λ e. RunsPartBehind gives tend c turns text e old new) → IsSteady shape old.guests new.guests
  steady_run tend c turns text (Ok e) old new done part =
      steady_did c (map Printed text ++ (node_run tend c done.takes (course_in old)).actions) old new done.did
  steady_run tend c turns text (Err s) old new done part =
      let p = part.part in
      let all = map Printed text ++ (node_run tend c part.takes (course_in old)).actions in
      steady_then shape old.guests p.mid new.guests (steady_did c (take p.count all) old
      (scene p.mid new.recorded new.link new.out) p.did) (steady_stops s (slice_get all p.count) p.mid new.guests p.stops)

-- ---- behind a text

module _ {K : Type 0} (gives : Changing K) (tend : Option ℕ) (c : Cluster) (turns : ℕ) (text : List ℕ) where
  -- nothing but bytes was printed
  did_print : (bytes : List ℕ) (guests : List (Guest K)) (known : Option Recorded) (link : Option LinkHistory)
      (was now : Option (List ℕ)) → Appends was now bytes
      → Did gives c (map Printed bytes) (scene guests known link was) (scene guests known link now)
  did_print bytes guests known link was now printed =
      let none = did_nothing gives c (scene guests known link was) in
      record {
        names = refl;
        kept = subst (λ ks. GuestsGrow gives ks guests guests) (sym (text_kept bytes)) none.kept;
        link = linked_text c bytes link;
        printed = subst (Appends was now) (sym (text_printed bytes)) printed;
        made = text_made bytes;
      }

  -- a part of the text was written
  pub behind_cut : (guests : List (Guest K)) (known : Option Recorded) (link : Option LinkHistory)
      (was now : Option (List ℕ)) → AppendsPart was now text
      → RunsPartBehind gives tend c turns text stop.WriteFault (scene guests known link was) (scene guests known link now)
  behind_cut guests known link was now part =
      let s = course_in (scene guests known link was) in
      let actions = (node_run tend c [] s).actions in
      let k = before (map Printed text) actions part.0 in
      record {
        takes = [];
        underway = no_end tend c turns s;
        part = record {
          count = k.0;
          mid = guests;
          did = subst (λ l. Did gives c l (scene guests known link was) (scene guests known link now))
              (sym (k.1 ∙ take-map Printed part.0 text)) (did_print (take part.0 text) guests known link was now part.1);
          stops = guests_rest gives guests;
        };
      }

  module _ (guests : List (Guest K)) (known : Option Recorded) (link : Option LinkHistory) (was mid : Option (List ℕ))
      (new : Scene K) (printed : Appends was mid text) where
    -- it was written, and the whole run was made
    behind_run : (e : RunEnd) → RunsBehind gives tend c turns [] e (scene guests known link mid) new
        → RunsBehind gives tend c turns text e (scene guests known link was) new
    behind_run e runs = record {
      takes = runs.takes;
      did =
          did_then gives c (map Printed text) ((node_run tend c runs.takes (course_in (scene guests known link mid))).actions)
          (scene guests known link was) (scene guests known link mid) new (did_print text guests known link was mid printed)
          runs.did;
      is_end = runs.is_end;
      taken = runs.taken;
    }

    -- or a part of it
    behind_part : (e : Stop) → RunsPartBehind gives tend c turns [] e (scene guests known link mid) new
        → RunsPartBehind gives tend c turns text e (scene guests known link was) new
    behind_part e runs = record {
      takes = runs.takes;
      underway = runs.underway;
      part =
          then_part gives c (map Printed text) ((node_run tend c runs.takes (course_in (scene guests known link mid))).actions) e
          (scene guests known link was) (scene guests known link mid) new (did_print text guests known link was mid printed)
          runs.part;
    }

    pub ran_behind : (answer : Result RunEnd Stop) (was_failed failed now_failed : Failures) → was_failed ≡ failed
        → Ran gives tend c turns [] answer (scene guests known link mid) new failed now_failed
        → Ran gives tend c turns text answer (scene guests known link was) new was_failed now_failed
    ran_behind answer was_failed failed now_failed same ran =
        subst (λ f. Ran gives tend c turns text answer (scene guests known link was) new f now_failed) (sym same) (record {
          done = done answer ran.done;
          part = part answer ran.part;
          written = ran.written;
          unwritten = ran.unwritten;
          linked = ran.linked;
          unlinked = ran.unlinked;
        })
      where
        done : (a : Result RunEnd Stop) → IfOk a (λ e. RunsBehind gives tend c turns [] e (scene guests known link mid) new)
            → IfOk a (λ e. RunsBehind gives tend c turns text e (scene guests known link was) new)
        done (Ok e) runs = behind_run e runs
        done (Err e) runs = tt

        part : (a : Result RunEnd Stop) → IfErr a (λ e. RunsPartBehind gives tend c turns [] e (scene guests known link mid) new)
            → IfErr a (λ e. RunsPartBehind gives tend c turns text e (scene guests known link was) new)
        part (Ok e) runs = tt
        part (Err e) runs = behind_part e runs

-- behind no text
pub runs_alone : {K : Type 0} (gives : Changing K) (tend : Option ℕ) (c : Cluster) (turns : ℕ) (answer : Result RunEnd Stop)
    (old new : Scene K) → IfOk answer (λ e. Runs gives tend c turns e old new)
    → IfOk answer (λ e. RunsBehind gives tend c turns [] e old new)
runs_alone gives tend c turns (Ok e) old new runs =
    record { takes = runs.0; did = runs.1.did; is_end = runs.2; taken = runs.3 }
runs_alone gives tend c turns (Err e) old new runs = tt

pub part_alone : {K : Type 0} (gives : Changing K) (tend : Option ℕ) (c : Cluster) (turns : ℕ) (answer : Result RunEnd Stop)
    (old new : Scene K) → IfErr answer (λ e. RunsPart gives e tend c turns old new)
    → IfErr answer (λ e. RunsPartBehind gives tend c turns [] e old new)
part_alone gives tend c turns (Ok e) old new runs = tt
part_alone gives tend c turns (Err e) old new runs = record { takes = runs.0; underway = runs.1; part = runs.2 }

-- memory ran out before the run
pub runs_none : {K : Type 0} (gives : Changing K) (tend : Option ℕ) (c : Cluster) (turns : ℕ) (s : Scene K)
    → RunsPartBehind gives tend c turns [] stop.NoMemory s s
runs_none gives tend c turns s = record {
  takes = [];
  underway = no_end tend c turns (course_in s);
  part = record { count = 0; mid = s.guests; did = did_nothing gives c s; stops = guests_rest gives s.guests };
}
