-- A matchmaker begins once at most, and a member of the first set never, since it could not be opened from a list with such a Boot.
use Rattle.cx_inv_run.proofs.Common.{◌≡◌, ◌≤◌, ◌+◌, ◌*◌, ℕ, ◌&&◌, Bool, true, false, filter, List, [], ◌∷◌, ◌++◌, length, Option, None}
use Rattle.cx_inv_run.proofs.Common.{Some, if◌then◌else◌, ap, sym, ◌∙◌, subst, refl, inl, inr, arith, not, nat_lt, nat_tests, append-nil}
use Rattle.cx_inv_run.proofs.Common.{append_assoc, Cluster, Event, RoleId, role, same_role, is_in, KeptRecord, Written, Record, first_set}
use Rattle.cx_inv_run.proofs.Common.{same_role-true, MatchmakerDurable, matchmaker_rules, is_booted, Member, Member-reverse, OfEveryRun}
use Rattle.cx_inv_run.proofs.Common.{refused_from, list_after, list_of, records_in, records_of, run, is_in-Member}
use Rattle.cx_base.specs.declared.role.Kind.TheVariants as kind
use Rattle.cx_letter.specs.declared.input.Written.TheVariants as written
use Rattle.cx_letter.specs.declared.kept.Record.TheVariants as kept
use Rattle.cx_model.specs.Promises.{EachBeginsOnce, is_boot}
use Rattle.cx_model.specs.World.{list_after_kept}
use Rattle.cx_inv_run.proofs.Members.{below-Member}
use Rattle.cx_inv_open.specs.Fits.{FitsAs, AllFit}
use Rattle.cx_inv_open.proofs.Steps.{fitting, roles_reopen}

-- the first record fits, and the others are not refused
first_fits : (b : Bool) (rest : Option ℕ) (i : ℕ) → (if b then rest else Some i) ≡ None → (b ≡ true) × (rest ≡ None)
first_fits true rest i h = (refl, h)
first_fits false rest i h = cc

first_of : (a b c d e : Bool) → (a && b && c && d && e) ≡ true → a ≡ true
first_of true b c d e h = refl
first_of false b c d e h = cc

module _ (c : Cluster) (me : RoleId) where
  -- of a list that isn't refused
  abbrev BootsOnce : MatchmakerDurable → List Record → Type 0
  BootsOnce d rs = (length (filter is_boot rs) ≤ 1) × (is_booted c me d ≡ true → filter is_boot rs ≡ [])

  once_from : (rs : List Record) (d : MatchmakerDurable) (i : ℕ) → refused_from matchmaker_rules c me d i rs ≡ None → BootsOnce d rs
  once_from [] d i h = (omega arith, λ t. refl)
  once_from (kept.Boot s w es ∷ rs) d i h =
      let fits = first_fits (matchmaker_rules.fits c me d (kept.Boot s w es)) _ i h in
      let rest = (once_from rs (matchmaker_rules.after d (kept.Boot s w es)) (i + 1) fits.1).1 refl in
      let count : length (filter is_boot rs) ≡ 0 = ap length rest in (
        omega arith,
        λ t. absurd (unbooted (is_booted c me d) t (first_of (not (is_booted c me d)) _ _ _ _ fits.0)),
      )
    where
      unbooted : (b : Bool) → b ≡ true → not b ≡ true → ⊥
      unbooted true t f = cc
      unbooted false t f = cc
  once_from (r ∷ rs) d i h =
      once_from rs (matchmaker_rules.after d r) (i + 1) (first_fits (matchmaker_rules.fits c me d r) _ i h).1

  -- without a renewal the list of its store is what it kept
  abbrev NoSnap : List KeptRecord → Type 0
  NoSnap ks = (k : KeptRecord) → Member k ks → same_role me k.role ≡ true → (first : ℕ) → k.what ≡ written.Snap first → ⊥

  added : (list : List Record) (w : Written) → ((first : ℕ) → w ≡ written.Snap first → ⊥)
      → list_after matchmaker_rules list w ≡ list ++ records_in w
  added list (written.Record r) none = refl
  added list (written.Snap first) none = absurd (none first refl)

  all_kept : (ks : List KeptRecord) (list : List Record) → NoSnap ks
      → list_after_kept matchmaker_rules me list ks ≡ list ++ records_of me ks
  all_kept [] list none = sym (append-nil list)
  all_kept (k ∷ ks) list none = go (λ l. all_kept ks l (λ x m. none x (inr m))) (same_role me k.role) refl
    where
      go : ((l : List Record) → list_after_kept matchmaker_rules me l ks ≡ l ++ records_of me ks) → (b : Bool) → same_role me k.role ≡ b
          → (if b then list_after_kept matchmaker_rules me (list_after matchmaker_rules list k.what) ks
          else list_after_kept matchmaker_rules me list ks)
          ≡ list ++ (if b then records_in k.what ++ records_of me ks else records_of me ks)
      go rest true e =
          ap (λ l. list_after_kept matchmaker_rules me l ks) (added list k.what (none k (inl refl) e))
          ∙ rest (list ++ records_in k.what) ∙ append_assoc list (records_in k.what) (records_of me ks)
      go rest false e = rest list

-- each change fits those before it
fits_at : (c : Cluster) (k : KeptRecord) (ks : List KeptRecord) → AllFit c ks → Member k ks
    → (older : List KeptRecord) × FitsAs c k.role k.what older k.role.kind
fits_at c k [] fit m = absurd m
fits_at c k (x ∷ ks) fit (inl e) = subst (λ y. (older : List KeptRecord) × FitsAs c y.role y.what older y.role.kind) (sym e) (ks, fit.0)
fits_at c k (x ∷ ks) fit (inr m) = fits_at c k ks fit.1 m

module _ (c : Cluster) (es : List Event) (m : ℕ) where
  abbrev me : RoleId
  me = role kind.Matchmaker m

  no_snap : NoSnap c me (run c es).kept
  no_snap k at own first e =
      let h = fits_at c k _ (fitting c es).fit (Member-reverse k (run c es).kept at) in
      let is : me ≡ k.role = same_role-true me k.role own in
      subst (λ w. FitsAs c me w h.0 kind.Matchmaker) e (subst (λ a. FitsAs c a k.what h.0 a.kind) (sym is) h.1)

  once : BootsOnce c me matchmaker_rules.empty (records_of me (run c es).kept)
  once = subst (λ l. BootsOnce c me matchmaker_rules.empty l) (all_kept c me (run c es).kept [] no_snap)
      (once_from c me (list_of matchmaker_rules me (run c es).kept) matchmaker_rules.empty 0 (roles_reopen c es me (λ e. cc)))

  first_booted : is_in m (first_set c) ≡ true → is_booted c me matchmaker_rules.empty ≡ true
  first_booted t =
      let low = below-Member m (2 * c.f + 1) (is_in-Member m (first_set c) t) in
      let test : nat_lt m (2 * c.f + 1) ≡ true = grind (arith, nat_tests) in
      rw test refl

pub each_begins_once : OfEveryRun EachBeginsOnce
each_begins_once c es m = ((once c es m).0, λ t. (once c es m).1 (first_booted c es m t))
