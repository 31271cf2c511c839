-- A recording node begins beside the model's start.
use Rattle.cx_inv_run.proofs.Common.{◌≡◌, true, List, [], ap, sym, ◌∙◌, refl, lit≤, Cluster, Kind, RoleId, State, fresh_state, Rules, start}
use Rattle.cx_base.specs.declared.role.Kind.TheVariants as kind
use Rattle.cx_inv_open.specs.Reopened.{stored_as}
use Rattle.cx_model.specs.Rules.{Running}
use Rattle.cx_course.specs.Alike.{AreFresh, IsFresh, IsFreshRole}
use Rattle.cx_course.specs.Course.{course_of}
use Rattle.cx_course.specs.Hosted.{Hosted, ClientAt}
use Rattle.cx_course.proofs.Alike.{IsAlike, IsRole}
use Rattle.cx_course.proofs.Asker.{first_asker, first_traced}
use Rattle.cx_course.proofs.Following.{Stands}
use Rattle.cx_course.proofs.Past.{past_of}

-- each role of the cluster runs at the start
fresh_role : {D V : Type 0} {rules : Rules D V} {make : V → State} {c : Cluster} {s : Running D V} → IsFreshRole rules c s
    → fresh_state c rules.kind ≡ make (rules.fresh c rules.empty) → IsRole rules make (start c) s
fresh_role {rules} {make} {c} {s} fresh state =
    let runs : (start c).roles s.me ≡ make (rules.fresh c rules.empty) = rw fresh.named (ap (fresh_state c) fresh.kind_is ∙ state) in
    record {
      cluster = ap (λ (r : Running _ _). r.cluster) fresh.opened;
      kind_is = fresh.kind_is;
      named = fresh.named;
      durable = ap (λ (r : Running _ _). r.durable) fresh.opened;
      volatile = runs ∙ sym (ap (λ (r : Running _ _). make r.volatile) fresh.opened);
    }

first_alike : (c : Cluster) (h : Hosted) → IsFresh c h → IsAlike (start c) h
first_alike c (ClientAt s) fresh = first_asker c s fresh
first_alike c other fresh = fresh_role fresh refl

-- every list is empty
none_stored : (me : RoleId) (k : Kind) → stored_as me [] k ≡ []
none_stored me kind.Client = refl
none_stored me other = refl

pub fresh_stands : (c : Cluster) (hs : List Hosted) → AreFresh c hs → Stands c (past_of []) (course_of true hs)
fresh_stands c hs fresh = record {
  recorded = refl;
  room = lit≤ tt;
  sends = refl;
  stores = λ me. none_stored me me.kind;
  traced = first_traced c;
  roles = λ i h here. first_alike c h (fresh.each i h here);
  distinct = fresh.distinct;
  answers = λ d m. absurd m;
  fit = λ e m. absurd m;
}
