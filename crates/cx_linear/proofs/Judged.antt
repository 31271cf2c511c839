-- Which of the histories of Examples are linearizable.
use Rattle.cx_inv_run.proofs.Common.{◌≡◌, ◌⊎◌, ℕ, zero, suc, ◌<◌, List, [], ◌∷◌, take, Some, inl, inr, ap, sym, subst, ◌∙◌, refl}
use Rattle.cx_inv_run.proofs.Common.{arith, slice_get, same_Some, slice_get_within, Member, Token}
use Rattle.cx_inv_list.proofs.Right.{get_there}
use Rattle.cx_linear.specs.Linearizable.{ClientCall, Response, CallEvent, IsLinearization, IsLinearizable, left_by_all, response_by}
use Rattle.cx_linear.specs.Linearizable.{Invoke, Respond}
use Rattle.cx_linear.specs.Examples.{putting, appending, getting, appending_more, read_of_open_put}
use Rattle.cx_linear.specs.Examples.{unasked_response, HistoriesAreJudged}

-- Two calls, one invoked after the other's response: then the first alone stands before the second.

take_one : (order : List ClientCall) (x : ClientCall) → slice_get order 0 ≡ Some x → take 1 order ≡ x ∷ []
take_one [] x h = cc
take_one (y ∷ order) x h = ap (λ z. z ∷ []) (same_Some y x h)

module _ (p g : ClientCall) (h : List CallEvent) (only : (x : ClientCall) → Member (Invoke x) h → (x ≡ p) ⊎ (x ≡ g))
    (apart : p.token ≡ g.token → ⊥)
    (order : List ClientCall) (is : IsLinearization h order) where
  which : (n : ℕ) (x : ClientCall) → slice_get order n ≡ Some x → (x ≡ p) ⊎ (x ≡ g)
  which n x e = only x (is.invoked n x e)

  second : (n : ℕ) (x : ClientCall) → slice_get order n ≡ Some x → x.token ≡ g.token → x ≡ g
  second n x e t = elim (which n x e) [ inl q ↦ absurd (apart (sym (ap (λ (y : ClientCall). y.token) q) ∙ t)) | inr q ↦ q ]

  first : (n : ℕ) (x : ClientCall) → slice_get order n ≡ Some x → x.token ≡ p.token → x ≡ p
  first n x e t = elim (which n x e) [ inl q ↦ q | inr q ↦ absurd (apart (sym t ∙ ap (λ (y : ClientCall). y.token) q)) ]

  -- what stands before the second is the first
  before_is : (k n : ℕ) (x : ClientCall) → slice_get order n ≡ Some g → k < n → slice_get order k ≡ Some x → x ≡ p
  before_is k n x e l f = elim (which k x f) [
    | inl q ↦ q
    | inr q ↦ (let s = is.once k n x g f e (ap (λ (y : ClientCall). y.token) q) in absurd (omega arith))
  ]

  alone : (n : ℕ) → slice_get order n ≡ Some g → 0 < n → take n order ≡ p ∷ []
  alone zero e l = absurd (omega arith)
  alone (suc zero) e l =
      let b = slice_get_within order 1 g e in
      let x = get_there order 0 (omega arith) in
      take_one order p (x.1 ∙ ap (λ y. Some y) (before_is 0 1 x.0 e (omega arith) x.1))
  alone (suc (suc n)) e l =
      let b = slice_get_within order (suc (suc n)) g e in
      let x = get_there order 0 (omega arith) in
      let y = get_there order 1 (omega arith) in
      let q = before_is 0 (suc (suc n)) x.0 e (omega arith) x.1 in
      let r = before_is 1 (suc (suc n)) y.0 e (omega arith) y.1 in
      let s = is.once 0 1 x.0 y.0 x.1 y.1 (ap (λ (z : ClientCall). z.token) (q ∙ sym r)) in
      absurd (omega arith)

  answer_is : (i j : ℕ) (a r : Response) → slice_get h i ≡ Some (Respond p.token a) → slice_get h j ≡ Some (Invoke g) → i < j
      → Member (Respond p.token a) h → Member (Respond g.token r) h → r ≡ response_by (left_by_all [] (p ∷ [])) g.operation
  answer_is i j a r ri gj l rp rg =
      let x = is.responses p.token a rp in
      let y = is.responses g.token r rg in
      let xp = first x.0 x.1 x.2 x.3 in
      let yg = second y.0 y.1 y.2 y.3 in
      let xs : slice_get order x.0 ≡ Some p = x.2 ∙ ap (λ z. Some z) xp in
      let ys : slice_get order y.0 ≡ Some g = y.2 ∙ ap (λ z. Some z) yg in
      let m = is.real_time i j x.0 y.0 p g a ri gj l xs ys in
      y.4 ∙ ap (λ (z : ClientCall). response_by (left_by_all [] (take y.0 order)) z.operation) yg
      ∙ ap (λ o. response_by (left_by_all [] o) g.operation) (alone y.0 ys (omega arith))

invoke_is : (x y : ClientCall) → Invoke x ≡ Invoke y → x ≡ y
invoke_is x y e = cc

no_response : (x : ClientCall) (t : Token) (r : Response) → Invoke x ≡ Respond t r → ⊥
no_response x t r e = cc

-- a history of four events, of two calls one after the other
abbrev one_by_one : ClientCall → Response → ClientCall → Response → List CallEvent
one_by_one p a g r = Invoke p ∷ Respond p.token a ∷ Invoke g ∷ Respond g.token r ∷ []

only_two : (p g : ClientCall) (a r : Response) (x : ClientCall) → Member (Invoke x) (one_by_one p a g r) → (x ≡ p) ⊎ (x ≡ g)
only_two p g a r x (inl e) = inl (invoke_is x p e)
only_two p g a r x (inr (inl e)) = absurd (no_response x p.token a e)
only_two p g a r x (inr (inr (inl e))) = inr (invoke_is x g e)
only_two p g a r x (inr (inr (inr (inl e)))) = absurd (no_response x g.token r e)
only_two p g a r x (inr (inr (inr (inr m)))) = absurd m

-- it is refused where the second response isn't that behind the first call
refused : (p g : ClientCall) (a r : Response) → (p.token ≡ g.token → ⊥) → (r ≡ response_by (left_by_all [] (p ∷ [])) g.operation → ⊥)
    → IsLinearizable (one_by_one p a g r) → ⊥
refused p g a r apart wrong (order, is) =
    wrong (answer_is p g (one_by_one p a g r) (only_two p g a r) apart order is 1 2 a r refl refl (omega arith) (inr (inl refl))
    (inr (inr (inr (inl refl)))))

clients_apart : (p g : Token) → p.client ≡ 0 → g.client ≡ 1 → p ≡ g → ⊥
clients_apart p g e f q = let s = ap (λ (t : Token). t.client) q in omega (arith, e, f, s)

-- accepted histories

two_at : (p g x : ClientCall) (n : ℕ) → slice_get (p ∷ g ∷ []) n ≡ Some x → ((n ≡ 0) × (x ≡ p)) ⊎ ((n ≡ 1) × (x ≡ g))
two_at p g x zero e = inl (refl, sym (same_Some p x e))
two_at p g x (suc zero) e = inr (refl, sym (same_Some g x e))
two_at p g x (suc (suc n)) e = cc

two_once : (p g : ClientCall) → (p.token ≡ g.token → ⊥) → (m n : ℕ) (x y : ClientCall) → slice_get (p ∷ g ∷ []) m ≡ Some x
    → slice_get (p ∷ g ∷ []) n ≡ Some y → x.token ≡ y.token → m ≡ n
two_once p g apart m n x y e f t = go (two_at p g x m e) (two_at p g y n f)
  where
    go : ((m ≡ 0) × (x ≡ p)) ⊎ ((m ≡ 1) × (x ≡ g)) → ((n ≡ 0) × (y ≡ p)) ⊎ ((n ≡ 1) × (y ≡ g)) → m ≡ n
    go (inl a) (inl b) = a.0 ∙ sym b.0
    go (inl a) (inr b) = absurd (apart (sym (ap (λ (z : ClientCall). z.token) a.1) ∙ t ∙ ap (λ (z : ClientCall). z.token) b.1))
    go (inr a) (inl b) = absurd (apart (sym (ap (λ (z : ClientCall). z.token) b.1) ∙ sym t ∙ ap (λ (z : ClientCall). z.token) a.1))
    go (inr a) (inr b) = a.0 ∙ sym b.0

members_two : (p g : ClientCall) (h : List CallEvent) → Member (Invoke p) h → Member (Invoke g) h → (n : ℕ) (x : ClientCall)
    → slice_get (p ∷ g ∷ []) n ≡ Some x → Member (Invoke x) h
members_two p g h a b n x e = elim (two_at p g x n e) [
  | inl q ↦ subst (λ y. Member (Invoke y) h) (sym q.1) a
  | inr q ↦ subst (λ y. Member (Invoke y) h) (sym q.1) b
]

-- a call answered at its place among two
abbrev IsAmong : ClientCall → ClientCall → Token → Response → Type 0
IsAmong p g t r = (n : ℕ) × (x : ClientCall) × (slice_get (p ∷ g ∷ []) n ≡ Some x) × (x.token ≡ t)
    × (r ≡ response_by (left_by_all [] (take n (p ∷ g ∷ []))) x.operation)

response_is : (t u : Token) (r s : Response) → Respond t r ≡ Respond u s → (t ≡ u) × (r ≡ s)
response_is t u r s e = (cc, cc)

among_second : (p g : ClientCall) (s : Response) → s ≡ response_by (left_by_all [] (p ∷ [])) g.operation → (t : Token) (r : Response)
    → Respond t r ≡ Respond g.token s → IsAmong p g t r
among_second p g s is t r e = let q = response_is t g.token r s e in (1, g, refl, sym q.0, q.1 ∙ is)

among_first : (p g : ClientCall) (s : Response) → s ≡ response_by [] p.operation → (t : Token) (r : Response)
    → Respond t r ≡ Respond p.token s → IsAmong p g t r
among_first p g s is t r e = let q = response_is t p.token r s e in (0, p, refl, sym q.0, q.1 ∙ is)

no_invocation : (t : Token) (r : Response) (x : ClientCall) → Respond t r ≡ Invoke x → ⊥
no_invocation t r x e = cc

-- of two calls one after the other, with right responses
module _ (p g : ClientCall) (a r : Response) (apart : p.token ≡ g.token → ⊥) (first_is : a ≡ response_by [] p.operation)
    (second_is : r ≡ response_by (left_by_all [] (p ∷ [])) g.operation) where
  answered_two : (t : Token) (s : Response) → Member (Respond t s) (one_by_one p a g r) → IsAmong p g t s
  answered_two t s (inl e) = absurd (no_invocation t s p e)
  answered_two t s (inr (inl e)) = among_first p g a first_is t s e
  answered_two t s (inr (inr (inl e))) = absurd (no_invocation t s g e)
  answered_two t s (inr (inr (inr (inl e)))) = among_second p g r second_is t s e
  answered_two t s (inr (inr (inr (inr m)))) = absurd m

  -- a response before an invocation is the first one's, before the second's
  between : (i j : ℕ) (x y : ClientCall) (s : Response) → slice_get (one_by_one p a g r) i ≡ Some (Respond x.token s)
      → slice_get (one_by_one p a g r) j ≡ Some (Invoke y) → i < j → (p.token ≡ x.token) × (g ≡ y)
  between zero j x y s e f l = absurd (no_response p x.token s (same_Some _ _ e))
  between (suc zero) zero x y s e f l = absurd (omega arith)
  between (suc zero) (suc zero) x y s e f l = absurd (omega arith)
  between (suc zero) (suc (suc zero)) x y s e f l =
      ((response_is p.token x.token a s (same_Some _ _ e)).0, invoke_is g y (same_Some _ _ f))
  between (suc zero) (suc (suc (suc zero))) x y s e f l = absurd (no_invocation g.token r y (same_Some _ _ f))
  between (suc zero) (suc (suc (suc (suc j)))) x y s e f l = cc
  between (suc (suc zero)) j x y s e f l = absurd (no_response g x.token s (same_Some _ _ e))
  between (suc (suc (suc zero))) zero x y s e f l = absurd (omega arith)
  between (suc (suc (suc zero))) (suc zero) x y s e f l = absurd (omega arith)
  between (suc (suc (suc zero))) (suc (suc zero)) x y s e f l = absurd (omega arith)
  between (suc (suc (suc zero))) (suc (suc (suc zero))) x y s e f l = absurd (omega arith)
  between (suc (suc (suc zero))) (suc (suc (suc (suc j)))) x y s e f l = cc
  between (suc (suc (suc (suc i)))) j x y s e f l = cc

  accepted : IsLinearization (one_by_one p a g r) (p ∷ g ∷ [])
  accepted = record {
    invoked = members_two p g (one_by_one p a g r) (inl refl) (inr (inr (inl refl)));
    once = two_once p g apart;
    responses = answered_two;
    real_time = λ i j m n x y s e f l u v.
        let q = between i j x y s e f l in
        elim (two_at p g x m u) [
          | inl b ↦ elim (two_at p g y n v) [
            | inl d ↦ absurd (apart (ap (λ (z : ClientCall). z.token) (sym (q.1 ∙ d.1))))
            | inr d ↦ (let s = b.0 in let t = d.0 in omega arith)
          ]
          | inr b ↦ absurd (apart (q.0 ∙ ap (λ (z : ClientCall). z.token) b.1))
        ];
  }

open_only : (i j : ℕ) (x y : ClientCall) (s : Response) → slice_get read_of_open_put i ≡ Some (Respond x.token s)
    → slice_get read_of_open_put j ≡ Some (Invoke y) → i < j → ⊥
open_only zero j x y s e f l = no_response putting x.token s (same_Some _ _ e)
open_only (suc zero) j x y s e f l = no_response getting x.token s (same_Some _ _ e)
open_only (suc (suc zero)) zero x y s e f l = omega arith
open_only (suc (suc zero)) (suc zero) x y s e f l = omega arith
open_only (suc (suc zero)) (suc (suc zero)) x y s e f l = omega arith
open_only (suc (suc zero)) (suc (suc (suc j))) x y s e f l = cc
open_only (suc (suc (suc i))) j x y s e f l = cc

open_answered : (t : Token) (r : Response) → Member (Respond t r) read_of_open_put → IsAmong putting getting t r
open_answered t r (inl e) = absurd (no_invocation t r putting e)
open_answered t r (inr (inl e)) = absurd (no_invocation t r getting e)
open_answered t r (inr (inr (inl e))) = among_second putting getting _ refl t r e
open_answered t r (inr (inr (inr m))) = absurd m

never_asked : IsLinearizable unasked_response → ⊥
never_asked (order, is) =
    let x = is.responses putting.token _ (inl refl) in
    elim (is.invoked x.0 x.1 x.2) [ inl e ↦ no_response x.1 putting.token _ e | inr m ↦ m ]

two_apart : (p g : ClientCall) → p.token.client ≡ 0 → g.token.client ≡ 1 → p.token ≡ g.token → ⊥
two_apart p g e f q = clients_apart p.token g.token e f q

pub judged : HistoriesAreJudged
judged = record {
  fresh = (putting ∷ getting ∷ [], accepted putting getting _ _ (two_apart putting getting refl refl) refl refl);
  open_put = (
    putting ∷ getting ∷ [],
    record {
      invoked = members_two putting getting read_of_open_put (inl refl) (inr (inl refl));
      once = two_once putting getting (two_apart putting getting refl refl);
      responses = open_answered;
      real_time = λ i j m n x y s e f l u v. absurd (open_only i j x y s e f l);
    },
  );
  stale = refused putting getting _ _ (two_apart putting getting refl refl) (λ e. cc);
  twice = refused appending getting _ _ (two_apart appending getting refl refl) (λ e. cc);
  turned = refused appending appending_more _ _ (two_apart appending appending_more refl refl) (λ e. cc);
  unasked = never_asked;
}
