-- A log of commands, woven with reads: each read stands behind as many commands as its place says, in front of the next one.
use Rattle.cx_inv_run.proofs.Common.{◌≡◌, ◌⊎◌, ℕ, zero, suc, ◌+◌, ◌<◌, ◌≤◌, Bool, true, false, List, [], ◌∷◌, ◌++◌, take, length, map, Some}
use Rattle.cx_inv_run.proofs.Common.{inl, inr, ap, sym, subst, ◌∙◌, refl, arith}
use Rattle.cx_inv_run.proofs.Common.{slice_get, if◌then◌else◌, cases_lt, append_assoc, append-nil}
use Rattle.cx_inv_run.proofs.Common.{same_Some, Command, Pair, map_behind, Member, Member-cases, Member-at}
use Rattle.cx_base.specs.Fold.{acts, map_after}
use Rattle.cx_linear.specs.Linearizable.{ClientCall, left_by}
use Rattle.cx_linear.specs.Linearizable.{Update, Get}

-- a call with its place: the ranks of reads behind k commands are 2k, that of the next command 2k + 1, and reads of one rank have turns
pub record Item : Type 0 where
  pub rank : ℕ
  pub turn : ℕ
  pub call : ClientCall

abbrev pub IsBefore : Item → Item → Type 0
IsBefore x y = (x.rank < y.rank) ⊎ ((x.rank ≡ y.rank) × (x.turn < y.turn))

pub never_both : (x y : Item) → IsBefore x y → IsBefore y x → ⊥
never_both x y (inl l) (inl m) = omega arith
never_both x y (inl l) (inr m) = let e = m.0 in omega arith
never_both x y (inr l) (inl m) = let e = l.0 in omega arith
never_both x y (inr l) (inr m) = let e = l.1 in let f = m.1 in omega arith

-- each item is before all later ones
abbrev pub Sorted : List Item → Type 0
Sorted [] = Unit {0}
Sorted (x ∷ xs) = ((y : Item) → Member y xs → IsBefore x y) × Sorted xs

pub sorted_both : (xs ys : List Item) → Sorted xs → Sorted ys
    → ((x y : Item) → Member x xs → Member y ys → IsBefore x y) → Sorted (xs ++ ys)
sorted_both [] ys s t h = t
sorted_both (x ∷ xs) ys s t h = (
  λ y m. elim (Member-cases y xs ys m) [ inl p ↦ s.0 y p | inr q ↦ h x y (inl refl) q ],
  sorted_both xs ys s.1 t (λ z y p q. h z y (inr p) q),
)

sorted_at : (xs : List Item) → Sorted xs → (m n : ℕ) (x y : Item) → slice_get xs m ≡ Some x → slice_get xs n ≡ Some y → m < n
    → IsBefore x y
sorted_at [] s m n x y g h l = cc
sorted_at (z ∷ xs) s m zero x y g h l = absurd (omega arith)
sorted_at (z ∷ xs) s zero (suc n) x y g h l = subst (λ u. IsBefore u y) (same_Some z x g) (s.0 y (Member-at y xs n h))
sorted_at (z ∷ xs) s (suc m) (suc n) x y g h l = sorted_at xs s.1 m n x y g h (omega arith)

-- so places are as items are
pub placed_before : (xs : List Item) → Sorted xs → (m n : ℕ) (x y : Item) → slice_get xs m ≡ Some x → slice_get xs n ≡ Some y → IsBefore x y
    → m < n
placed_before xs s m n x y g h b = elim (cases_lt m n) [
  | inl l ↦ l
  | inr l ↦ elim (cases_lt n m) [
    | inl k ↦ absurd (never_both x y b (sorted_at xs s n m y x h g k))
    | inr k ↦ (let e : m ≡ n = omega arith in
        let q : x ≡ y = same_Some x y (sym g ∙ ap (λ i. slice_get xs i) e ∙ h) in
        absurd (never_both x x (subst (λ u. IsBefore x u) (sym q) b) (subst (λ u. IsBefore x u) (sym q) b)))
  ]
]

pub placed_same : (xs : List Item) → Sorted xs → (m n : ℕ) (x y : Item) → slice_get xs m ≡ Some x → slice_get xs n ≡ Some y
    → x.rank ≡ y.rank → x.turn ≡ y.turn → m ≡ n
placed_same xs s m n x y g h r t = elim (cases_lt m n) [
  | inl l ↦ absurd (never x y r t (sorted_at xs s m n x y g h l))
  | inr l ↦ elim (cases_lt n m) [
    | inl k ↦ absurd (never y x (sym r) (sym t) (sorted_at xs s n m y x h g k))
    | inr k ↦ omega arith
  ]
]
  where
    never : (x y : Item) → x.rank ≡ y.rank → x.turn ≡ y.turn → IsBefore x y → ⊥
    never x y r t (inl l) = omega arith
    never x y r t (inr l) = let k = l.1 in omega arith

-- the map that the calls of items leave
abbrev pub left_after : List Pair → List Item → List Pair
left_after map [] = map
left_after map (x ∷ xs) = left_after (left_by map x.call.operation) xs

pub left_after_both : (map : List Pair) (xs ys : List Item) → left_after map (xs ++ ys) ≡ left_after (left_after map xs) ys
left_after_both map [] ys = refl
left_after_both map (x ∷ xs) ys = left_after_both (left_by map x.call.operation) xs ys

-- an item stands among others where this map is left
pub record HasPlace (items : List Item) (x : Item) (from map : List Pair) : Type 0 where
  pub front : List Item
  pub rest : List Item
  pub split : items ≡ front ++ x ∷ rest
  pub left : left_after from front ≡ map

place_front : (xs ys : List Item) (x : Item) (from map : List Pair) → HasPlace xs x from map → HasPlace (xs ++ ys) x from map
place_front xs ys x from map h = record {
  front = h.front;
  rest = h.rest ++ ys;
  split = ap (λ l. l ++ ys) h.split ∙ append_assoc h.front (x ∷ h.rest) ys;
  left = h.left;
}

place_behind : (xs ys : List Item) (x : Item) (from map : List Pair) → HasPlace ys x (left_after from xs) map
    → HasPlace (xs ++ ys) x from map
place_behind xs ys x from map h = record {
  front = xs ++ h.front;
  rest = h.rest;
  split = ap (λ l. xs ++ l) h.split ∙ sym (append_assoc xs h.front (x ∷ h.rest));
  left = left_after_both from xs h.front ∙ h.left;
}

-- a read leaves the map as it is
abbrev pub IsGet : Item → Type 0
IsGet x = (key : List ℕ) × (x.call.operation ≡ Get key)

get_leaves : (map : List Pair) (x : Item) → IsGet x → left_by map x.call.operation ≡ map
get_leaves map x h = ap (λ o. left_by map o) h.1

gets_leave : (map : List Pair) (xs : List Item) → ((x : Item) → Member x xs → IsGet x) → left_after map xs ≡ map
gets_leave map [] h = refl
gets_leave map (x ∷ xs) h = ap (λ m. left_after m xs) (get_leaves map x (h x (inl refl))) ∙ gets_leave map xs (λ y m. h y (inr m))

get_place : (map : List Pair) (xs : List Item) (x : Item) → ((y : Item) → Member y xs → IsGet y) → Member x xs → HasPlace xs x map map
get_place map [] x h m = absurd m
get_place map (y ∷ xs) x h (inl e) =
    record { front = []; rest = xs; split = ap (λ z. z ∷ xs) (sym e); left = refl }
get_place map (y ∷ xs) x h (inr m) =
    let p = get_place map xs x (λ z k. h z (inr k)) m in
    record {
      front = y ∷ p.front;
      rest = p.rest;
      split = ap (λ l. y ∷ l) p.split;
      left = ap (λ u. left_after u p.front) (get_leaves map y (h y (inl refl))) ∙ p.left;
    }

-- the call of a command
abbrev pub call_by : Command → ClientCall
call_by c = record { token = record { client = c.client; seq = c.seq }; operation = Update c.op }

abbrev pub command_item : ℕ → Command → Item
command_item k c = record { rank = suc (k + k); turn = 0; call = call_by c }

abbrev acting : Bool → ℕ → Command → List Item
acting true k c = command_item k c ∷ []
acting false k c = []

module _ (reads : ℕ → List Item) (sorted : (k : ℕ) → Sorted (reads k)) (ranked : (k : ℕ) (x : Item) → Member x (reads k) → x.rank ≡ k + k)
    (gets : (k : ℕ) (x : Item) → Member x (reads k) → IsGet x) where
  abbrev pub weave : ℕ → List Command → List Command → List Item
  weave k before [] = reads k
  weave k before (c ∷ cs) = reads k ++ (acting (acts before c) k c ++ weave (suc k) (before ++ c ∷ []) cs)

  acting_rank : (b : Bool) (k : ℕ) (c : Command) (x : Item) → Member x (acting b k c) → x ≡ command_item k c
  acting_rank true k c x (inl e) = e
  acting_rank true k c x (inr m) = absurd m
  acting_rank false k c x m = absurd m

  acting_sorted : (b : Bool) (k : ℕ) (c : Command) → Sorted (acting b k c)
  acting_sorted true k c = (λ y m. absurd m, tt)
  acting_sorted false k c = tt

  rank_least : (cs : List Command) (k : ℕ) (before : List Command) (x : Item) → Member x (weave k before cs) → k + k ≤ x.rank
  rank_least [] k before x m = let e = ranked k x m in omega arith
  rank_least (c ∷ cs) k before x m =
      elim (Member-cases x (reads k) (acting (acts before c) k c ++ weave (suc k) (before ++ c ∷ []) cs) m) [
        | inl p ↦ (let e = ranked k x p in omega arith)
        | inr q ↦ elim (Member-cases x (acting (acts before c) k c) (weave (suc k) (before ++ c ∷ []) cs) q) [
          | inl p ↦ (let e : x.rank ≡ suc (k + k) = ap (λ (i : Item). i.rank) (acting_rank (acts before c) k c x p) in omega arith)
          | inr p ↦ (let l = rank_least cs (suc k) (before ++ c ∷ []) x p in omega arith)
        ]
      ]

  pub weave_sorted : (cs : List Command) (k : ℕ) (before : List Command) → Sorted (weave k before cs)
  weave_sorted [] k before = sorted k
  weave_sorted (c ∷ cs) k before =
      sorted_both (reads k) (acting (acts before c) k c ++ weave (suc k) (before ++ c ∷ []) cs) (sorted k)
      (sorted_both (acting (acts before c) k c) (weave (suc k) (before ++ c ∷ []) cs) (acting_sorted (acts before c) k c)
      (weave_sorted cs (suc k) (before ++ c ∷ [])) (λ x y p q.
      let e : x.rank ≡ suc (k + k) = ap (λ (i : Item). i.rank) (acting_rank (acts before c) k c x p) in
      let l = rank_least cs (suc k) (before ++ c ∷ []) y q in
      inl (omega arith)))
      (λ x y p q. let e = ranked k x p in let l : suc (k + k) ≤ y.rank = later y q in inl (omega arith))
    where
      later : (y : Item) → Member y (acting (acts before c) k c ++ weave (suc k) (before ++ c ∷ []) cs) → suc (k + k) ≤ y.rank
      later y q = elim (Member-cases y (acting (acts before c) k c) (weave (suc k) (before ++ c ∷ []) cs) q) [
        | inl p ↦ (let e : y.rank ≡ suc (k + k) = ap (λ (i : Item). i.rank) (acting_rank (acts before c) k c y p) in omega arith)
        | inr p ↦ (let l = rank_least cs (suc k) (before ++ c ∷ []) y p in omega arith)
      ]

  -- what is in it

  -- a command that acts behind these, with those of a part of the log before it
  pub record Acting (cs before : List Command) (k : ℕ) (x : Item) : Type 0 where
    pub earlier : List Command
    pub command : Command
    pub later : List Command
    pub split : cs ≡ earlier ++ command ∷ later
    pub acts_here : acts (before ++ earlier) command ≡ true
    pub item_is : x ≡ command_item (k + length earlier) command

  abbrev pub IsReadAt : ℕ → ℕ → Item → Type 0
  IsReadAt k most x = (j : ℕ) × (j ≤ most) × Member x (reads (k + j))

  here_acting : (b : Bool) (c : Command) (cs before : List Command) (k : ℕ) (x : Item) → acts before c ≡ b → Member x (acting b k c)
      → Acting (c ∷ cs) before k x
  here_acting true c cs before k x a (inl e) = record {
    earlier = [];
    command = c;
    later = cs;
    split = refl;
    acts_here = ap (λ l. acts l c) (append-nil before) ∙ a;
    item_is = e ∙ ap (λ i. command_item i c) (omega arith);
  }
  here_acting true c cs before k x a (inr m) = absurd m
  here_acting false c cs before k x a m = absurd m

  later_acting : (c : Command) (cs before : List Command) (k : ℕ) (x : Item) → Acting cs (before ++ c ∷ []) (suc k) x
      → Acting (c ∷ cs) before k x
  later_acting c cs before k x h = record {
    earlier = c ∷ h.earlier;
    command = h.command;
    later = h.later;
    split = ap (λ l. c ∷ l) h.split;
    acts_here = ap (λ l. acts l h.command) (sym (append_assoc before (c ∷ []) h.earlier)) ∙ h.acts_here;
    item_is = h.item_is ∙ ap (λ i. command_item i h.command) (omega arith);
  }

  pub weave_has : (cs : List Command) (k : ℕ) (before : List Command) (x : Item) → Member x (weave k before cs)
      → IsReadAt k (length cs) x ⊎ Acting cs before k x
  weave_has [] k before x m = inl (0, omega arith, subst (λ i. Member x (reads i)) (omega arith) m)
  weave_has (c ∷ cs) k before x m =
      elim (Member-cases x (reads k) (acting (acts before c) k c ++ weave (suc k) (before ++ c ∷ []) cs) m) [
        | inl p ↦ inl (0, omega arith, subst (λ i. Member x (reads i)) (omega arith) p)
        | inr q ↦ elim (Member-cases x (acting (acts before c) k c) (weave (suc k) (before ++ c ∷ []) cs) q) [
          | inl p ↦ inr (here_acting (acts before c) c cs before k x refl p)
          | inr p ↦ elim (weave_has cs (suc k) (before ++ c ∷ []) x p) [
            | inl r ↦ (let l = r.1 in inl (suc r.0, omega arith, subst (λ i. Member x (reads i)) (omega arith) r.2))
            | inr r ↦ inr (later_acting c cs before k x r)
          ]
        ]
      ]

  -- where it stands

  acting_leaves : (b : Bool) (k : ℕ) (c : Command) (map : List Pair)
      → left_after map (acting b k c) ≡ (if b then map_after map c.op else map)
  acting_leaves true k c map = refl
  acting_leaves false k c map = refl

  -- one command further
  further : (c : Command) (cs before : List Command) (k : ℕ) (x : Item) (from map : List Pair)
      → HasPlace (weave (suc k) (before ++ c ∷ []) cs) x (if acts before c then map_after from c.op else from) map
      → HasPlace (weave k before (c ∷ cs)) x from map
  further c cs before k x from map h =
      place_behind (reads k) (acting (acts before c) k c ++ weave (suc k) (before ++ c ∷ []) cs) x from map
      (place_behind (acting (acts before c) k c) (weave (suc k) (before ++ c ∷ []) cs) x (left_after from (reads k)) map
      (subst (λ u. HasPlace (weave (suc k) (before ++ c ∷ []) cs) x u map)
      (sym (ap (λ u. left_after u (acting (acts before c) k c)) (gets_leave from (reads k) (gets k))
      ∙ acting_leaves (acts before c) k c from)) h))

  command_here : (b : Bool) (c : Command) (k : ℕ) (ys : List Item) (map : List Pair) → b ≡ true
      → HasPlace (acting b k c ++ ys) (command_item k c) map map
  command_here true c k ys map e = record { front = []; rest = ys; split = refl; left = refl }
  command_here false c k ys map e = cc

  pub command_place : (earlier : List Command) (c : Command) (later before : List Command) (k : ℕ) (from : List Pair)
      → acts (before ++ earlier) c ≡ true
      → HasPlace (weave k before (earlier ++ c ∷ later)) (command_item (k + length earlier) c) from (map_behind before from earlier)
  command_place [] c later before k from a =
      subst (λ i. HasPlace (weave k before (c ∷ later)) (command_item i c) from from) (omega arith)
      (place_behind (reads k) (acting (acts before c) k c ++ weave (suc k) (before ++ c ∷ []) later) (command_item k c) from from
      (subst (λ u. HasPlace (acting (acts before c) k c ++ weave (suc k) (before ++ c ∷ []) later) (command_item k c) u from)
      (sym (gets_leave from (reads k) (gets k)))
      (command_here (acts before c) c k (weave (suc k) (before ++ c ∷ []) later) from
      (ap (λ l. acts l c) (sym (append-nil before)) ∙ a))))
  command_place (d ∷ earlier) c later before k from a =
      further d (earlier ++ c ∷ later) before k (command_item (k + length (d ∷ earlier)) c) from _
      (subst (λ i. HasPlace (weave (suc k) (before ++ d ∷ []) (earlier ++ c ∷ later)) (command_item i c)
      (if acts before d then map_after from d.op else from)
      (map_behind (before ++ d ∷ []) (if acts before d then map_after from d.op else from) earlier)) (omega arith)
      (command_place earlier c later (before ++ d ∷ []) (suc k) (if acts before d then map_after from d.op else from)
      (ap (λ l. acts l c) (append_assoc before (d ∷ []) earlier) ∙ a)))

  pub read_place : (j : ℕ) (cs before : List Command) (k : ℕ) (x : Item) (from : List Pair) → j ≤ length cs → Member x (reads (k + j))
      → HasPlace (weave k before cs) x from (map_behind before from (take j cs))
  read_place zero [] before k x from l m =
      get_place from (reads k) x (gets k) (subst (λ i. Member x (reads i)) (omega arith) m)
  read_place zero (c ∷ cs) before k x from l m =
      place_front (reads k) (acting (acts before c) k c ++ weave (suc k) (before ++ c ∷ []) cs) x from from
      (get_place from (reads k) x (gets k) (subst (λ i. Member x (reads i)) (omega arith) m))
  read_place (suc j) [] before k x from l m = absurd (omega arith)
  read_place (suc j) (c ∷ cs) before k x from l m =
      further c cs before k x from _ (read_place j cs (before ++ c ∷ []) (suc k) x (if acts before c then map_after from c.op else from)
      (omega arith) (subst (λ i. Member x (reads i)) (omega arith) m))
