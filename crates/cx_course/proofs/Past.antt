-- What was done by a moment, as far as a run tells it, and what a step adds.
use Rattle.cx_role.proofs.Common.{◌≡◌, ℕ, List, [], ◌∷◌, ◌++◌, map, ap, ap₂, ◌∙◌, refl, append-nil, flat_map, flat_map-append, Event}
use Rattle.cx_role.proofs.Common.{Letter}
use Rattle.cx_course.specs.Action.{Action, Answered, Kept, Noted, Printed, Sent, answered_by, answered_in, kept_as, kept_in, noted_by}
use Rattle.cx_course.specs.Action.{noted_in, sent_by, sent_in, step_actions}
use Rattle.cx_course.specs.Changing.{StoreChange}

-- the datagrams that were sent, the changes of stores, the events that were recorded, and the answers that clients took
pub record Past : Type 0 where
  pub sent : List Letter
  pub kept : List StoreChange
  pub noted : List Event
  pub answered : List Letter

abbrev past : List Letter → List StoreChange → List Event → List Letter → Past
past sent kept noted answered = record { sent = sent; kept = kept; noted = noted; answered = answered }

-- that of actions
abbrev pub past_of : List Action → Past
past_of p = past (sent_in p) (kept_in p) (noted_in p) (answered_in p)

-- and these besides
abbrev pub more : Past → List Letter → List StoreChange → List Event → List Letter → Past
more t sent kept noted answered = past (t.sent ++ sent) (t.kept ++ kept) (t.noted ++ noted) (t.answered ++ answered)

same_past : (a b : List Letter) (k l : List StoreChange) (n m : List Event) (x y : List Letter) → a ≡ b → k ≡ l → n ≡ m → x ≡ y
    → past a k n x ≡ past b l m y
same_past a b k l n m x y p q r s =
    ap (λ v. past v k n x) p ∙ ap (λ v. past b v n x) q ∙ ap (λ v. past b l v x) r ∙ ap (λ v. past b l m v) s

after_append : {A : Type 0} (by : Action → List A) (p q : List Action) (xs : List A) → flat_map by q ≡ xs
    → flat_map by (p ++ q) ≡ flat_map by p ++ xs
after_append by p q xs is = flat_map-append by p q ∙ ap (λ l. flat_map by p ++ l) is

-- actions of which this is told
pub past_more : (p q : List Action) (sent : List Letter) (kept : List StoreChange) (noted : List Event) (answered : List Letter) → sent_in q
    ≡ sent → kept_in q ≡ kept → noted_in q ≡ noted → answered_in q ≡ answered → past_of (p ++ q) ≡ more (past_of p) sent kept noted answered
past_more p q sent kept noted answered a b c d = same_past (sent_in (p ++ q)) (sent_in p ++ sent) (kept_in (p ++ q)) (kept_in p ++ kept)
    (noted_in (p ++ q)) (noted_in p ++ noted) (answered_in (p ++ q)) (answered_in p ++ answered)
    (after_append sent_by p q sent a) (after_append kept_as p q kept b) (after_append noted_by p q noted c)
    (after_append answered_by p q answered d)

-- an action of which nothing is told
pub past_same : (p : List Action) (x : Action) → sent_by x ≡ [] → kept_as x ≡ [] → noted_by x ≡ [] → answered_by x ≡ []
    → past_of (p ++ x ∷ []) ≡ past_of p
past_same p x a b c d =
    past_more p (x ∷ []) [] [] [] [] (ap (λ l. l ++ []) a) (ap (λ l. l ++ []) b) (ap (λ l. l ++ []) c) (ap (λ l. l ++ []) d)
    ∙ same_past (sent_in p ++ []) (sent_in p) (kept_in p ++ []) (kept_in p) (noted_in p ++ []) (noted_in p) (answered_in p ++ [])
    (answered_in p) (append-nil (sent_in p)) (append-nil (kept_in p)) (append-nil (noted_in p)) (append-nil (answered_in p))

-- ---- a step's actions

none_of : {A B : Type 0} (by : Action → List A) (make : B → Action) → ((x : B) → by (make x) ≡ []) → (xs : List B)
    → flat_map by (map make xs) ≡ []
none_of by make none [] = refl
none_of by make none (x ∷ xs) = ap (λ l. l ++ flat_map by (map make xs)) (none x) ∙ none_of by make none xs

all_of : {A : Type 0} (by : Action → List A) (make : A → Action) → ((x : A) → by (make x) ≡ x ∷ []) → (xs : List A)
    → flat_map by (map make xs) ≡ xs
all_of by make one [] = refl
all_of by make one (x ∷ xs) = ap (λ l. l ++ flat_map by (map make xs)) (one x) ∙ ap (λ l. x ∷ l) (all_of by make one xs)

module _ (kept : List StoreChange) (sends : List Letter) (text : List ℕ) (events : List Event) (answers : List Letter) where
  abbrev pub Block : List Action
  Block = step_actions kept sends text (map Noted events ++ map Answered answers)

  parts : {A : Type 0} (by : Action → List A) (k s t n a : List A) → flat_map by (map Kept kept) ≡ k → flat_map by (map Sent sends) ≡ s
      → flat_map by (map Printed text) ≡ t
      → flat_map by (map Noted events) ≡ n → flat_map by (map Answered answers) ≡ a → flat_map by Block ≡ k ++ (s ++ (t ++ (n ++ a)))
  parts by k s t n a ek es et en ea =
      flat_map-append by (map Kept kept) (map Sent sends ++ (map Printed text ++ (map Noted events ++ map Answered answers)))
      ∙ ap₂ (λ x y. x ++ y) ek (flat_map-append by (map Sent sends) (map Printed text ++ (map Noted events ++ map Answered answers))
      ∙ ap₂ (λ x y. x ++ y) es (flat_map-append by (map Printed text) (map Noted events ++ map Answered answers)
      ∙ ap₂ (λ x y. x ++ y) et (flat_map-append by (map Noted events) (map Answered answers) ∙ ap₂ (λ x y. x ++ y) en ea)))

  sent_so : sent_in Block ≡ sends
  sent_so = parts sent_by [] sends [] [] [] (none_of sent_by Kept (λ x. refl) kept) (all_of sent_by Sent (λ x. refl) sends) (none_of sent_by
      Printed (λ x. refl) text) (none_of sent_by Noted (λ x. refl) events) (none_of sent_by Answered (λ x. refl) answers) ∙ append-nil sends

  kept_so : kept_in Block ≡ kept
  kept_so = parts kept_as kept [] [] [] [] (all_of kept_as Kept (λ x. refl) kept) (none_of kept_as Sent (λ x. refl) sends) (none_of kept_as
      Printed (λ x. refl) text) (none_of kept_as Noted (λ x. refl) events) (none_of kept_as Answered (λ x. refl) answers) ∙ append-nil kept

  noted_so : noted_in Block ≡ events
  noted_so = parts noted_by [] [] [] events [] (none_of noted_by Kept (λ x. refl) kept) (none_of noted_by Sent (λ x. refl) sends)
      (none_of noted_by Printed (λ x. refl) text)
      (all_of noted_by Noted (λ x. refl) events) (none_of noted_by Answered (λ x. refl) answers) ∙ append-nil events

  answered_so : answered_in Block ≡ answers
  answered_so = parts answered_by [] [] [] [] answers (none_of answered_by Kept (λ x. refl) kept)
      (none_of answered_by Sent (λ x. refl) sends) (none_of answered_by Printed (λ x. refl) text)
      (none_of answered_by Noted (λ x. refl) events) (all_of answered_by Answered (λ x. refl) answers)

  -- what is told of a step
  pub past_step : (p : List Action) → past_of (p ++ Block) ≡ more (past_of p) sends kept events answers
  past_step p = past_more p Block sends kept events answers sent_so kept_so noted_so answered_so
