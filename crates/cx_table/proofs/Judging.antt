-- What the table says of a number, and whether it knows it to be used.
use Rattle.cx_base.proofs.Common.{◌≡◌, ◌⊎◌, ℕ, Bool, true, false, not, ◌||◌, List, [], ◌∷◌, inl, inr, subst, refl, ◌==◌, if◌then◌else◌}
use Rattle.cx_base.proofs.Common.{Some, list_all, list_any, and_parts, cases_Bool, eqb-true, same_Some, Table, floor_of, is_answer_of}
use Rattle.cx_base.proofs.Common.{is_done, is_used, noted_for}
use Rattle.cx_base.specs.declared.command.Answered.{Answered}
use Rattle.cx_table.specs.Judged.{is_new, judge_noted, judge_of}
use Rattle.cx_table.specs.declared.judge.Judge.TheVariants as judge

some_noted : (client seq : ℕ) (notes : List Answered)
    → is_new (judge_noted (noted_for client seq notes)) ≡ not (list_any (is_answer_of client seq) notes)
some_noted client seq [] = refl
some_noted client seq (a ∷ notes) = go (cases_Bool (is_answer_of client seq a)) (some_noted client seq notes)
  where
    go : (is_answer_of client seq a ≡ true) ⊎ (is_answer_of client seq a ≡ false)
        → is_new (judge_noted (noted_for client seq notes)) ≡ not (list_any (is_answer_of client seq) notes)
        → is_new (judge_noted (noted_for client seq (a ∷ notes))) ≡ not (list_any (is_answer_of client seq) (a ∷ notes))
    go (inl t) rest = rw t refl
    go (inr t) rest = rw t rest

-- a number is new exactly where it isn't used
pub new_unused : (t : Table) (client seq : ℕ) → is_new (judge_of t client seq) ≡ not (is_used client seq t)
new_unused t client seq = go (is_done seq (floor_of client t.floors))
  where
    go : (d : Bool)
        → is_new (if d then judge.Past else judge_noted (noted_for client seq t.notes))
        ≡ not (d || list_any (is_answer_of client seq) t.notes)
    go true = refl
    go false = some_noted client seq t.notes

record_is : (a : Answered) (client seq : ℕ) → a.client ≡ client → a.seq ≡ seq
    → a ≡ record { client = client; seq = seq; at = a.at; reply = a.reply }
record_is a client seq p q = rw (← p, ← q) refl

-- what is noted for a number is the answer to it
pub noted_is : (client seq : ℕ) (notes : List Answered) (a : Answered) → noted_for client seq notes ≡ Some a
    → a ≡ record { client = client; seq = seq; at = a.at; reply = a.reply }
noted_is client seq [] a e = cc
noted_is client seq (x ∷ notes) a e = go (cases_Bool (is_answer_of client seq x)) e (noted_is client seq notes a)
  where
    go : (is_answer_of client seq x ≡ true) ⊎ (is_answer_of client seq x ≡ false)
        → noted_for client seq (x ∷ notes) ≡ Some a
        → (noted_for client seq notes ≡ Some a → a ≡ record { client = client; seq = seq; at = a.at; reply = a.reply })
        → a ≡ record { client = client; seq = seq; at = a.at; reply = a.reply }
    go (inl t) e rest =
        let p = and_parts (x.client == client) (x.seq == seq) t in
        let same = same_Some x a (rw t at e) in
        subst (λ (y : Answered). y ≡ record { client = client; seq = seq; at = y.at; reply = y.reply }) same
        (record_is x client seq (eqb-true x.client client p.0) (eqb-true x.seq seq p.1))
    go (inr t) e rest = rest (rw t at e)

-- what is so of each answer is so of that noted for a number
pub noted_holds : (p : Answered → Bool) (client seq : ℕ) (notes : List Answered) (a : Answered)
    → list_all p notes ≡ true → noted_for client seq notes ≡ Some a → p a ≡ true
noted_holds p client seq [] a all e = cc
noted_holds p client seq (x ∷ notes) a all e =
    go (cases_Bool (is_answer_of client seq x)) (and_parts (p x) (list_all p notes) all) e (noted_holds p client seq notes a)
  where
    go : (is_answer_of client seq x ≡ true) ⊎ (is_answer_of client seq x ≡ false)
        → (p x ≡ true) × (list_all p notes ≡ true) → noted_for client seq (x ∷ notes) ≡ Some a
        → (list_all p notes ≡ true → noted_for client seq notes ≡ Some a → p a ≡ true) → p a ≡ true
    go (inl t) parts e rest = (let same : Some x ≡ Some a = rw t at e in let here = parts.0 in cc)
    go (inr t) parts e rest = rest parts.1 (rw t at e)
