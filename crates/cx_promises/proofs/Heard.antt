-- A client is answered by no fewer values than it had heard of, whether it asked a reader or, in a session, a replica.
use Rattle.cx_model.specs.Prelude.{◌≡◌, ℕ, ◌≤◌, false, List, ◌++◌, Option, Cluster, Event, RoleId, Token, role, letter, Msg}
use Rattle.cx_model.specs.Prelude.{Member, OfEveryRun, SessionsComeAfterHeard, run, chosen_prefix}
use Rattle.cx_base.specs.declared.role.Kind.TheVariants as kind
use Rattle.cx_letter.specs.declared.message.Msg.TheVariants as msg
use Rattle.cx_model.specs.Heard.{mark_told}
use Rattle.cx_model.specs.History.{was_asked}
use Rattle.cx_model.specs.Promises.{IsRightRead, WantsText, WasRead}
use Rattle.cx_inv_run.proofs.Common.{inl, inr, ap, subst, arith, Member-at}
use Rattle.cx_inv_list.proofs.Answers.{reads_tell}
use Rattle.cx_inv_read.proofs.Results.{after_answers, after_heard, after_reads}

-- each answer that was sent before a read was first asked for tells of no more values
module _ (c : Cluster) (es then later : List Event) (same : es ≡ then ++ later) (t : Token)
    (unasked : was_asked t (run c then).events ≡ false) (key : List ℕ) (read : WasRead (run c es).events t.client t.seq key)
    (by client : RoleId) (n : ℕ) (found : Option (List ℕ)) (is : client ≡ role kind.Client t.client)
    (answer : Member (letter by client (msg.ReadAnswer t.seq n found)) (run c es).sent) where
  told_below : (m : ℕ) (from to : RoleId) (x : Msg) → Member (letter from to x) (run c then).sent → mark_told x ≡ m → m ≤ n
  told_below m from to (msg.Answer seq at reply) sent e =
      subst (λ k. k ≤ n) e (after_answers c es then later same from to seq at reply sent t unasked key read by client n found is answer)
  told_below m from to (msg.ReadAnswer seq at text) sent e =
      subst (λ k. k ≤ n) e (after_reads c es then later same from to seq at text sent t unasked key read by client n found is answer)
  told_below m from to other sent e = let none : 0 ≡ m = e in omega arith

pub heard_before : OfEveryRun SessionsComeAfterHeard
heard_before c es then later same t m heard unasked by client n found is answer = go
    (subst (λ i. WantsText (run c es).events i t.seq asked.key) (ap (λ (a : RoleId). a.index) is) asked.asked)
  where
    asked : IsRightRead (run c es).events (chosen_prefix (run c es).kept) client.index t.seq n found
    asked = reads_tell c es by client t.seq n found answer

    go : WantsText (run c es).events t.client t.seq asked.key → m ≤ n
    go (inl read) =
        told_below c es then later same t unasked asked.key read by client n found is answer m heard.2.from heard.2.to heard.2.msg
        (Member-at heard.2 (run c then).sent heard.0 heard.4) heard.6
    go (inr session) = after_heard c es then later same t m heard unasked asked.key session by client n found is answer
