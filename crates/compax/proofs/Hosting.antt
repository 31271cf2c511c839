-- What is answered to words that ask for a node.
use Rattle.cx_node.proofs.Common.{◌≡◌, ℕ, Bool, List, Option, Some, None, sym, subst, RoleId}
use Rattle.cx_base.specs.declared.status.Status.{Status}
use Rattle.cx_node.specs.Serving.{Outside, IsNodeAnswer, NodeCompletes, TellsBad as HostedTellsBad, TellsUsed as HostedTellsUsed}
use Rattle.compax.specs.Answer.{IsTopAnswer}
use Rattle.compax.specs.declared.words.Invocation.{Invocation}
use Rattle.compax.specs.declared.words.Invocation.TheVariants.{Replay, Generate, Node}

module _ (turns : ℕ) (tend : Option ℕ) (window : ℕ) (recording : Bool) (roles : List RoleId) where
  not_none : {A : Type 0} → Some (Node turns tend window recording roles) ≡ None → A
  not_none e = cc

  not_replay : {A : Type 0} → Some (Node turns tend window recording roles) ≡ Some Replay → A
  not_replay e = cc

  not_generated : {A : Type 0} (seed count : ℕ) → Some (Node turns tend window recording roles) ≡ Some (Generate seed count) → A
  not_generated seed count e = cc

  same_turns : (t : ℕ) (m : Option ℕ) (w : ℕ) (b : Bool) (rs : List RoleId)
      → Some (Node turns tend window recording roles) ≡ Some (Node t m w b rs) → turns ≡ t
  same_turns t m w b rs e = cc

  same_tend : (t : ℕ) (m : Option ℕ) (w : ℕ) (b : Bool) (rs : List RoleId)
      → Some (Node turns tend window recording roles) ≡ Some (Node t m w b rs) → tend ≡ m
  same_tend t m w b rs e = cc

  same_window : (t : ℕ) (m : Option ℕ) (w : ℕ) (b : Bool) (rs : List RoleId)
      → Some (Node turns tend window recording roles) ≡ Some (Node t m w b rs) → window ≡ w
  same_window t m w b rs e = cc

  same_recording : (t : ℕ) (m : Option ℕ) (w : ℕ) (b : Bool) (rs : List RoleId)
      → Some (Node turns tend window recording roles) ≡ Some (Node t m w b rs) → recording ≡ b
  same_recording t m w b rs e = cc

  same_roles : (t : ℕ) (m : Option ℕ) (w : ℕ) (b : Bool) (rs : List RoleId)
      → Some (Node turns tend window recording roles) ≡ Some (Node t m w b rs) → roles ≡ rs
  same_roles t m w b rs e = cc

  node_answered : (old new : Outside) (s : Status) → IsNodeAnswer roles tend window recording turns old new s
      → NodeCompletes recording roles old new s → HostedTellsUsed recording roles old new s → HostedTellsBad recording roles old new s
      → IsTopAnswer (Some (Node turns tend window recording roles)) old new s
  node_answered old new s hosted completes tells_used tells_bad = record {
    bad_words = λ unhosted e. absurd (unhosted tt);
    refused = not_none;
    unwritten = not_none;
    unread = λ unread. absurd (unread tt);
    unconnected = λ unhosted. absurd (unhosted tt);
    replayed = not_replay;
    replay_completes = not_replay;
    comes_of_replay = not_replay;
    generated = λ seed count. not_generated seed count;
    generating_completes = λ seed count. not_generated seed count;
    comes_of_gen = λ seed count. not_generated seed count;
    hosted = λ t m w b rs e.
        subst (λ (n : ℕ). IsNodeAnswer rs m w b n old new s) (same_turns t m w b rs e)
        (subst (λ (n : ℕ). IsNodeAnswer rs m n b turns old new s) (same_window t m w b rs e)
        (subst (λ (o : Option ℕ). IsNodeAnswer rs o window b turns old new s) (same_tend t m w b rs e)
        (subst (λ (r : Bool). IsNodeAnswer rs tend window r turns old new s) (same_recording t m w b rs e)
        (subst (λ (hs : List RoleId). IsNodeAnswer hs tend window recording turns old new s) (same_roles t m w b rs e) hosted))));
    hosting_completes = λ t m w b rs e.
        subst (λ (r : Bool). NodeCompletes r rs old new s) (same_recording t m w b rs e)
        (subst (λ (hs : List RoleId). NodeCompletes recording hs old new s) (same_roles t m w b rs e) completes);
    hosting_tells_used = λ t m w b rs e.
        subst (λ (r : Bool). HostedTellsUsed r rs old new s) (same_recording t m w b rs e)
        (subst (λ (hs : List RoleId). HostedTellsUsed recording hs old new s) (same_roles t m w b rs e) tells_used);
    hosting_tells_bad = λ t m w b rs e.
        subst (λ (r : Bool). HostedTellsBad r rs old new s) (same_recording t m w b rs e)
        (subst (λ (hs : List RoleId). HostedTellsBad recording hs old new s) (same_roles t m w b rs e) tells_bad);
  }

  -- what hosting came to is what is answered
  pub answered_node : (said : Option Invocation) (old new : Outside) (s : Status) → said ≡ Some (Node turns tend window recording roles)
      → IsNodeAnswer roles tend window recording turns old new s → NodeCompletes recording roles old new s
      → HostedTellsUsed recording roles old new s → HostedTellsBad recording roles old new s → IsTopAnswer said old new s
  answered_node said old new s asked hosted completes tells_used tells_bad =
      subst (λ (o : Option Invocation). IsTopAnswer o old new s) (sym asked) (node_answered old new s hosted completes tells_used tells_bad)
