-- What comes of the words.
use Rattle.std.specs.Prelude.{◌≡◌, ◌⊎◌, ℕ, Bool, List, Option, None, Some}
use Rattle.cx_base.specs.declared.role.RoleId.{RoleId}
use Rattle.cx_base.specs.declared.status.Status.{Status}
use Rattle.cx_base.specs.declared.status.Status.TheVariants as status
use Rattle.cx_node.specs.Serving.{Outside, IsNodeAnswer, NodeCompletes, TellsBad as HostedTellsBad, TellsUsed as HostedTellsUsed}
use Rattle.cx_replay.specs.Generated.{ComesOfGen, Generated, GenCompletes}
use Rattle.cx_replay.specs.Lawful.{IsLawfulInput, IsLawfulGenerated}
use Rattle.cx_replay.specs.Replay.{ComesOfReplay, ReplayCompletes, Replayed}
use Rattle.compax.specs.declared.words.Invocation.{Invocation}
use Rattle.compax.specs.declared.words.Invocation.TheVariants.{Replay, Generate, Node}

-- neither the link nor the depot was used
pub record Unconnected (old new : Outside) : Type 0 where
  pub link : new.link ≡ old.link
  pub links : new.links ≡ old.links
  pub tells : new.tells ≡ old.tells
  pub stored : (me : RoleId) → new.stored me ≡ old.stored me
  pub stores : (me : RoleId) → new.stores me ≡ old.stores me

-- a replay or a node is asked for
abbrev pub ReadsInput : Option Invocation → Type 0
ReadsInput None = ⊥
ReadsInput (Some Replay) = Unit {0}
ReadsInput (Some (Generate seed count)) = ⊥
ReadsInput (Some (Node turns tend window recording roles)) = Unit {0}

-- a node is asked for
abbrev pub Hosts : Option Invocation → Type 0
Hosts None = ⊥
Hosts (Some Replay) = ⊥
Hosts (Some (Generate seed count)) = ⊥
Hosts (Some (Node turns tend window recording roles)) = Unit {0}

-- What was answered to what the words say: the outside before and after, what is known of it and how often it has failed.
pub record IsTopAnswer (said : Option Invocation) (old new : Outside) (s : Status) : Type 0 where
  -- Bad words are known exactly by the words, and then nothing is written; those of a node also by its header.
  pub bad_words : (Hosts said → ⊥) → s ≡ status.BadWords → said ≡ None
  pub refused : said ≡ None → (s ≡ status.BadWords) ⊎ (s ≡ status.NoMemory)
  pub unwritten : said ≡ None → (new.out ≡ old.out) × (new.writes ≡ old.writes)
  -- Only a replay and a node read.
  pub unread : (ReadsInput said → ⊥) → (new.left ≡ old.left) × (new.reads ≡ old.reads)
  -- Only a node uses the link and the depot.
  pub unconnected : (Hosts said → ⊥) → Unconnected old new
  -- A replay wrote the trace and the summary of the input's run, or its status says why it stopped.
  pub replayed : said ≡ Some Replay → Replayed old.left new.left old.reads new.reads old.out new.out old.writes new.writes s
  pub replay_completes : said ≡ Some Replay → ReplayCompletes old.left old.reads new.reads old.writes new.writes s
  pub comes_of_replay : said ≡ Some Replay → ComesOfReplay s
  -- Generating wrote the short summary of the run of the generator's events, or its status says why it stopped.
  pub generated : (seed count : ℕ) → said ≡ Some (Generate seed count) → Generated seed count old.out new.out old.writes new.writes s
  pub generating_completes : (seed count : ℕ) → said ≡ Some (Generate seed count) → GenCompletes old.writes new.writes s
  pub comes_of_gen : (seed count : ℕ) → said ≡ Some (Generate seed count) → ComesOfGen s
  -- A node bound, sent, kept and printed what the run of its roles says, or its status says why it stopped.
  pub hosted : (turns : ℕ) (tend : Option ℕ) (window : ℕ) (recording : Bool) (roles : List RoleId)
      → said ≡ Some (Node turns tend window recording roles) → IsNodeAnswer roles tend window recording turns old new s
  pub hosting_completes : (turns : ℕ) (tend : Option ℕ) (window : ℕ) (recording : Bool) (roles : List RoleId)
      → said ≡ Some (Node turns tend window recording roles) → NodeCompletes recording roles old new s
  pub hosting_tells_used : (turns : ℕ) (tend : Option ℕ) (window : ℕ) (recording : Bool) (roles : List RoleId)
      → said ≡ Some (Node turns tend window recording roles) → HostedTellsUsed recording roles old new s
  pub hosting_tells_bad : (turns : ℕ) (tend : Option ℕ) (window : ℕ) (recording : Bool) (roles : List RoleId)
      → said ≡ Some (Node turns tend window recording roles) → HostedTellsBad recording roles old new s

-- What is promised of the run that the words ask for, however far it was run: of the input's, or of the generated one.
abbrev pub IsLawfulAnswer : Option Invocation → Option (List ℕ) → Option (List ℕ) → Type 0
IsLawfulAnswer None left left_after = Unit {0}
IsLawfulAnswer (Some Replay) left left_after = IsLawfulInput left left_after
IsLawfulAnswer (Some (Generate seed count)) left left_after = IsLawfulGenerated seed count
IsLawfulAnswer (Some (Node turns tend window recording roles)) left left_after = Unit {0}
