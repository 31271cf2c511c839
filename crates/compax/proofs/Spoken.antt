-- What words say that are written out, whatever the program is called.
use Rattle.clap.proofs.OnLiterals.{clap_on_literals}
use Rattle.cx_base.proofs.Common.{◌≡◌, refl, ℕ, List, [], ◌∷◌, codes, Some, None, true, false, role}
use Rattle.cx_base.specs.declared.role.Kind.TheVariants.{Batcher, Client}
use Rattle.compax.specs.declared.words.Invocation.TheVariants.{Replay, Generate, Node}
use Rattle.compax.specs.Words.{said}

pub replay_said : (program : List ℕ) → said (program ∷ codes "replay" ∷ []) ≡ Some Replay
unfolding said clap_on_literals
replay_said program = refl

pub least_said : (program : List ℕ) → said (program ∷ codes "gen" ∷ codes "0" ∷ codes "0" ∷ []) ≡ Some (Generate 0 0)
unfolding said clap_on_literals
least_said program = refl

pub most_said : (program : List ℕ)
    → said (program ∷ codes "gen" ∷ codes "18446744073709551615" ∷ codes "65535" ∷ []) ≡ Some (Generate 18446744073709551615 65535)
unfolding said clap_on_literals
most_said program = refl

pub seed_above : (program : List ℕ) → said (program ∷ codes "gen" ∷ codes "18446744073709551616" ∷ codes "0" ∷ []) ≡ None
unfolding said clap_on_literals
seed_above program = refl

pub count_above : (program : List ℕ) → said (program ∷ codes "gen" ∷ codes "0" ∷ codes "65536" ∷ []) ≡ None
unfolding said clap_on_literals
count_above program = refl

pub nothing_said : (program : List ℕ) → said (program ∷ []) ≡ None
unfolding said clap_on_literals
nothing_said program = refl

pub help_said : (program : List ℕ) → said (program ∷ codes "--help" ∷ []) ≡ None
unfolding said clap_on_literals
help_said program = refl

pub node_said : (program : List ℕ)
    → said (program ∷ codes "node" ∷ codes "client:0" ∷ []) ≡ Some (Node 1000000 None 1 false (role Client 0 ∷ []))
unfolding said clap_on_literals
node_said program = refl

pub turns_said : (program : List ℕ) → said (program ∷ codes "node" ∷ codes "--turns" ∷ codes "75" ∷ codes "client:0" ∷ codes "batcher:0"
    ∷ []) ≡ Some (Node 75 None 1 false (role Client 0 ∷ role Batcher 0 ∷ []))
unfolding said clap_on_literals
turns_said program = refl

pub no_turn_said : (program : List ℕ) → said (program ∷ codes "node" ∷ codes "--turns" ∷ codes "0" ∷ codes "client:0" ∷ []) ≡ None
unfolding said clap_on_literals
no_turn_said program = refl

pub tend_said : (program : List ℕ) → said (program ∷ codes "node" ∷ codes "--tend" ∷ codes "64" ∷ codes "client:0" ∷ [])
    ≡ Some (Node 1000000 (Some 64) 1 false (role Client 0 ∷ []))
unfolding said clap_on_literals
tend_said program = refl

pub most_tend_said : (program : List ℕ) → said (program ∷ codes "node" ∷ codes "--tend" ∷ codes "65536" ∷ codes "--turns" ∷ codes "75"
    ∷ codes "client:0" ∷ []) ≡ Some (Node 75 (Some 65536) 1 false (role Client 0 ∷ []))
unfolding said clap_on_literals
most_tend_said program = refl

pub tend_below : (program : List ℕ) → said (program ∷ codes "node" ∷ codes "--tend" ∷ codes "63" ∷ codes "client:0" ∷ []) ≡ None
unfolding said clap_on_literals
tend_below program = refl

pub tend_above : (program : List ℕ) → said (program ∷ codes "node" ∷ codes "--tend" ∷ codes "65537" ∷ codes "client:0" ∷ []) ≡ None
unfolding said clap_on_literals
tend_above program = refl

pub window_said : (program : List ℕ) → said (program ∷ codes "node" ∷ codes "--window" ∷ codes "64" ∷ codes "client:0" ∷ [])
    ≡ Some (Node 1000000 None 64 false (role Client 0 ∷ []))
unfolding said clap_on_literals
window_said program = refl

pub no_window_said : (program : List ℕ) → said (program ∷ codes "node" ∷ codes "--window" ∷ codes "0" ∷ codes "client:0" ∷ []) ≡ None
unfolding said clap_on_literals
no_window_said program = refl

-- also where no client is hosted
pub window_above : (program : List ℕ) → said (program ∷ codes "node" ∷ codes "--window" ∷ codes "65" ∷ codes "leader:0" ∷ []) ≡ None
unfolding said clap_on_literals
window_above program = refl

pub tend_twice : (program : List ℕ)
    → said (program ∷ codes "node" ∷ codes "--tend" ∷ codes "64" ∷ codes "--tend" ∷ codes "64" ∷ codes "client:0" ∷ []) ≡ None
unfolding said clap_on_literals
tend_twice program = refl

pub record_said : (program : List ℕ)
    → said (program ∷ codes "node" ∷ codes "--record" ∷ codes "client:0" ∷ []) ≡ Some (Node 1000000 None 1 true (role Client 0 ∷ []))
unfolding said clap_on_literals
record_said program = refl

pub all_said : (program : List ℕ) → said (program ∷ codes "node" ∷ codes "--tend" ∷ codes "64" ∷ codes "--window" ∷ codes "4"
    ∷ codes "--turns" ∷ codes "75" ∷ codes "--record" ∷ codes "client:0" ∷ []) ≡ Some (Node 75 (Some 64) 4 true (role Client 0 ∷ []))
unfolding said clap_on_literals
all_said program = refl

-- it may stand behind a role
pub record_behind : (program : List ℕ) → said (program ∷ codes "node" ∷ codes "client:0" ∷ codes "--record" ∷ codes "batcher:0" ∷ [])
    ≡ Some (Node 1000000 None 1 true (role Client 0 ∷ role Batcher 0 ∷ []))
unfolding said clap_on_literals
record_behind program = refl

pub record_twice : (program : List ℕ) → said (program ∷ codes "node" ∷ codes "--record" ∷ codes "--record" ∷ codes "client:0" ∷ []) ≡ None
unfolding said clap_on_literals
record_twice program = refl

-- a flag has no value
pub record_valued : (program : List ℕ) → said (program ∷ codes "node" ∷ codes "--record=true" ∷ codes "client:0" ∷ []) ≡ None
unfolding said clap_on_literals
record_valued program = refl

pub no_role_said : (program : List ℕ) → said (program ∷ codes "node" ∷ []) ≡ None
unfolding said clap_on_literals
no_role_said program = refl

pub twice_said : (program : List ℕ) → said (program ∷ codes "node" ∷ codes "client:0" ∷ codes "client:0" ∷ []) ≡ None
unfolding said clap_on_literals
twice_said program = refl

pub misspelt_said : (program : List ℕ) → said (program ∷ codes "node" ∷ codes "claent:0" ∷ []) ≡ None
unfolding said clap_on_literals
misspelt_said program = refl
