-- What a word says in its place, or the place's fault.
use Rattle.std.specs.Prelude.{ℕ, ◌-◌, ◌+◌, ◌*◌, Bool, ◌==◌, ◌&&◌, nat_le, nat_lt, List, [], ◌∷◌, length, find, is_none, Option, Some, None}
use Rattle.std.specs.Prelude.{option_map, option_and_then, ok_or, Result, Ok, Err, if◌then◌else◌, bytes_eq}
use Rattle.cx_base.specs.Prelude.{before_first, after_first, slice_split, floor_fits, Shape, make_grid, grid_fault, kind_text, role}
use Rattle.cx_base.specs.Prelude.{is_rising, count_of, puts_anew}
use Rattle.cx_base.specs.declared.cluster.Cluster.{Cluster}
use Rattle.cx_base.specs.declared.role.Kind.{Kind}
use Rattle.cx_base.specs.declared.role.Kind.TheVariants.{Batcher, Leader, Proxy, Acceptor, Matchmaker, Replica, Unbatcher, Reader, Replacer}
use Rattle.cx_base.specs.declared.role.RoleId.{RoleId}
use Rattle.cx_base.specs.Name.{as_name}
use Rattle.cx_script.specs.declared.fault.LineFault.{LineFault}
use Rattle.cx_script.specs.declared.fault.LineFault.TheVariants.{Number, Role, Grid, Key}
use Rattle.cx_script.specs.Words.{word_number}

-- SEQ or SEQ/FLOOR: a request's number and the floor that it tells, which is the number before where SEQ stands alone
abbrev pub fitting : ℕ → ℕ → Option (ℕ × ℕ)
fitting seq floor = if floor_fits seq floor then Some (seq, floor) else None

abbrev pub seq_and_floor : List (List ℕ) → Option (ℕ × ℕ)
seq_and_floor (seq ∷ []) = option_and_then (λ n. fitting n (n - 1)) (word_number seq)
seq_and_floor (seq ∷ floor ∷ []) = option_and_then (λ n. option_and_then (fitting n) (word_number floor)) (word_number seq)
seq_and_floor other = None

abbrev pub seq_word : List ℕ → Result (ℕ × ℕ) LineFault
seq_word word = ok_or (seq_and_floor (slice_split (λ b. b == 47) word)) Number

-- N: any number
abbrev pub number_word : List ℕ → Result ℕ LineFault
number_word word = ok_or (word_number word) Number

-- S: a slot, at most 2^40
abbrev pub if_slot : ℕ → Option ℕ
if_slot slot = if nat_le slot 1099511627776 then Some slot else None

abbrev pub slot_word : List ℕ → Result ℕ LineFault
slot_word word = ok_or (option_and_then if_slot (word_number word)) Number

-- K and T: a key, a text
abbrev pub key_word : List ℕ → Result (List ℕ) LineFault
key_word word = ok_or (as_name 32 word) Key

abbrev pub text_word : List ℕ → Result (List ℕ) LineFault
text_word word = ok_or (as_name 64 word) Key

-- the number that digits spell, where it is below a count
abbrev pub number_if_below : ℕ → ℕ → Option ℕ
number_if_below count number = if nat_lt number count then Some number else None

abbrev pub index_below : ℕ → List ℕ → Option ℕ
index_below count digits = option_and_then (number_if_below count) (word_number digits)

-- a role's text is its kind, a colon and its index
abbrev pub kind_part : List ℕ → List ℕ
kind_part word = before_first (λ b. b == 58) word

abbrev pub index_part : List ℕ → List ℕ
index_part word = after_first (λ b. b == 58) word

-- client:C and the like: the index of a role of this kind
abbrev pub index_word : Cluster → Kind → List ℕ → Result ℕ LineFault
index_word c kind word =
    if bytes_eq (kind_part word) (kind_text kind) then ok_or (index_below (count_of c kind) (index_part word)) Role else Err Role

-- the same, but for the role of one index
abbrev pub other_than : ℕ → Result ℕ LineFault → Result ℕ LineFault
other_than first (Ok index) = if index == first then Err Role else Ok index
other_than first (Err fault) = Err fault

abbrev pub other_word : Cluster → Kind → ℕ → List ℕ → Result ℕ LineFault
other_word c kind first word = other_than first (index_word c kind word)

-- ROLE: any role but a client
abbrev pub server_kinds : List Kind
server_kinds = Batcher ∷ Leader ∷ Proxy ∷ Acceptor ∷ Matchmaker ∷ Replica ∷ Unbatcher ∷ Reader ∷ Replacer ∷ []

abbrev pub server_kind : List ℕ → Option Kind
server_kind text = find (λ kind. bytes_eq text (kind_text kind)) server_kinds

abbrev pub server_in : Cluster → List ℕ → Option Kind → Option RoleId
server_in c digits None = None
server_in c digits (Some kind) = option_map (role kind) (index_below (count_of c kind) digits)

abbrev pub server_named : Cluster → List ℕ → Option RoleId
server_named c word = server_in c (index_part word) (server_kind (kind_part word))

abbrev pub server_word : Cluster → List ℕ → Result RoleId LineFault
server_word c word = ok_or (server_named c word) Role

-- ROLE that puts its list anew
abbrev pub if_puts_anew : RoleId → Option RoleId
if_puts_anew r = if puts_anew r.kind then Some r else None

abbrev pub renewing_word : Cluster → List ℕ → Result RoleId LineFault
renewing_word c word = ok_or (option_and_then if_puts_anew (server_named c word)) Role

-- RxC: the sides of a grid that some members fill
abbrev pub sides_fit : ℕ → ℕ → Bool
sides_fit rows cols = nat_le 1 rows && nat_le 1 cols && nat_le (rows * cols) 16

abbrev pub sides_of : Option ℕ → Option ℕ → Option (ℕ × ℕ)
sides_of rows cols = option_and_then (λ r. option_and_then (λ c. if sides_fit r c then Some (r, c) else None) cols) rows

abbrev pub sides_word : List ℕ → Result (ℕ × ℕ) LineFault
sides_word word = ok_or (sides_of (word_number (before_first (λ b. b == 120) word)) (word_number (after_first (λ b. b == 120) word))) Grid

-- a,b,..: the members of such a grid, acceptors of the cluster
abbrev pub ids_of : ℕ → List (List ℕ) → Option (List ℕ)
ids_of count [] = Some []
ids_of count (part ∷ parts) = option_and_then (λ id. option_map (λ ids. id ∷ ids) (ids_of count parts)) (index_below count part)

abbrev pub grid_from_ids : ℕ → ℕ → List ℕ → Option Shape
grid_from_ids rows cols ids = if is_none (grid_fault rows cols ids) then Some (make_grid rows cols ids) else None

abbrev pub members_word : Cluster → ℕ → ℕ → List ℕ → Result Shape LineFault
members_word c rows cols word =
    ok_or (option_and_then (grid_from_ids rows cols) (ids_of c.acceptors (slice_split (λ b. b == 44) word))) Grid

-- a,b,..: a set of matchmakers of the cluster, 2f + 1 ids that rise
abbrev pub set_in : Cluster → List ℕ → Option (List ℕ)
set_in c ids = if (length ids == 2 * c.f + 1) && is_rising ids then Some ids else None

abbrev pub set_word : Cluster → List ℕ → Result (List ℕ) LineFault
set_word c word = ok_or (option_and_then (set_in c) (ids_of c.pool (slice_split (λ b. b == 44) word))) Number
