-- Datagrams whose bodies aren't read, and their bytes but for those that the others give.
use Rattle.std.specs.Prelude.{◌≡◌, ℕ, ◌+◌, true, List, [], ◌∷◌, ◌++◌, Result, Ok, Err, IsTrue, drop, length, slice_index}
use Rattle.std.specs.Int.{w16, from_be_bytes}
use Rattle.cx_letter.specs.Prelude.{code_of, kind_of, role, RoleId, Miss, by_tag, u8, u16, Letter, body, letter, body_shape, cases_with}
use Rattle.cx_letter.specs.Letter.{fits}
use Rattle.cx_letter.specs.declared.message.Msg.{Msg}
use Rattle.cx_letter.specs.declared.message.Msg.TheVariants.{Fetch}

-- the message that was read, and one that stands for a body that is none
abbrev pub msg_or : Result (Msg × List ℕ) Miss → Msg
msg_or (Ok x) = x.0
msg_or (Err miss) = Fetch 0

-- the datagram of this kind, with these roles and this body
abbrev pub letter_with : ℕ → RoleId → RoleId → List ℕ → Letter
letter_with kind from to bytes = letter from to (msg_or (by_tag (cases_with true) kind (length bytes) bytes))

-- a kind and a body are a datagram's
pub record IsSpelled (d : Letter) (kind : ℕ) (bytes : List ℕ) : Type 0 where
  pub in_range : IsTrue (fits d)
  pub kind_is : kind ≡ (body_shape d.msg).tag
  pub body_is : bytes ≡ body d

-- a role in three bytes
abbrev pub role_bytes : RoleId → List ℕ
role_bytes r = u8.spell (code_of r.kind) ++ u16.spell r.index

-- a datagram's bytes without those that the others give: its kind, who sends and who gets it, and its body
abbrev pub short : Letter → List ℕ
short d = u8.spell (body_shape d.msg).tag ++ role_bytes d.from ++ role_bytes d.to ++ body d

-- the role in the three bytes from a place on
abbrev pub role_at : ℕ → List ℕ → RoleId
role_at at bytes = role (kind_of (slice_index bytes at)) (from_be_bytes w16 (slice_index bytes (at + 1) ∷ slice_index bytes (at + 2) ∷ []))

-- the datagram in such bytes
abbrev pub letter_of : List ℕ → Letter
letter_of bytes = letter_with (slice_index bytes 0) (role_at 1 bytes) (role_at 4 bytes) (drop 7 bytes)

-- they are such bytes of a datagram
pub record IsShort (bytes : List ℕ) : Type 0 where
  pub in_range : IsTrue (fits (letter_of bytes))
  pub are_its : bytes ≡ short (letter_of bytes)
