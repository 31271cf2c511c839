-- How a reader is opened.
use Rattle.cx_role.proofs.Common.{◌≡◌, ap, sym, Kind, Reader, RoleId, role}

-- a role of a reader's kind is the reader of its index
pub reader_itself : (me : RoleId) → me.kind ≡ Reader → role Reader me.index ≡ me
reader_itself me is = ap (λ (k : Kind). role k me.index) (sym is)
