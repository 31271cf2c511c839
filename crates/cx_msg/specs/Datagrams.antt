-- Datagrams as bytes.
use Rattle.std.specs.Prelude.{ℕ, List, ◌++◌, length}
use Rattle.cx_letter.specs.Prelude.{code_of, Format, u8, u16, ◌▷◌, body_shape, version_of, Letter, body}
use Rattle.cx_wire.specs.Format.{shaped}
use Rattle.cx_msg.specs.declared.header.Header.{Header}

-- the letters CX
abbrev pub magic : ℕ
magic = 17240

-- the twelve bytes before a body: the letters CX, the version, the kind, who sends and who gets it, and the body's length
unfoldable pub header : Format Header
header = shaped (λ x. record {
  magic = x.0;
  version = x.1.0;
  kind = x.1.1.0;
  from = x.1.1.1.0;
  from_index = x.1.1.1.1.0;
  to = x.1.1.1.1.1.0;
  to_index = x.1.1.1.1.1.1.0;
  said = x.1.1.1.1.1.1.1;
}) (λ h. (h.magic, (h.version, (h.kind, (h.from, (h.from_index, (h.to, (h.to_index, h.said))))))))
    (u16 ▷ u8 ▷ u8 ▷ u8 ▷ u16 ▷ u8 ▷ u16 ▷ u16)

-- the header of a datagram
abbrev pub header_of : Letter → Header
header_of d = record {
  magic = magic;
  version = version_of d.msg;
  kind = (body_shape d.msg).tag;
  from = code_of d.from.kind;
  from_index = d.from.index;
  to = code_of d.to.kind;
  to_index = d.to.index;
  said = length (body_shape d.msg).bytes;
}

-- the bytes of a datagram
abbrev pub spelling : Letter → List ℕ
spelling d = header.spell (header_of d) ++ body d
