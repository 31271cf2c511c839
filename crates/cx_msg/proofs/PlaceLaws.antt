-- Where faults of decoding lie.
use Rattle.cx_base.proofs.Common.{◌≡◌, ◌⊎◌, inl, inr, ℕ, ◌+◌, ◌-◌, ◌<◌, ◌≤◌, Bool, true, false, not, cond, ltb, eqb, List, [], ◌∷◌, length}
use Rattle.cx_base.proofs.Common.{Result, Ok, Err, refl, ap, subst, arith, ◌||◌, IfErr, ltb-true, length-append}
use Rattle.cx_wire.specs.Format.{Miss, u8, u16, by_tag}
use Rattle.cx_wire.proofs.Laws.{IsBytes, u8-exact, by_tag-takes, by_tag-within, Takes-less}
use Rattle.cx_letter.specs.Messages.{body_with, cases_with, version_of}
use Rattle.cx_letter.specs.Letter.{Letter, is_kind, senders, receivers, is_listed}
use Rattle.cx_msg.specs.Datagrams.{magic, header}
use Rattle.cx_msg.specs.Decoding.{letter_at_end, after_header, with_header, decoded}
use Rattle.cx_msg.specs.Decodes.{IsDecodeFault, Decodes}
use Rattle.cx_letter.specs.Records.{record_shape, record_cases}
use Rattle.cx_msg.specs.RecordBytes.{is_tag, record_at_end, with_tag, record_of_bytes}
use Rattle.cx_msg.specs.Places.{LiesIn}
use Rattle.cx_letter.specs.declared.kept.Record.{Record}
use Rattle.cx_letter.specs.declared.message.Msg.{Msg}
use Rattle.cx_msg.specs.declared.header.Header.{Header}
use Rattle.cx_msg.specs.declared.fault.WireFault.{WireFault}
use Rattle.cx_msg.specs.declared.fault.WireFault.TheVariants as faults
use Rattle.cx_msg.proofs.BodyLaws.{bodies-sound}
use Rattle.cx_msg.proofs.DatagramLaws.{header-exact}
use Rattle.cx_msg.proofs.RecordLaws.{records-sound}

-- one fault is another
fault_is : {A : Type 0} (d e : WireFault) (r : Result A WireFault) → r ≡ Err d → r ≡ Err e → d ≡ e
fault_is d e r h k = cc

-- a test that failed, or what comes after it
stopped : {A : Type 0} (b : Bool) (d e : WireFault) (r : Result A WireFault) → cond b (Err d) r ≡ Err e
    → ((b ≡ true) × (d ≡ e)) ⊎ (r ≡ Err e)
stopped {A} true d e r h = inl (refl, fault_is {A = A} d e (Err d) refl h)
stopped false d e r h = inr h

-- ---- datagrams

version_lies : (bytes : List ℕ) (b : Bool) (n : ℕ) (d : Letter) (e : WireFault) → cond b (Ok d) (Err (faults.Version n)) ≡ Err e
    → LiesIn 4 bytes e
version_lies bytes true n d e given = absurd cc
version_lies bytes false n d e given =
    subst (λ (x : WireFault). LiesIn 4 bytes x) (fault_is {A = Letter} (faults.Version n) e _ refl given) tt

finished_lies : (bytes : List ℕ) (h : Header) (body : List ℕ) (r : Result (Msg × List ℕ) Miss) (e : WireFault)
    → IsBytes body → length bytes ≡ 12 + length body → by_tag (cases_with (eqb h.version 2)) h.kind (length body) body ≡ r
    → letter_at_end (length bytes) h r ≡ Err e → LiesIn 4 bytes e
unfolding letter_at_end
finished_lies bytes h body (Err miss) e is_bytes len same given =
    let le : miss.left ≤ length body = by_tag-within (body_with (eqb h.version 2)) (cases_with (eqb h.version 2))
    (bodies-sound (eqb h.version 2)) h.kind (length body) body miss is_bytes (omega arith) same in
    subst (λ (x : WireFault). LiesIn 4 bytes x) (fault_is {A = Letter} (faults.Field h.kind (length bytes - miss.left)) e _ refl given)
    (omega arith, omega arith)
finished_lies bytes h body (Ok (m, [])) e is_bytes len same given = version_lies bytes (eqb h.version (version_of m)) h.version _ e given
finished_lies bytes h body (Ok (m, b ∷ rest)) e is_bytes len same given =
    let t = by_tag-takes (body_with (eqb h.version 2)) (cases_with (eqb h.version 2)) (bodies-sound (eqb h.version 2)) h.kind (length body)
    body (m, b ∷ rest) is_bytes same in
    let le : length (b ∷ rest) ≤ length body = Takes-less body (body_with (eqb h.version 2) m).bytes (b ∷ rest) t.0 in
    subst (λ (x : WireFault). LiesIn 4 bytes x) (fault_is {A = Letter} (faults.Trailing (length bytes - length (b ∷ rest))) e _ refl given)
    (omega arith, omega arith)

after_lies : (bytes : List ℕ) (h : Header) (body : List ℕ) (e : WireFault) → IsBytes body → length bytes ≡ 12 + length body
    → after_header (length bytes) h body ≡ Err e → LiesIn 4 bytes e
unfolding after_header
after_lies bytes h body e is_bytes len given =
    let lies : WireFault → Type 0 = λ x. LiesIn 4 bytes x in
    elim (stopped (not (eqb h.magic magic)) faults.Magic e _ given) [
      | inl here ↦ subst lies here.1 tt
      | inr a ↦ elim (stopped (not (eqb h.version 1 || eqb h.version 2)) (faults.Version h.version) e _ a) [
        | inl here ↦ subst lies here.1 tt
        | inr b ↦ elim (stopped (not (is_kind h.kind)) (faults.Kind h.kind) e _ b) [
          | inl here ↦ subst lies here.1 tt
          | inr c ↦ elim (stopped (ltb (length body) h.said) (faults.Length h.said (length body)) e _ c) [
            | inl here ↦ subst lies here.1 tt
            | inr d ↦ elim (stopped (ltb h.said (length body)) (faults.Trailing (12 + h.said)) e _ d) [
              | inl here ↦
                  let more : h.said < length body = ltb-true _ _ here.0 in
                  subst lies here.1 (omega arith, omega arith)
              | inr f ↦ elim (stopped (not (is_listed senders h.kind h.from)) (faults.Field h.kind 4) e _ f) [
                | inl here ↦ subst lies here.1 (omega arith, omega arith)
                | inr g ↦ elim (stopped (not (is_listed receivers h.kind h.to)) (faults.Field h.kind 7) e _ g) [
                  | inl here ↦ subst lies here.1 (omega arith, omega arith)
                  | inr last ↦
                      finished_lies bytes h body (by_tag (cases_with (eqb h.version 2)) h.kind (length body) body) e is_bytes len refl last
                ]
              ]
            ]
          ]
        ]
      ]
    ]

header-size : (h : Header) → length (header.spell h) ≡ 12
unfolding header u8 u16
header-size h = refl

header_lies : (bytes : List ℕ) (r : Result (Header × List ℕ) Miss) (e : WireFault) → IsBytes bytes → header.read bytes ≡ r
    → with_header (length bytes) r ≡ Err e → LiesIn 4 bytes e
unfolding with_header
header_lies bytes (Err miss) e is_bytes same given =
    subst (λ (x : WireFault). LiesIn 4 bytes x) (fault_is {A = Letter} (faults.Short 12 (length bytes)) e _ refl given) tt
header_lies bytes (Ok (h, body)) e is_bytes same given =
    let t = header-exact.takes bytes (h, body) is_bytes same in
    let len : length bytes ≡ 12 + length body = omega (arith, ap length t.0.parts, length-append (header.spell h) body, header-size h) in
    after_lies bytes h body e t.0.rest_fits len given

decoded_lies : (bytes : List ℕ) (e : WireFault) → IsBytes bytes → decoded bytes ≡ Err e → LiesIn 4 bytes e
decoded_lies bytes e is_bytes given = header_lies bytes (header.read bytes) e is_bytes refl given

-- a fault of a datagram lies after its version and kind, in the bytes
pub faults_lie : (bytes : List ℕ) (e : WireFault) → IsBytes bytes → IsDecodeFault e (decoded bytes) → LiesIn 4 bytes e
faults_lie bytes faults.NoMemory is_bytes given = tt
faults_lie bytes (faults.Short need have) is_bytes given = tt
faults_lie bytes faults.Magic is_bytes given = tt
faults_lie bytes (faults.Version v) is_bytes given = tt
faults_lie bytes (faults.Kind k) is_bytes given = tt
faults_lie bytes (faults.Length said have) is_bytes given = tt
faults_lie bytes (faults.Trailing at) is_bytes given = decoded_lies bytes (faults.Trailing at) is_bytes given
faults_lie bytes (faults.Field kind at) is_bytes given = decoded_lies bytes (faults.Field kind at) is_bytes given

-- ---- records

ended_lies : (bytes : List ℕ) (tag : ℕ) (body : List ℕ) (r : Result (Record × List ℕ) Miss) (e : WireFault) → IsBytes body → length bytes
    ≡ 1 + length body → by_tag record_cases tag (length body) body ≡ r → record_at_end (length bytes) tag r ≡ Err e → LiesIn 1 bytes e
unfolding record_at_end
ended_lies bytes tag body (Err miss) e is_bytes len same given =
    let le : miss.left ≤ length body =
    by_tag-within record_shape record_cases records-sound tag (length body) body miss is_bytes (omega arith) same in
    subst (λ (x : WireFault). LiesIn 1 bytes x) (fault_is {A = Record} (faults.Field tag (length bytes - miss.left)) e _ refl given)
    (omega arith, omega arith)
ended_lies bytes tag body (Ok (kept, [])) e is_bytes len same given = absurd cc
ended_lies bytes tag body (Ok (kept, b ∷ rest)) e is_bytes len same given =
    let t = by_tag-takes record_shape record_cases records-sound tag (length body) body (kept, b ∷ rest) is_bytes same in
    let le : length (b ∷ rest) ≤ length body = Takes-less body (record_shape kept).bytes (b ∷ rest) t.0 in
    subst (λ (x : WireFault). LiesIn 1 bytes x) (fault_is {A = Record} (faults.Trailing (length bytes - length (b ∷ rest))) e _ refl given)
    (omega arith, omega arith)

u8-size : (n : ℕ) → length (u8.spell n) ≡ 1
unfolding u8
u8-size n = refl

tag_lies : (bytes : List ℕ) (r : Result (ℕ × List ℕ) Miss) (e : WireFault) → IsBytes bytes → u8.read bytes ≡ r
    → with_tag (length bytes) r ≡ Err e → LiesIn 1 bytes e
unfolding with_tag
tag_lies bytes (Err miss) e is_bytes same given =
    subst (λ (x : WireFault). LiesIn 1 bytes x) (fault_is {A = Record} (faults.Short 1 0) e _ refl given) tt
tag_lies bytes (Ok (tag, body)) e is_bytes same given =
    let t = u8-exact.takes bytes (tag, body) is_bytes same in
    let len : length bytes ≡ 1 + length body = omega (arith, ap length t.0.parts, length-append (u8.spell tag) body, u8-size tag) in
    elim (stopped (not (is_tag tag)) (faults.Kind tag) e _ given) [
      | inl here ↦ subst (λ (x : WireFault). LiesIn 1 bytes x) here.1 tt
      | inr rest ↦ ended_lies bytes tag body (by_tag record_cases tag (length body) body) e t.0.rest_fits len refl rest
    ]

recorded_lies : (bytes : List ℕ) (e : WireFault) → IsBytes bytes → record_of_bytes bytes ≡ Err e → LiesIn 1 bytes e
recorded_lies bytes e is_bytes given = tag_lies bytes (u8.read bytes) e is_bytes refl given

-- a fault of a record lies after its tag, in the bytes
pub record_faults_lie : (bytes : List ℕ) (r : Result Record WireFault) → IsBytes bytes → Decodes r (record_of_bytes bytes)
    → IfErr r (LiesIn 1 bytes)
record_faults_lie bytes (Ok kept) is_bytes given = tt
record_faults_lie bytes (Err faults.NoMemory) is_bytes given = tt
record_faults_lie bytes (Err (faults.Short need have)) is_bytes given = tt
record_faults_lie bytes (Err faults.Magic) is_bytes given = tt
record_faults_lie bytes (Err (faults.Version v)) is_bytes given = tt
record_faults_lie bytes (Err (faults.Kind k)) is_bytes given = tt
record_faults_lie bytes (Err (faults.Length said have)) is_bytes given = tt
record_faults_lie bytes (Err (faults.Trailing at)) is_bytes given = recorded_lies bytes (faults.Trailing at) is_bytes given
record_faults_lie bytes (Err (faults.Field kind at)) is_bytes given = recorded_lies bytes (faults.Field kind at) is_bytes given
