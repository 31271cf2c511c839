-- What decodes is spelled so, and what is spelled decodes.
use Rattle.std.proofs.Common.{inl, inr, ltb, sym, ap, subst, ◌∙◌, append_assoc, arith, lit<}
use Rattle.std.proofs.lemmas.Bool.{eqb-true, ltb-false, le-ltb, leb-true, lt-ltb}
use Rattle.std.proofs.lemmas.List.{append-nil, nil_from_length, length-append}
use Rattle.cx_letter.specs.Prelude.{◌≡◌, ◌⊎◌, ◌||◌, ℕ, zero, suc, ◌+◌, ◌<◌, ◌≤◌, Bool, true, false, ◌&&◌, not, cond, eqb, List, [], ◌∷◌}
use Rattle.cx_letter.specs.Prelude.{◌++◌, length, Result, Ok, Err, refl, IfOk, IsTrue, if◌then◌else◌, list_any, list_all, code_of, kind_of}
use Rattle.cx_letter.specs.Prelude.{Kind, Client, Miss, u8, ◌▷◌, by_tag, body_shape, body_with, cases_with, tells_floors, version_of}
use Rattle.cx_letter.specs.Prelude.{Letter, is_kind, senders, receivers, is_listed, nat_le}
use Rattle.cx_wire.specs.Format.{u16}
use Rattle.cx_wire.proofs.Laws.{IsBytes, IsExact, u8-exact, u16-exact, ▷-exact, shaped-exact, by_tag-takes, both, ok_is, tag_fits}
use Rattle.cx_letter.specs.Letter.{fits}
use Rattle.cx_msg.specs.Datagrams.{magic, header, header_of, spelling}
use Rattle.cx_msg.specs.Decoding.{letter_at_end, after_header, with_header, decoded}
use Rattle.cx_msg.specs.Decodes.{Decodes}
use Rattle.cx_letter.specs.declared.message.Msg.{Msg}
use Rattle.cx_letter.specs.declared.message.Msg.TheVariants.{Leads, MatchA, MatchNack, Phase1A, Nack, Phase2B, Chosen, ChosenIn, Held}
use Rattle.cx_letter.specs.declared.message.Msg.TheVariants.{Fetch, Inform, Informed, GarbageA, GarbageB, ReadReq, MatchRead, MatchReadAck}
use Rattle.cx_letter.specs.declared.message.Msg.TheVariants.{PreRead, PreReadAck, Read, Phase2A, Submit, Batch, MatchB, Phase1B, Propose}
use Rattle.cx_letter.specs.declared.message.Msg.TheVariants.{Results, Answer, ReadAnswer, SessRead, StopA, StopB, StopNack, NextA, NextB}
use Rattle.cx_letter.specs.declared.message.Msg.TheVariants.{BootA, BootB, Sets}
use Rattle.cx_msg.specs.declared.header.Header.{Header}
use Rattle.cx_msg.specs.declared.fault.WireFault.{WireFault}
use Rattle.cx_msg.specs.declared.fault.WireFault.TheVariants as faults
use Rattle.cx_msg.proofs.Sizes.{body-sizes}
use Rattle.cx_msg.proofs.BodyLaws.{bodies-sound, body-again}
use Rattle.cx_msg.proofs.Versions.{version_tag, version_bytes, version_fits, own_version}
use Rattle.cx_letter.proofs.PartsLaws.{Fitting, fitting}

pub header-exact : IsExact header
unfolding header
header-exact = shaped-exact {A = ℕ × (ℕ × (ℕ × (ℕ × (ℕ × (ℕ × (ℕ × ℕ))))))} _ _ (u16 ▷ (u8 ▷ (u8 ▷ (u8 ▷ (u16 ▷ (u8 ▷ (u16 ▷ u16)))))))
    (▷-exact u16 (u8 ▷ (u8 ▷ (u8 ▷ (u16 ▷ (u8 ▷ (u16 ▷ u16)))))) u16-exact
    (▷-exact u8 (u8 ▷ (u8 ▷ (u16 ▷ (u8 ▷ (u16 ▷ u16))))) u8-exact
    (▷-exact u8 (u8 ▷ (u16 ▷ (u8 ▷ (u16 ▷ u16)))) u8-exact
    (▷-exact u8 (u16 ▷ (u8 ▷ (u16 ▷ u16))) u8-exact
    (▷-exact u16 (u8 ▷ (u16 ▷ u16)) u16-exact
    (▷-exact u8 (u16 ▷ u16) u8-exact
    (▷-exact u16 u16 u16-exact u16-exact)))))))
    (λ x _. refl) (λ h. refl)

-- a test that bytes pass
passed : {A : Type 0} (b : Bool) (e : WireFault) (r : Result A WireFault) (x : A) → cond b (Err e) r ≡ Ok x → (b ≡ false) × (r ≡ Ok x)
passed true e r x h = absurd cc
passed false e r x h = (refl, h)

holds : (b : Bool) → not b ≡ false → b ≡ true
holds true h = refl
holds false h = absurd cc

fails : (b : Bool) → not b ≡ true → b ≡ false
fails true h = absurd cc
fails false h = refl

either : (a b : Bool) → (a || b) ≡ true → (a ≡ true) ⊎ (b ≡ true)
either true b h = inl refl
either false b h = inr h

-- ---- roles

code_back : (c : ℕ) → 1 ≤ c → c ≤ 10 → code_of (kind_of c) ≡ c
code_back zero low high = absurd (omega arith)
code_back (suc zero) low high = refl
code_back (suc (suc zero)) low high = refl
code_back (suc (suc (suc zero))) low high = refl
code_back (suc (suc (suc (suc zero)))) low high = refl
code_back (suc (suc (suc (suc (suc zero))))) low high = refl
code_back (suc (suc (suc (suc (suc (suc zero)))))) low high = refl
code_back (suc (suc (suc (suc (suc (suc (suc zero))))))) low high = refl
code_back (suc (suc (suc (suc (suc (suc (suc (suc zero)))))))) low high = refl
code_back (suc (suc (suc (suc (suc (suc (suc (suc (suc zero))))))))) low high = refl
code_back (suc (suc (suc (suc (suc (suc (suc (suc (suc (suc zero)))))))))) low high = refl
code_back (suc (suc (suc (suc (suc (suc (suc (suc (suc (suc (suc c))))))))))) low high = absurd (omega arith)

kind_back : (k : Kind) → kind_of (code_of k) ≡ k
kind_back Client = refl
kind_back other = refl

are_codes : List (ℕ × ℕ) → Bool
are_codes ps = list_all (λ (p : ℕ × ℕ). not (ltb p.1 1) && not (ltb 10 p.1)) ps

in_range : (ps : List (ℕ × ℕ)) (kind code : ℕ) → are_codes ps ≡ true → list_any (λ (p : ℕ × ℕ). eqb p.0 kind && eqb p.1 code) ps ≡ true
    → (1 ≤ code) × (code ≤ 10)
unfolding are_codes
in_range [] kind code codes h = absurd cc
in_range (p ∷ ps) kind code codes h =
    let c = both (not (ltb p.1 1) && not (ltb 10 p.1)) (list_all (λ (q : ℕ × ℕ). not (ltb q.1 1) && not (ltb 10 q.1)) ps) codes in
    let d = both (not (ltb p.1 1)) (not (ltb 10 p.1)) c.0 in
    elim (either (eqb p.0 kind && eqb p.1 code) (list_any (λ (q : ℕ × ℕ). eqb q.0 kind && eqb q.1 code) ps) h) [
      | inl here ↦
          let e = eqb-true _ _ (both (eqb p.0 kind) (eqb p.1 code) here).1 in
          let low : 1 ≤ p.1 = ltb-false _ _ (fails (ltb p.1 1) d.0) in
          let high : p.1 ≤ 10 = ltb-false _ _ (fails (ltb 10 p.1) d.1) in
          (omega arith, omega arith)
      | inr there ↦ in_range ps kind code c.1 there
    ]

sender_back : (kind code : ℕ) → is_listed senders kind code ≡ true → code_of (kind_of code) ≡ code
unfolding are_codes
sender_back kind code h = let r = in_range senders kind code refl h in code_back code r.0 r.1

getter_back : (kind code : ℕ) → is_listed receivers kind code ≡ true → code_of (kind_of code) ≡ code
unfolding are_codes
getter_back kind code h = let r = in_range receivers kind code refl h in code_back code r.0 r.1

-- ---- what decodes is spelled so

header_case : (all : ℕ) (r : Result (Header × List ℕ) Miss) (d : Letter) → with_header all r ≡ Ok d
    → (h : Header × List ℕ) × (r ≡ Ok h) × (after_header all h.0 h.1 ≡ Ok d)
unfolding with_header
header_case all (Err miss) d e = absurd cc
header_case all (Ok h) d e = (h, refl, e)

abbrev datagram_of : Header → Msg → Letter
datagram_of h m = record {
  from = record { kind = kind_of h.from; index = h.from_index };
  to = record { kind = kind_of h.to; index = h.to_index };
  msg = m;
}

-- the last test, of the version
version_test : (b : Bool) (e : WireFault) (x d : Letter) → (if b then Ok x else Err e) ≡ (let r : Result Letter WireFault = Ok d in r)
    → (b ≡ true) × (x ≡ d)
version_test true e x d h = (refl, cc)
version_test false e x d h = absurd cc

finished_case : (all : ℕ) (h : Header) (r : Result (Msg × List ℕ) Miss) (d : Letter) → letter_at_end all h r ≡ Ok d
    → (m : Msg) × (r ≡ Ok (m, [])) × (h.version ≡ version_of m) × (datagram_of h m ≡ d)
unfolding letter_at_end
finished_case all h (Err miss) d e = absurd cc
finished_case all h (Ok (m, [])) d e =
    let t = version_test (eqb h.version (version_of m)) (faults.Version h.version) (datagram_of h m) d e in (m, refl, eqb-true _ _ t.0, t.1)
finished_case all h (Ok (m, b ∷ bytes)) d e = absurd cc

record Passed (all : ℕ) (h : Header) (body : List ℕ) (d : Letter) : Type 0 where
  pub magic : h.magic ≡ magic
  pub said : h.said ≡ length body
  pub from : is_listed senders h.kind h.from ≡ true
  pub to : is_listed receivers h.kind h.to ≡ true
  pub msg : letter_at_end all h (by_tag (cases_with (eqb h.version 2)) h.kind (length body) body) ≡ Ok d

all_passed : (all : ℕ) (h : Header) (body : List ℕ) (d : Letter) → after_header all h body ≡ Ok d → Passed all h body d
unfolding after_header
all_passed all h body d e =
    let a = passed (not (eqb h.magic magic)) faults.Magic _ d e in
    let b = passed (not (eqb h.version 1 || eqb h.version 2)) (faults.Version h.version) _ d a.1 in
    let c = passed (not (is_kind h.kind)) (faults.Kind h.kind) _ d b.1 in
    let s = passed (ltb (length body) h.said) (faults.Length h.said (length body)) _ d c.1 in
    let t = passed (ltb h.said (length body)) (faults.Trailing (12 + h.said)) _ d s.1 in
    let u = passed (not (is_listed senders h.kind h.from)) (faults.Field h.kind 4) _ d t.1 in
    let v = passed (not (is_listed receivers h.kind h.to)) (faults.Field h.kind 7) _ d u.1 in
    let low : h.said ≤ length body = ltb-false _ _ s.0 in
    let high : length body ≤ h.said = ltb-false _ _ t.0 in
    record {
      magic = eqb-true _ _ (holds (eqb h.magic magic) a.0);
      said = omega arith;
      from = holds (is_listed senders h.kind h.from) u.0;
      to = holds (is_listed receivers h.kind h.to) v.0;
      msg = v.1;
    }

-- the header that a decoded datagram has
same_header : (h : Header) (m : Msg) → h.magic ≡ magic → h.version ≡ version_of m → (body_shape m).tag ≡ h.kind → code_of (kind_of h.from)
    ≡ h.from → code_of (kind_of h.to) ≡ h.to → length (body_shape m).bytes ≡ h.said → header_of (datagram_of h m) ≡ h
same_header h m mg ve ki fr to sa =
    let with_magic : ℕ → Header = λ x. record {
      magic = x;
      version = version_of m;
      kind = (body_shape m).tag;
      from = code_of (kind_of h.from);
      from_index = h.from_index;
      to = code_of (kind_of h.to);
      to_index = h.to_index;
      said = length (body_shape m).bytes;
    } in
    let with_version : ℕ → Header = λ x. record {
      magic = h.magic;
      version = x;
      kind = (body_shape m).tag;
      from = code_of (kind_of h.from);
      from_index = h.from_index;
      to = code_of (kind_of h.to);
      to_index = h.to_index;
      said = length (body_shape m).bytes;
    } in
    let with_kind : ℕ → Header = λ x. record {
      magic = h.magic;
      version = h.version;
      kind = x;
      from = code_of (kind_of h.from);
      from_index = h.from_index;
      to = code_of (kind_of h.to);
      to_index = h.to_index;
      said = length (body_shape m).bytes;
    } in
    let with_from : ℕ → Header = λ x. record {
      magic = h.magic;
      version = h.version;
      kind = h.kind;
      from = x;
      from_index = h.from_index;
      to = code_of (kind_of h.to);
      to_index = h.to_index;
      said = length (body_shape m).bytes;
    } in
    let with_to : ℕ → Header = λ x. record {
      magic = h.magic;
      version = h.version;
      kind = h.kind;
      from = h.from;
      from_index = h.from_index;
      to = x;
      to_index = h.to_index;
      said = length (body_shape m).bytes;
    } in
    let with_said : ℕ → Header = λ x. record {
      magic = h.magic;
      version = h.version;
      kind = h.kind;
      from = h.from;
      from_index = h.from_index;
      to = h.to;
      to_index = h.to_index;
      said = x;
    } in
    ap with_magic (sym mg) ∙ ap with_version (sym ve) ∙ ap with_kind ki ∙ ap with_from fr ∙ ap with_to to ∙ ap with_said sa

index_fits : (h : Header) → header.fits h ≡ true → (u16.fits h.from_index ≡ true) × (u16.fits h.to_index ≡ true)
unfolding header
index_fits h e =
    let g = u16.fits h.said in
    let f = u16.fits h.to_index && g in
    let k = u8.fits h.to && f in
    let l = u16.fits h.from_index && k in
    let m = u8.fits h.from && l in
    let n = u8.fits h.kind && m in
    let o = u8.fits h.version && n in
    let a = both (u16.fits h.magic) o e in
    let b = both (u8.fits h.version) n a.1 in
    let c = both (u8.fits h.kind) m b.1 in
    let d = both (u8.fits h.from) l c.1 in
    let p = both (u16.fits h.from_index) k d.1 in
    let q = both (u8.fits h.to) f p.1 in
    (p.0, (both (u16.fits h.to_index) g q.1).0)

pub decoded-takes : (bytes : List ℕ) (d : Letter) → IsBytes bytes → decoded bytes ≡ Ok d → (bytes ≡ spelling d) × (fits d ≡ true)
decoded-takes bytes d is_bytes e =
    let a = header_case (length bytes) (header.read bytes) d e in
    let h : Header = a.0.0 in
    let body : List ℕ = a.0.1 in
    let first = header-exact.takes bytes a.0 is_bytes a.1 in
    let p = all_passed (length bytes) h body d a.2 in
    let floors : Bool = eqb h.version 2 in
    let f = finished_case (length bytes) h (by_tag (cases_with floors) h.kind (length body) body) d p.msg in
    let m : Msg = f.0 in
    let second =
    by_tag-takes (body_with floors) (cases_with floors) (bodies-sound floors) h.kind (length body) body (m, []) first.0.rest_fits f.1 in
    let whole : body ≡ (body_shape m).bytes = second.0.parts ∙ append-nil (body_with floors m).bytes ∙ version_bytes floors m in
    let kind : (body_shape m).tag ≡ h.kind = sym (version_tag floors m) ∙ second.2 in
    let fit : (body_shape m).fits ≡ true = version_fits floors m second.1 in
    let len : length (body_shape m).bytes ≡ h.said = sym (p.said ∙ ap length whole) in
    let same = same_header h m p.magic f.2 kind (sender_back h.kind h.from p.from) (getter_back h.kind h.to p.to) len in
    let indexes = index_fits h first.1 in
    let from : is_listed senders (body_shape m).tag (code_of (kind_of h.from)) ≡ true =
    rw (kind, sender_back h.kind h.from p.from) p.from in
    let to : is_listed receivers (body_shape m).tag (code_of (kind_of h.to)) ≡ true = rw (kind, getter_back h.kind h.to p.to) p.to in
    subst (λ (x : Letter). (bytes ≡ spelling x) × (fits x ≡ true)) f.3
    (rw (same, ← whole) first.0.parts, rw (indexes.0, indexes.1, from, to, fit) refl)

-- ---- what is spelled decodes

has_kind : (m : Msg) → is_kind (body_shape m).tag ≡ true
has_kind (Leads a) = refl
has_kind (MatchA a b) = refl
has_kind (MatchNack a b c) = refl
has_kind (Phase1A a) = refl
has_kind (Nack a b) = refl
has_kind (Phase2B a b) = refl
has_kind (Chosen a b) = refl
has_kind (ChosenIn a b) = refl
has_kind (Held a) = refl
has_kind (Fetch a) = refl
has_kind (Inform a b) = refl
has_kind (Informed a b) = refl
has_kind (GarbageA a b) = refl
has_kind (GarbageB a) = refl
has_kind (ReadReq a b c) = refl
has_kind (MatchRead a) = refl
has_kind (MatchReadAck a b c) = refl
has_kind (PreRead a b) = refl
has_kind (PreReadAck a b c) = refl
has_kind (Read a b c) = refl
has_kind (Phase2A r s cw v) = refl
has_kind (Submit c) = refl
has_kind (Batch cs) = refl
has_kind (MatchB r w es) = refl
has_kind (Phase1B r cw vs) = refl
has_kind (Propose r g s cw v) = refl
has_kind (Results s as') = refl
has_kind (Answer q n r) = refl
has_kind (ReadAnswer q n t) = refl
has_kind (StopA a) = refl
has_kind (StopB r w es a s) = refl
has_kind (StopNack a b) = refl
has_kind (NextA a b) = refl
has_kind (NextB a) = refl
has_kind (BootA s w es) = refl
has_kind (BootB a) = refl
has_kind (Sets a) = refl
has_kind (SessRead q n key) = refl

same_datagram : (d : Letter) → datagram_of (header_of d) d.msg ≡ d
same_datagram d =
    let with_from : Kind → Letter = λ k. record {
      from = record { kind = k; index = d.from.index };
      to = record { kind = kind_of (code_of d.to.kind); index = d.to.index };
      msg = d.msg;
    } in
    let with_to : Kind → Letter = λ k. record { from = d.from; to = record { kind = k; index = d.to.index }; msg = d.msg } in
    ap with_from (kind_back d.from.kind) ∙ ap with_to (kind_back d.to.kind)

small_kind : (kind : ℕ) → is_kind kind ≡ true → kind < 256
small_kind kind h = let le : kind ≤ 38 = leb-true _ _ (both (nat_le 1 kind) (nat_le kind 38) h).1 in omega arith

pub small_tag : (m : Msg) → (body_shape m).tag < 256
small_tag m = small_kind (body_shape m).tag (has_kind m)

small_code : (k : Kind) → code_of k < 256
small_code Client = lit< tt
small_code other = lit< tt

short_fits : (n : ℕ) → n < 65536 → u16.fits n ≡ true
unfolding u16
short_fits n lt = lt-ltb _ _ lt

small_version : (m : Msg) → u8.fits (version_of m) ≡ true
small_version m = go (tells_floors m)
  where
    go : (b : Bool) → u8.fits (if b then 2 else 1) ≡ true
    go true = tag_fits 2 (lit< tt)
    go false = tag_fits 1 (lit< tt)

header_fits : (d : Letter) → Fitting d → header.fits (header_of d) ≡ true
unfolding header
header_fits d f =
    let size = body-sizes d.msg f.msg in
    let said : u16.fits (length (body_shape d.msg).bytes) ≡ true = short_fits (length (body_shape d.msg).bytes) (omega arith) in
    rw (
      short_fits magic (lit< tt),
      small_version d.msg,
      tag_fits (body_shape d.msg).tag (small_tag d.msg),
      tag_fits (code_of d.from.kind) (small_code d.from.kind),
      f.from_index,
      tag_fits (code_of d.to.kind) (small_code d.to.kind),
      f.to_index,
      said,
    ) refl

version_known : (b : Bool) → (eqb (if b then 2 else 1) 1 || eqb (if b then 2 else 1) 2) ≡ true
version_known true = refl
version_known false = refl

version_second : (b : Bool) → eqb (if b then 2 else 1) 2 ≡ b
version_second true = refl
version_second false = refl

version_same : (b : Bool) → eqb (if b then 2 else 1) (if b then 2 else 1) ≡ true
version_same true = refl
version_same false = refl

pub decoded-again : (d : Letter) → fits d ≡ true → decoded (spelling d) ≡ Ok d
unfolding with_header after_header letter_at_end
decoded-again d h =
    let s = body_shape d.msg in
    let f = fitting d h in
    let first : header.read (header.spell (header_of d) ++ s.bytes) ≡ Ok (header_of d, s.bytes) =
    header-exact.again (header_of d) s.bytes (header_fits d f) in
    let even : ltb (length s.bytes) (length s.bytes) ≡ false = le-ltb _ _ (omega arith) in
    let floors : Bool = tells_floors d.msg in
    let own : (body_with floors d.msg).fits ≡ true = own_version floors d.msg refl f.msg in
    let back : by_tag (cases_with floors) (body_with floors d.msg).tag (length (body_with floors d.msg).bytes)
    ((body_with floors d.msg).bytes ++ []) ≡ Ok (d.msg, []) = body-again floors d.msg (length (body_with floors d.msg).bytes) [] own in
    let second : by_tag (cases_with floors) s.tag (length s.bytes) s.bytes ≡ Ok (d.msg, []) =
    ap (by_tag (cases_with floors) s.tag (length s.bytes)) (sym (append-nil s.bytes))
    ∙ (rw (← version_tag floors d.msg, ← version_bytes floors d.msg) back) in
    let kind : is_kind s.tag ≡ true = has_kind d.msg in
    let done : Letter → Result Letter WireFault = λ x. Ok x in
    let known : (eqb (version_of d.msg) 1 || eqb (version_of d.msg) 2) ≡ true = version_known floors in
    let second_one : eqb (version_of d.msg) 2 ≡ floors = version_second floors in
    let same : eqb (version_of d.msg) (version_of d.msg) ≡ true = version_same floors in
    rw (first, known, kind, even, f.from, f.to, second_one, second, same) (ap done (same_datagram d))

pub is_found : (bytes : List ℕ) (r : Result Letter WireFault) → IsBytes bytes → Decodes r (decoded bytes)
    → IfOk r (λ d. (bytes ≡ spelling d) × IsTrue (fits d))
is_found bytes (Ok d) is_bytes given = decoded-takes bytes d is_bytes given
is_found bytes (Err e) is_bytes given = tt

-- ---- no spelling begins another

abbrev found_is : Letter → Result Letter WireFault
found_is d = Ok d

same_found : (d e : Letter) → found_is d ≡ found_is e → d ≡ e
same_found d e h = cc

pub one_spelling : (d e : Letter) (more : List ℕ) → fits d ≡ true → fits e ≡ true → spelling d ++ more ≡ spelling e → (d ≡ e) × (more ≡ [])
one_spelling d e more fit_d fit_e same =
    let s = (body_shape d.msg).bytes in
    let t = (body_shape e.msg).bytes in
    let read_d : header.read (spelling d ++ more) ≡ Ok (header_of d, s ++ more) = ap header.read
    (append_assoc (header.spell (header_of d)) s more) ∙ header-exact.again (header_of d) (s ++ more) (header_fits d (fitting d fit_d)) in
    let read_e : header.read (spelling e) ≡ Ok (header_of e, t) = header-exact.again (header_of e) t (header_fits e (fitting e fit_e)) in
    let done : Header × List ℕ → Result (Header × List ℕ) Miss = λ x. Ok x in
    let pair : done (header_of d, s ++ more) ≡ done (header_of e, t) = sym read_d ∙ ap header.read same ∙ read_e in
    let parts = ok_is (header_of d, s ++ more) (header_of e, t) pair in
    let said : length s ≡ length t = ap (λ (p : Header × List ℕ). p.0.said) parts in
    let rest : s ++ more ≡ t = ap (λ (p : Header × List ℕ). p.1) parts in
    let none : more ≡ [] = nil_from_length more (omega (arith, said, length-append s more, ap length rest)) in
    let text : spelling d ≡ spelling e = sym (append-nil (spelling d)) ∙ ap (λ (x : List ℕ). spelling d ++ x) (sym none) ∙ same in
    let found : Letter → Result Letter WireFault = λ x. Ok x in
    let both_read : found d ≡ found e = sym (decoded-again d fit_d) ∙ ap decoded text ∙ decoded-again e fit_e in
    (same_found d e both_read, none)
