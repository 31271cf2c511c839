use Rattle.cx_base.proofs.Common.{◌≡◌, ◌≤◌, [], List, length, take, ℕ, true, refl, rules, arith, ◌∙◌, ap, Result, Ok, list_all}
use Rattle.cx_base.proofs.Common.{is_name_byte, err_from_is_err_and, list_all-append}
use Rattle.cx_wire.specs.Format.{Miss, each_read}
use Rattle.cx_wire.proofs.Loops.{goes_on, is_done}
use Rattle.cx_field.specs.Fields.{name_byte}
use Rattle.cx_field.proofs.Exits.{list_ends}
use Rattle.cx_field.proofs.NameBytes.{all_read, next}
use Rattle.cx_field.proofs.command_fields.name_bytes_from.Goals as goal

pub returns-in_err-name_byte_from-clause-read : goal.returns-in_err-name_byte_from-clause-read
returns-in_err-name_byte_from-clause-read c =
    let p = err_from_is_err_and c.from_residual.result c.from_residual.ensures.1 in
    rw (p.1, p.2) (list_ends (λ (_ : List ℕ). name_byte) c.in_err-name_byte_from.field-0.0 (take c.loop.counter c.bytes-bytes.result.now)
    c.args.count c.loop.counter c.loop.reader (each_read (λ _. name_byte) [] c.args.count c.args.reader.now) c.loop-test.true
    c.in_err-name_byte_from.ensures.read c.loop.invariant.so_far)

pub loop-preserved : goal.loop-preserved
loop-preserved c =
    let byte = c.in_ok-name_byte_from.field-0 in
    let n = next c.loop.counter c.bytes-bytes.result.now byte c.name_byte_from.new.reader c.loop.reader c.loop.invariant.place
    c.in_ok-name_byte_from.ensures.front in
    record {
      all = c.loop.invariant.all;
      within = n.0;
      place = n.1;
      names = rw (n.2, list_all-append, c.loop.invariant.names, c.in_ok-name_byte_from.ensures.name) refl;
      so_far = rw n.2 (goes_on (λ (_ : List ℕ). name_byte) (take c.loop.counter c.bytes-bytes.result.now) c.args.count c.loop.counter
          c.loop.reader byte c.name_byte_from.new.reader (each_read (λ _. name_byte) [] c.args.count c.args.reader.now) c.loop-test.true
          c.in_ok-name_byte_from.ensures.read c.loop.invariant.so_far);
    }

pub returns-clause-read : goal.returns-clause-read
returns-clause-read c =
    let k : c.loop.counter ≡ c.args.count = omega arith in
    let done = is_done (λ (_ : List ℕ). name_byte) (take c.loop.counter c.bytes-bytes.result.now) c.args.count c.loop.counter c.loop.reader
    (each_read (λ _. name_byte) [] c.args.count c.args.reader.now) c.loop-test.false c.loop.invariant.so_far in
    done ∙ (let pack : ℕ → Result (List ℕ × List ℕ) Miss = λ n. Ok (take n c.bytes-bytes.result.now, c.loop.reader) in ap pack k)

pub returns-then-are_name_bytes-clause-read : goal.returns-then-are_name_bytes-clause-read
returns-then-are_name_bytes-clause-read c =
    let bytes = c.bytes-bytes.result.now in
    let long : c.args.count ≤ length bytes = search rules in
    let all : list_all is_name_byte (take c.args.count bytes) ≡ true = search rules in
    rw (c.skip.ensures, ← c.bytes-bytes.ensures) (all_read c.args.count bytes long all)
