use Rattle.cx_base.proofs.Common.{false, subst, Consumes}
use Rattle.cx_node.specs.Input.{IsInputAnswer, lines}
use Rattle.cx_node.specs.declared.input.Refusal.TheVariants as refusal
use Rattle.cx_node.proofs.Refuses.{all_complete, long_is_refused, read_failed, refused_of_all}
use Rattle.cx_node.proofs.Taken.{answer_good, answer_hosts, answer_named, answer_port, answer_recordable, answer_scripts}
use Rattle.cx_node.proofs.input.listen.Goals as goal

pub returns-in-Whole-clause-port : goal.returns-in-Whole-clause-port
returns-in-Whole-clause-port g c =
    answer_port c.args.recording c.args.roles.now c.deref.result.now c.answer_bytes.result c.answer_bytes.ensures

pub returns-in-Whole-clause-scripts : goal.returns-in-Whole-clause-scripts
returns-in-Whole-clause-scripts g c =
    answer_scripts c.args.recording c.args.roles.now c.deref.result.now c.answer_bytes.result c.answer_bytes.ensures

pub returns-in-TooLong-clause-bad_input : goal.returns-in-TooLong-clause-bad_input
returns-in-TooLong-clause-bad_input g c = λ line is.
    let bytes = c.deref-in-TooLong.result.now in
    let consumed : Consumes (g.S.Source.left c.args.source.now)
    (g.S.Source.left c.read_all.new.source) bytes = rw c.deref-in-TooLong.ensures.value
    c.in-TooLong.ensures.bytes.1 in
    refused_of_all c.args.recording c.args.roles.now (g.S.Source.left c.args.source.now) (g.S.Source.left c.read_all.new.source) bytes
    (refusal.BadInput line) consumed
    (subst (IsInputAnswer false c.args.recording c.args.roles.now (lines bytes)) is c.answer_bytes-in-TooLong.ensures)

pub returns-in-TooLong-clause-bad_words : goal.returns-in-TooLong-clause-bad_words
returns-in-TooLong-clause-bad_words g c = λ is.
    let bytes = c.deref-in-TooLong.result.now in
    let consumed : Consumes (g.S.Source.left c.args.source.now)
    (g.S.Source.left c.read_all.new.source) bytes = rw c.deref-in-TooLong.ensures.value
    c.in-TooLong.ensures.bytes.1 in
    refused_of_all c.args.recording c.args.roles.now (g.S.Source.left c.args.source.now)
    (g.S.Source.left c.read_all.new.source) bytes refusal.BadWords consumed
    (subst (IsInputAnswer false c.args.recording c.args.roles.now (lines bytes)) is c.answer_bytes-in-TooLong.ensures)

pub returns-in-TooLong-clause-read_fault : goal.returns-in-TooLong-clause-read_fault
returns-in-TooLong-clause-read_fault g c = λ is.
    let bytes = c.deref-in-TooLong.result.now in
    absurd (long_is_refused c.args.recording c.args.roles.now bytes (rw c.deref-in-TooLong.ensures.value c.in-TooLong.ensures.bytes.0)
    (subst (IsInputAnswer false c.args.recording c.args.roles.now (lines bytes)) is c.answer_bytes-in-TooLong.ensures))

pub returns-in-TooLong-clause-complete : goal.returns-in-TooLong-clause-complete
returns-in-TooLong-clause-complete g c = λ still.
    let bytes = c.deref-in-TooLong.result.now in
    let consumed : Consumes (g.S.Source.left c.args.source.now)
    (g.S.Source.left c.read_all.new.source) bytes = rw c.deref-in-TooLong.ensures.value
    c.in-TooLong.ensures.bytes.1 in
    all_complete c.args.recording c.args.roles.now (g.S.Source.left c.args.source.now)
    (g.S.Source.left c.read_all.new.source) bytes c.answer_bytes-in-TooLong.result consumed
    (λ is. long_is_refused c.args.recording c.args.roles.now bytes (rw c.deref-in-TooLong.ensures.value c.in-TooLong.ensures.bytes.0)
    (subst (IsInputAnswer false c.args.recording c.args.roles.now
    (lines bytes)) is c.answer_bytes-in-TooLong.ensures)) c.answer_bytes-in-TooLong.ensures

pub returns-in-Failed-clause-bad_input : goal.returns-in-Failed-clause-bad_input
returns-in-Failed-clause-bad_input g c = λ line is.
    let bytes = c.deref-in-Failed.result.now in
    let consumed : Consumes (g.S.Source.left c.args.source.now)
    (g.S.Source.left c.read_all.new.source) bytes = rw c.deref-in-Failed.ensures.value c.in-Failed.ensures.bytes in
    refused_of_all c.args.recording c.args.roles.now (g.S.Source.left c.args.source.now) (g.S.Source.left c.read_all.new.source) bytes
    (refusal.BadInput line) consumed
    (subst (IsInputAnswer false c.args.recording c.args.roles.now (lines bytes)) is c.answer_bytes-in-Failed.ensures)

pub returns-in-Failed-clause-bad_words : goal.returns-in-Failed-clause-bad_words
returns-in-Failed-clause-bad_words g c = λ is.
    let bytes = c.deref-in-Failed.result.now in
    let consumed : Consumes (g.S.Source.left c.args.source.now)
    (g.S.Source.left c.read_all.new.source) bytes = rw c.deref-in-Failed.ensures.value c.in-Failed.ensures.bytes in
    refused_of_all c.args.recording c.args.roles.now (g.S.Source.left c.args.source.now)
    (g.S.Source.left c.read_all.new.source) bytes refusal.BadWords consumed
    (subst (IsInputAnswer false c.args.recording c.args.roles.now (lines bytes)) is c.answer_bytes-in-Failed.ensures)

pub returns-in-Failed-clause-complete : goal.returns-in-Failed-clause-complete
returns-in-Failed-clause-complete g c = λ still.
    let bytes = c.deref-in-Failed.result.now in
    let consumed : Consumes (g.S.Source.left c.args.source.now)
    (g.S.Source.left c.read_all.new.source) bytes = rw c.deref-in-Failed.ensures.value c.in-Failed.ensures.bytes in
    all_complete c.args.recording c.args.roles.now (g.S.Source.left c.args.source.now)
    (g.S.Source.left c.read_all.new.source) bytes c.answer_bytes-in-Failed.result consumed
    (λ is. still c.in-Failed.ensures.cause) c.answer_bytes-in-Failed.ensures

pub returns-in-Failed-clause-read_failed : goal.returns-in-Failed-clause-read_failed
returns-in-Failed-clause-read_failed g c =
    let bytes = c.deref-in-Failed.result.now in
    let consumed : Consumes (g.S.Source.left c.args.source.now)
    (g.S.Source.left c.read_all.new.source) bytes = rw c.deref-in-Failed.ensures.value c.in-Failed.ensures.bytes in
    read_failed c.args.recording c.args.roles.now (g.S.Source.left c.args.source.now) (g.S.Source.left c.read_all.new.source)
    (g.S.Source.faults c.args.source.now) (g.S.Source.faults c.read_all.new.source)
    bytes c.answer_bytes-in-Failed.result consumed c.answer_bytes-in-Failed.ensures

pub returns-in-Whole-clause-taken : goal.returns-in-Whole-clause-taken
returns-in-Whole-clause-taken g c =
    answer_good c.args.recording c.args.roles.now c.deref.result.now c.answer_bytes.result c.answer_bytes.ensures

pub returns-in-Whole-clause-hosts : goal.returns-in-Whole-clause-hosts
returns-in-Whole-clause-hosts g c =
    answer_hosts c.args.recording c.args.roles.now c.deref.result.now c.answer_bytes.result c.answer_bytes.ensures

pub returns-in-Whole-clause-named : goal.returns-in-Whole-clause-named
returns-in-Whole-clause-named g c =
    answer_named c.args.recording c.args.roles.now c.deref.result.now c.answer_bytes.result c.answer_bytes.ensures

pub returns-in-Whole-clause-recordable : goal.returns-in-Whole-clause-recordable
returns-in-Whole-clause-recordable g c =
    answer_recordable c.args.recording c.args.roles.now c.deref.result.now c.answer_bytes.result c.answer_bytes.ensures
