use Rattle.cx_base.proofs.Common.{◌+◌, sym, ◌∙◌, subst, arith, vec_len, value_for}
use Rattle.cx_rlog.specs.State.{AreEarly}
use Rattle.cx_rlog.proofs.Waiting.{AreEarly-waiting}
use Rattle.cx_rlog.proofs.log.Log.take.Goals as goal

pub invariant_of-self-2 : goal.invariant_of-self-2
invariant_of-self-2 c =
    let held = c.self.inside.first + vec_len c.self.inside.list in
    let early = c.self.inside.early.items in
    record {
      room = c.self.invariant.room;
      short = c.self.invariant.short;
      begins = c.in_ok-wait.ensures.first ∙ c.self.invariant.begins;
      waiting = subst (AreEarly held) (sym c.in_ok-wait.ensures.ok)
          (AreEarly-waiting held c.args.slot c.args.value.now early (value_for c.args.slot early) c.self.invariant.waiting
          (record { above = omega arith; near = omega arith; real = c.requires }));
    }
