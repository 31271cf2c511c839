use Rattle.std.proofs.Common.{rules}
use Rattle.std.proofs.lemmas.List.{get_or-replicate}
use Rattle.cx_script.proofs.requests.read_requests.Goals as goal

pub loop-text-init : goal.loop-text-init
loop-text-init c = record {
  so_far = search rules;
  count = search rules;
  numbers = λ client small. rw (c.new-events.ensures.items, c.new-greatest.ensures) (get_or-replicate 64 client 0 0 small);
}
