use Rattle.cx_inv_list.proofs.Answers.{sent_as_kept as holds}
use Rattle.cx_inv_list.proofs.replicas_send_what_they_kept.Goals as goal

pub returns : goal.returns
returns g = holds
