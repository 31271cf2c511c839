use Rattle.cx_explain.proofs.meant.near_key.Goals as goal

pub returns : goal.returns
returns c = c.in_ok-nearest.ensures
