-- What is so of every acceptor.
use Rattle.std.specs.Prelude.{◌≡◌, true, IsTrue}
use Rattle.cx_role.specs.Prelude.{list_all, Acceptor, Cluster, RoleId, role, Vote, mark, round0, slots_rise, vote_in_range, AcceptorDurable}
use Rattle.cx_role.specs.Prelude.{is_before, names_round}
use Rattle.cx_model.specs.Names.{names_vote}
use Rattle.cx_model.specs.Prelude.{no_round}

-- it is an acceptor, its promise is a round or none, its chosen watermark and top are numbers of slots, and its votes are in
-- the window from the chosen watermark on, by rising slot; the round that it promised, and what its votes name, lie in the cluster
pub record IsSound (c : Cluster) (me : RoleId) (d : AcceptorDurable) : Type 0 where
  pub who : me ≡ role Acceptor me.index
  pub promise : IsTrue (round0.fits d.promise)
  pub cw : IsTrue (mark.fits d.cw)
  pub top : IsTrue (mark.fits d.top)
  pub votes : IsTrue (list_all (λ (v : Vote). vote_in_range d.cw v) d.votes)
  pub rising : IsTrue (slots_rise d.votes)
  pub leader : is_before no_round d.promise ≡ true → IsTrue (names_round c d.promise)
  pub named : IsTrue (list_all (λ (v : Vote). names_vote c v) d.votes)
