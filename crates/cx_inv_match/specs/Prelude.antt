-- The names that laws above this crate cite beside those of cx_inv_run, passed on from one place. Declares nothing.
pub use Rattle.cx_model.specs.declared.states.Deferred.{Deferred}
pub use Rattle.cx_model.specs.declared.states.Mode.TheVariants.{Leading}
pub use Rattle.cx_model.specs.declared.states.Pending.{Pending}
pub use Rattle.cx_model.specs.declared.states.Promised.{Promised}
pub use Rattle.cx_model.specs.declared.states.Replacing.TheVariants.{Booting}
pub use Rattle.cx_model.specs.declared.states.Stage.{Stage}
pub use Rattle.cx_model.specs.declared.states.Stage.TheVariants.{Collecting, Informing, Off, Retired}
pub use Rattle.cx_inv_run.specs.Kinds.{Kinds}
pub use Rattle.cx_inv_run.specs.Laws.{Laws}
pub use Rattle.cx_inv_run.specs.States.{HoldsIn, Property, with_record}
unfoldable pub use Rattle.cx_inv_run.specs.States.{durable_of, log_in}
pub use Rattle.cx_inv_run.specs.Ties.{Ties}
pub use Rattle.cx_inv_match.specs.Facts.{AreOnce, Facts, InMode, InStage, InState, InWork, IsAcceptor, IsAsked, IsLastRound, IsLeading}
pub use Rattle.cx_inv_match.specs.Facts.{IsMatching, IsMatchmaker, IsNextAsked, IsPending, IsReady, Says, answering_matchmakers}
pub use Rattle.cx_inv_match.specs.Words.{AreChosen, HasBallot, HasBoot, HasGarbage, HasLog, HasLow, HasMark, HasMatch, HasNext, HasPromise}
pub use Rattle.cx_inv_match.specs.Words.{HasStop, HasStopped, HasTaken, IsAnswer, IsBoot, IsChosen, IsChosenIn, IsClosed, IsCollected}
pub use Rattle.cx_inv_match.specs.Words.{IsDecided, IsHalt, IsJoin, IsKnown, IsLeft, IsMatched, IsMember, IsNextSet, IsNth, IsPast}
pub use Rattle.cx_inv_match.specs.Words.{IsPromise, IsSafe, IsSettled, IsShut, IsSpent, IsUsed, IsWatermark, SetFacts, how_many}
