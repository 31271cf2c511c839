-- The names of courses and seats that proofs of a node cite, passed on from one place. Declares nothing.
pub use Rattle.cx_journal.specs.Files.{Files, OneFile, files_image, files_records}
pub use Rattle.cx_journal.specs.State.{records_or_none}
pub use Rattle.cx_journal.specs.Store.{IsStoreChange, store_told}
pub use Rattle.cx_journal.specs.declared.store.RecordStore.{RecordStore}
pub use Rattle.cx_journal.specs.declared.store.RecordStore.TheVariants.{One, Two}
pub use Rattle.cx_leader.specs.Tending.{can_collect, is_new_leader}
pub use Rattle.cx_edge.specs.Link.{LinkHistory, with_taken}
pub use Rattle.cx_edge.specs.MemDepot.{depot_out}
pub use Rattle.cx_edge.specs.Shelf.{shelf}
pub use Rattle.cx_edge.specs.declared.shelf.Shelf.{Shelf}
pub use Rattle.cx_script.specs.Lines.{ParsedLines}
pub use Rattle.cx_script.specs.Requests.{IsScript, script_of}
pub use Rattle.cx_client.specs.declared.asking.ClientOptions.{ClientOptions}
pub use Rattle.cx_record.specs.Numbers.{Numbered, Recorded, has_room, numbered}
pub use Rattle.cx_record.specs.Readable.{IsRecordable}
pub use Rattle.cx_course.specs.Action.{Action, AreTakesOf, Bound, Filled, Kept, Printed, Took, bound_in, is_filled, kept_in, printed_in}
pub use Rattle.cx_course.specs.Action.{sent_in, step_actions, taken_in}
pub use Rattle.cx_course.specs.Alike.{AreDistinct}
pub use Rattle.cx_course.specs.Changing.{StoreChange, changes_of, lists_after}
pub use Rattle.cx_course.specs.Course.{Course, Moved, course_of, has_room_for, stays, step_events, then_do, took}
unfoldable pub use Rattle.cx_course.specs.Course.{does_at}
pub use Rattle.cx_course.specs.Hosted.{Hosted, Step, is_live_role, kind_at, name_of}
unfoldable pub use Rattle.cx_course.specs.Hosted.{does}
pub use Rattle.cx_course.specs.Run.{TakeResults, all_do, at_place, brought, first_do, grid_of, has_finished, hosted_place, idle_at}
pub use Rattle.cx_course.specs.Run.{is_client, lead_at}
unfoldable pub use Rattle.cx_course.specs.Run.{all_finished, snaps}
pub use Rattle.cx_course.specs.Tending.{Care, Tended, any_turn, awaits_votes_at, beat_over, completed, first_care, gets, in_turn}
pub use Rattle.cx_course.specs.Tending.{is_of_kind, is_overtaken, is_so, leader_cared, leader_tended, next_pass, no_care, standing_of}
pub use Rattle.cx_course.specs.Tending.{those_tick, ticks_behind, ticks_if, within, without_care}
unfoldable pub use Rattle.cx_course.specs.Tending.{asks_again, beat, care_after_turn, clients_noted, clients_tended, collected}
unfoldable pub use Rattle.cx_course.specs.Tending.{first_leader, heeded, held_by_role, is_beat, is_time, kind_ticks, leader_asked, node_run}
unfoldable pub use Rattle.cx_course.specs.Tending.{passes, paused, reported, tend_comes, turn_ended}
pub use Rattle.cx_course.specs.declared.doing.Doing.{Doing}
pub use Rattle.cx_course.specs.declared.doing.Doing.TheVariants.{Begin, Give, Snap}
pub use Rattle.cx_seat.specs.Changing.{Changing, Refuses, changing}
pub use Rattle.cx_seat.specs.Closing.{GivesBack}
pub use Rattle.cx_seat.specs.Guest.{AreChangesMade, AreReady, Grows, GuestGrows, HasChangeFailed, HasChangeFailedIn, Rests, hosted_in}
pub use Rattle.cx_seat.specs.Guest.{hosted_of, keeper_of, who}
pub use Rattle.cx_seat.specs.Noting.{noting}
pub use Rattle.cx_seat.specs.Opening.{AreApart, AreOpened, IsBadAs, IsFirstBad, IsFirstUsed, IsOpened, disks_in, first_holding, is_durable}
pub use Rattle.cx_seat.specs.Opening.{is_store_used, lent_to, opened_as, unwoken_stop}
pub use Rattle.cx_seat.specs.Seat.{is_leader_so}
pub use Rattle.cx_seat.specs.Stores.{Lent, disks_of, files_of, has_second, is_two, places_of}
