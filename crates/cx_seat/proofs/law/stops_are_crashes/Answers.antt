use Rattle.cx_journal.proofs.Common.{◌≡◌, inl, inr, subst, true, List, None, Ok, all_kept_by, Record}
use Rattle.cx_seat.specs.Prelude.{files_records, store_told, is_two}
use Rattle.cx_journal.specs.Files.{IsFilesImageOf}
use Rattle.cx_journal.proofs.Stores.{store_at_any_moment, store_lasts}
use Rattle.cx_keep.specs.Keeper.{list_after as change_after}
use Rattle.cx_course.specs.Changing.{change_for}
use Rattle.cx_seat.proofs.Crashes.{kept_of_run, lost_of_run, renews_two, store_fits, whole_of_run, writes}
use Rattle.cx_seat.proofs.law.stops_are_crashes.Goals as goal

pub returns-clause-within : goal.returns-clause-within
returns-clause-within g c cl es e me what old new answer files is made left =
    let list = files_records (store_told g.D.Disk.seen old) in
    let asked = change_for list what in
    let two = renews_two list what me.kind (is_two old) (writes cl es e me what files is.next is.may_change) is.sides in
    let fit = store_fits g.D.Disk old asked answer new made is.is_seen two in
    elim (store_at_any_moment g.D.Disk old asked answer new made is.whole is.is_seen files left) [
      | inl lost ↦ inl (lost_of_run cl es e me what files is.next is.may_change
          (subst (λ (rs : List Record). all_kept_by None rs ≡ true) is.records fit.0)
          (subst (λ (rs : List Record). IsFilesImageOf rs files) is.records lost))
      | inr kept ↦ inr (kept_of_run cl es e me what files is.next is.may_change
          (subst (λ (rs : List Record). all_kept_by None (change_after rs (change_for rs what)) ≡ true) is.records fit.1)
          (subst (λ (rs : List Record). IsFilesImageOf (change_after rs (change_for rs what)) files) is.records kept))
    ]

pub returns-clause-after : goal.returns-clause-after
returns-clause-after g c cl es e me what old new files is made left =
    let list = files_records (store_told g.D.Disk.seen old) in
    let asked = change_for list what in
    let two = renews_two list what me.kind (is_two old) (writes cl es e me what files is.next is.may_change) is.sides in
    let fit = store_fits g.D.Disk old asked (Ok tt) new made is.is_seen two in
    whole_of_run cl es e me what files is.next is.may_change
    (subst (λ (rs : List Record). all_kept_by None (change_after rs (change_for rs what)) ≡ true) is.records fit.1)
    (subst (λ (rs : List Record). IsFilesImageOf (change_after rs (change_for rs what)) files) is.records
    (store_lasts g.D.Disk old asked new made is.is_seen files left))
