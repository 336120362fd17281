use Rattle.std.proofs.Common.{◌≡◌, Option, None, subst}
use Rattle.ut_merge.specs.Jobs.{JobValue}
use Rattle.ut_crowd.specs.Keepers.{EndsJob}
use Rattle.ut_crowd.proofs.KeeperLemmas.{none_is}
use Rattle.ut_crowd.proofs.merger.EndJobActHall.run.Goals as goal

pub returns-then-is_none-clause-done : goal.returns-then-is_none-clause-done
returns-then-is_none-clause-done g c =
    let hall = c.end_job-kept.new.self in
    let gone : hall.job ≡ None = none_is hall.job c.if-is_none.ensures in (
      subst (λ (job : Option JobValue). EndsJob hall.stopped hall.engine.store.down c.args.value.now.book.items hall.book.items job c.end_job-kept.result) gone c.end_job-kept.ensures.ends,
      c.end_job-kept.ensures.dated,
      c.end_job-kept.ensures.waits,
    )
