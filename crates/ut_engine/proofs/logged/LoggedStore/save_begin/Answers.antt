use Rattle.std.proofs.Common.{refl}
use Rattle.ut_plain.specs.declared.reply.Reply.TheVariants as replies
use Rattle.ut_plain.specs.declared.statement.Statement.TheVariants as statements
use Rattle.ut_engine.proofs.BeginLemmas.{begun_counted, begun_told, begun_planned, serves_full, serves_no_memory, serves_begun, serves_unbegun}
use Rattle.ut_engine.proofs.PhaseLemmas.{in_turn, is_counted}
use Rattle.ut_engine.proofs.RunsLemmas.{are_ready, runs_stand}
use Rattle.ut_engine.proofs.UnchangedLemmas.{serves_out_of_turn}
use Rattle.ut_engine.proofs.logged.LoggedStore.save_begin.Goals as goal

pub refused-requires-clause-counted : goal.refused-requires-clause-counted
refused-requires-clause-counted g c = is_counted _ _ _ c.requires.runs.1

pub returns-in-Some-clause-serves : goal.returns-in-Some-clause-serves
returns-in-Some-clause-serves g c session = serves_out_of_turn c.args.self.now _ session statements.SaveBegin _ (g.met.D.Disk.only_now c.args.disk.now) refl c.in-Some.ensures.refused

pub planned-requires-clause-stands : goal.planned-requires-clause-stands
planned-requires-clause-stands g c = runs_stand _ _ c.requires.runs

pub planned-requires-clause-log : goal.planned-requires-clause-log
planned-requires-clause-log g c = c.requires.runs.1.log

-- memory was wanting
pub returns-in-Err-clause-serves : goal.returns-in-Err-clause-serves
returns-in-Err-clause-serves g c session = serves_no_memory c.args.self.now _ session (g.met.D.Disk.only_now c.args.disk.now)

-- there are no numbers for the pages
pub returns-in-Ok-None-clause-serves : goal.returns-in-Ok-None-clause-serves
returns-in-Ok-None-clause-serves g c session =
    serves_full c.args.self.now _ session (g.met.D.Disk.only_now c.args.disk.now) (in_turn _ _ statements.SaveBegin c.in_default.ensures.passes) (rw c.in-Ok-None.field-0-is at c.in-Ok-None.ensures.none)

pub leave_log-requires : goal.leave_log-requires
leave_log-requires g c = are_ready _ _ c.requires.runs

-- it begins
pub page_count-pages-requires : goal.page_count-pages-requires
page_count-pages-requires g c =
    let planned = rw c.in-Ok-Some.field-0-is at c.in-Ok-Some.ensures.planned in
    begun_counted c.args.self.now _ _ _ _ c.requires.runs.1 (in_turn _ _ statements.SaveBegin c.in_default.ensures.passes _ c.requires.runs.1) planned.0 c.in-Ok-Some.savepoint planned.1 (planned.2 _ c.requires.runs.1.stands) c.in-Ok.ensures.left c.leave_log.ensures.any_moment

pub returns-in-Ok-clause-serves : goal.returns-in-Ok-clause-serves
returns-in-Ok-clause-serves g c session =
    let planned = rw c.in-Ok-Some.field-0-is at c.in-Ok-Some.ensures.planned in
    serves_begun c.args.self.now c.leave_log.new.self _ _ _ session (replies.Saving 0 c.page_count-pages.result) planned.0 c.in-Ok-Some.savepoint (in_turn _ _ statements.SaveBegin c.in_default.ensures.passes) planned.1 planned.2 c.in-Ok.ensures.left c.leave_log.ensures.any_moment refl
    (begun_told _ _ _ c.in-Ok-Some.savepoint (planned.2 _ c.requires.runs.1.stands) c.page_count-pages.result c.page_count-pages.ensures) c.leave_log.ensures.told c.in-Ok.ensures.cause.still

pub returns-in-Ok-clause-planned : goal.returns-in-Ok-clause-planned
returns-in-Ok-clause-planned g c =
    let planned = rw c.in-Ok-Some.field-0-is at c.in-Ok-Some.ensures.planned in
    begun_planned c.args.self.now c.requires.runs.0 planned.0 c.in-Ok-Some.savepoint c.requires.runs.1.stands planned.2 c.page_count-pages.result c.page_count-pages.ensures

-- the disk failed
pub returns-in-Err-leave_log-clause-serves : goal.returns-in-Err-leave_log-clause-serves
returns-in-Err-leave_log-clause-serves g c session =
    let planned = rw c.in-Ok-Some.field-0-is at c.in-Ok-Some.ensures.planned in
    serves_unbegun c.args.self.now _ _ _ session replies.DiskFault planned.0 c.in-Ok-Some.savepoint (in_turn _ _ statements.SaveBegin c.in_default.ensures.passes) planned.1 planned.2 c.leave_log.ensures.any_moment refl refl c.leave_log.ensures.memory c.leave_log.ensures.told c.leave_log.ensures.cause.later c.in-Err-leave_log.ensures.cause.failed
