use Rattle.std.proofs.Common.{refl}
use Rattle.ut_plain.specs.declared.reply.Reply.TheVariants as replies
use Rattle.ut_plain.specs.declared.statement.Statement.TheVariants as statements
use Rattle.ut_engine.specs.Savepoints.{progress_of, told_of}
use Rattle.ut_engine.proofs.CallLemmas.{written_counted, serves_unwritten}
use Rattle.ut_engine.proofs.PhaseLemmas.{in_turn, is_counted}
use Rattle.ut_engine.proofs.WriteLemmas.{may_go_on, serves_written}
use Rattle.ut_engine.proofs.UnchangedLemmas.{serves_out_of_turn}
use Rattle.ut_engine.proofs.logged.LoggedStore.save_step.Goals as goal

pub step_refused-requires : goal.step_refused-requires
step_refused-requires g c = is_counted _ _ _ c.requires.runs.1

pub returns-in-Some-clause-serves : goal.returns-in-Some-clause-serves
returns-in-Some-clause-serves g c session = serves_out_of_turn c.args.self.now _ session (statements.SaveStep c.args.n) _ (g.met.D.Disk.only_now c.args.disk.now) refl c.in-Some.ensures.refused

pub write_pages-requires-clause-goes : goal.write_pages-requires-clause-goes
write_pages-requires-clause-goes g c = may_go_on _ _ 0 c.args.n _ c.requires.runs.1 (in_turn _ _ (statements.SaveStep c.args.n) c.in_default.ensures.passes _ c.requires.runs.1)

pub write_pages-requires-clause-counted : goal.write_pages-requires-clause-counted
write_pages-requires-clause-counted g c = is_counted _ _ _ c.requires.runs.1

pub returns-in-Ok-clause-counted : goal.returns-in-Ok-clause-counted
returns-in-Ok-clause-counted g c = written_counted _ _ _ _ c.args.n _ c.requires.runs.1 (in_turn _ _ (statements.SaveStep c.args.n) c.in_default.ensures.passes _ c.requires.runs.1) c.in-Ok.ensures.written c.write_pages.ensures.stays

pub returns-in-Ok-clause-serves : goal.returns-in-Ok-clause-serves
returns-in-Ok-clause-serves g c session =
    serves_written c.args.self.now _ _ _ session c.args.n (told_of (progress_of c.write_pages.new.self.saving)) (in_turn _ _ (statements.SaveStep c.args.n) c.in_default.ensures.passes) c.in-Ok.ensures.written c.write_pages.ensures.stays refl c.write_pages.ensures.told c.in-Ok.ensures.cause.still

pub returns-in-Err-clause-serves : goal.returns-in-Err-clause-serves
returns-in-Err-clause-serves g c session =
    serves_unwritten c.args.self.now _ _ _ session c.args.n replies.DiskFault (in_turn _ _ (statements.SaveStep c.args.n) c.in_default.ensures.passes) c.write_pages.ensures.stays refl refl c.write_pages.ensures.memory c.write_pages.ensures.told c.write_pages.ensures.cause.later c.in-Err.ensures.cause.failed
