use Rattle.std.proofs.Common.{refl}
use Rattle.ut_plain.specs.declared.reply.Reply.TheVariants as replies
use Rattle.ut_plain.specs.declared.statement.Statement.TheVariants as statements
use Rattle.ut_engine.specs.Savepoints.{progress_of, told_of}
use Rattle.ut_engine.proofs.CallLemmas.{sealed_counted, serves_unsealed}
use Rattle.ut_engine.proofs.PhaseLemmas.{in_turn, is_counted}
use Rattle.ut_engine.proofs.WriteLemmas.{may_seal, serves_sealed}
use Rattle.ut_engine.proofs.UnchangedLemmas.{serves_out_of_turn}
use Rattle.ut_engine.proofs.logged.LoggedStore.save_seal.Goals as goal

pub refused-requires-clause-counted : goal.refused-requires-clause-counted
refused-requires-clause-counted g c = is_counted _ _ _ c.requires.runs.1

pub returns-in-Some-clause-serves : goal.returns-in-Some-clause-serves
returns-in-Some-clause-serves g c session = serves_out_of_turn c.args.self.now _ session statements.SaveSeal _ (g.met.D.Disk.only_now c.args.disk.now) refl c.in-Some.ensures.refused

pub write_root-requires : goal.write_root-requires
write_root-requires g c = may_seal _ _ 0 _ c.requires.runs.1 (in_turn _ _ statements.SaveSeal c.in_default.ensures.passes _ c.requires.runs.1)

pub returns-in-Ok-clause-counted : goal.returns-in-Ok-clause-counted
returns-in-Ok-clause-counted g c = sealed_counted _ _ _ _ _ c.requires.runs.1 (in_turn _ _ statements.SaveSeal c.in_default.ensures.passes _ c.requires.runs.1) c.in-Ok.ensures.written c.write_root.ensures.stays

pub returns-in-Ok-clause-serves : goal.returns-in-Ok-clause-serves
returns-in-Ok-clause-serves g c session =
    serves_sealed c.args.self.now _ _ _ session (told_of (progress_of c.write_root.new.self.saving)) (in_turn _ _ statements.SaveSeal c.in_default.ensures.passes) c.in-Ok.ensures.written c.write_root.ensures.stays refl c.write_root.ensures.told c.in-Ok.ensures.cause.still

pub returns-in-Err-clause-serves : goal.returns-in-Err-clause-serves
returns-in-Err-clause-serves g c session =
    serves_unsealed c.args.self.now _ _ _ session replies.DiskFault (in_turn _ _ statements.SaveSeal c.in_default.ensures.passes) c.write_root.ensures.stays refl refl c.write_root.ensures.memory c.write_root.ensures.told c.write_root.ensures.cause.later c.in-Err.ensures.cause.failed
