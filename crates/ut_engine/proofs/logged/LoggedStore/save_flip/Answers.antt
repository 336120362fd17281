use Rattle.std.proofs.Common.{refl}
use Rattle.ut_plain.specs.declared.reply.Reply.TheVariants as replies
use Rattle.ut_plain.specs.declared.statement.Statement.TheVariants as statements
use Rattle.ut_engine.proofs.FlipLemmas.{may_select, serves_flipped, serves_unflipped}
use Rattle.ut_engine.proofs.PhaseLemmas.{in_turn, is_counted}
use Rattle.ut_engine.proofs.UnchangedLemmas.{serves_out_of_turn}
use Rattle.ut_engine.proofs.logged.LoggedStore.save_flip.Goals as goal

pub refused-requires-clause-counted : goal.refused-requires-clause-counted
refused-requires-clause-counted g c = is_counted _ _ _ c.requires.runs.1

pub returns-in-Some : goal.returns-in-Some
returns-in-Some g c = record {
  serves = λ session. serves_out_of_turn c.args.self.now _ session statements.SaveFlip _ (g.met.D.Disk.only_now c.args.disk.now) refl c.in-Some.ensures.refused;
}

pub select_root-requires : goal.select_root-requires
select_root-requires g c = may_select _ _ _ c.requires.runs.1 (in_turn _ _ statements.SaveFlip c.in_default.ensures.passes _ c.requires.runs.1)

pub returns-in-Ok : goal.returns-in-Ok
returns-in-Ok g c = record {
  serves = λ session. serves_flipped c.args.self.now _ _ _ session c.in-Ok.entries (in_turn _ _ statements.SaveFlip c.in_default.ensures.passes) c.in-Ok.ensures.selected c.select_root.ensures.any_moment c.select_root.ensures.told c.in-Ok.ensures.cause.still;
}

pub returns-in-Err : goal.returns-in-Err
returns-in-Err g c = record {
  serves = λ session. serves_unflipped c.args.self.now _ _ _ session replies.DiskFault (in_turn _ _ statements.SaveFlip c.in_default.ensures.passes) c.select_root.ensures.any_moment refl refl c.select_root.ensures.memory c.select_root.ensures.told c.select_root.ensures.cause.later c.in-Err.ensures.cause.failed;
}
