use Rattle.std.proofs.Common.{refl}
use Rattle.ut_outside.proofs.RunLemmas.{reads_start}
use Rattle.ut_engine.specs.Handing.{AtOnce, Logs, Fails}
use Rattle.ut_engine.proofs.logged.LoggedStore.hand_out.Goals as goal

pub returns-in-Answered : goal.returns-in-Answered
returns-in-Answered g c = AtOnce c.in-Answered.is refl (reads_start (g.D.Disk.view c.args.disk.now) (g.met.D.Disk.only_now c.args.disk.now)) refl

pub returns-in-Ok : goal.returns-in-Ok
returns-in-Ok g c = Logs c.in-Append.is c.in-Ok.ensures.kept c.append.ensures.any_moment c.in-Ok.ensures.ok

pub returns-in-Err : goal.returns-in-Err
returns-in-Err g c = Fails c.in-Append.reply c.in-Append.is refl c.in-Err.ensures.down c.append.ensures.any_moment c.in-Err.ensures.err
