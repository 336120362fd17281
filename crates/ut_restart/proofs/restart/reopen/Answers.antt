use Rattle.std.proofs.Common.{◌≡◌, ◌+◌, ◌≤◌, length, ap, arith, Err}
use Rattle.std.proofs.lemmas.Grind.{common_steps}
use Rattle.ut_restart.specs.declared.error.RestartError.TheVariants.{Damaged}
use Rattle.ut_restart.proofs.RestoredLemmas.{reopened, too-long, unsuited}
use Rattle.ut_restart.proofs.restart.reopen.Goals as goal

pub returns-then-is_too_long-clause-damaged : goal.returns-then-is_too_long-clause-damaged
returns-then-is_too_long-clause-damaged c = λ e d s b may.
    let long = c.is_too_long.ensures.long c.if-is_too_long.true in
    too-long c.args.root.now c.args.tables c.args.mains c.args.entries (omega (arith, long, c.len.ensures)) d s b may

pub follow_all-requires-clause-sound : goal.follow_all-requires-clause-sound
follow_all-requires-clause-sound c = c.in_ok-replay.ensures.sound

pub follow_all-requires-clause-few : goal.follow_all-requires-clause-few
follow_all-requires-clause-few c =
    let short = c.is_too_long.ensures.short c.if-is_too_long.false in
    omega (arith, short, c.len.ensures, c.in_ok-replay.ensures.entries)

pub returns-in_err-follow_all-clause-damaged : goal.returns-in_err-follow_all-clause-damaged
returns-in_err-follow_all-clause-damaged c = λ e d s b may.
    let same : c.in_err-follow_all.field-0.0 ≡ Damaged = grind (arith, common_steps) in
    unsuited c.args.root.now c.args.tables c.args.mains c.args.entries c.in_ok-replay.replay c.in_ok-replay.ensures (c.in_err-follow_all.ensures.damaged (ap Err same)) d s b may

pub rebuilt-requires : goal.rebuilt-requires
rebuilt-requires c = c.in_ok-follow_all.ensures.ok.sound

pub returns-clause-ok : goal.returns-clause-ok
returns-clause-ok c =
    let short = c.is_too_long.ensures.short c.if-is_too_long.false in
    let few : c.args.root.now.length + length c.args.entries ≤ 1073741824 = omega (arith, short, c.len.ensures) in
    reopened c.args.root.now c.args.tables c.args.mains c.args.entries c.in_ok-replay.replay c.follow_all.new.self c.in_ok-replay.ensures c.in_ok-follow_all.ensures.ok c.in_ok-restored.restored few c.in_ok-restored.ensures
