use Rattle.std.proofs.Common.{arith}
use Rattle.ut_rle.proofs.EndsLemmas.{end_from-last, some-run}
use Rattle.ut_rle.proofs.scan.run_at.Goals as goal

pub loop-low-init : goal.loop-low-init
loop-low-init c =
    let some = some-run c.args.runs.now c.args.i c.requires in
    let last = end_from-last 0 c.args.runs.now some in
    record {
      ordered = omega arith;
      within = omega (arith, some);
      before = λ h. absurd (omega arith);
      holds = omega (arith, last, c.requires);
    }
