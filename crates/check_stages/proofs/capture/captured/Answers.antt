use Rattle.std.proofs.Common.{◌≡◌, map, arith}
use Rattle.std.proofs.lemmas.Grind.{common_steps}
use Rattle.check_stages.specs.There.{table_by}
use Rattle.check_stages.proofs.CaptureLemmas.{captured_is}
use Rattle.check_stages.proofs.capture.captured.Goals as goal

pub returns : goal.returns
returns c = λ s there.
    let all : c.loop-table.image ≡ map (table_by c.args.ids.now) c.args.stages.now = grind (arith, common_steps) in
    captured_is c.args.ids.now s c.args.stages.now c.loop-table.image there all
