use Rattle.std.proofs.Common.{Bool, Ok, subst, ap}
use Rattle.ut_script.specs.declared.lines.LineError.{LineError}
use Rattle.ut_script.specs.LineSteps.{Fills}
use Rattle.ut_script.proofs.LineLemmas.{past_limit}
use Rattle.ut_script.proofs.lines.Lines.next_past_limit.Goals as goal

pub returns-then-branch-clause-next : goal.returns-then-branch-clause-next
returns-then-branch-clause-next g c =
    let start = g.S.Source.left c.args.source.now in
    let new = g.S.Source.left c.fill.new.source in
    let fills = subst (λ (t : Bool). Fills {E = LineError} c.args.self.now start (Ok t) c.fill.new.self new) c.if-branch.true c.in_ok-fill.ensures.bytes in
    past_limit LineError c.args.self.now start c.fill.new.self new c.requires fills (c.in_ok-fill.ensures.some (ap (λ t. Ok t) c.if-branch.true))
