use Rattle.std.proofs.Common.{ap, ◌∙◌}
use Rattle.ut_script.specs.declared.lines.LineError.{LineError}
use Rattle.ut_script.specs.Lines.{Reading}
use Rattle.ut_script.proofs.LineLemmas.{fills_on, piece_on, grows, fed, breaks, ends, counted-line, counted-held}
use Rattle.ut_script.proofs.AskLemmas.{asks_on, steps_fed, steps_last}
use Rattle.ut_script.proofs.lines.Lines.read_line.Goals as goal

pub returns-then-not-branch-clause-next : goal.returns-then-not-branch-clause-next
returns-then-not-branch-clause-next g c =
    let filled = c.fill.new.self in
    let number = c.end_line.ensures.number in
    ends LineError _ _ _ _ filled c.end_line.new.self _ c.end_line.result c.loop-self.invariant.part (fills_on LineError _ _ _ _ _ _ c.if-not-branch.true c.in_ok-fill.ensures.bytes) c.fill.ensures.line c.end_line.ensures.some
    (ap (λ (r : Reading). r.line) number ∙ counted-line c.end_line.result filled) (ap (λ (r : Reading). r.held) number ∙ counted-held c.end_line.result filled) c.requires c.fill.ensures.short

pub returns-in-Err-clause-next : goal.returns-in-Err-clause-next
returns-in-Err-clause-next g c =
    breaks LineError _ _ _ _ c.fill.new.self _ _ c.loop-self.invariant.part (fills_on LineError _ _ _ _ _ _ c.if-not-branch.false c.in_ok-fill.ensures.bytes) c.fill.ensures.line c.in-Err.ensures.piece

pub returns-then-ended-clause-next : goal.returns-then-ended-clause-next
returns-then-ended-clause-next g c =
    fed LineError _ _ _ _ c.fill.new.self c.take_piece.new.self _ _ c.loop-self.invariant.part (fills_on LineError _ _ _ _ _ _ c.if-not-branch.false c.in_ok-fill.ensures.bytes) c.fill.ensures.line
    (piece_on _ _ _ _ c.if-ended.true c.in-Ok.ensures.piece) (ap (λ (r : Reading). r.line) c.self-in-loop-self.view_is) (ap (λ (r : Reading). r.held) c.self-in-loop-self.view_is) c.requires c.take_piece.ensures.short

pub loop-self-preserved : goal.loop-self-preserved
loop-self-preserved g c =
    let before = c.loop-self.invariant.same in
    let fill = c.fill.ensures.same in
    let take = c.take_piece.ensures.same in
    record {
      part = grows LineError _ _ _ _ c.fill.new.self c.take_piece.new.self _ c.loop-self.invariant.part (fills_on LineError _ _ _ _ _ _ c.if-not-branch.false c.in_ok-fill.ensures.bytes) c.fill.ensures.line (piece_on _ _ _ _ c.if-ended.false c.in-Ok.ensures.piece);
      asks = asks_on _ _ _ _ _ _ _ _ c.loop-self.invariant.part c.loop-self.invariant.asks c.fill.ensures.asks;
      same = record { number = take.number ∙ fill.number ∙ before.number; limit = take.limit ∙ fill.limit ∙ before.limit; failed = take.failed ∙ fill.failed ∙ before.failed };
      short = c.take_piece.ensures.short;
      still = c.in_ok-fill.ensures.cause.still ∙ c.loop-self.invariant.still;
    }

pub returns-in_err-fill-clause-asks : goal.returns-in_err-fill-clause-asks
returns-in_err-fill-clause-asks g c = asks_on _ _ _ _ _ _ _ _ c.loop-self.invariant.part c.loop-self.invariant.asks c.fill.ensures.asks

pub returns-then-not-branch-clause-steps : goal.returns-then-not-branch-clause-steps
returns-then-not-branch-clause-steps g c =
    steps_last LineError _ _ _ _ c.fill.new.self c.end_line.new.self _ c.loop-self.invariant.part (fills_on LineError _ _ _ _ _ _ c.if-not-branch.true c.in_ok-fill.ensures.bytes)
    (ap (λ (r : Reading). r.held) c.end_line.ensures.number ∙ counted-held c.end_line.result c.fill.new.self)

pub returns-then-not-branch-clause-asks : goal.returns-then-not-branch-clause-asks
returns-then-not-branch-clause-asks g c = asks_on _ _ _ _ _ _ _ _ c.loop-self.invariant.part c.loop-self.invariant.asks c.fill.ensures.asks

pub returns-in-Err-clause-asks : goal.returns-in-Err-clause-asks
returns-in-Err-clause-asks g c = asks_on _ _ _ _ _ _ _ _ c.loop-self.invariant.part c.loop-self.invariant.asks c.fill.ensures.asks

pub returns-then-ended-clause-steps : goal.returns-then-ended-clause-steps
returns-then-ended-clause-steps g c =
    steps_fed LineError _ _ _ _ c.fill.new.self c.take_piece.new.self _ _ c.loop-self.invariant.part (fills_on LineError _ _ _ _ _ _ c.if-not-branch.false c.in_ok-fill.ensures.bytes) c.fill.ensures.line
    (piece_on _ _ _ _ c.if-ended.true c.in-Ok.ensures.piece) (ap (λ (r : Reading). r.held) c.self-in-loop-self.view_is)

pub returns-then-ended-clause-asks : goal.returns-then-ended-clause-asks
returns-then-ended-clause-asks g c = asks_on _ _ _ _ _ _ _ _ c.loop-self.invariant.part c.loop-self.invariant.asks c.fill.ensures.asks
