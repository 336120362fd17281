use Rattle.std.proofs.Common.{◌≡◌, ◌≤◌, ◌-◌, length}
use Rattle.ut_script.specs.Lines.{AsksFew}
use Rattle.ut_script.specs.LineSteps.{ReadsLine, SameCounts}
use Rattle.ut_script.proofs.lines.Lines.read_line.Given as goal

-- what was read so far and what is left are the input, and the count of faults stayed
abbrev pub invariant-loop-self : goal.invariant-loop-self
invariant-loop-self g l = record {
  part : ReadsLine l.fn.self (g.S.Source.left l.fn.source) l.self (g.S.Source.left l.source);
  asks : AsksFew l.fn.self (g.S.Source.left l.fn.source) (g.K.Taken.held l.sink) (g.S.Source.asks l.fn.source) (g.S.Source.asks l.source);
  same : SameCounts l.fn.self l.self;
  short : length l.self.line ≤ 65536;
  still : g.S.Source.faults l.source ≡ g.S.Source.faults l.fn.source;
}

abbrev pub decreases-loop-self : goal.decreases-loop-self
decreases-loop-self g l = 65536 - length l.self.line
