use Rattle.ut_ops.proofs.CodeLemmas.{marks-none}
use Rattle.ut_ops.proofs.groups.marks_for.Goals as goal

pub returns : goal.returns
returns c = marks-none c.args.table.now.stages c.args.column c.in_ok-marks.marks.items c.in_ok-marks.ensures
