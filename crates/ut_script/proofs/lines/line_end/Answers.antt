use Rattle.ut_script.proofs.PieceLemmas.{line_end-is}
use Rattle.ut_script.proofs.lines.line_end.Goals as goal

pub returns : goal.returns
returns c = line_end-is c.args.bytes.now c.memchr.result c.memchr.ensures
