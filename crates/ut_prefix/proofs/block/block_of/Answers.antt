use Rattle.ut_prefix.proofs.LayoutLemmas.{take-rest}
use Rattle.ut_prefix.proofs.block.block_of.Goals as goal

pub returns : goal.returns
returns c = take-rest _ c.args.bytes.now
