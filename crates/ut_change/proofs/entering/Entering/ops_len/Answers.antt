use Rattle.std.proofs.Common.{ap, arith}
use Rattle.std.specs.List.{sum_by}
use Rattle.ut_value.specs.Spelling.{value_len}
use Rattle.ut_change.specs.Entering.{insert_of}
use Rattle.ut_change.proofs.WriteLemmas.{op_len-short}
use Rattle.ut_change.proofs.entering.Entering.ops_len.Goals as goal

pub insert_len-bytes-requires : goal.insert_len-bytes-requires
insert_len-bytes-requires c =
    let short = op_len-short (insert_of c.args.self.now) c.requires.rule in
    let same = ap (sum_by value_len) c.as_slice.ensures in omega (arith, short, same)
