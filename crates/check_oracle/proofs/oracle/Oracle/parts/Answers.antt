use Rattle.std.proofs.Common.{length, ap, arith}
use Rattle.std.specs.List.{sum_by}
use Rattle.ut_plain.specs.declared.stage.TableStages.{TableStages}
use Rattle.check_oracle.specs.Store.{plain_of}
use Rattle.check_oracle.proofs.SaveLemmas.{few_parts}
use Rattle.check_oracle.proofs.oracle.Oracle.parts.Goals as goal

pub parts_of-requires : goal.parts_of-requires
parts_of-requires c =
    let all = few_parts (plain_of c.self.inside.held) c.self.invariant.plain in
    omega (arith, all, ap (sum_by (λ (t : TableStages). length t.parts)) c.as_slice.ensures.value)
