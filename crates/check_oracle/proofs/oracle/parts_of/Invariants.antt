use Rattle.std.proofs.Common.{◌≡◌, length, take}
use Rattle.std.specs.List.{sum_by}
use Rattle.ut_plain.specs.declared.stage.TableStages.{TableStages}
use Rattle.check_oracle.proofs.oracle.parts_of.Given as goal

abbrev pub invariant-loop-table : goal.invariant-loop-table
invariant-loop-table l = l.parts ≡ sum_by (λ (t : TableStages). length t.parts) (take l.table-index l.stages)
