use Rattle.std.proofs.Common.{◌≡◌, take}
use Rattle.ut_plain.specs.Stages.{with_inserts}
use Rattle.check_stages.proofs.stages.place_all.Given as goal

abbrev pub invariant-loop-op : goal.invariant-loop-op
invariant-loop-op l = l.stages.items ≡ with_inserts l.bulk l.fn.stages.items (take l.op-index l.ops)
