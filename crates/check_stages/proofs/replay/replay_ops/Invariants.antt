use Rattle.std.proofs.Common.{◌≡◌, take}
use Rattle.ut_plain.specs.Restart.{replayed_ops}
use Rattle.check_stages.proofs.replay.replay_ops.Given as goal

abbrev pub invariant-loop-op : goal.invariant-loop-op
invariant-loop-op l = l.stages.items ≡ replayed_ops l.fn.stages.items (take l.op-index l.ops)
