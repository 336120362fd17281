use Rattle.std.proofs.Common.{◌≡◌, ◌+◌, ◌-◌, length, take}
use Rattle.ut_prefix.specs.Chain.{end_to_end, shared_dicts}
use Rattle.ut_prefix.proofs.chain.key_in.Given as goal

abbrev pub invariant-loop-place : goal.invariant-loop-place
invariant-loop-place g l = (l.code ≡ length (end_to_end (take l.dict (shared_dicts l.dicts))) + l.place) × (l.steps ≡ l.initial.steps)

abbrev pub decreases-loop-place : goal.decreases-loop-place
decreases-loop-place g l = length (shared_dicts l.dicts) - l.dict
