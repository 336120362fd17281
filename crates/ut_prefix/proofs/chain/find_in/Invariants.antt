use Rattle.std.proofs.Common.{◌≡◌, ◌+◌, ◌≤◌, length, take}
use Rattle.std.specs.List.{Contains}
use Rattle.ut_prefix.specs.Chain.{chain_steps, end_to_end, shared_dicts}
use Rattle.ut_prefix.proofs.chain.find_in.Given as goal

abbrev pub invariant-loop-dict : goal.invariant-loop-dict
invariant-loop-dict g l =
    (l.start ≡ length (end_to_end (take l.dict-index (shared_dicts l.dicts))))
    × (Contains (end_to_end (take l.dict-index (shared_dicts l.dicts))) l.key → ⊥)
    × (l.steps ≤ l.initial.steps + chain_steps (take l.dict-index (shared_dicts l.dicts)))
