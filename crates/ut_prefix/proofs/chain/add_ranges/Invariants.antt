use Rattle.std.proofs.Common.{◌≡◌, ◌+◌, ◌≤◌, length, take}
use Rattle.ut_prefix.specs.Chain.{chain_steps, end_to_end, shared_dicts, AddsRanges}
use Rattle.ut_prefix.proofs.chain.add_ranges.Given as goal

abbrev pub invariant-loop-dict : goal.invariant-loop-dict
invariant-loop-dict g l =
    (l.start ≡ length (end_to_end (take l.dict-index (shared_dicts l.dicts))))
    × AddsRanges l.op l.key (take l.dict-index (shared_dicts l.dicts)) l.initial.out.items l.out.items
    × (l.steps ≤ l.initial.steps + chain_steps (take l.dict-index (shared_dicts l.dicts)))
