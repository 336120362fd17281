use Rattle.std.proofs.Common.{ℕ, ◌+◌, ◌*◌, ◌<◌, ◌≤◌, get_or, []}
use Rattle.std.specs.List.{Contains}
use Rattle.ut_prefix.specs.Chain.{chain_steps, end_to_end}
use Rattle.ut_prefix.proofs.chain.DictChain.lacks_all.Given as goal

abbrev pub invariant-loop-code : goal.invariant-loop-code
invariant-loop-code g l =
    ((i : ℕ) → i < l.code → ¬ Contains (end_to_end l.self) (get_or l.dict i []))
    × (l.steps ≤ l.initial.steps + l.code * (chain_steps l.self + 1))
