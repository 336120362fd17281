use Rattle.std.proofs.Common.{◌≡◌, ◌+◌, ◌*◌, ◌≤◌, length, take}
use Rattle.ut_prefix.specs.Chain.{chain_steps, end_to_end}
use Rattle.ut_merge.specs.Uniting.{new_flags, AreFound}
use Rattle.ut_merge.proofs.seeking.seek.Given as goal

abbrev pub invariant-loop-code : goal.invariant-loop-code
invariant-loop-code g l =
    (l.new.items ≡ new_flags (end_to_end l.chain) (take l.code l.closed) (take l.code l.used)) × (length l.found.items ≡ l.code)
    × AreFound (end_to_end l.chain) (take l.code l.closed) l.used l.found.items
    × (l.steps ≤ l.initial.steps + l.code * chain_steps l.chain)
