use Rattle.std.proofs.Common.{◌≡◌, filter, false, get_or, take}
use Rattle.ut_merge.proofs.seeking.new_codes.Given as goal

abbrev pub invariant-loop-code : goal.invariant-loop-code
invariant-loop-code l = l.codes.items ≡ filter (λ code. get_or l.new code false) (take l.code-index l.code-items)
