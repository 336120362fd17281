use Rattle.std.proofs.Common.{◌≡◌, ◌++◌, take}
use Rattle.ut_key.specs.Keys.{meets}
use Rattle.ut_l2.specs.Places.{places_where}
use Rattle.ut_l2.proofs.l2.dict_codes.Given as goal

abbrev pub invariant-loop-code : goal.invariant-loop-code
invariant-loop-code l = l.out.items ≡ l.fn.out.items ++ places_where (meets l.op l.key) (take l.code l.dict)
