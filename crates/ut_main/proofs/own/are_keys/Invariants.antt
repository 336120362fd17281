use Rattle.std.proofs.Common.{◌<◌, ℕ, [], get_or, IsTrue}
use Rattle.ut_main.specs.Spelling.{is_key}
use Rattle.ut_main.proofs.own.are_keys.Given as goal

abbrev pub invariant-loop-code : goal.invariant-loop-code
invariant-loop-code g l = (k : ℕ) → k < l.code → IsTrue (is_key l.kind (get_or l.dict k []))
