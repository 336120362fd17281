use Rattle.std.proofs.Common.{◌≡◌, take}
use Rattle.ut_main.specs.Parts.{shared_parts}
use Rattle.ut_main.proofs.parts.Main.first.Given as goal

abbrev pub invariant-loop-part : goal.invariant-loop-part
invariant-loop-part l = shared_parts l.parts.items ≡ take l.part-index (shared_parts l.first)
