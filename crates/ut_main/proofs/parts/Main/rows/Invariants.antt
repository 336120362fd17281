use Rattle.std.proofs.Common.{◌≡◌}
use Rattle.ut_main.specs.Parts.{first_parts, rows_in}
use Rattle.ut_main.proofs.parts.Main.rows.Given as goal

abbrev pub invariant-loop-part : goal.invariant-loop-part
invariant-loop-part l = l.rows ≡ rows_in (first_parts l.part-index l.self)
