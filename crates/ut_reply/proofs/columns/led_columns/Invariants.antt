use Rattle.std.proofs.Common.{◌≡◌, ◌∷◌, take}
use Rattle.ut_reply.specs.Columns.{led_columns}
use Rattle.ut_reply.proofs.columns.led_columns.Given as goal

abbrev pub invariant-loop-cells : goal.invariant-loop-cells
invariant-loop-cells l = l.columns.items ≡ led_columns (l.first ∷ take l.cells-index l.more)
