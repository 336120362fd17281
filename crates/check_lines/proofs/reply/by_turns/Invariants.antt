use Rattle.std.proofs.Common.{◌<◌, All, length}
use Rattle.check_lines.proofs.reply.by_turns.Given as goal

abbrev pub invariant-loop-row : goal.invariant-loop-row
invariant-loop-row g l = All (λ p. p < length l.values.items) l.places.items
