use Rattle.std.proofs.Common.{ℕ, ◌^◌, ◌<◌}
use Rattle.ut_codes.proofs.form.width_of.Given as goal

abbrev pub invariant-loop-width : goal.invariant-loop-width
invariant-loop-width l = (v : ℕ) → v < l.width → 2 ^ v < l.reach
