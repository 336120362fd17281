use Rattle.std.proofs.Common.{ℕ, ◌≡◌, ◌<◌, false, length}
use Rattle.std.specs.Prelude.{nat_le}
use Rattle.ut_plain.specs.Plain.{Plain}
use Rattle.ut_plain.specs.Stages.{stages_at}
use Rattle.ut_store.specs.Stands.{StandsFor}
use Rattle.ut_crowd.proofs.merger.second_full.Given as goal

abbrev pub invariant-loop-place : goal.invariant-loop-place
invariant-loop-place g l = (p : Plain) → StandsFor l.engine.store.store p → (k : ℕ) → k < l.place → nat_le l.rows (length (stages_at p.stages k).l2) ≡ false
