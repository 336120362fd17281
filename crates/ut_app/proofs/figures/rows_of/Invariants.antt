use Rattle.std.proofs.Common.{◌≡◌}
use Rattle.ut_plain.specs.Plain.{Plain}
use Rattle.ut_plain.specs.Journal.{current}
use Rattle.ut_store.specs.Stands.{StandsFor}
use Rattle.ut_app.proofs.FigureLemmas.{rows_upto}
use Rattle.ut_app.proofs.figures.rows_of.Given as goal

abbrev pub invariant-loop-place : goal.invariant-loop-place
invariant-loop-place g l = (p : Plain) → StandsFor l.engine.store.store p → l.rows ≡ rows_upto (current p.journal) l.place
