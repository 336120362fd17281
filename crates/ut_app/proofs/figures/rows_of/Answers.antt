use Rattle.ut_plain.specs.Journal.{current}
use Rattle.ut_app.proofs.FigureLemmas.{rows-more}
use Rattle.ut_app.proofs.figures.rows_of.Goals as goal

pub loop-place-preserved : goal.loop-place-preserved
loop-place-preserved g c p stands = rows-more (current p.journal) c.loop-place.place c.loop-place.rows c.in_ok-more.more c.in-Some.sum c.table_name.result.now (c.table_name.ensures.plain p stands) (c.loop-place.invariant p stands) (c.in_ok-more.ensures p stands) c.in-Some.ensures.1
