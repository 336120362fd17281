use Rattle.ut_look.specs.Look.{sight}
use Rattle.ut_query.proofs.TellLemmas.{tells_count}
use Rattle.ut_query.proofs.answers.count_rows.Goals as goal

pub returns : goal.returns
returns c = tells_count (sight c.args.look.now) c.args.rows.now _ c.in_ok-count.ensures
