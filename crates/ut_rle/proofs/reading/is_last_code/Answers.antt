use Rattle.ut_rle.proofs.EndsLemmas.{is_last_code-lengths}
use Rattle.ut_rle.proofs.reading.is_last_code.Goals as goal

pub returns-in-Some : goal.returns-in-Some
returns-in-Some c = is_last_code-lengths 0 c.args.runs.now c.in-Some.run'.now c.args.code c.in-Some.ensures.value
