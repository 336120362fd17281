use Rattle.ut_meaning.proofs.KeepingLaws.{keeps-seen}
use Rattle.ut_meaning.proofs.laws.needed_rows.Goals as goal

pub returns : goal.returns
returns c = record { seen = keeps-seen }
