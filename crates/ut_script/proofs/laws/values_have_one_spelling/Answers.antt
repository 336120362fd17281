use Rattle.ut_script.proofs.ValueLaws.{spells_values}
use Rattle.ut_script.proofs.laws.values_have_one_spelling.Goals as goal

pub returns : goal.returns
returns c = spells_values
