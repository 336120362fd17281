use Rattle.check_table.proofs.FlatLemmas.{rows_from}
use Rattle.check_table.proofs.load.load_values.Given as goal

abbrev pub ghost-load_values : goal.ghost-load_values
ghost-load_values g a = rows_from 2 a.first_id 2 a.values.now
