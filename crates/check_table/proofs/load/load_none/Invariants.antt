use Rattle.std.proofs.Common.{[]}
use Rattle.check_table.proofs.load.load_none.Given as goal

abbrev pub ghost-load_values : goal.ghost-load_values
ghost-load_values g a = []
