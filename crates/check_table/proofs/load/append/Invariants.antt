use Rattle.std.proofs.Common.{◌/◌, length}
use Rattle.check_table.proofs.FlatLemmas.{rows_from}
use Rattle.check_table.proofs.load.append.Given as goal

abbrev pub ghost-append_values : goal.ghost-append_values
ghost-append_values g a = rows_from (length a.values.now / a.self.now.width) a.first_id a.self.now.width a.values.now
