use Rattle.ut_table.proofs.shared.append_values.Given as goal

abbrev pub ghost-append_values : goal.ghost-append_values
ghost-append_values g a = g.rows
