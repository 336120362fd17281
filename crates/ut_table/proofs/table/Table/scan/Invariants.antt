use Rattle.ut_table.proofs.table.Table.scan.Given as goal

abbrev pub ghosts-counted_scan : goal.ghosts-counted_scan
ghosts-counted_scan a = record { name = a.blank.name; parts = a.blank.parts }
