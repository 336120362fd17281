use Rattle.ut_table.proofs.table.Table.tally.Given as goal

abbrev pub ghosts-counted_tally : goal.ghosts-counted_tally
ghosts-counted_tally a = record { name = a.blank.name; parts = a.blank.parts }
