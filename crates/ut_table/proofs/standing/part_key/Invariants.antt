use Rattle.ut_table.proofs.standing.part_key.Given as goal

abbrev pub ghosts-counted_key : goal.ghosts-counted_key
ghosts-counted_key a = record { name = a.blank.name; parts = a.blank.parts }
