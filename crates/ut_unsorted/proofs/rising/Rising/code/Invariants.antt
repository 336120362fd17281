use Rattle.ut_unsorted.proofs.rising.Rising.code.Given as goal

abbrev pub ghosts-counted_find : goal.ghosts-counted_find
ghosts-counted_find a = record { name = a.blank.name; parts = a.blank.parts }
