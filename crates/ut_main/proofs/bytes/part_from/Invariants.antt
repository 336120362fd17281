use Rattle.ut_main.proofs.bytes.part_from.Given as goal

abbrev pub ghosts-counted_part : goal.ghosts-counted_part
ghosts-counted_part a = record { name = a.blank.name; parts = a.blank.parts }
