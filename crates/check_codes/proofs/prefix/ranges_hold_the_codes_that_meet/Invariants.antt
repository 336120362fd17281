use Rattle.check_codes.proofs.prefix.ranges_hold_the_codes_that_meet.Given as goal

abbrev pub ghosts-compare_all : goal.ghosts-compare_all
ghosts-compare_all g a = record { name = a.blank.name; parts = a.blank.parts }
