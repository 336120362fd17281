use Rattle.check_codes.proofs.weigh.numbers_are_weighed_in_each_dictionary.Given as goal

abbrev pub ghosts-weigh_each : goal.ghosts-weigh_each
ghosts-weigh_each g a = record { name = a.blank.name; parts = a.blank.parts }
