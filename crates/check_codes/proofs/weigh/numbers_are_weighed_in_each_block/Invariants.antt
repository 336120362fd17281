use Rattle.check_codes.proofs.weigh.numbers_are_weighed_in_each_block.Given as goal

abbrev pub ghosts-weigh_forty : goal.ghosts-weigh_forty
ghosts-weigh_forty g a = record { name = a.blank.name; parts = a.blank.parts }
