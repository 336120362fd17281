use Rattle.check_codes.proofs.prefix.keys_are_found_where_they_stand.Given as goal

abbrev pub ghosts-look_up : goal.ghosts-look_up
ghosts-look_up g a = record { name = a.blank.name; parts = a.blank.parts }
