use Rattle.ut_merge.proofs.coding.code_column.Given as goal

abbrev pub ghosts-recoding_of : goal.ghosts-recoding_of
ghosts-recoding_of g a = record { name = a.blank.name; parts = a.blank.parts }
