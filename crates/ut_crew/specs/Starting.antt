-- The parts that are given out, and what became of a member that was to start.
use Rattle.std.specs.Prelude.{List, ◌++◌, Option, Result, Ok, Err, map, reverse, option_to_list}
use Rattle.ut_crew.specs.declared.role.Role.{Role}
use Rattle.ut_crew.specs.declared.role.Role.TheVariants.{Session, Merger, Saver}

-- the parts that are still to be given out, in order
abbrev pub left_of : {A M K : Type 0} → Option K → Option M → List A → List (Role A M K)
left_of saver merger sessions =
    map Saver (option_to_list saver) ++ map Merger (option_to_list merger) ++ map Session (reverse sessions)

-- what is read of a thread that works, or of what came back at once
abbrev pub of_either : {H D R : Type 0} → (H → R) → (D → R) → Result H D → R
of_either runs ran (Ok h) = runs h
of_either runs ran (Err d) = ran d
