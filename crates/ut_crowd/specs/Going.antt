-- Whether a session goes on.
use Rattle.std.specs.Prelude.{Bool, true, false}
use Rattle.ut_crew.specs.declared.role.Went.{Went}
use Rattle.ut_crew.specs.declared.role.Went.TheVariants.{Over}

-- there may be another turn of it
abbrev pub goes_on : Went → Bool
goes_on Over = false
goes_on _ = true
