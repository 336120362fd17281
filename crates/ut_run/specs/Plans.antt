-- What a plan asks for.
use Rattle.std.specs.Prelude.{if◌then◌else◌}
use Rattle.ut_words.specs.declared.plan.Plan.{Plan}
use Rattle.ut_run.specs.declared.start.Start.{Start}
use Rattle.ut_run.specs.declared.start.Start.TheVariants.{New, Open}

-- the store is made, or opened
abbrev pub start_of : Plan → Start
start_of plan = if plan.fresh then New else Open
