-- Runs with words that are told.
use Rattle.std.proofs.Common.{ℕ, ◌≡◌, List, Option, Some, subst}
use Rattle.ut_run.specs.declared.report.Status.{Status}
use Rattle.ut_run.specs.declared.report.Status.TheVariants.{Done, Usage, NoStore, Exists, ReadFault, WriteFault, DiskFault, Damaged, Memory, TooLong}
use Rattle.ut_run.specs.World.{World}
use Rattle.ut_program.specs.Program.{AreTold, IsUnasked, Tops, Ends, Ran, Unasked}

-- where told words can't be had memory is wanting
lacking : (status : Status) (words : List (List ℕ)) (told : Option (List (List ℕ))) → IsUnasked status (Some words) → IsUnasked status told
lacking Memory words told h = tt
lacking Done words told h = absurd h
lacking Usage words told h = absurd h
lacking NoStore words told h = absurd h
lacking Exists words told h = absurd h
lacking ReadFault words told h = absurd h
lacking WriteFault words told h = absurd h
lacking DiskFault words told h = absurd h
lacking Damaged words told h = absurd h
lacking TooLong words told h = absurd h

-- a run with just these words is one with the words that are told
pub told_ends : (told : Option (List (List ℕ))) (words : List (List ℕ)) (before after : World) (status : Status) → AreTold told words → Ends (Some words) before after status → Ends told before after status
told_ends told words before after status is (Ran others same tops) = Ran words is (subst (λ (ws : List (List ℕ)). Tops ws before after status) same tops)
told_ends told words before after status is (Unasked unhad) = Unasked (record { nothing = unhad.nothing; says = lacking status words told unhad.says })
