-- What the program comes to: a run of the top call, and the number that it exits with.
use Rattle.std.specs.Prelude.{ℕ, ◌≡◌, List, [], codes, Option, None, Some}
use Rattle.ut_outside.specs.Faults.{Rose}
use Rattle.ut_outside.specs.declared.ack.Ack.{Ack}
use Rattle.ut_run.specs.declared.report.Status.{Status}
use Rattle.ut_run.specs.declared.report.Status.TheVariants.{Done, Usage, NoStore, Exists, ReadFault, WriteFault, DiskFault, Damaged, Memory, TooLong}
use Rattle.ut_run.specs.World.{World}
use Rattle.ut_run.specs.Serving.{DidNothing}
use Rattle.ut_words.specs.Plans.{Refuses}
use Rattle.ut_app.specs.Top.{RunsWords}

-- the number that a status is told by
abbrev pub exit_number : Status → ℕ
exit_number Done = 0
exit_number Usage = 2
exit_number NoStore = 3
exit_number Exists = 3
exit_number ReadFault = 4
exit_number WriteFault = 5
exit_number DiskFault = 6
exit_number Damaged = 7
exit_number Memory = 8
exit_number TooLong = 9

-- what is written on the standard error of it, behind `ut_app: `
abbrev pub error_text : Status → Option (List ℕ)
error_text Done = None
error_text Usage = Some (codes "usage")
error_text NoStore = Some (codes "no store")
error_text Exists = Some (codes "store exists")
error_text ReadFault = Some (codes "read fault")
error_text WriteFault = Some (codes "write fault")
error_text DiskFault = Some (codes "disk fault")
error_text Damaged = Some (codes "damaged store")
error_text Memory = Some (codes "no memory")
error_text TooLong = Some (codes "input too long")

-- All that the top call promises of a run with these words.
pub record Tops (words : List (List ℕ)) (before after : World) (status : Status) : Type 0 where
  pub lines : ℕ
  pub acks : List Ack
  pub journal : ℕ
  pub usage : status ≡ Usage → Refuses words
  pub ran : RunsWords words before after status lines acks journal
  pub read : status ≡ ReadFault → Rose before.reads after.reads
  pub write : status ≡ WriteFault → Rose before.writes after.writes
  pub disk : status ≡ DiskFault → Rose before.disk.faults after.disk.faults
  pub still : status ≡ Done → (after.reads ≡ before.reads) × (after.writes ≡ before.writes) × (after.disk.faults ≡ before.disk.faults)

-- these are the words, where they are told
abbrev pub AreTold : Option (List (List ℕ)) → List (List ℕ) → Type 0
AreTold None words = Unit {0}
AreTold (Some told) words = words ≡ told

-- the status of a program whose words can't be had: of words that are told memory alone can be wanting
abbrev pub IsUnasked : Status → Option (List (List ℕ)) → Type 0
IsUnasked Memory told = Unit {0}
IsUnasked Usage None = Unit {0}
IsUnasked _ told = ⊥

-- The words couldn't be had, and nothing was done.
pub record HasNoWords (told : Option (List (List ℕ))) (before after : World) (status : Status) : Type 0 where
  pub nothing : DidNothing before after 0 [] 0
  pub says : IsUnasked status told

-- The top call ran with the words, whatever they are where they aren't told, or there were none to be had.
-- So of words that are told Usage comes from their own refusal alone.
pub data Ends (told : Option (List (List ℕ))) (before after : World) (status : Status) : Type 0 where
  Ran : (words : List (List ℕ)) → AreTold told words → Tops words before after status → Ends told before after status
  Unasked : HasNoWords told before after status → Ends told before after status

-- The program exits with the number of the status that its run ended with.
pub record Exits (told : Option (List (List ℕ))) (before after : World) (exit : ℕ) : Type 0 where
  pub status : Status
  pub ends : Ends told before after status
  pub number : exit ≡ exit_number status
