-- Files that were just made.
use Rattle.std.specs.Prelude.{[]}
use Rattle.ut_pages.specs.declared.slot.Slot.TheVariants.{First}
use Rattle.ut_pages.specs.Layout.{empty_root}
use Rattle.ut_redo.specs.Groups.{no_group}
use Rattle.ut_durable.specs.Calls.{FilesHeld}
use Rattle.ut_durable.specs.Journals.{place_of}

-- the log ends at the place of the empty root, which is selected and reaches no page
abbrev pub made_held : FilesHeld
made_held = record { log = place_of empty_root; group = no_group; slot = First; reached = [] }
