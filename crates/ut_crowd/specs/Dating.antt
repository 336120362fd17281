-- When turns were answered: in their order, and as crashes show it.
use Rattle.std.specs.Prelude.{ℕ, ◌≡◌, ◌≤◌, false, List, [], ◌∷◌}
use Rattle.ut_outside.specs.Disk.{View, Image}
use Rattle.ut_plain.specs.Journal.{Journal, journal_len}
use Rattle.ut_durable.specs.Journals.{HoldsPrefix}
use Rattle.ut_course.specs.Coming.{is_fault}
use Rattle.ut_crowd.specs.declared.book.Turn.{Turn}

-- The moments of turns ascend: none is before that of the turn before it.
abbrev pub AreInOrder : List Turn → Type 0
AreInOrder [] = Unit {0}
AreInOrder (t ∷ []) = Unit {0}
AreInOrder (t ∷ u ∷ book) = (t.moment ≤ u.moment) × AreInOrder (u ∷ book)

-- A crash at this moment or since may have left a journal of just so many entries: so the moment isn't one at which there were more.
pub record WasLeft (now : View) (entries moment : ℕ) : Type 0 where
  pub image : Image
  pub left : now.crash_states_since moment image
  pub journal : Journal
  pub length : journal_len journal ≡ entries
  pub holds : HoldsPrefix journal entries image

-- The moment of a turn isn't past the next entry of the log, unless the disk failed at it.
abbrev pub IsTimely : View → Turn → Type 0
IsTimely now t = is_fault t.reply ≡ false → WasLeft now t.journal t.moment

-- nor is that of any of these
abbrev pub AreTimely : View → List Turn → Type 0
AreTimely now [] = Unit {0}
AreTimely now (t ∷ book) = (t.moment ≤ now.moment) × IsTimely now t × AreTimely now book
