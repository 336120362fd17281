-- What a crash may leave of a run: what was acknowledged, and what was there at its entry.
use Rattle.std.specs.Prelude.{ℕ, ◌≡◌, ◌≤◌, ◌⊎◌, List}
use Rattle.ut_outside.specs.Disk.{View, Image, IsTold}
use Rattle.ut_outside.specs.Run.{Always}
use Rattle.ut_outside.specs.declared.ack.Ack.{Ack}
use Rattle.ut_pages.specs.Layout.{IsMade}
use Rattle.ut_plain.specs.Journal.{Journal, journal_len}
use Rattle.ut_durable.specs.Journals.{HoldsPrefix}
use Rattle.ut_course.specs.Keeping.{AreKept}
use Rattle.ut_run.specs.declared.start.Start.{Start}
use Rattle.ut_run.specs.declared.start.Start.TheVariants.{New, Open}

-- nothing is pending on a disk: a crash leaves what a read returns
abbrev pub NothingPending : View → Type 0
NothingPending disk = Always disk (λ c. c ≡ disk.seen)

-- what files hold of a run that began with so many entries:
-- a prefix of its journal with all of these, or while the store is made no store yet
abbrev pub HoldsRun : Start → Journal → ℕ → Image → Type 0
HoldsRun New j least c = HoldsPrefix j least c ⊎ (IsMade c.pages → ⊥)
HoldsRun Open j least c = HoldsPrefix j least c

-- a crash now leaves the whole journal
abbrev pub HoldsWhole : View → Journal → Type 0
HoldsWhole now j = Always now (HoldsPrefix j (journal_len j))

-- what was there at the entry is there after each crash since
pub record SinceEntry (start : Start) (entry now : View) (first j : Journal) : Type 0 where
  pub past : entry.moment ≤ now.moment
  pub holds : (c : Image) → now.crash_states_since entry.moment c → HoldsRun start j (journal_len first) c

-- All that was acknowledged is kept, and so is what was there at the entry if nothing was pending then.
pub record Kept (start : Start) (entry now : View) (first j : Journal) (acks : List Ack) : Type 0 where
  pub told : IsTold now
  pub no_more : journal_len first ≤ journal_len j
  pub acknowledged : AreKept now j acks
  pub since_entry : NothingPending entry → SinceEntry start entry now first j
