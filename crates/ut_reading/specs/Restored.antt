-- What a store's files give back of a journal of which they hold a prefix.
use Rattle.std.specs.Prelude.{ℕ, ◌≡◌, ◌≤◌}
use Rattle.ut_outside.specs.Disk.{Image}
use Rattle.ut_plain.specs.Journal.{Journal, journal_len, current, state_at}
use Rattle.ut_durable.specs.Journals.{HoldsJournal, HoldsPrefix}

-- A journal that comes to what the first entries of a full one came to, at least so many:
-- its tables, rows and counts are those of the full one's state then, and it is as long.
pub record RestoresPrefix (full : Journal) (least : ℕ) (j : Journal) : Type 0 where
  pub count : ℕ
  pub no_fewer : least ≤ count
  pub no_more : count ≤ journal_len full
  pub state : current j ≡ state_at full count
  pub length : journal_len j ≡ count

-- What is read of files that hold a prefix comes to one.
abbrev pub PrefixIsRestored : Type 0
PrefixIsRestored = (full j : Journal) (least : ℕ) (c : Image) → HoldsPrefix full least c → HoldsJournal j c → RestoresPrefix full least j
