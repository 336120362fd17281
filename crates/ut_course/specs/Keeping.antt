-- What a crash may leave of a journal that goes on: what was acknowledged, and what it began with.
use Rattle.std.specs.Prelude.{ℕ, ◌≡◌, ◌≤◌, List, [], ◌∷◌, ◌++◌, map}
use Rattle.ut_outside.specs.Disk.{View, Image, IsTold}
use Rattle.ut_outside.specs.Run.{LeavesOnly}
use Rattle.ut_outside.specs.declared.ack.Ack.{Ack}
use Rattle.ut_value.specs.declared.entry.Entry.{Entry}
use Rattle.ut_plain.specs.Journal.{Journal, journal_len}
use Rattle.ut_durable.specs.Journals.{HoldsPrefix}

-- the lengths that acknowledgements carry
abbrev pub lengths_of : List Ack → List ℕ
lengths_of acks = map (λ (a : Ack). a.journal) acks

-- a journal with these entries behind it
abbrev pub behind : Journal → List Entry → Journal
behind j es = record j { entries = j.entries ++ es }

-- a journal that goes on from another
pub record GoesOn (j k : Journal) : Type 0 where
  pub more : List Entry
  pub is : k ≡ behind j more

-- From now until then, a crash at any moment leaves all that was there, and no more than there is then.
abbrev pub Keeps : View → View → Journal → ℕ → Type 0
Keeps before after j least = IsTold before → LeavesOnly before after (HoldsPrefix j least)

-- what was acknowledged is there after each crash since
pub record IsKept (now : View) (j : Journal) (ack : Ack) : Type 0 where
  pub past : ack.moment ≤ now.moment
  pub no_more : ack.journal ≤ journal_len j
  pub holds : (c : Image) → now.crash_states_since ack.moment c → HoldsPrefix j ack.journal c

-- each of these is kept
abbrev pub AreKept : View → Journal → List Ack → Type 0
AreKept now j [] = Unit {0}
AreKept now j (ack ∷ acks) = IsKept now j ack × AreKept now j acks

-- All that was acknowledged is kept, and a crash at any moment since leaves all that was there at first.
pub record Holding (before now : View) (first j : Journal) (acks : List Ack) : Type 0 where
  pub told : IsTold now
  pub grows : GoesOn first j
  pub acknowledged : AreKept now j acks
  pub since : LeavesOnly before now (HoldsPrefix j (journal_len first))
