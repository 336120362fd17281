-- What an entry of another store's journal makes of a store that follows it.
use Rattle.std.specs.Prelude.{ℕ, ◌+◌, ◌<◌, ◌≡◌, max, Bool, true, ◌&&◌, nat_le, if◌then◌else◌, List, [], ◌∷◌, ◌++◌, map, None, IsTrue, is_some}
use Rattle.std.specs.Option.{option_map}
use Rattle.std.specs.FinMap as finmap
use Rattle.ut_value.specs.declared.entry.Entry.{Entry}
use Rattle.ut_plain.specs.declared.stage.Placed.{Placed}
use Rattle.ut_plain.specs.declared.stage.TableStages.{TableStages}
use Rattle.ut_plain.specs.Rows.{Rows}
use Rattle.ut_plain.specs.State.{can, entry_inserts}
use Rattle.ut_plain.specs.Journal.{Journal, journal_len, current, appended, load_of}
use Rattle.ut_plain.specs.Stages.{Stages, all_places}
use Rattle.ut_plain.specs.Restart.{replayed_entry}
use Rattle.ut_plain.specs.Plain.{Plain, open_at}
use Rattle.ut_plain.specs.Reached.{IsPlain}

-- ---- places that nobody has

-- a place whose id is none of these rows' is dead
abbrev pub swept : Rows → Placed → Placed
swept rows place = if is_some (finmap.get rows place.id) then place else record place { dead = true }

abbrev pub swept_table : Rows → TableStages → TableStages
swept_table rows t = record t {
  l1 = map (swept rows) t.l1;
  l2 = map (swept rows) t.l2;
  closed = option_map (map (swept rows)) t.closed;
  parts = map (map (swept rows)) t.parts;
}

abbrev pub swept_stages : Rows → Stages → Stages
swept_stages rows stages = map (swept_table rows) stages

-- ---- one entry

-- the most rows that there may have been, the entry's own included: those of the journal, or those in the stages that aren't main
abbrev pub most : Plain → Entry → ℕ
most p e = max (load_of p.journal) (all_places p.stages) + entry_inserts e

-- whether an entry can be followed: it can be applied, and there are ids for all rows
abbrev pub may_follow : Plain → Entry → Bool
may_follow p e = can (current p.journal) e && nat_le (most p e) 2147483648

-- the store behind it: as one that was opened with the longer journal, which gives its ids on
abbrev pub followed : Plain → Entry → Plain
followed p e = record p {
  journal = appended p.journal e;
  opening = journal_len p.journal + 1;
  next_id = max p.next_id (max (current (appended p.journal e)).next (most p e + 1));
  stages = replayed_entry (swept_stages (current p.journal).rows p.stages) e;
}

-- A store can follow: nobody has a transaction, no merge is pending, and the journal has room.
pub record CanFollow (p : Plain) : Type 0 where
  pub alone : (session : ℕ) → open_at p.sessions session ≡ None
  pub idle : p.pending ≡ None
  pub room : journal_len p.journal < 1073741824

-- ---- entries in order

-- The store follows these entries, one after the other, as far as they can be followed.
abbrev pub followed_all : Plain → List Entry → Plain
followed_all p [] = p
followed_all p (e ∷ es) = followed_all (followed p e) es

-- each of them can be followed in its place
abbrev pub FollowsAll : Plain → List Entry → Type 0
FollowsAll p [] = Unit {0}
FollowsAll p (e ∷ es) = CanFollow p × IsTrue (may_follow p e) × FollowsAll (followed p e) es

-- ---- laws

-- what is reached stays so
abbrev pub FollowedIsPlain : Type 0
FollowedIsPlain = (p : Plain) (e : Entry) → IsPlain p → CanFollow p → IsTrue (may_follow p e) → IsPlain (followed p e)

-- The journal gains these entries and no other, and as soon as all were followed the store can follow another where there is room.
pub record Grows (p q : Plain) (es : List Entry) : Type 0 where
  pub base : q.journal.base ≡ p.journal.base
  pub entries : q.journal.entries ≡ p.journal.entries ++ es
  pub reached : IsPlain q

abbrev pub FollowedGrows : Type 0
FollowedGrows = (p : Plain) (es : List Entry) → IsPlain p → FollowsAll p es → Grows p (followed_all p es) es

-- Some first entries of a journal are these.
pub record IsFront (j whole : Journal) : Type 0 where
  pub base : j.base ≡ whole.base
  pub more : List Entry
  pub are : whole.entries ≡ j.entries ++ more

-- Where a store's journal is a front of another's, and it follows the entries behind its own, some or all, it is a front again.
abbrev pub FollowedStaysAPrefix : Type 0
FollowedStaysAPrefix =
    (p : Plain) (whole : Journal) (es rest : List Entry) → IsPlain p → p.journal.base ≡ whole.base
    → whole.entries ≡ p.journal.entries ++ (es ++ rest) → FollowsAll p es → IsFront (followed_all p es).journal whole
