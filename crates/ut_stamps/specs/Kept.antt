-- Which rows a merge keeps, told by their stamps and by the snapshots that are open.
use Rattle.std.specs.Prelude.{ℕ, Bool, true, false, not, ◌&&◌, nat_eq, nat_le, nat_lt, List, Option, None, Some}
use Rattle.std.specs.List.{list_any}
use Rattle.ut_stamps.specs.declared.fates.Fate.{Fate}
use Rattle.ut_stamps.specs.declared.fates.Fate.TheVariants.{Running, Committed, Aborted}
use Rattle.ut_stamps.specs.declared.visibility.Stamp.{Stamp}
use Rattle.ut_stamps.specs.Stamps.{fate_at, has_ended}

-- whether one of these snapshots holds the entry of length b and not the one of length c
abbrev pub is_between : List ℕ → ℕ → ℕ → Bool
is_between snapshots b c = list_any (λ k. nat_le b k && nat_lt k c) snapshots

-- whether somebody needs a row that was committed at length b, by the fate of who ended it
abbrev pub is_needed_still : List ℕ → ℕ → Fate → Bool
is_needed_still snapshots b Running = true
is_needed_still snapshots b (Committed c) = is_between snapshots b c
is_needed_still snapshots b Aborted = true

-- the same, by who ended it, if anybody did
abbrev pub end_keeps : List Fate → List ℕ → ℕ → Option ℕ → Bool
end_keeps fates snapshots b None = true
end_keeps fates snapshots b (Some t) = is_needed_still snapshots b (fate_at fates t)

-- whether somebody needs a row, by the fate of who inserted it
abbrev pub begin_keeps : List Fate → List ℕ → Stamp → Fate → Bool
begin_keeps fates snapshots stamp Running = not (has_ended (nat_eq stamp.begin) stamp.end)
begin_keeps fates snapshots stamp (Committed b) = end_keeps fates snapshots b stamp.end
begin_keeps fates snapshots stamp Aborted = false

-- whether somebody sees a row now, or has its own
abbrev pub stamp_keeps : List Fate → List ℕ → Stamp → Bool
stamp_keeps fates snapshots stamp = begin_keeps fates snapshots stamp (fate_at fates stamp.begin)
