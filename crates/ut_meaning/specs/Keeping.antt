-- Which rows a merge keeps: those that somebody sees.
use Rattle.std.specs.Prelude.{◌≡◌, ◌≤◌, ℕ, Bool, ◌&&◌, ◌||◌, List, ◌∷◌, None, Some}
use Rattle.std.specs.List.{list_any}
use Rattle.ut_stamps.specs.declared.fates.Fate.{Fate}
use Rattle.ut_stamps.specs.declared.fates.Fate.TheVariants.{Running, Committed}
use Rattle.ut_stamps.specs.declared.visibility.Stamp.{Stamp}
use Rattle.ut_stamps.specs.Stamps.{fate_at, is_running, sees}
use Rattle.ut_stamps.specs.Kept.{stamp_keeps}

-- whether a row is seen at the journal's length or at one of these snapshots
abbrev pub is_seen : List Fate → List ℕ → ℕ → Stamp → Bool
is_seen fates snapshots now stamp = list_any (λ k. sees fates k None stamp) (now ∷ snapshots)

-- whether a running transaction inserted it and still sees it
abbrev pub is_seen_by_owner : List Fate → ℕ → Stamp → Bool
is_seen_by_owner fates now stamp = is_running (fate_at fates stamp.begin) && sees fates now (Some stamp.begin) stamp

-- Where no commit is behind the journal's length, and nobody else ends a row of a running transaction.
abbrev pub KeepsWhatIsSeen : Type 0
KeepsWhatIsSeen =
    (fates : List Fate) (snapshots : List ℕ) (now : ℕ) (stamp : Stamp)
    → ((t c : ℕ) → fate_at fates t ≡ Committed c → c ≤ now)
    → ((t : ℕ) → fate_at fates stamp.begin ≡ Running → stamp.end ≡ Some t → t ≡ stamp.begin)
    → stamp_keeps fates snapshots stamp ≡ (is_seen fates snapshots now stamp || is_seen_by_owner fates now stamp)
