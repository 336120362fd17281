-- A probe of a part of main.
use Rattle.std.specs.Prelude.{◌≡◌, ℕ, List, [], get_or}
use Rattle.ut_stamps.specs.declared.visibility.Stamp.{Stamp}
use Rattle.ut_main.specs.Parts.{MainValue, dicts_behind, first_parts}
use Rattle.ut_scan.specs.declared.coded.CodedPred.{CodedPred}
use Rattle.ut_scan.specs.declared.parts.PartProbe.{PartProbe}
use Rattle.ut_stamps.specs.declared.visibility.Snapshot.{Snapshot}

-- a probe for this snapshot and these comparisons of part p of main, whose parts have these stamps
pub record IsProbeOf (v : Snapshot) (preds : List CodedPred) (main : MainValue) (all : List (List Stamp)) (p : ℕ) (probe : PartProbe) : Type 0 where
  pub snapshot : probe.snapshot.now ≡ v
  pub coded : probe.coded.now ≡ preds
  pub number : probe.number ≡ p
  pub rows : probe.part.now.rows ≡ get_or main.parts p []
  pub before : probe.part.now.before ≡ dicts_behind (first_parts p main)
  pub stamps : probe.stamps.now ≡ get_or all p []
