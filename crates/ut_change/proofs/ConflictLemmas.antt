-- The first row that is taken, as it is looked for.
use Rattle.std.proofs.Common.{ℕ, zero, suc, ◌<◌, ◌≡◌, Bool, true, false, cond, List, [], ◌∷◌, length, drop, Option, None, Some, refl, sym, ap, ◌∙◌, arith, IsSome, get_or}
use Rattle.std.specs.Option.{option_map}
use Rattle.ut_stamps.specs.declared.fates.Fate.{Fate}
use Rattle.ut_stamps.specs.declared.visibility.Stamp.{Stamp}
use Rattle.ut_stamps.specs.Stamps.{is_taken}
use Rattle.ut_stamps.specs.declared.place.Place.{Place}
use Rattle.ut_scan.specs.declared.place.Found.{Found}
use Rattle.ut_exact.specs.Places.{StagedRow}
use Rattle.ut_staged.specs.Staged.{Staged, row_at}
use Rattle.ut_table.specs.Finds.{hits_of}
use Rattle.ut_change.specs.Writes.{AreThere}
use Rattle.ut_change.specs.Conflicts.{stamp_in, first_taken_in}

-- ---- what is behind the first

pub there_behind : (s : Staged) (found : List Found) (i : ℕ) → i < length found → AreThere s (hits_of (drop i found)) → AreThere s (hits_of (drop (suc i) found))
there_behind s [] i lt h = absurd (omega arith)
there_behind s (f ∷ fs) zero lt h = h.1
there_behind s (f ∷ fs) (suc i) lt h = there_behind s fs i (omega arith) h

stamp-is : (o : Option StagedRow) (stamp : Stamp) → IsSome o → ((row : StagedRow) → o ≡ Some row → stamp ≡ row.stamp) → stamp ≡ stamp_in o
stamp-is None stamp h k = cc
stamp-is (Some row) stamp h k = k row refl

module _ (s : Staged) (fates : List Fate) (k : ℕ) (own : Option ℕ) where
  marked : ℕ × Place → Bool
  marked x = is_taken fates k own (stamp_in (row_at s x.1))

  not_first : (b : Bool) (x : Option (ℕ × Place)) (rest : Option (ℕ × Place)) → b ≡ false → rest ≡ cond b x rest
  not_first true x rest h = cc
  not_first false x rest h = refl

  pub taken_behind : (found : List Found) (i : ℕ) (d : Found) (stamp : Stamp) → i < length found → AreThere s (hits_of (drop i found)) → ((row : StagedRow) → row_at s (get_or found i d).place ≡ Some row → stamp ≡ row.stamp)
      → is_taken fates k own stamp ≡ false → first_taken_in s fates k own (hits_of (drop (suc i) found)) ≡ first_taken_in s fates k own (hits_of (drop i found))
  taken_behind [] i d stamp lt h is kept = absurd (omega arith)
  taken_behind (f ∷ fs) zero d stamp lt h is kept =
      let free : is_taken fates k own (stamp_in (row_at s f.place)) ≡ false = ap (is_taken fates k own) (sym (stamp-is (row_at s f.place) stamp h.0 is)) ∙ kept in
      ap (option_map (λ (x : ℕ × Place). x.0)) (not_first (is_taken fates k own (stamp_in (row_at s f.place))) (Some (f.id, f.place)) _ free)
  taken_behind (f ∷ fs) (suc i) d stamp lt h is kept = taken_behind fs i d stamp (omega arith) h is kept
