-- The codes of pieces of the old places, one behind the other.
use Rattle.std.proofs.Common.{◌≡◌, ℕ, zero, suc, List, [], ◌∷◌, ◌++◌, length, map, take, drop, get_or, All, Ok, IfOk, refl, ap, ◌∙◌, flat_map}
use Rattle.std.specs.Global.{Vec}
use Rattle.std.specs.List.{AllZip}
use Rattle.std.specs.declared.alloc.AllocError.{AllocError}
use Rattle.std.specs.declared.result.Result.{Result}
use Rattle.std.proofs.lemmas.List.{map-append}
use Rattle.std.proofs.lemmas.List.Elements.{All-nil, All-cons, All-take, All-drop}
use Rattle.rayon.specs.Lists.{chunks_from, chunks_of}
use Rattle.ut_bits.proofs.BitLemmas.{AllBelow-append}
use Rattle.ut_l2.specs.KeyRows.{KeyRow, cells_at, key_at}
use Rattle.ut_merge.specs.declared.gathering.Sources.{Sources}
use Rattle.ut_merge.specs.declared.old.Old.{Old}
use Rattle.ut_merge.specs.Jobs.{row_of}
use Rattle.ut_merge.specs.Columns.{AreCoded}
use Rattle.ut_merge.specs.Gathering.{AreGathered}

module _ {X : Type 0} (P : X → Type 0) (size : ℕ) where
  chunked : (fuel : ℕ) (xs : List X) → All P xs → All (All P) (chunks_from fuel size xs)
  chunked zero xs h = All-nil (All P)
  chunked (suc fuel) [] h = All-nil (All P)
  chunked (suc fuel) (x ∷ xs) h = All-cons (All P) (take size (x ∷ xs)) (chunks_from fuel size (drop size (x ∷ xs))) (All-take P size (x ∷ xs) h) (chunked fuel (drop size (x ∷ xs)) (All-drop P size (x ∷ xs) h))

  -- what holds of each item holds of each in a chunk
  pub each-chunk : (xs : List X) → All P xs → All (All P) (chunks_of size xs)
  each-chunk xs h = chunked (length xs) xs h

coded-append : (keys c d : List (List ℕ)) (xs ys : List ℕ) → AreCoded keys c xs → AreCoded keys d ys → AreCoded keys (c ++ d) (xs ++ ys)
coded-append keys c d xs ys h k = record {
  below = AllBelow-append (length keys) xs ys h.below k.below;
  cells_are = map-append (λ x. get_or keys x []) xs ys ∙ (λ i. h.cells_are i ++ k.cells_are i);
}

module _ (s : Sources) where
  cells-append : (a b : List Old) → cells_at s.column (map (row_of s.job.now) (a ++ b)) ≡ cells_at s.column (map (row_of s.job.now) a) ++ cells_at s.column (map (row_of s.job.now) b)
  cells-append a b = ap (λ (l : List KeyRow). cells_at s.column l) (map-append (row_of s.job.now) a b) ∙ map-append (key_at s.column) (map (row_of s.job.now) a) (map (row_of s.job.now) b)

  -- what a piece came to
  abbrev pub PieceIs : List Old → Result (Vec ℕ) AllocError → Type 0
  PieceIs piece r = IfOk r (λ codes. AreGathered s piece codes.items)

  pub pieces-gathered : (pieces : List (List Old)) (lists : List (Vec ℕ)) → AllZip PieceIs pieces (map Ok lists) → AreGathered s (flat_map (λ l. l) pieces) (flat_map (λ (v : Vec ℕ). v.items) lists)
  pieces-gathered [] [] h = record { below = tt; cells_are = refl }
  pieces-gathered [] (list ∷ lists) h = absurd h
  pieces-gathered (piece ∷ pieces) [] h = absurd h
  pieces-gathered (piece ∷ pieces) (list ∷ lists) h =
      rw (cells-append piece (flat_map (λ l. l) pieces)) (coded-append _ _ _ list.items (flat_map (λ (v : Vec ℕ). v.items) lists) h.0 (pieces-gathered pieces lists h.1))
