-- The lines that are left behind so many.
use Rattle.std.proofs.Common.{◌≡◌, ℕ, zero, suc, true, false, List, [], ◌∷◌, ◌++◌, drop, Some, None, refl, ◌∙◌, ap}
use Rattle.std.specs.List.{slice_get}
use Rattle.ut_gen.specs.Lines.{TakesLine}

-- no line is left where there is none at that place
pub takes-none : (lines : List (List ℕ)) (i : ℕ) (out : List ℕ) → slice_get lines i ≡ None → TakesLine (drop i lines) (drop i lines) false out out
takes-none [] zero out e = (refl, refl, refl)
takes-none [] (suc i) out e = (refl, refl, refl)
takes-none (line ∷ lines) zero out e = cc
takes-none (line ∷ lines) (suc i) out e = takes-none lines i out e

-- the line at that place is the first that is left
pub takes-line : (lines : List (List ℕ)) (i : ℕ) (line before after : List ℕ) → slice_get lines i ≡ Some line → after ≡ before ++ line → TakesLine (drop i lines) (drop (suc i) lines) true before after
takes-line [] i line before after e f = cc
takes-line (first ∷ lines) zero line before after e f =
    let same : line ≡ first = cc in (refl, refl, f ∙ ap (λ l. before ++ l) same)
takes-line (first ∷ lines) (suc i) line before after e f = takes-line lines i line before after e f
