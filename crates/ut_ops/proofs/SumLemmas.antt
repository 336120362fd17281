-- Sums of a column, so far and of the rows that are left.
use Rattle.std.proofs.Common.{◌≡◌, ℤ, ◌+ℤ◌, ℕ, zero, suc, ◌+◌, ◌<◌, List, [], ◌∷◌, length, map, drop, get_or, sym, ap, ◌∙◌, arith}
use Rattle.std.proofs.lemmas.Int.{ints}
use Rattle.ut_value.specs.declared.value.Value.TheVariants.{Int}
use Rattle.ut_plain.specs.Query.{number_of, total}
use Rattle.ut_scan.specs.declared.place.Found.{Found}
use Rattle.ut_staged.specs.Staged.{Staged}
use Rattle.ut_ops.specs.Fit.{cell}

pub grouped : (a b c : ℤ) → (a +ℤ b) +ℤ c ≡ a +ℤ (b +ℤ c)
grouped a b c = omega (arith, ints)

-- the sum so far, and of those that are left
pub total_more : (s n t : ℤ) (st : Staged) (c : ℕ) (fs : List Found) (k : ℕ) (d : Found) → k < length fs → cell st c (get_or fs k d) ≡ Int n → s +ℤ total (map (cell st c) (drop k fs)) ≡ t
    → (s +ℤ n) +ℤ total (map (cell st c) (drop (k + 1) fs)) ≡ t
total_more s n t st c [] k d h e g = absurd (omega arith)
total_more s n t st c (f ∷ fs) zero d h e g =
    let rest = total (map (cell st c) fs) in
    grouped s n rest ∙ ap (λ m. s +ℤ (m +ℤ rest)) (sym (ap number_of e)) ∙ g
total_more s n t st c (f ∷ fs) (suc k) d h e g =
    let next : suc k + 1 ≡ suc (k + 1) = omega arith in
    ap (λ j. (s +ℤ n) +ℤ total (map (cell st c) (drop j (f ∷ fs)))) next ∙ total_more s n t st c fs k d (omega arith) e g
