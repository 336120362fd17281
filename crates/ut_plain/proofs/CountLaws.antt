-- Rows with ids of their own are no more than there are rows.
use Rattle.std.proofs.Common.{◌≡◌, ◌≢◌, ℕ, zero, suc, ◌+◌, ◌-◌, ◌≤◌, Bool, true, false, cond, List, [], ◌∷◌, length, None, refl, sym, ◌∙◌, ap, arith}
use Rattle.std.specs.Prelude.{is_some}
use Rattle.std.specs.Ordering.{nat_cmp}
use Rattle.std.specs.Cmp.{nat_cmp_total, unsigned_tied}
use Rattle.std.specs.List.{AllByRecursion}
use Rattle.std.specs.FinMap as finmap
use Rattle.std.proofs.lemmas.Bool.{ne_eqb}
use Rattle.ut_plain.specs.declared.table.Stored.{Stored}
use Rattle.ut_plain.specs.Rows.{Rows}
use Rattle.ut_plain.specs.Capture.{AreDistinct}

-- each is the id of a row
abbrev pub AreThere : Rows → List ℕ → Type 0
AreThere rows ids = AllByRecursion (λ (id : ℕ). is_some (finmap.get rows id) ≡ true) ids

one_less : (n m : ℕ) (b : Bool) → b ≡ true → 1 ≤ n → m ≡ cond b (n - 1) n → m + 1 ≡ n
one_less n m true there some is = omega (arith, is, some)
one_less n m false there some is = absurd cc

none_in_none : (rows : Rows) (id : ℕ) → is_some (finmap.get rows id) ≡ true → finmap.len rows ≡ 0 → ⊥
none_in_none rows id there none =
    let empty : rows ≡ finmap.empty = finmap.empty_of_len rows none in
    let nothing : is_some (finmap.get (finmap.empty {X = Stored} {R = nat_cmp}) id) ≡ true = ap (λ (r : Rows). is_some (finmap.get r id)) (sym empty) ∙ there in
    let is : finmap.get (finmap.empty {X = Stored} {R = nat_cmp}) id ≡ None = finmap.get-empty nat_cmp id in
    absurd cc

without : (rows : Rows) (id : ℕ) (ids : List ℕ) → AllByRecursion (λ (other : ℕ). other ≢ id) ids → AreThere rows ids → AreThere (finmap.remove rows id) ids
without rows id [] others there = tt
without rows id (other ∷ ids) others there = (
  ap is_some (finmap.get-remove nat_cmp_total rows id other ∙ ap (λ (b : Bool). cond b None (finmap.get rows other)) (unsigned_tied other id ∙ ne_eqb other id others.0)) ∙ there.0,
  without rows id ids others.1 there.1,
)

-- a row that is there is one of them
some_row : (rows : Rows) (id : ℕ) → is_some (finmap.get rows id) ≡ true → finmap.len (finmap.remove rows id) + 1 ≡ finmap.len rows
some_row rows id there =
    let known : finmap.contains_key rows id ≡ true = there in
    one_less (finmap.len rows) (finmap.len (finmap.remove rows id)) (finmap.contains_key rows id) known (positive (finmap.len rows) (none_in_none rows id there)) (finmap.len-remove nat_cmp_total rows id)
  where
    positive : (n : ℕ) → (n ≡ 0 → ⊥) → 1 ≤ n
    positive zero never = absurd (never refl)
    positive (suc n) never = omega arith

pub no_more_than : (ids : List ℕ) (rows : Rows) → AreDistinct ids → AreThere rows ids → length ids ≤ finmap.len rows
no_more_than [] rows distinct there = omega arith
no_more_than (id ∷ ids) rows distinct there =
    let rest = no_more_than ids (finmap.remove rows id) distinct.1 (without rows id ids distinct.0 there.1) in
    let one = some_row rows id there.0 in
    omega (arith, rest, one)
