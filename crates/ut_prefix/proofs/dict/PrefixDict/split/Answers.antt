use Rattle.std.proofs.Common.{◌≡◌, ◌+◌, ◌/◌, ◌^◌, ◌<◌, ℕ, length, get_or, [], arith, sym, ap, ◌∙◌, subst}
use Rattle.ut_key.specs.Keys.{key_cmp, IsAscending}
use Rattle.ut_prefix.specs.Lookup.{binary_digits}
use Rattle.ut_prefix.specs.Reading.{keys_of}
use Rattle.ut_prefix.proofs.OrderLemmas.{IsSplit-found, binary_digits-above}
use Rattle.ut_prefix.proofs.LayoutLemmas.{length-keys_of}
use Rattle.ut_prefix.proofs.dict.PrefixDict.split.Goals as goal

-- what was searched are the keys
same : (g : _) (c : goal.After-from g) → keys_of c.as_slice-2.result.now c.self.inside.len c.as_slice.result.now ≡ c.args.self.now
same g c =
    ap (λ b. keys_of c.as_slice-2.result.now c.self.inside.len b) c.as_slice.ensures.value
    ∙ ap (λ s. keys_of s c.self.inside.len c.self.inside.bytes.items) c.as_slice-2.ensures.value ∙ c.self.view_is

size : (g : _) (c : goal.After-from g) → length c.args.self.now ≡ c.self.inside.len
size g c = ap (λ l. length l) (sym c.self.view_is) ∙ length-keys_of c.self.inside.starts.items c.self.inside.len c.self.inside.bytes.items c.self.invariant.laid.count

pub returns-clause-split : goal.returns-clause-split
returns-clause-split g c =
    IsSplit-found c.args.self.now c.args.key.now c.search-place.result.0 c.search-place.result.1 _ (subst (λ l. IsAscending l) c.self.view_is c.self.invariant.laid.ascending) (omega (arith, size g c, c.search-place.ensures.within))
    (λ i lt. ap (λ l. key_cmp (get_or l i []) c.args.key.now) (sym (same g c)) ∙ c.search-place.ensures.below i lt)
    (λ yes. omega (arith, size g c, c.search-place.ensures.found yes))
    (λ yes. ap (λ l. get_or l c.search-place.result.0 []) (sym (same g c)) ∙ c.search-place.ensures.equal yes)
    (λ other i le lt. ap (λ l. key_cmp (get_or l i []) c.args.key.now) (sym (same g c)) ∙ c.search-place.ensures.above other i le (omega (arith, lt, size g c)))
    (ap (λ (k : ℕ). c.search-place.result.0 + k) c.from.ensures)

pub returns-clause-cost : goal.returns-clause-cost
returns-clause-cost g c =
    let blocks : length c.as_slice-2.result.now ≡ (length c.args.self.now + 15) / 16 = omega (arith, size g c, c.as_slice-2.ensures.len, c.self.invariant.laid.count) in
    let fits = subst (λ (n : ℕ). n < 2 ^ binary_digits ((length c.args.self.now + 15) / 16)) (sym blocks) (binary_digits-above ((length c.args.self.now + 15) / 16)) in
    let bound = c.search-place.ensures.cost (binary_digits ((length c.args.self.now + 15) / 16)) fits in
    omega (arith, bound)
