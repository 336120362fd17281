-- The distinct values, each put among the ones before it, are the values that occur, each once, ascending.
use Rattle.std.proofs.Common.{◌≡◌, ◌⊎◌, inl, inr, List, [], ◌∷◌, refl, ap, ◌∙◌}
use Rattle.std.specs.declared.cmp.Ordering.{Ordering}
use Rattle.std.specs.declared.cmp.Ordering.TheVariants.{Less, Equal, Greater}
use Rattle.std.specs.Ordering.{ordering_reverse}
use Rattle.std.specs.FinMap.Entries.{by_order}
use Rattle.ut_value.specs.declared.value.Value.{Value}
use Rattle.ut_value.specs.KeyOrder.{value_cmp}
use Rattle.ut_plain.specs.Query.{with_key, distinct}
use Rattle.ut_meaning.specs.Occurring.{DistinctOccur, IsOnlyDistinct}
use Rattle.ut_meaning.proofs.ListLemmas.{In, contains_in, in_contains, Below, Ascends, ascends-at, ascends-from, same_members}
use Rattle.ut_ops.specs.ValueOrder.{value_cmp_total, equal_values}

-- ---- a value among others

in-with : (k v : Value) (ws : List Value) → In k (with_key v ws) → (k ≡ v) ⊎ In k ws
in-with k v [] h = h
in-with k v (w ∷ ws) h = by (value_cmp v w) h (in-with k v ws)
  where
    by : (o : Ordering) → In k (by_order o (v ∷ w ∷ ws) (w ∷ ws) (w ∷ with_key v ws)) → (In k (with_key v ws) → (k ≡ v) ⊎ In k ws) → (k ≡ v) ⊎ In k (w ∷ ws)
    by Less g more = g
    by Equal g more = inr g
    by Greater (inl at) more = inr (inl at)
    by Greater (inr there) more = elim (more there) [ inl at ↦ inl at | inr on ↦ inr (inr on) ]

with-in : (k v : Value) (ws : List Value) → (k ≡ v) ⊎ In k ws → In k (with_key v ws)
with-in k v [] h = h
with-in k v (w ∷ ws) h = by (value_cmp v w) refl h (with-in k v ws)
  where
    by : (o : Ordering) → value_cmp v w ≡ o → (k ≡ v) ⊎ In k (w ∷ ws) → ((k ≡ v) ⊎ In k ws → In k (with_key v ws)) → In k (by_order o (v ∷ w ∷ ws) (w ∷ ws) (w ∷ with_key v ws))
    by Less e g more = g
    by Equal e (inl at) more = inl (at ∙ equal_values v w e)
    by Equal e (inr there) more = there
    by Greater e (inl at) more = inr (more (inl at))
    by Greater e (inr (inl at)) more = inl at
    by Greater e (inr (inr there)) more = inr (more (inr there))

below-through : (v w : Value) (ws : List Value) → value_cmp v w ≡ Less → Below value_cmp_total w ws → Below value_cmp_total v ws
below-through v w [] e b = tt
below-through v w (x ∷ ws) e b = (value_cmp_total.trans v w x e b.0, below-through v w ws e b.1)

below-with : (k v : Value) (ws : List Value) → value_cmp k v ≡ Less → Below value_cmp_total k ws → Below value_cmp_total k (with_key v ws)
below-with k v [] e b = (e, tt)
below-with k v (w ∷ ws) e b = by (value_cmp v w) (below-with k v ws e b.1)
  where
    by : (o : Ordering) → Below value_cmp_total k (with_key v ws) → Below value_cmp_total k (by_order o (v ∷ w ∷ ws) (w ∷ ws) (w ∷ with_key v ws))
    by Less rest = (e, b)
    by Equal rest = b
    by Greater rest = (b.0, rest)

ascends-with : (v : Value) (ws : List Value) → Ascends value_cmp_total ws → Ascends value_cmp_total (with_key v ws)
ascends-with v [] up = (tt, tt)
ascends-with v (w ∷ ws) up = by (value_cmp v w) refl (ascends-with v ws up.1)
  where
    by : (o : Ordering) → value_cmp v w ≡ o → Ascends value_cmp_total (with_key v ws) → Ascends value_cmp_total (by_order o (v ∷ w ∷ ws) (w ∷ ws) (w ∷ with_key v ws))
    by Less e rest = ((e, below-through v w ws e up.0), up)
    by Equal e rest = up
    by Greater e rest = (below-with w v ws (value_cmp_total.antisymm w v ∙ ap ordering_reverse e) up.0, rest)

-- ---- all of them

ascends-distinct : (vs : List Value) → Ascends value_cmp_total (distinct vs)
ascends-distinct [] = tt
ascends-distinct (v ∷ vs) = ascends-with v (distinct vs) (ascends-distinct vs)

in-distinct : (k : Value) (vs : List Value) → In k (distinct vs) → In k vs
in-distinct k [] h = h
in-distinct k (v ∷ vs) h = elim (in-with k v (distinct vs) h) [ inl at ↦ inl at | inr there ↦ inr (in-distinct k vs there) ]

distinct-in : (k : Value) (vs : List Value) → In k vs → In k (distinct vs)
distinct-in k [] h = h
distinct-in k (v ∷ vs) (inl at) = with-in k v (distinct vs) (inl at)
distinct-in k (v ∷ vs) (inr there) = with-in k v (distinct vs) (inr (distinct-in k vs there))

pub distinct-occur : DistinctOccur
distinct-occur vs = record {
  ascending = ascends-at value_cmp_total (distinct vs) (ascends-distinct vs);
  all = λ v h. contains_in v (distinct vs) (distinct-in v vs (in_contains v vs h));
  only = λ v h. contains_in v vs (in-distinct v vs (in_contains v (distinct vs) h));
}

pub distinct-only : IsOnlyDistinct
distinct-only vs keys h =
    same_members value_cmp_total keys (distinct vs) (ascends-from value_cmp_total keys h.ascending) (ascends-distinct vs)
    (λ k at. distinct-in k vs (in_contains k vs (h.only k (contains_in k keys at))))
    (λ k at. in_contains k keys (h.all k (contains_in k vs (in-distinct k vs at))))
