-- Where two ascending lists can be cut, and how a cut is found by binary search.
use Rattle.std.proofs.Common.{◌≡◌, ◌≢◌, ◌⊎◌, ℕ, ◌+◌, ◌-◌, ◌<◌, ◌≤◌, List, [], ◌∷◌, ◌++◌, length, get_or, refl, sym, ◌∙◌, ap, subst, arith, inl, inr}
use Rattle.std.specs.declared.cmp.Ordering.{Ordering}
use Rattle.std.specs.declared.cmp.Ordering.TheVariants.{Less, Equal, Greater}
use Rattle.std.proofs.lemmas.Bool.{cases_lt}
use Rattle.std.proofs.lemmas.Cmp.{nat_list_cmp_total, tied_itself}
use Rattle.std.proofs.lemmas.List.{get_or_append_left, get_or_push}
use Rattle.std.specs.FinMap.{slice_cmp-IsAntisymmetric, nat_cmp-IsAntisymmetric}
use Rattle.ut_key.specs.Keys.{key_cmp, IsAscending}
use Rattle.ut_own.proofs.UnionLemmas.{turned, reversed}
use Rattle.ut_dictmerge.specs.declared.cut.Cut.{Cut}
use Rattle.ut_dictmerge.specs.Cuts.{IsCut, IsCutBehind, EndsInPair, cut_at}
use Rattle.ut_dictmerge.proofs.StepLemmas.{below_on}

less_equal : Less ≡ Equal → ⊥
less_equal e = cc

pub same_key : (x y : List ℕ) → key_cmp x y ≡ Equal → x ≡ y
same_key x y e = slice_cmp-IsAntisymmetric nat_cmp-IsAntisymmetric _ _ e

before_on : (xs : List (List ℕ)) (key : List ℕ) (m p : ℕ) → IsAscending xs → key_cmp (get_or xs m []) key ≡ Less → p ≤ m → m < length xs → key_cmp (get_or xs p []) key ≡ Less
before_on xs key m p up h le within =
    elim (cases_lt p m) [
      | inl lt ↦ nat_list_cmp_total.trans (get_or xs p []) (get_or xs m []) key (up p m lt within) h
      | inr ge ↦ let e : m ≡ p = omega arith in ap (λ (k : ℕ). key_cmp (get_or xs k []) key) (sym e) ∙ h
    ]

-- what the keys at its border say
pub is_cut : (a b : List (List ℕ)) (i j : ℕ) → IsAscending a → IsAscending b → i ≤ length a → j ≤ length b
    → (0 < i → j < length b → key_cmp (get_or a (i - 1) []) (get_or b j []) ≡ Less)
    → (0 < j → i < length a → key_cmp (get_or b (j - 1) []) (get_or a i []) ≡ Less) → IsCut a b i j
is_cut a b i j ua ub ia jb h k = record {
  first = ia;
  second = jb;
  below_b = λ p q lp lq wq. before_on a (get_or b q []) (i - 1) p ua (below_on b (get_or a (i - 1) []) j q ub (h (omega arith) (omega arith)) lq wq) (omega arith) (omega arith);
  below_a = λ p q lq lp wp. before_on b (get_or a p []) (j - 1) q ub (below_on a (get_or b (j - 1) []) i p ua (k (omega arith) (omega arith)) lp wp) (omega arith) (omega arith);
}

-- there is no cut between two equal keys
parted : (a b : List (List ℕ)) (i j p q : ℕ) → IsCut a b p q → p + q ≡ i + j → i < length a → 0 < j → j ≤ length b → key_cmp (get_or a i []) (get_or b (j - 1) []) ≡ Equal → ⊥
parted a b i j p q c e ia pos jb same =
    let key = same_key (get_or a i []) (get_or b (j - 1) []) same in
    elim (cases_lt i p) [
      | inl lt ↦ less_equal (sym (c.below_b i (j - 1) lt (omega arith) (omega arith)) ∙ same)
      | inr ge ↦ less_equal (sym (c.below_a i (j - 1) (omega arith) ge ia) ∙ ap (λ x. key_cmp (get_or b (j - 1) []) x) key ∙ tied_itself nat_list_cmp_total (get_or b (j - 1) []))
    ]

-- the search stands between two places of the first list
pub record IsBetween (a b : List (List ℕ)) (least low high : ℕ) : Type 0 where
  pub ordered : low ≤ high
  pub within : high ≤ length a
  pub high_least : high ≤ least
  pub low_least : least ≤ low + length b
  pub under : 0 < low → least < low + length b → key_cmp (get_or a (low - 1) []) (get_or b (least - low) []) ≡ Less
  pub over : high < length a → high < least → key_cmp (get_or a high []) (get_or b (least - high - 1) []) ≢ Less

pub not_less : (o : Ordering) → o ≢ Less → o ≢ Equal → o ≡ Greater
not_less Less h k = absurd (h refl)
not_less Equal h k = absurd (k refl)
not_less Greater h k = refl

-- the search is over, and no equal keys are parted
pub found : (a b : List (List ℕ)) (least i j : ℕ) → IsAscending a → IsAscending b → IsBetween a b least i i → j ≡ least - i
    → (0 < j → i < length a → key_cmp (get_or a i []) (get_or b (j - 1) []) ≢ Equal) → IsCutBehind a b least i j
found a b least i j ua ub s e apart = record {
  cut = is_cut a b i j ua ub s.within (omega (arith, s.low_least))
      (λ pos lt. ap (λ (k : ℕ). key_cmp (get_or a (i - 1) []) (get_or b k [])) e ∙ s.under pos (omega (arith, s.high_least)))
      (λ pos lt. reversed (get_or a i []) (get_or b (j - 1) [])
      (not_less (key_cmp (get_or a i []) (get_or b (j - 1) []))
      (λ less. s.over lt (omega arith) (ap (λ (k : ℕ). key_cmp (get_or a i []) (get_or b (k - 1) [])) (sym e) ∙ less))
      (apart pos lt)));
  place = inl (omega (arith, s.high_least));
}

-- it is over between two equal keys
pub found_behind : (a b : List (List ℕ)) (least i j : ℕ) → IsAscending a → IsAscending b → IsBetween a b least i i → j ≡ least - i → 0 < j → i < length a
    → key_cmp (get_or a i []) (get_or b (j - 1) []) ≡ Equal → IsCutBehind a b least (i + 1) j
found_behind a b least i j ua ub s e pos ia same =
    let key = same_key (get_or a i []) (get_or b (j - 1) []) same in
    let jb : j ≤ length b = omega (arith, s.low_least) in
    let at : i + 1 - 1 ≡ i = omega arith in
    record {
      cut = is_cut a b (i + 1) j ua ub (omega arith) jb
          (λ _ lt. ap (λ (k : ℕ). key_cmp (get_or a k []) (get_or b j [])) at ∙ ap (λ x. key_cmp x (get_or b j [])) key ∙ ub (j - 1) j (omega arith) lt)
          (λ _ lt. ap (λ x. key_cmp x (get_or a (i + 1) [])) (sym key) ∙ ua i (i + 1) (omega arith) lt);
      place = inr (omega (arith, s.high_least), record { first = omega arith; second = pos; same = ap (λ (k : ℕ). get_or a k []) at ∙ key });
    }

-- no cut behind at least so many keys stands earlier
pub nearest : (a b : List (List ℕ)) (least i j p q : ℕ) → IsCutBehind a b least i j → IsCut a b p q → least ≤ p + q → i + j ≤ p + q
nearest a b least i j p q x d le = by x.place
  where
    by : (i + j ≡ least) ⊎ ((i + j ≡ least + 1) × EndsInPair a b i j) → i + j ≤ p + q
    by (inl e) = omega (arith, e, le)
    by (inr e) =
        elim (cases_lt least (p + q)) [
          | inl lt ↦ omega (arith, e.0, lt)
          | inr ge ↦
              let at : i - 1 + j ≡ p + q = omega (arith, e.0, e.1.first, ge, le) in
              absurd (parted a b (i - 1) j p q d (sym at) (omega (arith, x.cut.first, e.1.first)) e.1.second x.cut.second
              (ap (λ key. key_cmp key (get_or b (j - 1) [])) e.1.same ∙ tied_itself nat_list_cmp_total (get_or b (j - 1) [])))
        ]

pub reaches : (a b : List (List ℕ)) (least i j : ℕ) → IsCutBehind a b least i j → (least ≤ i + j) × (i + j ≤ least + 1)
reaches a b least i j x = by x.place
  where
    by : (i + j ≡ least) ⊎ ((i + j ≡ least + 1) × EndsInPair a b i j) → (least ≤ i + j) × (i + j ≤ least + 1)
    by (inl e) = (omega (arith, e), omega (arith, e))
    by (inr e) = (omega (arith, e.0), omega (arith, e.0))

-- a later cut is behind in both lists
pub in_order : (a b : List (List ℕ)) (i j p q : ℕ) → IsCut a b i j → IsCut a b p q → i + j ≤ p + q → (i ≤ p) × (j ≤ q)
in_order a b i j p q c d le = (forward, backward)
  where
    less_less : (x y : List ℕ) → key_cmp x y ≡ Less → key_cmp y x ≡ Less → ⊥
    less_less x y h k = let e : Less ≡ Greater = sym k ∙ turned x y h in cc

    forward : i ≤ p
    forward =
        elim (cases_lt p i) [
          | inl lt ↦ absurd (less_less (get_or a p []) (get_or b j []) (c.below_b p j lt (omega arith) (omega (arith, d.second))) (d.below_a p j (omega arith) (omega arith) (omega (arith, c.first))))
          | inr ge ↦ ge
        ]

    backward : j ≤ q
    backward =
        elim (cases_lt q j) [
          | inl lt ↦ absurd (less_less (get_or b q []) (get_or a i []) (c.below_a i q lt (omega arith) (omega (arith, d.first))) (d.below_b i q (omega arith) (omega arith) (omega (arith, c.second))))
          | inr ge ↦ ge
        ]

-- one more cut
pub pushed : (P : ℕ → Cut → Type 0) (cuts : List Cut) (x : Cut) (n : ℕ) → length cuts ≡ n → ((k : ℕ) → k < n → P k (cut_at cuts k)) → P n x → (k : ℕ) → k < n + 1 → P k (cut_at (cuts ++ x ∷ []) k)
pushed P cuts x n size h p = λ k lt.
    elim (cases_lt k n) [
      | inl before ↦ subst (λ c. P k c) (sym (get_or_append_left cuts (x ∷ []) record { a = 0; b = 0 } k (omega (arith, size)))) (h k before)
      | inr here ↦
          let e : n ≡ k = omega arith in
          subst (λ (m : ℕ). P m (cut_at (cuts ++ x ∷ []) m)) e (subst (λ c. P n c) (sym (get_or_push cuts x record { a = 0; b = 0 } n size)) p)
    ]
