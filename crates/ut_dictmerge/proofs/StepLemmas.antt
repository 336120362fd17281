-- One step of the merge, at the places in both lists.
use Rattle.std.proofs.Common.{◌≡◌, ℕ, ◌+◌, ◌-◌, ◌<◌, ◌≤◌, List, [], ◌∷◌, ◌++◌, length, take, drop, get_or, refl, sym, ◌∙◌, ap, arith, Bool, true, false, ◌||◌, inl, inr}
use Rattle.std.specs.declared.cmp.Ordering.TheVariants.{Less, Equal, Greater}
use Rattle.std.proofs.lemmas.Bool.{cases_lt}
use Rattle.std.proofs.lemmas.List.{length-append}
use Rattle.std.proofs.lemmas.Cmp.{nat_list_cmp_total, tied_itself}
use Rattle.std.specs.FinMap.{slice_cmp-IsAntisymmetric, nat_cmp-IsAntisymmetric}
use Rattle.ut_key.specs.Keys.{key_cmp, IsAscending}
use Rattle.ut_own.specs.Own.{used, placed, union, Below, AreBelow}
use Rattle.ut_own.proofs.UnionLemmas.{reversed, Below-at, AreBelow-used, union-cut, used-append}
use Rattle.ut_recode.specs.Spans.{span}
use Rattle.ut_dictmerge.specs.Merge.{AreSources, merged}
use Rattle.ut_dictmerge.specs.Pieces.{IsNext, kept}
use Rattle.ut_dictmerge.proofs.SpanLemmas.{length-span, span-more, get_or-span}

-- lists that are cut are merged apart
pub merged-cut : (a1 a2 : List (List ℕ)) (f1 f2 : List Bool) (b1 b2 : List (List ℕ)) (g1 g2 : List Bool) → length a1 ≡ length f1 → length b1 ≡ length g1
    → AreBelow a1 a2 → AreBelow a1 b2 → AreBelow b1 a2 → merged (a1 ++ a2) (f1 ++ f2) (b1 ++ b2) (g1 ++ g2) ≡ merged a1 f1 b1 g1 ++ merged a2 f2 b2 g2
merged-cut a1 a2 f1 f2 b1 b2 g1 g2 e d h k l =
    ap (λ m. union m (used (b1 ++ b2) (g1 ++ g2))) (used-append a1 a2 f1 f2 e) ∙ ap (λ m. union (used a1 f1 ++ used a2 f2) m) (used-append b1 b2 g1 g2 d)
    ∙ union-cut (used a1 f1) (used a2 f2) (used b1 g1) (used b2 g2) (AreBelow-used a1 f1 a2 f2 h) (AreBelow-used a1 f1 b2 g2 k) (AreBelow-used b1 g1 a2 f2 l)

pub Below-span : (key : List ℕ) (lo hi : ℕ) (ys : List (List ℕ)) → hi ≤ length ys → ((q : ℕ) → lo ≤ q → q < hi → key_cmp key (get_or ys q []) ≡ Less) → Below key (span lo hi ys)
Below-span key lo hi ys le h =
    let size = length-span lo hi ys le in
    Below-at key (span lo hi ys) (λ q lt. let within : q < hi - lo = omega (arith, size, lt) in ap (λ k. key_cmp key k) (get_or-span lo hi ys q [] within) ∙ h (lo + q) (omega arith) (omega arith))

pub below_on : (ys : List (List ℕ)) (key : List ℕ) (j q : ℕ) → IsAscending ys → key_cmp key (get_or ys j []) ≡ Less → j ≤ q → q < length ys → key_cmp key (get_or ys q []) ≡ Less
below_on ys key j q up h le within =
    elim (cases_lt j q) [
      | inl lt ↦ nat_list_cmp_total.trans key (get_or ys j []) (get_or ys q []) h (up j q lt within)
      | inr ge ↦ let e : j ≡ q = omega arith in ap (λ (k : ℕ). key_cmp key (get_or ys k [])) (sym e) ∙ h
    ]

used-one : (f : Bool) (x : List ℕ) → used (x ∷ []) (f ∷ []) ≡ kept f x
used-one true x = refl
used-one false x = refl

alone_a : (f : Bool) (x : List ℕ) → merged (x ∷ []) (f ∷ []) [] [] ≡ kept f x
alone_a true x = refl
alone_a false x = refl

both-alone : (f g : Bool) (x : List ℕ) → merged (x ∷ []) (f ∷ []) (x ∷ []) (g ∷ []) ≡ kept (f || g) x
both-alone true true x = ap (λ o. placed o x x [] (x ∷ [])) (tied_itself nat_list_cmp_total x)
both-alone true false x = refl
both-alone false true x = refl
both-alone false false x = refl

first_a : (x : List ℕ) (xs : List (List ℕ)) (f : Bool) (fs : List Bool) (ys : List (List ℕ)) (gs : List Bool) → Below x xs → Below x ys
    → merged (x ∷ xs) (f ∷ fs) ys gs ≡ kept f x ++ merged xs fs ys gs
first_a x xs f fs ys gs h k =
    merged-cut (x ∷ []) xs (f ∷ []) fs [] ys [] gs refl refl (h, tt) (k, tt) tt ∙ ap (λ l. l ++ merged xs fs ys gs) (alone_a f x)

first_b : (xs : List (List ℕ)) (fs : List Bool) (y : List ℕ) (ys : List (List ℕ)) (g : Bool) (gs : List Bool) → Below y xs
    → merged xs fs (y ∷ ys) (g ∷ gs) ≡ kept g y ++ merged xs fs ys gs
first_b xs fs y ys g gs h =
    merged-cut [] xs [] fs (y ∷ []) ys (g ∷ []) gs refl refl tt tt (h, tt) ∙ ap (λ l. l ++ merged xs fs ys gs) (used-one g y)

first_both : (x : List ℕ) (xs : List (List ℕ)) (f : Bool) (fs : List Bool) (ys : List (List ℕ)) (g : Bool) (gs : List Bool) → Below x xs → Below x ys
    → merged (x ∷ xs) (f ∷ fs) (x ∷ ys) (g ∷ gs) ≡ kept (f || g) x ++ merged xs fs ys gs
first_both x xs f fs ys g gs h k =
    merged-cut (x ∷ []) xs (f ∷ []) fs (x ∷ []) ys (g ∷ []) gs refl refl (h, tt) (k, tt) (h, tt) ∙ ap (λ l. l ++ merged xs fs ys gs) (both-alone f g x)

-- two lists with their flags, of which the parts before ta and tb are merged
pub record AreLists (a : List (List ℕ)) (ua : List Bool) (b : List (List ℕ)) (ub : List Bool) (ta tb : ℕ) : Type 0 where
  pub lists : AreSources a ua b ub
  pub end_a : ta ≤ length a
  pub end_b : tb ≤ length b

-- what is left to merge
abbrev pub left : (a : List (List ℕ)) (ua : List Bool) (b : List (List ℕ)) (ub : List Bool) (ta tb i j : ℕ) → List (List ℕ)
left a ua b ub ta tb i j = merged (span i ta a) (span i ta ua) (span j tb b) (span j tb ub)

pub step_a : (a : List (List ℕ)) (ua : List Bool) (b : List (List ℕ)) (ub : List Bool) (ta tb i j : ℕ) → AreLists a ua b ub ta tb → IsNext Less a i ta b j tb
    → left a ua b ub ta tb i j ≡ kept (get_or ua i false) (get_or a i []) ++ left a ua b ub ta tb (i + 1) j
step_a a ua b ub ta tb i j l n =
    ap (λ s. merged s (span i ta ua) (span j tb b) (span j tb ub)) (span-more i ta a [] n.0 l.end_a)
    ∙ ap (λ s. merged (get_or a i [] ∷ span (i + 1) ta a) s (span j tb b) (span j tb ub)) (span-more i ta ua false n.0 (omega (arith, l.end_a, l.lists.flags_a)))
    ∙ first_a (get_or a i []) (span (i + 1) ta a) (get_or ua i false) (span (i + 1) ta ua) (span j tb b) (span j tb ub)
    (Below-span (get_or a i []) (i + 1) ta a l.end_a (λ q le lt. l.lists.ascending_a i q (omega arith) (omega (arith, l.end_a))))
    (Below-span (get_or a i []) j tb b l.end_b (λ q le lt. below_on b (get_or a i []) j q l.lists.ascending_b (n.1 (omega arith)) le (omega (arith, l.end_b))))

pub step_b : (a : List (List ℕ)) (ua : List Bool) (b : List (List ℕ)) (ub : List Bool) (ta tb i j : ℕ) → AreLists a ua b ub ta tb → IsNext Greater a i ta b j tb
    → left a ua b ub ta tb i j ≡ kept (get_or ub j false) (get_or b j []) ++ left a ua b ub ta tb i (j + 1)
step_b a ua b ub ta tb i j l n =
    ap (λ s. merged (span i ta a) (span i ta ua) s (span j tb ub)) (span-more j tb b [] n.0 l.end_b)
    ∙ ap (λ s. merged (span i ta a) (span i ta ua) (get_or b j [] ∷ span (j + 1) tb b) s) (span-more j tb ub false n.0 (omega (arith, l.end_b, l.lists.flags_b)))
    ∙ first_b (span i ta a) (span i ta ua) (get_or b j []) (span (j + 1) tb b) (get_or ub j false) (span (j + 1) tb ub)
    (Below-span (get_or b j []) i ta a l.end_a (λ q le lt. below_on a (get_or b j []) i q l.lists.ascending_a (reversed (get_or a i []) (get_or b j []) (n.1 (omega arith))) le (omega (arith, l.end_a))))

pub step_both : (a : List (List ℕ)) (ua : List Bool) (b : List (List ℕ)) (ub : List Bool) (ta tb i j : ℕ) → AreLists a ua b ub ta tb → IsNext Equal a i ta b j tb
    → left a ua b ub ta tb i j ≡ kept (get_or ua i false || get_or ub j false) (get_or a i []) ++ left a ua b ub ta tb (i + 1) (j + 1)
step_both a ua b ub ta tb i j l n =
    let same : get_or a i [] ≡ get_or b j [] = slice_cmp-IsAntisymmetric nat_cmp-IsAntisymmetric _ _ n.2 in
    ap (λ s. merged s (span i ta ua) (span j tb b) (span j tb ub)) (span-more i ta a [] n.0 l.end_a)
    ∙ ap (λ s. merged (get_or a i [] ∷ span (i + 1) ta a) s (span j tb b) (span j tb ub)) (span-more i ta ua false n.0 (omega (arith, l.end_a, l.lists.flags_a)))
    ∙ ap (λ s. merged (get_or a i [] ∷ span (i + 1) ta a) (get_or ua i false ∷ span (i + 1) ta ua) s (span j tb ub)) (span-more j tb b [] n.1 l.end_b)
    ∙ ap (λ s. merged (get_or a i [] ∷ span (i + 1) ta a) (get_or ua i false ∷ span (i + 1) ta ua) (get_or b j [] ∷ span (j + 1) tb b) s) (span-more j tb ub false n.1 (omega (arith, l.end_b, l.lists.flags_b)))
    ∙ ap (λ k. merged (get_or a i [] ∷ span (i + 1) ta a) (get_or ua i false ∷ span (i + 1) ta ua) (k ∷ span (j + 1) tb b) (get_or ub j false ∷ span (j + 1) tb ub)) (sym same)
    ∙ first_both (get_or a i []) (span (i + 1) ta a) (get_or ua i false) (span (i + 1) ta ua) (span (j + 1) tb b) (get_or ub j false) (span (j + 1) tb ub)
    (Below-span (get_or a i []) (i + 1) ta a l.end_a (λ q le lt. l.lists.ascending_a i q (omega arith) (omega (arith, l.end_a))))
    (Below-span (get_or a i []) (j + 1) tb b l.end_b (λ q le lt. ap (λ k. key_cmp k (get_or b q [])) same ∙ l.lists.ascending_b j q (omega arith) (omega (arith, l.end_b))))

-- nothing is left
pub none_left : (a : List (List ℕ)) (ua : List Bool) (b : List (List ℕ)) (ub : List Bool) (ta tb i j : ℕ) → i ≡ ta → j ≡ tb → left a ua b ub ta tb i j ≡ []
none_left a ua b ub ta tb i j e d =
    let n : ta - i ≡ 0 = omega arith in
    let m : tb - j ≡ 0 = omega arith in
    ap (λ (k : ℕ). merged (take k (drop i a)) (take k (drop i ua)) (span j tb b) (span j tb ub)) n ∙ ap (λ (k : ℕ). merged [] [] (take k (drop j b)) (take k (drop j ub))) m

-- so many keys as are counted, and those left, are all
pub counted : (count count' : ℕ) (more rest rest' : List (List ℕ)) (whole : ℕ) → count + length rest ≡ whole → rest ≡ more ++ rest' → count' ≡ count + length more → count' + length rest' ≡ whole
counted count count' more rest rest' whole h e n =
    let size : length rest ≡ length more + length rest' = ap (λ m. length m) e ∙ length-append more rest' in
    omega (arith, h, n, size)
