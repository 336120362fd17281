-- What is in front of each cut, and how much it is.
use Rattle.std.proofs.Common.{◌≡◌, ℕ, zero, suc, ◌+◌, ◌-◌, ◌<◌, ◌≤◌, List, [], ◌∷◌, ◌++◌, length, take, get_or, sym, ◌∙◌, ap, subst, arith, Bool, true, false, inl, inr, Result, Ok, Err, IfOk}
use Rattle.std.specs.declared.cmp.Ordering.TheVariants.{Less, Equal, Greater}
use Rattle.std.proofs.lemmas.Bool.{cases_lt}
use Rattle.std.proofs.lemmas.List.{length-append, take_more, take_all, get_or_append_left, get_or_push}
use Rattle.ut_key.specs.Keys.{key_cmp, IsAscending}
use Rattle.ut_own.specs.Own.{used, placed, insert_key, union, Below, AreBelow}
use Rattle.ut_own.proofs.UnionLemmas.{AreBelow-at}
use Rattle.ut_recode.specs.Spans.{span}
use Rattle.ut_recode.proofs.ShareLemmas.{span-append, span-all}
use Rattle.ut_dictmerge.specs.declared.cut.Cut.{Cut}
use Rattle.ut_dictmerge.specs.Merge.{AreSources, merged}
use Rattle.ut_dictmerge.specs.Cuts.{IsCut, AreCuts, cut_at}
use Rattle.ut_dictmerge.specs.Pieces.{AreBorders, between, front, total}
use Rattle.ut_dictmerge.proofs.SpanLemmas.{length-span, get_or-span}
use Rattle.ut_dictmerge.proofs.StepLemmas.{Below-span, merged-cut}

AreBelow-span : (xs ys : List (List ℕ)) (lo hi from to : ℕ) → hi ≤ length xs → to ≤ length ys
    → ((p q : ℕ) → lo ≤ p → p < hi → from ≤ q → q < to → key_cmp (get_or xs p []) (get_or ys q []) ≡ Less) → AreBelow (span lo hi xs) (span from to ys)
AreBelow-span xs ys lo hi from to a b h =
    let size = length-span lo hi xs a in
    AreBelow-at (span lo hi xs) (span from to ys) (λ p lt.
    let within : p < hi - lo = omega (arith, size, lt) in
    subst (λ k. Below k (span from to ys)) (sym (get_or-span lo hi xs p [] within)) (Below-span (get_or xs (lo + p) []) from to ys b (λ q le up. h (lo + p) q (omega arith) (omega arith) le up)))

-- what is in front of a later cut is in front of the earlier one or between the two
pub front-more : (a : List (List ℕ)) (ua : List Bool) (b : List (List ℕ)) (ub : List Bool) (from to : Cut) → IsAscending a → IsAscending b → length ua ≡ length a → length ub ≡ length b
    → IsCut a b from.a from.b → IsCut a b to.a to.b → from.a ≤ to.a → from.b ≤ to.b → front a ua b ub to ≡ front a ua b ub from ++ between a ua b ub from to
front-more a ua b ub from to up_a up_b la lb c d oa ob =
    let wa : to.a ≤ length a = d.first in
    let wb : to.b ≤ length b = d.second in
    ap (λ s. merged s (span 0 to.a ua) (span 0 to.b b) (span 0 to.b ub)) (sym (span-append 0 from.a to.a a (omega arith) oa))
    ∙ ap (λ s. merged (span 0 from.a a ++ span from.a to.a a) s (span 0 to.b b) (span 0 to.b ub)) (sym (span-append 0 from.a to.a ua (omega arith) oa))
    ∙ ap (λ s. merged (span 0 from.a a ++ span from.a to.a a) (span 0 from.a ua ++ span from.a to.a ua) s (span 0 to.b ub)) (sym (span-append 0 from.b to.b b (omega arith) ob))
    ∙ ap (λ s. merged (span 0 from.a a ++ span from.a to.a a) (span 0 from.a ua ++ span from.a to.a ua) (span 0 from.b b ++ span from.b to.b b) s) (sym (span-append 0 from.b to.b ub (omega arith) ob))
    ∙ merged-cut (span 0 from.a a) (span from.a to.a a) (span 0 from.a ua) (span from.a to.a ua) (span 0 from.b b) (span from.b to.b b) (span 0 from.b ub) (span from.b to.b ub)
    (length-span 0 from.a a (omega arith) ∙ sym (length-span 0 from.a ua (omega arith)))
    (length-span 0 from.b b (omega arith) ∙ sym (length-span 0 from.b ub (omega arith)))
    (AreBelow-span a a 0 from.a from.a to.a (omega arith) wa (λ p q _ lt le lq. up_a p q (omega arith) (omega arith)))
    (AreBelow-span a b 0 from.a from.b to.b (omega arith) wb (λ p q _ lt le lq. c.below_b p q lt le (omega arith)))
    (AreBelow-span b a 0 from.b from.a to.a (omega arith) wa (λ q p _ lt le lp. c.below_a p q lt le (omega arith)))

pub front-none : (a : List (List ℕ)) (ua : List Bool) (b : List (List ℕ)) (ub : List Bool) (to : Cut) → to.a ≡ 0 → to.b ≡ 0 → front a ua b ub to ≡ []
front-none a ua b ub to e d =
    let n : to.a - 0 ≡ 0 = omega arith in
    let m : to.b - 0 ≡ 0 = omega arith in
    ap (λ (k : ℕ). merged (take k a) (take k ua) (span 0 to.b b) (span 0 to.b ub)) n ∙ ap (λ (k : ℕ). merged [] [] (take k b) (take k ub)) m

pub front-all : (a : List (List ℕ)) (ua : List Bool) (b : List (List ℕ)) (ub : List Bool) (to : Cut) → length ua ≡ length a → length ub ≡ length b → to.a ≡ length a → to.b ≡ length b → front a ua b ub to ≡ merged a ua b ub
front-all a ua b ub to la lb e d =
    ap (λ s. merged s (span 0 to.a ua) (span 0 to.b b) (span 0 to.b ub)) (span-all to.a a e)
    ∙ ap (λ s. merged a s (span 0 to.b b) (span 0 to.b ub)) (span-all to.a ua (omega arith))
    ∙ ap (λ s. merged a ua s (span 0 to.b ub)) (span-all to.b b d) ∙ ap (λ s. merged a ua b s) (span-all to.b ub (omega arith))

-- lists, flags and their cuts
pub record AreReady (a : List (List ℕ)) (ua : List Bool) (b : List (List ℕ)) (ub : List Bool) (pieces : ℕ) (cuts : List Cut) : Type 0 where
  pub lists : AreSources a ua b ub
  pub some : 0 < pieces
  pub cuts_are : AreCuts a b pieces cuts

pub borders_at : (a b : List (List ℕ)) (pieces : ℕ) (cuts : List Cut) (k : ℕ) → AreCuts a b pieces cuts → k < pieces → AreBorders a b (cut_at cuts k) (cut_at cuts (k + 1))
borders_at a b pieces cuts k c lt = record {
  from_a = (c.rising k lt).0;
  from_b = (c.rising k lt).1;
  to_a = (c.each (k + 1) (omega (arith, lt))).cut.first;
  to_b = (c.each (k + 1) (omega (arith, lt))).cut.second;
}

pub next_front : (a : List (List ℕ)) (ua : List Bool) (b : List (List ℕ)) (ub : List Bool) (pieces : ℕ) (cuts : List Cut) (k : ℕ) → AreReady a ua b ub pieces cuts → k < pieces
    → front a ua b ub (cut_at cuts (k + 1)) ≡ front a ua b ub (cut_at cuts k) ++ between a ua b ub (cut_at cuts k) (cut_at cuts (k + 1))
next_front a ua b ub pieces cuts k r lt =
    let o = r.cuts_are.rising k lt in front-more a ua b ub (cut_at cuts k) (cut_at cuts (k + 1)) r.lists.ascending_a r.lists.ascending_b r.lists.flags_a r.lists.flags_b (r.cuts_are.each k (omega arith)).cut (r.cuts_are.each (k + 1) (omega arith)).cut o.0 o.1

-- sums of counts
total-append : (xs ys : List ℕ) → total (xs ++ ys) ≡ total xs + total ys
total-append [] ys = omega arith
total-append (x ∷ xs) ys = let h = total-append xs ys in omega (arith, h)

pub total-more : (xs : List ℕ) (k : ℕ) → k < length xs → total (take (k + 1) xs) ≡ total (take k xs) + get_or xs k 0
total-more xs k lt = ap (λ l. total l) (take_more xs k 0 lt) ∙ total-append (take k xs) (get_or xs k 0 ∷ []) ∙ omega arith

pub total-take : (xs : List ℕ) (k : ℕ) → total (take k xs) ≤ total xs
total-take [] zero = omega arith
total-take [] (suc k) = omega arith
total-take (x ∷ xs) zero = omega arith
total-take (x ∷ xs) (suc k) = let h = total-take xs k in omega (arith, h)

pub sum_is : (a : List (List ℕ)) (ua : List Bool) (b : List (List ℕ)) (ub : List Bool) (pieces : ℕ) (cuts : List Cut) (counts : List ℕ) → AreReady a ua b ub pieces cuts → length counts ≡ pieces
    → ((k : ℕ) → k < pieces → get_or counts k 0 ≡ length (between a ua b ub (cut_at cuts k) (cut_at cuts (k + 1))))
    → (k : ℕ) → k ≤ pieces → total (take k counts) ≡ length (front a ua b ub (cut_at cuts k))
sum_is a ua b ub pieces cuts counts r size h zero le =
    let f = r.cuts_are.first in sym (ap (λ l. length l) (front-none a ua b ub (cut_at cuts 0) f.0 f.1))
sum_is a ua b ub pieces cuts counts r size h (suc k) le =
    let before = sum_is a ua b ub pieces cuts counts r size h k (omega arith) in
    let at : k + 1 ≡ suc k = omega arith in
    let here = h k (omega arith) in
    let more = total-more counts k (omega arith) in
    let both = ap (λ l. length l) (next_front a ua b ub pieces cuts k r (omega arith)) ∙ length-append (front a ua b ub (cut_at cuts k)) (between a ua b ub (cut_at cuts k) (cut_at cuts (k + 1))) in
    subst (λ (n : ℕ). total (take n counts) ≡ length (front a ua b ub (cut_at cuts n))) at (omega (arith, before, here, more, both))

-- no more keys than were given
insert_size : (key : List ℕ) (ys : List (List ℕ)) → length (insert_key key ys) ≤ length ys + 1
insert_size key [] = omega arith
insert_size key (y ∷ ys) = step (key_cmp key y) (insert_size key ys)
  where
    step : (o : _) → length (insert_key key ys) ≤ length ys + 1 → length (placed o key y ys (insert_key key ys)) ≤ length (y ∷ ys) + 1
    step Less h = omega arith
    step Equal h = omega arith
    step Greater h = omega (arith, h)

union_size : (xs ys : List (List ℕ)) → length (union xs ys) ≤ length xs + length ys
union_size [] ys = omega arith
union_size (x ∷ xs) ys = let h = union_size xs ys in let i = insert_size x (union xs ys) in omega (arith, h, i)

used_size : (xs : List (List ℕ)) (fs : List Bool) → length (used xs fs) ≤ length xs
used_size [] fs = omega arith
used_size (x ∷ xs) [] = omega arith
used_size (x ∷ xs) (true ∷ fs) = let h = used_size xs fs in omega (arith, h)
used_size (x ∷ xs) (false ∷ fs) = let h = used_size xs fs in omega (arith, h)

pub merged_size : (a : List (List ℕ)) (ua : List Bool) (b : List (List ℕ)) (ub : List Bool) → length (merged a ua b ub) ≤ length a + length b
merged_size a ua b ub = let x = used_size a ua in let y = used_size b ub in let z = union_size (used a ua) (used b ub) in omega (arith, x, y, z)

-- the sum of all counts
pub sum_small : (a : List (List ℕ)) (ua : List Bool) (b : List (List ℕ)) (ub : List Bool) (pieces : ℕ) (cuts : List Cut) (counts : List ℕ) → AreReady a ua b ub pieces cuts → length counts ≡ pieces
    → ((k : ℕ) → k < pieces → get_or counts k 0 ≡ length (between a ua b ub (cut_at cuts k) (cut_at cuts (k + 1)))) → total counts ≤ length a + length b
sum_small a ua b ub pieces cuts counts r size h =
    let s = ap (λ l. total l) (sym (take_all pieces counts (omega (arith, size)))) ∙ sum_is a ua b ub pieces cuts counts r size h pieces (omega arith) in
    let e = r.cuts_are.last in
    let w = ap (λ l. length l) (front-all a ua b ub (cut_at cuts pieces) r.lists.flags_a r.lists.flags_b e.0 e.1) in
    let m = merged_size a ua b ub in
    omega (arith, s, w, m)

pub sums_small : (xs : List ℕ) (k : ℕ) → k < length xs → total (take k xs) + get_or xs k 0 ≤ total xs
sums_small xs k lt = let m = total-more xs k lt in let t = total-take xs (k + 1) in omega (arith, m, t)

pub sums_more : (xs all : List ℕ) (k sum : ℕ) (next : List ℕ) → length all ≡ k → sum ≡ total (take k xs) → ((i : ℕ) → i < k → get_or all i 0 ≡ total (take i xs)) → next ≡ all ++ sum ∷ []
    → (i : ℕ) → i < k + 1 → get_or next i 0 ≡ total (take i xs)
sums_more xs all k sum next size s h e = λ i lt.
    ap (λ l. get_or l i 0) e
    ∙ elim (cases_lt i k) [
      | inl before ↦ get_or_append_left all (sum ∷ []) 0 i (omega (arith, size)) ∙ h i before
      | inr here ↦ let at : k ≡ i = omega arith in get_or_push all sum 0 i (size ∙ at) ∙ s ∙ ap (λ (n : ℕ). total (take n xs)) at
    ]

-- a piece and what is in front of it fit
pub piece_fits : (a : List (List ℕ)) (ua : List Bool) (b : List (List ℕ)) (ub : List Bool) (pieces : ℕ) (cuts : List Cut) (k : ℕ) → AreReady a ua b ub pieces cuts → k < pieces
    → length (front a ua b ub (cut_at cuts k)) + ((cut_at cuts (k + 1)).a - (cut_at cuts k).a) + ((cut_at cuts (k + 1)).b - (cut_at cuts k).b) ≤ length a + length b
piece_fits a ua b ub pieces cuts k r lt =
    let o = r.cuts_are.rising k lt in
    let c = (r.cuts_are.each k (omega arith)).cut in
    let d = (r.cuts_are.each (k + 1) (omega arith)).cut in
    let ca = c.first in let cb = c.second in let da = d.first in let db = d.second in
    let m = merged_size (span 0 (cut_at cuts k).a a) (span 0 (cut_at cuts k).a ua) (span 0 (cut_at cuts k).b b) (span 0 (cut_at cuts k).b ub) in
    let x = length-span 0 (cut_at cuts k).a a ca in
    let y = length-span 0 (cut_at cuts k).b b cb in
    omega (arith, o.0, o.1, ca, cb, da, db, m, x, y)

pub ok_then : {T E : Type 0} (r : Result T E) (P Q : T → Type 0) → IfOk r P → ((v : T) → P v → Q v) → IfOk r Q
ok_then (Ok v) P Q h f = f v h
ok_then (Err e) P Q h f = h
