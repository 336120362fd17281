-- Keys that order rows as lists of codes do.
use Rattle.std.proofs.Common.{◌≡◌, ℕ, zero, suc, ◌+◌, ◌-◌, ◌*◌, ◌<◌, ◌≤◌, ◌⊎◌, inl, inr, Bor, List, [], ◌∷◌, ◌++◌, length, get_or, take, drop, refl, sym, ap, ◌∙◌, arith}
use Rattle.std.specs.Cmp.{IsTotalOrder}
use Rattle.std.specs.Ordering.{nat_cmp, ordering_then}
use Rattle.std.specs.declared.cmp.Ordering.{Ordering}
use Rattle.std.specs.declared.cmp.Ordering.TheVariants.{Less, Equal, Greater}
use Rattle.std.proofs.Math.Nat.{mul-le-mul_right}
use Rattle.std.proofs.Math.Seq.{take-append_seam, take-length}
use Rattle.std.proofs.lemmas.Cmp.{nat_cmp_total, on_total, then_total}
use Rattle.std.proofs.lemmas.Bool.{cases_lt}
use Rattle.std.proofs.lemmas.List.{drop_more, get_or-map, get_or_past, length-drop, length-map, take-append-drop, take_more}
use Rattle.ut_key.proofs.WordLemmas.{digits_cmp}
use Rattle.ut_resort.specs.declared.rows.Keyed.{Keyed}
use Rattle.ut_resort.specs.Resorted.{row_cmp}
use Rattle.ut_resort.specs.Sorting.{codes_cmp, lists_by, lists_now, ArePacked, IsKeyed, keyed_cmp}

-- ---- one comparison behind another

then_assoc : (a b c : Ordering) → ordering_then (ordering_then a b) c ≡ ordering_then a (ordering_then b c)
then_assoc Less b c = refl
then_assoc Equal b c = refl
then_assoc Greater b c = refl

then_equal : (a : Ordering) → ordering_then a Equal ≡ a
then_equal Less = refl
then_equal Equal = refl
then_equal Greater = refl

pub codes_cmp-append : (xs ys : List (List ℕ)) (a b : ℕ) → codes_cmp (xs ++ ys) a b ≡ ordering_then (codes_cmp xs a b) (codes_cmp ys a b)
codes_cmp-append [] ys a b = refl
codes_cmp-append (codes ∷ xs) ys a b =
    ap (ordering_then (nat_cmp (get_or codes a 0) (get_or codes b 0))) (codes_cmp-append xs ys a b)
    ∙ sym (then_assoc (nat_cmp (get_or codes a 0) (get_or codes b 0)) (codes_cmp xs a b) (codes_cmp ys a b))

-- the columns in their order and then the ids order rows as re-sorted order does
pub codes_cmp-rows : (by : List ℕ) (columns : List (List ℕ)) (ids : List ℕ) (a b : ℕ) → codes_cmp (lists_by by columns ids) a b ≡ row_cmp by columns ids a b
codes_cmp-rows [] columns ids a b = then_equal (nat_cmp (get_or ids a 0) (get_or ids b 0))
codes_cmp-rows (column ∷ by) columns ids a b = ap (ordering_then (nat_cmp (get_or (get_or columns column []) a 0) (get_or (get_or columns column []) b 0))) (codes_cmp-rows by columns ids a b)

codes_cmp-total : (lists : List (List ℕ)) → IsTotalOrder (codes_cmp lists)
codes_cmp-total [] = record { antisymm = λ x y. refl; trans = λ x y z p q. p; congr = λ x y z p. refl }
codes_cmp-total (codes ∷ lists) = then_total (on_total (λ (a : ℕ). get_or codes a 0) nat_cmp_total) (codes_cmp-total lists)

pub keyed_cmp-total : (rest : List (List ℕ)) → IsTotalOrder (keyed_cmp rest)
keyed_cmp-total rest = then_total (on_total (λ (k : Keyed). k.key) nat_cmp_total) (on_total (λ (k : Keyed). k.row) (codes_cmp-total rest))

-- ---- codes as digits

pub packed-more : (lists : List (List ℕ)) (codes old new : List ℕ) (radix : ℕ) → ((i : ℕ) → get_or codes i 0 < radix) → length new ≡ length old
    → ((i : ℕ) → i < length old → get_or new i 0 ≡ get_or old i 0 * radix + get_or codes i 0) → ArePacked lists old → ArePacked (lists ++ codes ∷ []) new
packed-more lists codes old new radix small long each h a b la lb =
    let first = each a (omega (arith, la, long)) in
    let second = each b (omega (arith, lb, long)) in
    (λ i. nat_cmp (first i) (second i))
    ∙ sym (digits_cmp radix (get_or old a 0) (get_or old b 0) (get_or codes a 0) (get_or codes b 0) (small a) (small b))
    ∙ (λ i. ordering_then (h a b (omega (arith, la, long)) (omega (arith, lb, long)) i) (sym (then_equal (nat_cmp (get_or codes a 0) (get_or codes b 0))) i))
    ∙ sym (codes_cmp-append lists (codes ∷ []) a b)

-- a key and one digit more are below the limit times the radix
pub digit-fits : (key limit code radix : ℕ) → key < limit → code < radix → key * radix + code < limit * radix
digit-fits key limit code radix k c = omega (arith, mul-le-mul_right radix (let le : suc key ≤ limit = omega (arith, k) in le), c)

-- widened keys stay below the limit times the radix
pub widened-below : (codes old new : List ℕ) (limit radix next : ℕ) → next ≡ limit * radix → length new ≡ length old → ((i : ℕ) → i < length old → get_or new i 0 ≡ get_or old i 0 * radix + get_or codes i 0)
    → ((i : ℕ) → get_or codes i 0 < radix) → ((j : ℕ) → get_or old j 0 < limit) → (j : ℕ) → get_or new j 0 < next
widened-below codes old new limit radix next is long each small low j = by (cases_lt j (length old))
  where
    fits : get_or old j 0 * radix + get_or codes j 0 < limit * radix
    fits = digit-fits (get_or old j 0) limit (get_or codes j 0) radix (low j) (small j)

    by : (j < length old) ⊎ (length old ≤ j) → get_or new j 0 < next
    by (inl lt) = omega (arith, each j lt, fits, is)
    by (inr le) = omega (arith, get_or_past new j 0 (omega (arith, le, long)), fits, is)

-- ---- the lists that are lent

-- the first of the lists from a place on decides, and then the others
pub codes_cmp-at : (lists : List (Bor (List ℕ))) (i a b : ℕ) (d : Bor (List ℕ)) → i < length lists
    → codes_cmp (drop i (lists_now lists)) a b ≡ ordering_then (nat_cmp (get_or (get_or lists i d).now a 0) (get_or (get_or lists i d).now b 0)) (codes_cmp (drop (i + 1) (lists_now lists)) a b)
codes_cmp-at lists i a b d lt =
    let same : length (lists_now lists) ≡ length lists = length-map lists (λ l. l.now) in
    let at : get_or (lists_now lists) i d.now ≡ (get_or lists i d).now = get_or-map (λ l. l.now) lists i d d.now lt in
    ap (λ l. codes_cmp l a b) (drop_more (lists_now lists) i d.now (omega (arith, lt, same)))
    ∙ (λ j. ordering_then (nat_cmp (get_or (at j) a 0) (get_or (at j) b 0)) (codes_cmp (drop (i + 1) (lists_now lists)) a b))

-- one list more
pub take-lists : (lists : List (Bor (List ℕ))) (i : ℕ) (d : Bor (List ℕ)) → i < length lists → take (i + 1) (lists_now lists) ≡ take i (lists_now lists) ++ (get_or lists i d).now ∷ []
take-lists lists i d lt =
    let same : length (lists_now lists) ≡ length lists = length-map lists (λ l. l.now) in
    take_more (lists_now lists) i d.now (omega (arith, lt, same)) ∙ ap (λ (codes : List ℕ). take i (lists_now lists) ++ codes ∷ []) (get_or-map (λ l. l.now) lists i d d.now lt)

pub drop-lists : (n : ℕ) (lists : List (Bor (List ℕ))) → lists_now (drop n lists) ≡ drop n (lists_now lists)
drop-lists zero lists = refl
drop-lists (suc n) [] = refl
drop-lists (suc n) (l ∷ lists) = drop-lists n lists

pub drop-whole : (n : ℕ) (lists : List (Bor (List ℕ))) → take (length lists - n) (drop n lists) ≡ drop n lists
drop-whole n lists = ap (λ k. take k (drop n lists)) (sym (length-drop n lists)) ∙ take-length (drop n lists)

-- a list that is written back whole
pub written : (new old : List ℕ) (n : ℕ) → length new ≡ n → take n (new ++ drop (length new) old) ≡ new
written new old n same = ap (λ k. take k (new ++ drop (length new) old)) (sym same) ∙ take-append_seam new (drop (length new) old)

-- ---- keys and then the lists that weren't packed

pub keyed_cmp-is : (lists : List (List ℕ)) (n : ℕ) (keys : List ℕ) (p q : Keyed) → ArePacked (take n lists) keys → IsKeyed keys p → IsKeyed keys q → keyed_cmp (drop n lists) p q ≡ codes_cmp lists p.row q.row
keyed_cmp-is lists n keys p q packed hp hq =
    (λ i. ordering_then (nat_cmp (hp.key i) (hq.key i)) (codes_cmp (drop n lists) p.row q.row))
    ∙ ap (λ o. ordering_then o (codes_cmp (drop n lists) p.row q.row)) (packed p.row q.row hp.within hq.within)
    ∙ sym (codes_cmp-append (take n lists) (drop n lists) p.row q.row)
    ∙ ap (λ l. codes_cmp l p.row q.row) (take-append-drop n lists)
