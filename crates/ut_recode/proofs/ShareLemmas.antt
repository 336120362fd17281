-- Shares of a list.
use Rattle.std.proofs.Common.{◌≡◌, ℕ, suc, ◌+◌, ◌-◌, ◌*◌, ◌/◌, ◌<◌, ◌≤◌, List, [], ◌∷◌, ◌++◌, length, map, take, drop, get_or, sym, ◌∙◌, ap, subst, arith, Option, Some, None, unwrap_or, Result, Ok, Err, IfOk}
use Rattle.std.proofs.lemmas.List.{length-drop, take_more, take_all, take-append-drop, drop-drop, take-take, drop-take, map-append, get_or-drop, get_or_append_left, get_or-append_right, length-append}
use Rattle.std.proofs.lemmas.Nat.{le-div}
use Rattle.std.proofs.Math.Nat.{mul-div_cancel_left, div-mul-le_self}
use Rattle.ut_bits.specs.Bits.{AllBelow}
use Rattle.std.specs.List.{range_with_len}
use Rattle.std.proofs.lemmas.List.FromFn.{length-map-range_with_len, get_or-map-range_with_len}
use Rattle.ut_recode.specs.Recode.{with_staying, HaveEntries, IsBelow}
use Rattle.ut_own.specs.Own.{recoded}
use Rattle.ut_recode.specs.Spans.{span}

pub span-all : {X : Type 0} (to : ℕ) (xs : List X) → to ≡ length xs → span 0 to xs ≡ xs
span-all to xs e = take_all (to - 0) xs (omega (arith, e))

pub span-append : {X : Type 0} (from middle to : ℕ) (xs : List X) → from ≤ middle → middle ≤ to → span from middle xs ++ span middle to xs ≡ span from to xs
span-append from middle to xs a b =
    let n : to - middle ≡ to - from - (middle - from) = omega arith in
    let at : from + (middle - from) ≡ middle = omega arith in
    let size : middle - from + (to - from - (middle - from)) ≡ to - from = omega arith in
    let back : span middle to xs ≡ drop (middle - from) (take (to - from) (drop from xs)) =
    ap (λ (k : ℕ). take k (drop middle xs)) n ∙ ap (λ (k : ℕ). take (to - from - (middle - from)) (drop k xs)) (sym at)
    ∙ ap (λ l. take (to - from - (middle - from)) l) (sym (drop-drop (middle - from) from xs))
    ∙ sym (drop-take (middle - from) (to - from - (middle - from)) (drop from xs))
    ∙ ap (λ (k : ℕ). drop (middle - from) (take k (drop from xs))) size in
    ap (λ l. l ++ span middle to xs) (sym (take-take (middle - from) (to - from) (drop from xs) (omega arith)))
    ∙ ap (λ l. take (middle - from) (take (to - from) (drop from xs)) ++ l) back
    ∙ take-append-drop (middle - from) (take (to - from) (drop from xs))

-- one more at the end
pub span-last : (from i : ℕ) (xs : List ℕ) → from ≤ i → i < length xs → span from (i + 1) xs ≡ span from i xs ++ get_or xs i 0 ∷ []
span-last from i xs le lt =
    let size : i + 1 - from ≡ i - from + 1 = omega arith in
    let at : from + (i - from) ≡ i = omega arith in
    ap (λ (k : ℕ). take k (drop from xs)) size ∙ take_more (drop from xs) (i - from) 0 (omega (arith, length-drop from xs))
    ∙ ap (λ (x : ℕ). span from i xs ++ x ∷ []) (get_or-drop from xs (i - from) 0 ∙ ap (λ (k : ℕ). get_or xs k 0) at)

pub one_more : (entries : List (Option ℕ)) (codes out next : List ℕ) (from i : ℕ) (code : ℕ) → from ≤ i → i < length codes → out ≡ recoded entries (span from i codes)
    → next ≡ out ++ code ∷ [] → code ≡ unwrap_or (get_or entries (get_or codes i 0) None) 0 → next ≡ recoded entries (span from (i + 1) codes)
one_more entries codes out next from i code le lt h e c =
    e ∙ ap (λ l. l ++ code ∷ []) h ∙ ap (λ (x : ℕ). recoded entries (span from i codes) ++ x ∷ []) c
    ∙ sym (map-append (λ x. unwrap_or (get_or entries x None) 0) (span from i codes) (get_or codes i 0 ∷ []))
    ∙ ap (λ l. recoded entries l) (sym (span-last from i codes le lt))

-- a later share begins no earlier
pub share_up : (k n p : ℕ) → 0 < p → k * n / p ≤ (k + 1) * n / p
share_up k n p pos =
    le-div (k * n / p) ((k + 1) * n) p pos (let h : k * n / p * p ≤ k * n = div-mul-le_self (k * n) p in let e : (k + 1) * n ≡ k * n + n = grind arith in omega (arith, h, e))

-- the first shares, and one more
pub share_more : (entries : List (Option ℕ)) (codes out next part : List ℕ) (k p : ℕ) → 0 < p → out ≡ recoded entries (span 0 (k * length codes / p) codes)
    → part ≡ recoded entries (span (k * length codes / p) ((k + 1) * length codes / p) codes) → next ≡ out ++ part → next ≡ recoded entries (span 0 ((k + 1) * length codes / p) codes)
share_more entries codes out next part k p pos h q e =
    e ∙ ap (λ l. l ++ part) h ∙ ap (λ l. recoded entries (span 0 (k * length codes / p) codes) ++ l) q
    ∙ sym (map-append (λ x. unwrap_or (get_or entries x None) 0) (span 0 (k * length codes / p) codes) (span (k * length codes / p) ((k + 1) * length codes / p) codes))
    ∙ ap (λ l. recoded entries l) (span-append 0 (k * length codes / p) ((k + 1) * length codes / p) codes (omega arith) (share_up k (length codes) p pos))

pub all_shares : (entries : List (Option ℕ)) (codes out : List ℕ) (k p : ℕ) → 0 < p → k ≡ p → out ≡ recoded entries (span 0 (k * length codes / p) codes) → out ≡ recoded entries codes
all_shares entries codes out k p pos e h =
    h ∙ ap (λ (n : ℕ). recoded entries (span 0 (n * length codes / p) codes)) e
    ∙ ap (λ l. recoded entries l) (span-all (p * length codes / p) codes (mul-div_cancel_left (length codes) pos))

-- codes that have entries below reach become codes below it
entries-rest : (entries : List (Option ℕ)) (reach code : ℕ) (codes : List ℕ) → HaveEntries entries reach (code ∷ codes) → HaveEntries entries reach codes
entries-rest entries reach code codes h i lt = h (suc i) (omega (arith, lt))

AllBelow-recoded : (entries : List (Option ℕ)) (reach : ℕ) (codes : List ℕ) → HaveEntries entries reach codes → AllBelow reach (recoded entries codes)
AllBelow-recoded entries reach [] h = tt
AllBelow-recoded entries reach (code ∷ codes) h =
    (new (get_or entries code None) (h 0 (omega arith)).1, AllBelow-recoded entries reach codes (entries-rest entries reach code codes h))
  where
    new : (entry : Option ℕ) → IsBelow reach entry → unwrap_or entry 0 < reach
    new (Some x) below = below
    new None below = absurd below

pub below_then : {T E : Type 0} (items : T → List ℕ) (r : Result T E) (entries : List (Option ℕ)) (reach : ℕ) (codes : List ℕ) → HaveEntries entries reach codes
    → IfOk r (λ v. items v ≡ recoded entries codes) → IfOk r (λ v. AllBelow reach (items v))
below_then items (Ok v) entries reach codes h e = subst (λ (l : List ℕ). AllBelow reach l) (sym e) (AllBelow-recoded entries reach codes h)
below_then items (Err x) entries reach codes h e = e

-- ---- codes that stay, and those behind them

pub stays_at : (first code : ℕ) (entries : List (Option ℕ)) → code < first → get_or (with_staying first entries) code None ≡ Some code
stays_at first code entries lt =
    get_or_append_left (map Some (range_with_len 0 first)) entries None code (omega (arith, lt, length-map-range_with_len Some 0 first)) ∙ get_or-map-range_with_len Some 0 first code code None lt (omega arith)

pub behind_at : (first code : ℕ) (entries : List (Option ℕ)) → first ≤ code → get_or (with_staying first entries) code None ≡ get_or entries (code - first) None
behind_at first code entries le = get_or-append_right (map Some (range_with_len 0 first)) entries first code None (length-map-range_with_len Some 0 first) le

pub length_with_staying : (first : ℕ) (entries : List (Option ℕ)) → length (with_staying first entries) ≡ first + length entries
length_with_staying first entries = length-append (map Some (range_with_len 0 first)) entries ∙ ap (λ n. n + length entries) (length-map-range_with_len Some 0 first)
