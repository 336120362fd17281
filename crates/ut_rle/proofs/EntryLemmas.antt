-- Laws on runs as bytes.
use Rattle.std.proofs.Common.{◌≡◌, ℕ, zero, suc, ◌+◌, ◌*◌, ◌-◌, ◌^◌, ◌<◌, ◌≤◌, List, [], ◌∷◌, ◌++◌, length, take, drop, get_or, refl, sym, ◌∙◌, ap, arith, append_assoc, add-one, length-append, false}
use Rattle.std.proofs.lemmas.List.{length-drop}
use Rattle.std.proofs.Math.Seq.{take-add, take-suc}
use Rattle.std.proofs.Math.Nat.{pow-le-pow_right}
use Rattle.ut_bits.specs.Bits.{AllBelow}
use Rattle.ut_bits.specs.Words.{word_bytes, word_in}
use Rattle.ut_bits.proofs.BitLemmas.{AllBelow-drop, take-rest}
use Rattle.ut_bits.proofs.WordLemmas.{length-word_bytes, word_in-word_bytes, drop-word_bytes, word_bytes-word_in}
use Rattle.ut_rle.specs.declared.run.Run.{Run}
use Rattle.ut_rle.specs.Ends.{lengths_from, end_from}
use Rattle.ut_rle.specs.Runs.{AreRuns, runs_of, run_bytes, entries_of, entries_in, rows_of, expanded, copies, is_last_code}
use Rattle.ut_rle.proofs.RunsLemmas.{length-copies, AreRuns-at, is_last_code-take, AreRuns-runs_of, expanded-runs_of}
use Rattle.ut_rle.proofs.EndsLemmas.{length-expanded, lengths_from-push}

pub length-entries_in : (n : ℕ) (bytes : List ℕ) → length (entries_in n bytes) ≡ n
length-entries_in zero bytes = refl
length-entries_in (suc n) bytes = ap suc (length-entries_in n (drop 8 bytes))

drop-drop : (m n : ℕ) (xs : List ℕ) → drop n (drop m xs) ≡ drop (m + n) xs
drop-drop zero n xs = let e : 0 + n ≡ n = omega arith in rw e refl
drop-drop (suc m) n [] = drop-none n ∙ sym (drop-none (suc m + n))
  where
    drop-none : (n : ℕ) → drop {A = ℕ} n [] ≡ []
    drop-none zero = refl
    drop-none (suc n) = refl
drop-drop (suc m) n (x ∷ xs) = let e : suc m + n ≡ suc (m + n) = omega arith in rw e (drop-drop m n xs)

drop-eight : (k : ℕ) (bytes : List ℕ) → drop (8 * k) (drop 8 bytes) ≡ drop (8 * suc k) bytes
drop-eight k bytes = let e : 8 * suc k ≡ 8 + 8 * k = omega arith in rw e (drop-drop 8 (8 * k) bytes)

-- the entry at a place
pub get_or-entries_in : (n k : ℕ) (bytes : List ℕ) → k < n
    → get_or (entries_in n bytes) k (0, 0) ≡ (word_in (drop (8 * k) bytes), word_in (drop 4 (drop (8 * k) bytes)))
get_or-entries_in zero k bytes h = absurd (omega arith)
get_or-entries_in (suc n) zero bytes h = refl
get_or-entries_in (suc n) (suc k) bytes h =
    get_or-entries_in n k (drop 8 bytes) (omega arith)
    ∙ ap (λ (l : List ℕ). (word_in l, word_in (drop 4 l))) (drop-eight k bytes)

pub entry-at : (n k : ℕ) (bytes : List ℕ) (code size : ℕ) → k < n → code ≡ word_in (take (length bytes - 8 * k) (drop (8 * k) bytes)) → size ≡ word_in (drop 4 (take (length bytes - 8 * k) (drop (8 * k) bytes)))
    → ((get_or (entries_in n bytes) k (0, 0)).0 ≡ code) × ((get_or (entries_in n bytes) k (0, 0)).1 ≡ size)
entry-at n k bytes code size h e f =
    let rest = take-rest (8 * k) bytes in
    let here = get_or-entries_in n k bytes h in (
      ap (λ r. r.0) here ∙ sym (e ∙ ap (λ (l : List ℕ). word_in l) rest),
      ap (λ r. r.1) here ∙ sym (f ∙ ap (λ (l : List ℕ). word_in (drop 4 l)) rest),
    )

-- no run goes past the rows
pub rows_of-take : (rs : List (ℕ × ℕ)) (k : ℕ) → k < length rs → rows_of (take k rs) + (get_or rs k (0, 0)).1 ≤ rows_of rs
rows_of-take [] k h = absurd (omega arith)
rows_of-take (r ∷ rs) zero h = omega arith
rows_of-take (r ∷ rs) (suc k) h = omega (arith, rows_of-take rs k (omega arith))

pub length-expanded_rows : (rs : List (ℕ × ℕ)) → length (expanded rs) ≡ rows_of rs
length-expanded_rows [] = refl
length-expanded_rows (r ∷ rs) = length-append (copies r.1 r.0) (expanded rs) ∙ omega (arith, length-copies r.1 r.0, length-expanded_rows rs)

pub length-le_rows : (limit : ℕ) (rs : List (ℕ × ℕ)) → AreRuns limit rs → length rs ≤ rows_of rs
length-le_rows limit [] h = omega arith
length-le_rows limit (r ∷ rs) h = omega (arith, h.1, length-le_rows limit rs h.3)

pub end-rows : (limit : ℕ) (rs : List Run) → AreRuns limit (lengths_from 0 rs) → end_from 0 rs ≡ rows_of (lengths_from 0 rs)
end-rows limit rs h = omega (arith, length-expanded limit 0 rs h, length-expanded_rows (lengths_from 0 rs))

-- what the next run of proper runs is, and how many rows came before it
pub next-run : (limit rows k : ℕ) (rs : List Run) (entries : List (ℕ × ℕ)) → AreRuns limit entries → rows_of entries ≡ rows → k < length entries
    → lengths_from 0 rs ≡ take k entries → AreRuns limit (lengths_from 0 rs)
    → ((get_or entries k (0, 0)).0 < limit) × (0 < (get_or entries k (0, 0)).1) × (end_from 0 rs + (get_or entries k (0, 0)).1 ≤ rows)
    × (is_last_code (lengths_from 0 rs) (get_or entries k (0, 0)).0 ≡ false)
next-run limit rows k rs entries h all below listed proper =
    let here = AreRuns-at limit entries k h below in
    let past = rows_of-take entries k below in
    let before : end_from 0 rs ≡ rows_of (take k entries) = end-rows limit rs proper ∙ ap (λ l. rows_of l) listed in
    (here.0, here.1, omega (arith, past, before, all), ap (λ l. is_last_code l (get_or entries k (0, 0)).0) listed ∙ is_last_code-take limit entries k h below)

-- one more entry is a run
pub push-entry : (rs after : List Run) (r : Run) (entries : List (ℕ × ℕ)) (k : ℕ) → after ≡ rs ++ r ∷ [] → lengths_from 0 rs ≡ take k entries → k < length entries
    → (get_or entries k (0, 0)).0 ≡ r.code → (get_or entries k (0, 0)).1 ≡ r.end - end_from 0 rs → lengths_from 0 after ≡ take (k + 1) entries
push-entry rs after r entries k e listed below code size =
    let more : take (k + 1) entries ≡ take k entries ++ get_or entries k (0, 0) ∷ [] = ap (λ (n : ℕ). take n entries) (add-one k) ∙ take-suc entries k (0, 0) below in
    ap (λ l. lengths_from 0 l) e ∙ lengths_from-push 0 rs r
    ∙ ap (λ l. l ++ (r.code, r.end - end_from 0 rs) ∷ []) listed
    ∙ ap (λ (n : ℕ). take k entries ++ (n, r.end - end_from 0 rs) ∷ []) (sym code)
    ∙ ap (λ (n : ℕ). take k entries ++ ((get_or entries k (0, 0)).0, n) ∷ []) (sym size)
    ∙ sym more

-- codes and lengths fit 32 bits
AllFit : List (ℕ × ℕ) → Type 0
AllFit [] = Unit {0}
AllFit (r ∷ rs) = (r.0 < 2 ^ 32) × (r.1 < 2 ^ 32) × AllFit rs

AllFit-AreRuns : (limit : ℕ) (rs : List (ℕ × ℕ)) → limit ≤ 2 ^ 32 → AreRuns limit rs → rows_of rs < 2 ^ 32 → AllFit rs
unfolding AllFit
AllFit-AreRuns limit [] le h small = tt
AllFit-AreRuns limit (r ∷ rs) le h small = (omega (arith, h.0), omega arith, AllFit-AreRuns limit rs le h.3 (omega arith))

length-entries_of : (rs : List (ℕ × ℕ)) → length (entries_of rs) ≡ 8 * length rs
length-entries_of [] = refl
length-entries_of (r ∷ rs) =
    length-append (word_bytes r.0 ++ word_bytes r.1) (entries_of rs)
    ∙ omega (arith, length-append (word_bytes r.0) (word_bytes r.1), length-word_bytes r.0, length-word_bytes r.1, length-entries_of rs)

-- entries are read back
entries_in-entries_of : (rs : List (ℕ × ℕ)) (rest : List ℕ) → AllFit rs → entries_in (length rs) (entries_of rs ++ rest) ≡ rs
unfolding AllFit
entries_in-entries_of [] rest h = refl
entries_in-entries_of (r ∷ rs) rest h =
    let front : ((word_bytes r.0 ++ word_bytes r.1) ++ entries_of rs) ++ rest ≡ word_bytes r.0 ++ (word_bytes r.1 ++ (entries_of rs ++ rest)) =
    append_assoc (word_bytes r.0 ++ word_bytes r.1) (entries_of rs) rest ∙ append_assoc (word_bytes r.0) (word_bytes r.1) (entries_of rs ++ rest) in
    let code : word_in (((word_bytes r.0 ++ word_bytes r.1) ++ entries_of rs) ++ rest) ≡ r.0 = ap (λ (l : List ℕ). word_in l) front ∙ word_in-word_bytes r.0 _ h.0 in
    let behind : drop 4 (((word_bytes r.0 ++ word_bytes r.1) ++ entries_of rs) ++ rest) ≡ word_bytes r.1 ++ (entries_of rs ++ rest) = ap (λ (l : List ℕ). drop 4 l) front ∙ drop-word_bytes r.0 _ in
    let size : word_in (drop 4 (((word_bytes r.0 ++ word_bytes r.1) ++ entries_of rs) ++ rest)) ≡ r.1 = ap (λ (l : List ℕ). word_in l) behind ∙ word_in-word_bytes r.1 _ h.1 in
    let tail : drop 8 (((word_bytes r.0 ++ word_bytes r.1) ++ entries_of rs) ++ rest) ≡ entries_of rs ++ rest =
    sym (drop-drop 4 4 (((word_bytes r.0 ++ word_bytes r.1) ++ entries_of rs) ++ rest)) ∙ ap (λ (l : List ℕ). drop 4 l) behind ∙ drop-word_bytes r.1 _ in
    ap (λ (n : ℕ). (n, word_in (drop 4 (((word_bytes r.0 ++ word_bytes r.1) ++ entries_of rs) ++ rest))) ∷ entries_in (length rs) (drop 8 (((word_bytes r.0 ++ word_bytes r.1) ++ entries_of rs) ++ rest))) code
    ∙ ap (λ (n : ℕ). (r.0, n) ∷ entries_in (length rs) (drop 8 (((word_bytes r.0 ++ word_bytes r.1) ++ entries_of rs) ++ rest))) size
    ∙ ap (λ (l : List ℕ). (r.0, r.1) ∷ entries_in (length rs) l) tail
    ∙ ap (λ ss. (r.0, r.1) ∷ ss) (entries_in-entries_of rs rest h.2)

-- the bytes of the entries that are read
entries_of-entries_in : (n : ℕ) (bytes : List ℕ) → AllBelow 256 bytes → 8 * n ≤ length bytes → entries_of (entries_in n bytes) ≡ take (8 * n) bytes
entries_of-entries_in zero bytes h le = refl
entries_of-entries_in (suc n) bytes h le =
    let size = length-drop 4 bytes in
    let first : word_bytes (word_in bytes) ≡ take 4 bytes = word_bytes-word_in bytes h (omega arith) in
    let second : word_bytes (word_in (drop 4 bytes)) ≡ take 4 (drop 4 bytes) = word_bytes-word_in (drop 4 bytes) (AllBelow-drop 256 4 bytes h) (omega arith) in
    let rest : entries_of (entries_in n (drop 8 bytes)) ≡ take (8 * n) (drop 8 bytes) = entries_of-entries_in n (drop 8 bytes) (AllBelow-drop 256 8 bytes h) (omega (arith, length-drop 8 bytes)) in
    let eight : take 8 bytes ≡ take 4 bytes ++ take 4 (drop 4 bytes) = take-add 4 4 bytes in
    let all : 8 * suc n ≡ 8 + 8 * n = omega arith in
    ap (λ (l : List ℕ). (l ++ word_bytes (word_in (drop 4 bytes))) ++ entries_of (entries_in n (drop 8 bytes))) first
    ∙ ap (λ (l : List ℕ). (take 4 bytes ++ l) ++ entries_of (entries_in n (drop 8 bytes))) second
    ∙ ap (λ (l : List ℕ). (take 4 bytes ++ take 4 (drop 4 bytes)) ++ l) rest
    ∙ ap (λ (l : List ℕ). l ++ take (8 * n) (drop 8 bytes)) (sym eight)
    ∙ sym (ap (λ (k : ℕ). take k bytes) all ∙ take-add 8 (8 * n) bytes)

pub power-fits : (width : ℕ) → width ≤ 32 → 2 ^ width ≤ 2 ^ 32
power-fits width h = let two : 0 < 2 = omega arith in pow-le-pow_right two h

-- what bytes that begin with the bytes of codes are read as
pub run_bytes-front : (width : ℕ) (codes rest bytes : List ℕ) → width ≤ 32 → length codes < 2 ^ 32 → AllBelow (2 ^ width) codes → bytes ≡ run_bytes codes ++ rest
    → (4 ≤ length bytes) × (word_in bytes ≡ length (runs_of codes)) × (8 * length (runs_of codes) ≤ length (drop 4 bytes)) × (entries_in (length (runs_of codes)) (drop 4 bytes) ≡ runs_of codes)
    × AreRuns (2 ^ width) (runs_of codes) × (rows_of (runs_of codes) ≡ length codes)
run_bytes-front width codes rest bytes narrow small h e =
    let proper = AreRuns-runs_of (2 ^ width) codes h in
    let rows : rows_of (runs_of codes) ≡ length codes = sym (length-expanded_rows (runs_of codes)) ∙ ap (λ l. length l) (expanded-runs_of codes) in
    let few = length-le_rows (2 ^ width) (runs_of codes) proper in
    let fit = AllFit-AreRuns (2 ^ width) (runs_of codes) (power-fits width narrow) proper (omega (arith, rows, small)) in
    let front : bytes ≡ word_bytes (length (runs_of codes)) ++ (entries_of (runs_of codes) ++ rest) = e ∙ append_assoc (word_bytes (length (runs_of codes))) (entries_of (runs_of codes)) rest in
    let behind : drop 4 bytes ≡ entries_of (runs_of codes) ++ rest = ap (λ (l : List ℕ). drop 4 l) front ∙ drop-word_bytes (length (runs_of codes)) (entries_of (runs_of codes) ++ rest) in
    let long = ap (λ (l : List ℕ). length l) front in (
      omega (arith, long, length-append (word_bytes (length (runs_of codes))) (entries_of (runs_of codes) ++ rest), length-word_bytes (length (runs_of codes))),
      ap (λ (l : List ℕ). word_in l) front ∙ word_in-word_bytes (length (runs_of codes)) _ (omega (arith, few, rows, small)),
      omega (arith, ap (λ (l : List ℕ). length l) behind, length-append (entries_of (runs_of codes)) rest, length-entries_of (runs_of codes)),
      ap (λ (l : List ℕ). entries_in (length (runs_of codes)) l) behind ∙ entries_in-entries_of (runs_of codes) rest fit,
      proper,
      rows,
    )

-- the bytes that were read
pub run_bytes-read : (n : ℕ) (codes bytes : List ℕ) → AllBelow 256 bytes → 4 ≤ length bytes → 8 * n ≤ length (drop 4 bytes) → n ≡ word_in bytes → runs_of codes ≡ entries_in n (drop 4 bytes)
    → take (4 + 8 * n) bytes ≡ run_bytes codes
run_bytes-read n codes bytes h four le count is =
    let size : length (runs_of codes) ≡ word_in bytes = ap (λ l. length l) is ∙ length-entries_in n (drop 4 bytes) ∙ count in
    take-add 4 (8 * n) bytes
    ∙ ap (λ (l : List ℕ). take 4 bytes ++ l) (sym (entries_of-entries_in n (drop 4 bytes) (AllBelow-drop 256 4 bytes h) le) ∙ ap (λ l. entries_of l) (sym is))
    ∙ ap (λ (l : List ℕ). l ++ entries_of (runs_of codes)) (sym (word_bytes-word_in bytes h four) ∙ ap (λ (k : ℕ). word_bytes k) (sym size))
