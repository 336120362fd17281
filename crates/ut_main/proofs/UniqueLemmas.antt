-- Bytes begin with one dictionary and with one code vector only.
use Rattle.std.proofs.Common.{◌≡◌, ℕ, zero, suc, ◌+◌, ◌/◌, ◌^◌, ◌<◌, ◌≤◌, nat_le, Bool, true, false, cond, List, [], inl, inr, ◌∷◌, ◌++◌, length, take, drop, refl, sym, ◌∙◌, ap, subst, arith}
use Rattle.std.proofs.lemmas.Bool.{leb-true, leb-false, cases_lt}
use Rattle.std.proofs.lemmas.List.{append_assoc, append_cancel_left, take-append-drop, length-take, length-drop}
use Rattle.std.proofs.Math.Nat.{pow-suc}
use Rattle.std.proofs.Math.Pow.{pow_mono}
use Rattle.std.specs.Int.{to_le_bytes, w32}
use Rattle.ut_bits.specs.Bits.{AllBelow}
use Rattle.ut_codes.specs.Sizes.{width_from, code_width}
use Rattle.ut_codes.specs.Forms.{form_of, bytes_in, code_bytes}
use Rattle.ut_codes.proofs.SizeLemmas.{AllBelow-width}
use Rattle.ut_codes.proofs.FormLemmas.{code_bytes-front, byte_of-one, bytes_in-one}
use Rattle.ut_codes.specs.declared.form.Form.{Form}
use Rattle.ut_prefix.specs.Spelling.{block_bytes, blocks_bytes, dict_bytes, IsDictionary}
use Rattle.ut_prefix.specs.Reading.{block_keys}
use Rattle.ut_prefix.proofs.SpellingLemmas.{block_keys-block_bytes}
use Rattle.ut_prefix.proofs.ParseLemmas.{count_read}

-- ---- dictionaries

none-there : (xs : List (List ℕ)) → length xs ≡ 0 → xs ≡ []
none-there [] e = refl
none-there (x ∷ xs) e = absurd (omega (arith, e))

blocks-one : (m : ℕ) (xs ys : List (List ℕ)) (rest more : List ℕ) → length xs ≡ length ys → m ≡ (length xs + 15) / 16 → blocks_bytes m xs ++ rest ≡ blocks_bytes m ys ++ more → (xs ≡ ys) × (rest ≡ more)
blocks-one zero xs ys rest more same size e =
    let none : length xs ≡ 0 = omega (arith, size) in
    (none-there xs none ∙ sym (none-there ys (sym same ∙ none)), e)
blocks-one (suc m) xs ys rest more same size e =
    let a = append_assoc (block_bytes (take 16 xs)) (blocks_bytes m (drop 16 xs)) rest in
    let b = append_assoc (block_bytes (take 16 ys)) (blocks_bytes m (drop 16 ys)) more in
    let bytes = sym a ∙ e ∙ b in
    let count : length (take 16 xs) ≡ length (take 16 ys) = omega (arith, same, length-take 16 xs, length-take 16 ys) in
    let first : take 16 xs ≡ take 16 ys =
    sym (block_keys-block_bytes (take 16 xs) (blocks_bytes m (drop 16 xs) ++ rest))
    ∙ (λ i. block_keys (count i) (bytes i))
    ∙ block_keys-block_bytes (take 16 ys) (blocks_bytes m (drop 16 ys) ++ more) in
    let tails : blocks_bytes m (drop 16 xs) ++ rest ≡ blocks_bytes m (drop 16 ys) ++ more =
    append_cancel_left (block_bytes (take 16 xs)) (blocks_bytes m (drop 16 xs) ++ rest) (blocks_bytes m (drop 16 ys) ++ more)
    (bytes ∙ ap (λ (l : List (List ℕ)). block_bytes l ++ (blocks_bytes m (drop 16 ys) ++ more)) (sym first)) in
    let later = blocks-one m (drop 16 xs) (drop 16 ys) rest more
    (omega (arith, same, length-drop 16 xs, length-drop 16 ys)) (omega (arith, size, length-drop 16 xs)) tails in
    (sym (take-append-drop 16 xs) ∙ (λ i. first i ++ later.0 i) ∙ take-append-drop 16 ys, later.1)

-- bytes begin with the bytes of but one dictionary
pub dict-one : (keys others : List (List ℕ)) (rest more : List ℕ) → IsDictionary keys → IsDictionary others → dict_bytes keys ++ rest ≡ dict_bytes others ++ more → (keys ≡ others) × (rest ≡ more)
dict-one keys others rest more h k e =
    let front : take 4 (dict_bytes keys ++ rest) ≡ to_le_bytes w32 (length keys) = refl in
    let other = count_read (length others) (length keys) (dict_bytes keys ++ rest) (blocks_bytes ((length others + 15) / 16) others ++ more) k.few h.few front e in
    let tails : blocks_bytes ((length keys + 15) / 16) keys ++ rest ≡ blocks_bytes ((length keys + 15) / 16) others ++ more =
    other.1 ∙ ap (λ n. blocks_bytes ((n + 15) / 16) others ++ more) other.0 in
    blocks-one ((length keys + 15) / 16) keys others rest more (sym other.0) refl tails

-- ---- widths

power-above : (n : ℕ) → n ≤ 2 ^ n
power-above zero = omega arith
power-above (suc n) = let h = power-above n in let p = pow-suc 2 n in let one : 1 ≤ 2 ^ n = pow_mono {i = 0} {j = n} (omega arith) in omega (arith, h, p, one)

width-holds : (k w n : ℕ) → n ≤ 2 ^ (w + k) → n ≤ 2 ^ width_from k w n
width-holds zero w n h = let e : w + 0 ≡ w = omega arith in subst (λ v. n ≤ 2 ^ v) e h
width-holds (suc k) w n h = by (nat_le n (2 ^ w)) refl (λ _. width-holds k (w + 1) n (let e : w + suc k ≡ w + 1 + k = omega arith in subst (λ v. n ≤ 2 ^ v) e h))
  where
    by : (b : Bool) → nat_le n (2 ^ w) ≡ b → (Unit {0} → n ≤ 2 ^ width_from k (w + 1) n) → n ≤ 2 ^ cond b w (width_from k (w + 1) n)
    by true e more = leb-true n (2 ^ w) e
    by false e more = more tt

width-narrow : (k w n m : ℕ) → n ≤ 2 ^ m → w ≤ m → width_from k w n ≤ m
width-narrow zero w n m h le = le
width-narrow (suc k) w n m h le = by (nat_le n (2 ^ w)) refl (width-narrow k (w + 1) n m h)
  where
    by : (b : Bool) → nat_le n (2 ^ w) ≡ b → (w + 1 ≤ m → width_from k (w + 1) n ≤ m) → cond b w (width_from k (w + 1) n) ≤ m
    by true e more = le
    by false e more =
        let over : 2 ^ w < n = leb-false n (2 ^ w) e in
        more (elim (cases_lt w m) [ inl less ↦ omega (arith, less) | inr ge ↦ absurd (let p = pow_mono {i = m} {j = w} ge in omega (arith, over, h, p)) ])

pub code_width-holds : (n : ℕ) → n ≤ 2 ^ code_width n
unfolding code_width
code_width-holds n = let e : n ≡ 0 + n = omega arith in width-holds n 0 n (subst (λ v. n ≤ 2 ^ v) e (power-above n))

pub code_width-narrow : (n m : ℕ) → n ≤ 2 ^ m → code_width n ≤ m
unfolding code_width
code_width-narrow n m h = width-narrow n 0 n m h (omega arith)

-- ---- code vectors

-- bytes begin with the bytes of but one vector of so many codes below a reach
pub codes-one : (codes others rest more : List ℕ) (reach : ℕ) → reach ≤ 2 ^ 32 → AllBelow reach codes → AllBelow reach others → length codes ≡ length others → length codes < 2 ^ 32
    → code_bytes codes reach ++ rest ≡ code_bytes others reach ++ more → (codes ≡ others) × (rest ≡ more)
codes-one codes others rest more reach low h k same few e =
    let bytes = code_bytes codes reach ++ rest in
    let one = code_bytes-front codes rest bytes reach refl in
    let two = code_bytes-front others more bytes reach e in
    let form : form_of codes reach ≡ form_of others reach = byte_of-one (form_of codes reach) (form_of others reach) (sym one.1 ∙ two.1) in
    let width = code_width reach in
    let holds = code_width-holds reach in
    let other : drop 1 bytes ≡ bytes_in (form_of codes reach) width others ++ more = two.2 ∙ ap (λ (f : Form). bytes_in f width others ++ more) (sym form) in
    let equal : codes ≡ others =
    bytes_in-one (form_of codes reach) width codes others more rest (drop 1 bytes) (code_width-narrow reach 32 low) (AllBelow-width reach width codes h holds) (AllBelow-width reach width others k holds) same few one.2 other in
    (equal, append_cancel_left (bytes_in (form_of codes reach) width codes) rest more (sym one.2 ∙ other ∙ ap (λ (l : List ℕ). bytes_in (form_of codes reach) width l ++ more) (sym equal)))
