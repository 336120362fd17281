-- Laws on the form of least size and the bytes of forms.
use Rattle.std.proofs.Common.{◌≡◌, ℕ, zero, suc, ◌+◌, ◌-◌, ◌*◌, ◌^◌, ◌<◌, ◌≤◌, nat_le, true, false, inl, inr, List, [], ◌∷◌, ◌++◌, length, take, drop, get_or, refl, sym, ◌∙◌, ap, arith}
use Rattle.std.proofs.lemmas.Bool.{cases_lt, lt-leb, le-leb}
use Rattle.std.proofs.Math.Seq.{take-append_seam}
use Rattle.ut_bits.specs.Bits.{AllBelow, packed_bytes, byte_count, joined}
use Rattle.ut_bits.proofs.BitLemmas.{length-bytes_of}
use Rattle.ut_bits.proofs.ListLemmas.{packed_bytes-unique}
use Rattle.ut_rle.specs.Runs.{runs_of, run_bytes, entries_in, expanded}
use Rattle.ut_rle.proofs.RunsLemmas.{expanded-runs_of}
use Rattle.ut_rle.proofs.EntryLemmas.{run_bytes-front}
use Rattle.ut_sparse.specs.Frequent.{count_of, most_frequent}
use Rattle.ut_sparse.specs.Sparse.{sparse_bytes, marks_of, others_of, merged, marked}
use Rattle.ut_sparse.proofs.SparseLemmas.{sparse-front, merged-of, AllBelow-marks_of, AllBelow-others_of, length-marks_of, marked-marks_of}
use Rattle.ut_codes.specs.declared.form.Form.{Form}
use Rattle.ut_codes.specs.declared.form.Form.TheVariants.{Packed as packed_form, Runs as runs_form, Sparse as sparse_form}
use Rattle.ut_codes.specs.Sizes.{code_width}
use Rattle.ut_codes.specs.Forms.{form_of, byte_of, bytes_in, code_bytes}

le_le : (a b : ℕ) → a ≤ b → nat_le a b ≡ true
le_le a b h = le-leb a b h

-- codes of no bits are packed
pub form-none : (codes : List ℕ) (reach : ℕ) → code_width reach ≡ 0 → form_of codes reach ≡ packed_form
unfolding form_of
form-none codes reach e =
    let size : length codes * code_width reach ≡ 0 = ap (λ (w : ℕ). length codes * w) e ∙ omega arith in
    let one : nat_le (length codes * code_width reach) (64 * length (runs_of codes)) ≡ true = le_le _ _ (omega (arith, size)) in
    let two : nat_le (length codes * code_width reach) (length codes + (length codes - count_of (most_frequent codes) codes) * code_width reach) ≡ true = le_le _ _ (omega (arith, size)) in
    rw (one, two) refl

-- where the runs have no more bits than there are rows, they have fewer than the marks of the sparse form
pub form-runs : (codes : List ℕ) (reach : ℕ) → 64 * length (runs_of codes) ≤ length codes → 64 * length (runs_of codes) < length codes * code_width reach → form_of codes reach ≡ runs_form
unfolding form_of
form-runs codes reach few less =
    let one : nat_le (length codes * code_width reach) (64 * length (runs_of codes)) ≡ false = lt-leb _ _ less in
    let two : nat_le (64 * length (runs_of codes)) (length codes + (length codes - count_of (most_frequent codes) codes) * code_width reach) ≡ true = le_le _ _ (omega (arith, few)) in
    rw (one, two) refl

pub runs-form : (codes : List ℕ) (reach : ℕ) → 64 * length (runs_of codes) ≤ length codes → form_of codes reach ≡ runs_form → 64 * length (runs_of codes) < length codes * code_width reach
unfolding form_of
runs-form codes reach few is =
    elim (cases_lt (64 * length (runs_of codes)) (length codes * code_width reach)) [
      | inl less ↦ less
      | inr more ↦
          let one : nat_le (length codes * code_width reach) (64 * length (runs_of codes)) ≡ true = le_le _ _ more in
          let two : nat_le (length codes * code_width reach) (length codes + (length codes - count_of (most_frequent codes) codes) * code_width reach) ≡ true = le_le _ _ (omega (arith, more, few)) in
          let packed : form_of codes reach ≡ packed_form = rw (one, two) refl in
          absurd (let no : packed_form ≡ runs_form = sym packed ∙ is in cc)
    ]

take-whole : (xs ys : List ℕ) (n : ℕ) → length xs ≡ n → take n (xs ++ ys) ≡ xs
take-whole xs ys n e = ap (λ (k : ℕ). take k (xs ++ ys)) (sym e) ∙ take-append_seam xs ys

drop-whole : (xs ys : List ℕ) (n : ℕ) → length xs ≡ n → drop n (xs ++ ys) ≡ ys
drop-whole [] ys zero e = refl
drop-whole (x ∷ xs) ys zero e = absurd (omega (arith, e))
drop-whole [] ys (suc n) e = absurd (omega (arith, e))
drop-whole (x ∷ xs) ys (suc n) e = drop-whole xs ys n (omega (arith, e))

size-packed : (w : ℕ) (codes : List ℕ) → length (packed_bytes w codes) ≡ byte_count (length codes * w)
size-packed w codes = length-bytes_of (byte_count (length codes * w)) (joined w codes)

packed-one : (w : ℕ) (codes others rest more : List ℕ) → AllBelow (2 ^ w) codes → AllBelow (2 ^ w) others → length codes ≡ length others → packed_bytes w codes ++ more ≡ packed_bytes w others ++ rest → (codes ≡ others) × (more ≡ rest)
packed-one w codes others rest more h k e is =
    let size = size-packed w codes in
    let same = packed_bytes-unique w codes others rest (packed_bytes w codes ++ more) h k e (take-whole (packed_bytes w codes) more _ size) is in
    let sizes : length (packed_bytes w others) ≡ byte_count (length codes * w) = size-packed w others ∙ ap (λ (n : ℕ). byte_count (n * w)) (sym e) in
    (same, sym (drop-whole (packed_bytes w codes) more _ size) ∙ ap (λ (l : List ℕ). drop (byte_count (length codes * w)) l) is ∙ drop-whole (packed_bytes w others) rest _ sizes)

runs-one : (w : ℕ) (codes others rest more bytes : List ℕ) → w ≤ 32 → AllBelow (2 ^ w) codes → AllBelow (2 ^ w) others → length codes < 2 ^ 32 → length others < 2 ^ 32
    → bytes ≡ run_bytes codes ++ more → bytes ≡ run_bytes others ++ rest → codes ≡ others
runs-one w codes others rest more bytes narrow h k small few e is =
    let a = run_bytes-front w codes more bytes narrow small h e in
    let b = run_bytes-front w others rest bytes narrow few k is in
    let count : length (runs_of codes) ≡ length (runs_of others) = sym a.1 ∙ b.1 in
    sym (expanded-runs_of codes) ∙ ap (λ l. expanded l) (sym a.3 ∙ ap (λ (n : ℕ). entries_in n (drop 4 bytes)) count ∙ b.3) ∙ expanded-runs_of others

sparse-one : (w : ℕ) (codes others rest more bytes : List ℕ) → w ≤ 32 → AllBelow (2 ^ w) codes → AllBelow (2 ^ w) others → length codes ≡ length others
    → bytes ≡ sparse_bytes w codes ++ more → bytes ≡ sparse_bytes w others ++ rest → codes ≡ others
sparse-one w codes others rest more bytes narrow h k size e is =
    let a = sparse-front w codes more bytes narrow h e in
    let b = sparse-front w others rest bytes narrow k is in
    let left : most_frequent codes ≡ most_frequent others = sym a.1 ∙ b.1 in
    let marks = packed-one 1 (marks_of (most_frequent codes) codes) (marks_of (most_frequent others) others) _ _ (AllBelow-marks_of (most_frequent codes) codes) (AllBelow-marks_of (most_frequent others) others)
    (length-marks_of (most_frequent codes) codes ∙ size ∙ sym (length-marks_of (most_frequent others) others)) (sym a.3 ∙ b.3) in
    let count : length (others_of (most_frequent codes) codes) ≡ length (others_of (most_frequent others) others) =
    sym (marked-marks_of (most_frequent codes) codes) ∙ ap (λ l. marked l) marks.0 ∙ marked-marks_of (most_frequent others) others in
    let rests = packed-one w (others_of (most_frequent codes) codes) (others_of (most_frequent others) others) _ _ (AllBelow-others_of (2 ^ w) (most_frequent codes) codes h) (AllBelow-others_of (2 ^ w) (most_frequent others) others k) count marks.1 in
    sym (merged-of (most_frequent codes) codes)
    ∙ ap (λ (n : ℕ). merged n (marks_of (most_frequent codes) codes) (others_of (most_frequent codes) codes)) left
    ∙ ap (λ (l : List ℕ). merged (most_frequent others) l (others_of (most_frequent codes) codes)) marks.0
    ∙ ap (λ (l : List ℕ). merged (most_frequent others) (marks_of (most_frequent others) others) l) rests.0
    ∙ merged-of (most_frequent others) others

-- bytes begin with the bytes of but one list of codes in a form
pub bytes_in-one : (f : Form) (w : ℕ) (codes others rest more bytes : List ℕ) → w ≤ 32 → AllBelow (2 ^ w) codes → AllBelow (2 ^ w) others → length codes ≡ length others → length codes < 2 ^ 32
    → bytes ≡ bytes_in f w codes ++ more → bytes ≡ bytes_in f w others ++ rest → codes ≡ others
bytes_in-one packed_form w codes others rest more bytes narrow h k size small e is = (packed-one w codes others rest more h k size (sym e ∙ is)).0
bytes_in-one runs_form w codes others rest more bytes narrow h k size small e is = runs-one w codes others rest more bytes narrow h k small (omega (arith, size, small)) e is
bytes_in-one sparse_form w codes others rest more bytes narrow h k size small e is = sparse-one w codes others rest more bytes narrow h k size e is

pub byte_of-one : (f g : Form) → byte_of f ≡ byte_of g → f ≡ g
byte_of-one packed_form packed_form e = refl
byte_of-one packed_form runs_form e = absurd (omega (arith, e))
byte_of-one packed_form sparse_form e = absurd (omega (arith, e))
byte_of-one runs_form packed_form e = absurd (omega (arith, e))
byte_of-one runs_form runs_form e = refl
byte_of-one runs_form sparse_form e = absurd (omega (arith, e))
byte_of-one sparse_form packed_form e = absurd (omega (arith, e))
byte_of-one sparse_form runs_form e = absurd (omega (arith, e))
byte_of-one sparse_form sparse_form e = refl

-- the first byte of bytes that begin with a vector's, and what is behind it
pub code_bytes-front : (codes rest bytes : List ℕ) (reach : ℕ) → bytes ≡ code_bytes codes reach ++ rest
    → (0 < length bytes) × (get_or bytes 0 0 ≡ byte_of (form_of codes reach)) × (drop 1 bytes ≡ bytes_in (form_of codes reach) (code_width reach) codes ++ rest)
unfolding code_bytes
code_bytes-front codes rest bytes reach e =
    let size = ap (λ (l : List ℕ). length l) e in
    (omega (arith, size), ap (λ (l : List ℕ). get_or l 0 0) e, ap (λ (l : List ℕ). drop 1 l) e)

-- the bytes of a vector that was read
pub code_bytes-read : (codes bytes : List ℕ) (reach n : ℕ) (f : Form) → 0 < length bytes → get_or bytes 0 0 ≡ byte_of f → take n (drop 1 bytes) ≡ bytes_in f (code_width reach) codes → form_of codes reach ≡ f
    → take (1 + n) bytes ≡ code_bytes codes reach
unfolding code_bytes
code_bytes-read codes [] reach n f some first behind is = absurd (omega (arith, some))
code_bytes-read codes (b ∷ bs) reach n f some first behind is =
    let e : 1 + n ≡ suc n = omega arith in
    ap (λ (k : ℕ). take k (b ∷ bs)) e ∙ ap (λ (k : ℕ). k ∷ take n bs) first ∙ ap (λ (l : List ℕ). byte_of f ∷ l) behind ∙ ap (λ g. byte_of g ∷ bytes_in g (code_width reach) codes) (sym is)

pub take-drop : (n : ℕ) (xs : List ℕ) → xs ≡ take n xs ++ drop n xs
take-drop zero [] = refl
take-drop zero (x ∷ xs) = refl
take-drop (suc n) [] = refl
take-drop (suc n) (x ∷ xs) = ap (λ (l : List ℕ). x ∷ l) (take-drop n xs)

pub none-below : (limit : ℕ) (codes : List ℕ) → length codes ≡ 0 → AllBelow limit codes
none-below limit [] e = tt
none-below limit (c ∷ cs) e = absurd (omega (arith, e))

pub below-none : (codes : List ℕ) → AllBelow 0 codes → length codes ≡ 0
below-none [] h = refl
below-none (c ∷ cs) h = absurd (omega (arith, h.0))
