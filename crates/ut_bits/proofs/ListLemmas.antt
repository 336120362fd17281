-- Laws on packed lists of codes: one more code, a list's number, its words and its unique reading.
use Rattle.std.proofs.Common.{◌≡◌, ℕ, ◌+◌, ◌*◌, ◌^◌, ◌<◌, List, [], ◌∷◌, ◌++◌, length, take, refl, sym, ◌∙◌, ap, subst, length-append}
use Rattle.ut_bits.specs.Bits.{number_of, bytes_of, joined, fields, byte_count, packed_bytes, AllBelow}
use Rattle.ut_bits.proofs.BitLemmas.{joined-append, joined-fields, joined-below, fields-joined, length-fields, AllBelow-fields, AllBelow-append, number_of-packed_bytes, number_of-front}

-- one more field behind the others
pub fields-push : (w n x c : ℕ) → x < 2 ^ (n * w) → c < 2 ^ w → fields w (n + 1) (x + 2 ^ (n * w) * c) ≡ fields w n x ++ c ∷ []
fields-push w n x c h below =
    let size : length (fields w n x) ≡ n = length-fields w n x in
    let more : length (fields w n x ++ c ∷ []) ≡ n + 1 = length-append (fields w n x) (c ∷ []) ∙ ap (λ (k : ℕ). k + 1) size in
    let number : joined w (fields w n x ++ c ∷ []) ≡ x + 2 ^ (n * w) * c =
    joined-append w (fields w n x) c ∙ ap (λ (k : ℕ). joined w (fields w n x) + 2 ^ (k * w) * c) size ∙ ap (λ (k : ℕ). k + 2 ^ (n * w) * c) (joined-fields w n x h) in
    ap (λ (k : ℕ). fields w k (x + 2 ^ (n * w) * c)) (sym more)
    ∙ ap (λ (k : ℕ). fields w (length (fields w n x ++ c ∷ [])) k) (sym number)
    ∙ fields-joined w (fields w n x ++ c ∷ []) (AllBelow-append (2 ^ w) (fields w n x) (c ∷ []) (AllBelow-fields w n x) (below, tt))

-- a number with one more field fits
pub fields-fit : (w n x c : ℕ) → x < 2 ^ (n * w) → c < 2 ^ w → x + 2 ^ (n * w) * c < 2 ^ ((n + 1) * w)
fields-fit w n x c h below =
    let number : joined w (fields w n x ++ c ∷ []) ≡ x + 2 ^ (n * w) * c =
    joined-append w (fields w n x) c ∙ ap (λ (k : ℕ). joined w (fields w n x) + 2 ^ (k * w) * c) (length-fields w n x) ∙ ap (λ (k : ℕ). k + 2 ^ (n * w) * c) (joined-fields w n x h) in
    let more : length (fields w n x ++ c ∷ []) ≡ n + 1 = length-append (fields w n x) (c ∷ []) ∙ ap (λ (k : ℕ). k + 1) (length-fields w n x) in
    let small = joined-below w (fields w n x ++ c ∷ []) (AllBelow-append (2 ^ w) (fields w n x) (c ∷ []) (AllBelow-fields w n x) (below, tt)) in
    subst (λ (k : ℕ). k < 2 ^ ((n + 1) * w)) number (subst (λ (k : ℕ). joined w (fields w n x ++ c ∷ []) < 2 ^ (k * w)) more small)

-- the bytes of a number's fields
pub packed_bytes-number : (w n x : ℕ) → x < 2 ^ (n * w) → packed_bytes w (fields w n x) ≡ bytes_of (byte_count (n * w)) x
packed_bytes-number w n x h = rw (length-fields w n x, joined-fields w n x h) refl

-- bytes that begin with a list's bytes are read as that list
pub packed_bytes-unique : (w : ℕ) (codes others rest bytes : List ℕ) → AllBelow (2 ^ w) codes → AllBelow (2 ^ w) others → length codes ≡ length others
    → take (byte_count (length codes * w)) bytes ≡ packed_bytes w codes → bytes ≡ packed_bytes w others ++ rest → codes ≡ others
packed_bytes-unique w codes others rest bytes h k e read is =
    let front = number_of-front w others rest bytes k is in
    let size : byte_count (length codes * w) ≡ byte_count (length others * w) = ap (λ (n : ℕ). byte_count (n * w)) e in
    let number : joined w codes ≡ joined w others =
    sym (number_of-packed_bytes w codes h) ∙ ap (λ (l : List ℕ). number_of l) (sym read) ∙ ap (λ (n : ℕ). number_of (take n bytes)) size ∙ front.1 in
    sym (fields-joined w codes h) ∙ ap (λ (n : ℕ). fields w n (joined w codes)) e ∙ ap (λ (x : ℕ). fields w (length others) x) number ∙ fields-joined w others k
