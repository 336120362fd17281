-- Ids as four bytes each, read and spelled.
use Rattle.std.proofs.Common.{◌≡◌, ℕ, zero, suc, ◌+◌, ◌*◌, ◌<◌, ◌≤◌, List, [], ◌∷◌, ◌++◌, length, take, drop, get_or, refl, sym, ◌∙◌, ap, arith}
use Rattle.std.proofs.lemmas.List.{append_assoc, drop-drop, take-append-drop, length-append, length-drop}
use Rattle.std.specs.List.{flat_map}
use Rattle.ut_bits.specs.Bits.{AllBelow}
use Rattle.ut_bits.specs.Words.{word_bytes, word_in}
use Rattle.ut_bits.proofs.BitLemmas.{AllBelow-drop}
use Rattle.ut_bits.proofs.WordLemmas.{length-word_bytes, word_in-word_bytes, drop-word_bytes, word_bytes-word_in}
use Rattle.ut_main.specs.Spelling.{id_bytes, AreIds}

fours : (i : ℕ) → suc i * 4 ≡ 4 + i * 4
fours i = omega arith

drop-fours : (i : ℕ) (bytes : List ℕ) → drop (suc i * 4) bytes ≡ drop (i * 4) (drop 4 bytes)
drop-fours i bytes = ap (λ n. drop n bytes) (fours i) ∙ sym (drop-drop (i * 4) 4 bytes)

-- the bytes of ids are read as these ids
word-at : (ids rest : List ℕ) (i : ℕ) → AreIds ids → i < length ids → word_in (drop (i * 4) (flat_map word_bytes ids ++ rest)) ≡ get_or ids i 0
word-at [] rest i h lt = absurd (omega (arith, lt))
word-at (x ∷ ids) rest zero h lt =
    let none : 0 * 4 ≡ 0 = refl in
    let range = h 0 0 (omega arith) in
    ap word_in (append_assoc (word_bytes x) (flat_map word_bytes ids) rest) ∙ word_in-word_bytes x (flat_map word_bytes ids ++ rest) (omega (arith, range.1))
word-at (x ∷ ids) rest (suc i) h lt =
    let more = word-at ids rest i (λ k d l. h (suc k) d (omega (arith, l))) (omega (arith, lt)) in
    ap word_in (drop-fours i ((word_bytes x ++ flat_map word_bytes ids) ++ rest))
    ∙ ap (λ (l : List ℕ). word_in (drop (i * 4) l)) (ap (λ (l : List ℕ). drop 4 l) (append_assoc (word_bytes x) (flat_map word_bytes ids) rest) ∙ drop-word_bytes x (flat_map word_bytes ids ++ rest))
    ∙ more

pub id-at : (ids rest bytes : List ℕ) (i : ℕ) → bytes ≡ flat_map word_bytes ids ++ rest → AreIds ids → i < length ids → (word_in (drop (i * 4) bytes) ≡ get_or ids i 0) × (1 ≤ get_or ids i 0) × (get_or ids i 0 ≤ 2147483648)
id-at ids rest bytes i e h lt =
    let range = h i 0 lt in
    (ap (λ (l : List ℕ). word_in (drop (i * 4) l)) e ∙ word-at ids rest i h lt, range.0, range.1)

-- ids that were read spell the bytes that they were read from
pub ids-spelled : (ids bytes : List ℕ) → AllBelow 256 bytes → length ids * 4 ≤ length bytes → ((k : ℕ) → k < length ids → get_or ids k 0 ≡ word_in (drop (k * 4) bytes)) → bytes ≡ flat_map word_bytes ids ++ drop (length ids * 4) bytes
ids-spelled [] bytes below le at = refl
ids-spelled (x ∷ ids) bytes below le at =
    let le4 : 4 ≤ length bytes = omega (arith, le, fours (length ids)) in
    let first : word_bytes x ≡ take 4 bytes = ap word_bytes (at 0 (omega arith)) ∙ word_bytes-word_in bytes below le4 in
    let rest = ids-spelled ids (drop 4 bytes) (AllBelow-drop 256 4 bytes below) (omega (arith, le, fours (length ids), length-drop 4 bytes))
    (λ k lt. at (suc k) (omega (arith, lt)) ∙ ap word_in (drop-fours k bytes)) in
    sym (take-append-drop 4 bytes) ∙ ap (λ (l : List ℕ). l ++ drop 4 bytes) (sym first) ∙ ap (λ (l : List ℕ). word_bytes x ++ l) rest
    ∙ sym (append_assoc (word_bytes x) (flat_map word_bytes ids) (drop (length ids * 4) (drop 4 bytes)))
    ∙ ap (λ (l : List ℕ). (word_bytes x ++ flat_map word_bytes ids) ++ l) (sym (drop-fours (length ids) bytes))

-- ---- the head

length-words : (ids : List ℕ) → length (flat_map word_bytes ids) ≡ length ids * 4
length-words [] = refl
length-words (x ∷ ids) = let e = length-append (word_bytes x) (flat_map word_bytes ids) in let w = length-word_bytes x in let m = length-words ids in omega (arith, e, w, m, fours (length ids))

-- the parts of bytes that begin with ids
pub head-of : (ids rest bytes : List ℕ) → length ids ≤ 2147483647 → bytes ≡ id_bytes ids ++ rest
    → (4 + length ids * 4 ≤ length bytes) × (word_in bytes ≡ length ids) × (drop 4 bytes ≡ flat_map word_bytes ids ++ rest)
head-of ids rest bytes few e =
    let split : bytes ≡ word_bytes (length ids) ++ (flat_map word_bytes ids ++ rest) = e ∙ append_assoc (word_bytes (length ids)) (flat_map word_bytes ids) rest in
    let size = ap length split in
    let a = length-append (word_bytes (length ids)) (flat_map word_bytes ids ++ rest) in
    let b = length-append (flat_map word_bytes ids) rest in
    let w = length-word_bytes (length ids) in
    let m = length-words ids in (
      omega (arith, size, a, b, w, m),
      ap word_in split ∙ word_in-word_bytes (length ids) (flat_map word_bytes ids ++ rest) (omega (arith, few)),
      ap (λ (l : List ℕ). drop 4 l) split ∙ drop-word_bytes (length ids) (flat_map word_bytes ids ++ rest),
    )

pub head-made : (ids rest bytes : List ℕ) → AllBelow 256 bytes → 4 ≤ length bytes → word_in bytes ≡ length ids → drop 4 bytes ≡ flat_map word_bytes ids ++ rest → bytes ≡ id_bytes ids ++ rest
head-made ids rest bytes below le count e =
    sym (take-append-drop 4 bytes) ∙ (λ i. sym (word_bytes-word_in bytes below le) i ++ e i)
    ∙ ap (λ n. word_bytes n ++ (flat_map word_bytes ids ++ rest)) count ∙ sym (append_assoc (word_bytes (length ids)) (flat_map word_bytes ids) rest)
