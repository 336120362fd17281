-- Marks and their bytes.
use Rattle.std.proofs.Common.{◌≡◌, ℕ, zero, suc, ◌+◌, ◌*◌, ◌/◌, ◌%◌, ◌^◌, ◌<◌, Bool, true, false, cond, List, [], ◌∷◌, ◌++◌, length, get_or, take, drop, map, refl, sym, ◌∙◌, ap, append_assoc, arith, nat_eq, length-append}
use Rattle.std.specs.List.{range_with_len}
use Rattle.std.proofs.lemmas.Nat.{shr-shr}
use Rattle.std.proofs.lemmas.List.{get_or-drop, get_or-take, length-drop, length-take, take-append-drop}
use Rattle.std.proofs.lemmas.List.FromFn.{length-map-range_with_len, get_or-map-range_with_len, map-range_with_len_more, fill_by_all}
use Rattle.ut_value.proofs.OneSpelling.{same_front}
use Rattle.ut_image.specs.Bytes.{mark_byte, mark_bytes, marks_len}
use Rattle.ut_image.specs.Steps.{bit_in, first_bits}

-- a list of one more
pub one_more : {X : Type 0} (f : ℕ → X) (n : ℕ) (front xs new : List X) (x : X) → xs ≡ front ++ map f (range_with_len 0 n) → new ≡ xs ++ x ∷ [] → x ≡ f n → new ≡ front ++ map f (range_with_len 0 (n + 1))
one_more f n front xs new x so_far pushed is =
    pushed
    ∙ ap (λ l. l ++ x ∷ []) so_far
    ∙ append_assoc front (map f (range_with_len 0 n)) (x ∷ [])
    ∙ ap (λ y. front ++ (map f (range_with_len 0 n) ++ y ∷ [])) is
    ∙ ap (λ l. front ++ l) (sym (map-range_with_len_more f 0 n n (omega arith)))

-- ---- bytes of marks

pub length-mark_bytes : (marks : List Bool) → length (mark_bytes marks) ≡ marks_len (length marks)
unfolding mark_bytes
length-mark_bytes marks = length-map-range_with_len (λ k. mark_byte (take 8 (drop (8 * k) marks))) 0 (marks_len (length marks))

pub byte-of : (marks : List Bool) (k : ℕ) → k < marks_len (length marks) → get_or (mark_bytes marks) k 0 ≡ mark_byte (take 8 (drop (8 * k) marks))
unfolding mark_bytes
byte-of marks k h = get_or-map-range_with_len (λ k. mark_byte (take 8 (drop (8 * k) marks))) 0 (marks_len (length marks)) k k 0 h (omega arith)

pub all_bytes : (marks : List Bool) (bytes : List ℕ) → length bytes ≡ marks_len (length marks) → ((k : ℕ) → k < length bytes → get_or bytes k 0 ≡ mark_byte (take 8 (drop (8 * k) marks))) → bytes ≡ mark_bytes marks
unfolding mark_bytes
all_bytes marks bytes len each =
    fill_by_all (λ k. mark_byte (take 8 (drop (8 * k) marks))) bytes (marks_len (length marks)) 0 len (λ k h. each k (omega (arith, len)))

-- ---- the marks of bytes

half : (mark : Bool) (n : ℕ) → (cond mark 1 0 + 2 * n) / 2 ≡ n
half true n = omega arith
half false n = omega arith

lowest : (mark : Bool) (n : ℕ) → nat_eq ((cond mark 1 0 + 2 * n) / 2 ^ 0 % 2) 1 ≡ mark
lowest true n = let e : (1 + 2 * n) / 1 % 2 ≡ 1 = omega arith in ap (λ b. nat_eq b 1) e
lowest false n = let e : (0 + 2 * n) / 1 % 2 ≡ 0 = omega arith in ap (λ b. nat_eq b 1) e

-- bit j of a byte of marks is mark j
bit-of : (marks : List Bool) (j : ℕ) (d : Bool) → j < length marks → nat_eq (mark_byte marks / 2 ^ j % 2) 1 ≡ get_or marks j d
bit-of [] j d h = absurd (omega arith)
bit-of (mark ∷ marks) zero d h = lowest mark (mark_byte marks)
bit-of (mark ∷ marks) (suc j) d h =
    let e : 1 + j ≡ suc j = omega arith
    in ap (λ k. nat_eq ((cond mark 1 0 + 2 * mark_byte marks) / 2 ^ k % 2) 1) (sym e)
    ∙ ap (λ n. nat_eq (n % 2) 1) (sym (shr-shr (cond mark 1 0 + 2 * mark_byte marks) 1 j))
    ∙ ap (λ n. nat_eq (n / 2 ^ j % 2) 1) (half mark (mark_byte marks))
    ∙ bit-of marks j d (omega arith)

-- mark i is bit i of the bytes
bit-of_marks : (marks : List Bool) (i : ℕ) → i < length marks → get_or marks i false ≡ bit_in (mark_bytes marks) i
bit-of_marks marks i h =
    let few : i / 8 < marks_len (length marks) = omega (arith, h) in
    let long : i % 8 < length (take 8 (drop (8 * (i / 8)) marks)) = omega (arith, h, length-take 8 (drop (8 * (i / 8)) marks), length-drop (8 * (i / 8)) marks) in
    let place : 8 * (i / 8) + i % 8 ≡ i = omega arith in
    ap (λ n. get_or marks n false) (sym place)
    ∙ sym (get_or-drop (8 * (i / 8)) marks (i % 8) false)
    ∙ sym (get_or-take 8 (drop (8 * (i / 8)) marks) (i % 8) false (omega arith))
    ∙ sym (bit-of (take 8 (drop (8 * (i / 8)) marks)) (i % 8) false long)
    ∙ ap (λ n. nat_eq (n / 2 ^ (i % 8) % 2) 1) (sym (byte-of marks (i / 8) few))

pub first_bits-mark_bytes : (marks : List Bool) (n : ℕ) → length marks ≡ n → first_bits n (mark_bytes marks) ≡ marks
unfolding first_bits
first_bits-mark_bytes marks n len = sym (fill_by_all (bit_in (mark_bytes marks)) marks n false len (λ i h. bit-of_marks marks i (omega (arith, h, len))))

pub length-first_bits : (n : ℕ) (bytes : List ℕ) → length (first_bits n bytes) ≡ n
unfolding first_bits
length-first_bits n bytes = length-map-range_with_len (bit_in bytes) 0 n

-- marks have one spelling
pub one_marks : (a b : List Bool) (x y : List ℕ) → length a ≡ length b → mark_bytes a ++ x ≡ mark_bytes b ++ y → (a ≡ b) × (x ≡ y)
one_marks a b x y len same =
    let long : length (mark_bytes a) ≡ length (mark_bytes b) = length-mark_bytes a ∙ ap marks_len len ∙ sym (length-mark_bytes b)
    in let parts = same_front (mark_bytes a) (mark_bytes b) x y long same
    in (sym (first_bits-mark_bytes a (length a) refl) ∙ ap (first_bits (length a)) parts.0 ∙ first_bits-mark_bytes b (length a) (sym len), parts.1)

-- ---- marks that are read

pub no_marks : (count : ℕ) (bytes : List ℕ) → length bytes < marks_len count → (marks : List Bool) (rest : List ℕ) → length marks ≡ count → bytes ≡ mark_bytes marks ++ rest → ⊥
no_marks count bytes short marks rest len is = omega (arith, short, len, ap length is, length-append (mark_bytes marks) rest, length-mark_bytes marks)

-- bytes by two parts
pub parted : (n : ℕ) (bytes front rest : List ℕ) → front ≡ take n bytes → rest ≡ drop n bytes → bytes ≡ front ++ rest
parted n bytes front rest is_front is_rest = sym (take-append-drop n bytes) ∙ (λ i. sym is_front i ++ sym is_rest i)

-- so many marks, with the bytes that they were read from, which are as many as the marks' own
pub record AreFrom (count : ℕ) (bytes front rest : List ℕ) (marks : List Bool) : Type 0 where
  pub parts : bytes ≡ front ++ rest
  pub long : length front ≡ marks_len count
  pub is : marks ≡ first_bits count front

module _ (count : ℕ) (bytes front rest : List ℕ) (marks : List Bool) (h : AreFrom count bytes front rest marks) where
  pub marks_count : length marks ≡ count
  marks_count = ap length h.is ∙ length-first_bits count front

  pub marks_read : front ≡ mark_bytes marks → (length marks ≡ count) × (bytes ≡ mark_bytes marks ++ rest)
  marks_read spelled = (marks_count, h.parts ∙ ap (λ l. l ++ rest) spelled)

  pub other_marks : (front ≡ mark_bytes marks → ⊥) → (others : List Bool) (behind : List ℕ) → length others ≡ count → bytes ≡ mark_bytes others ++ behind → ⊥
  other_marks differ others behind len is =
      let both = same_front front (mark_bytes others) rest behind (h.long ∙ ap marks_len (sym len) ∙ sym (length-mark_bytes others)) (sym h.parts ∙ is) in
      let same : marks ≡ others = h.is ∙ ap (first_bits count) both.0 ∙ first_bits-mark_bytes others count len in
      differ (both.0 ∙ ap mark_bytes (sym same))
