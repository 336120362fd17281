use Rattle.std.proofs.Common.{◌≡◌, ◌*◌, ◌^◌, ◌<◌, ◌≤◌, ◌++◌, length, arith, ap, sym, subst, ◌∙◌, ℕ, take, [], ◌∷◌, IsTrue, false, refl}
use Rattle.ut_bits.specs.Bits.{number_of, byte_count, AllBelow}
use Rattle.ut_bits.proofs.BitLemmas.{length-fields, AllBelow-fields, number_of-front, joined-below, AllBelow-from_places, packed_bytes-fields, kept-length, kept-number, kept-below, kept-take}
use Rattle.ut_bits.proofs.bit_list.BitList.from_bytes.Goals as goal

false_true : IsTrue false → ⊥
false_true h = cc

pub returns-then-bytes-count-clause-none : goal.returns-then-bytes-count-clause-none
returns-then-bytes-count-clause-none c = λ codes rest rows below is.
    let front = number_of-front c.args.width codes rest c.args.bytes.now below is in
    let bits : length codes * c.args.width ≡ c.from.result * c.from-2.result = rw (rows, c.from.ensures, c.from-2.ensures) refl in
    let count : byte_count (length codes * c.args.width) ≡ byte_count (c.from.result * c.from-2.result) = ap (λ (k : ℕ). byte_count k) bits in
    omega (arith, front.0)

pub returns-then-not-are_unused_bits_zero-clause-none : goal.returns-then-not-are_unused_bits_zero-clause-none
returns-then-not-are_unused_bits_zero-clause-none c = λ codes rest rows below is.
    let front = number_of-front c.args.width codes rest c.args.bytes.now below is in
    let bits : length codes * c.args.width ≡ c.from.result * c.from-2.result = rw (rows, c.from.ensures, c.from-2.ensures) refl in
    let fits : number_of (take (byte_count (length codes * c.args.width)) c.args.bytes.now) < 2 ^ (length codes * c.args.width) = rw front.1 (joined-below c.args.width codes below) in
    let same : number_of (take (byte_count (c.from.result * c.from-2.result)) c.args.bytes.now) < 2 ^ (c.from.result * c.from-2.result) = subst (λ (k : ℕ). number_of (take (byte_count k) c.args.bytes.now) < 2 ^ k) bits fits in
    absurd (false_true (c.if-not-are_unused_bits_zero.ensures.1 same))

bits : (c : goal.In_ok-extend_from_slice-2) → c.from.result * c.from-2.result ≡ c.args.rows * c.args.width
bits c = rw (c.from.ensures, c.from-2.ensures) refl

fits : (c : goal.In_ok-extend_from_slice-2) → number_of (take (byte_count (c.args.rows * c.args.width)) c.args.bytes.now) < 2 ^ (c.args.rows * c.args.width)
fits c = subst (λ (k : ℕ). number_of (take (byte_count k) c.args.bytes.now) < 2 ^ k) (bits c) (c.if-not-are_unused_bits_zero.ensures.0 refl)

-- the bytes that are kept
kept : (c : goal.In_ok-extend_from_slice-2) → c.extend_from_slice-2.new.self.items ≡ take (byte_count (c.args.rows * c.args.width)) c.args.bytes.now ++ (0 ∷ 0 ∷ 0 ∷ 0 ∷ 0 ∷ 0 ∷ 0 ∷ 0 ∷ [])
kept c =
    c.in_ok-extend_from_slice-2.ensures.items
    ∙ ap (λ l. l ++ (0 ∷ 0 ∷ 0 ∷ 0 ∷ 0 ∷ 0 ∷ 0 ∷ 0 ∷ [])) (c.in_ok-extend_from_slice.ensures.items ∙ ap (λ l. l ++ take (byte_count (c.from.result * c.from-2.result)) c.args.bytes.now) c.in_ok-own.ensures.items ∙ ap (λ (k : ℕ). take (byte_count k) c.args.bytes.now) (bits c))

pub invariant_of-list : goal.invariant_of-list
invariant_of-list c =
    let bytes : AllBelow 256 c.args.bytes.now = AllBelow-from_places 256 c.args.bytes.now (λ i. omega (arith, c.type_inv.bytes i)) in
    let within : byte_count (c.args.rows * c.args.width) ≤ length c.args.bytes.now = subst (λ (k : ℕ). byte_count k ≤ length c.args.bytes.now) (bits c) c.if-bytes-count.false in
    (c.requires.width, c.requires.rows, kept-length _ _ _ within (kept c), subst (λ (k : ℕ). k < 2 ^ (c.args.rows * c.args.width)) (sym (kept-number _ _ _ (kept c))) (fits c), kept-below _ _ _ bytes (kept c))

pub returns-clause-spelled : goal.returns-clause-spelled
returns-clause-spelled c =
    let bytes : AllBelow 256 c.args.bytes.now = AllBelow-from_places 256 c.args.bytes.now (λ i. omega (arith, c.type_inv.bytes i)) in
    let within : byte_count (c.args.rows * c.args.width) ≤ length c.args.bytes.now = subst (λ (k : ℕ). byte_count k ≤ length c.args.bytes.now) (bits c) c.if-bytes-count.false in
    ap (λ (k : ℕ). take (byte_count k) c.args.bytes.now) (bits c)
    ∙ sym (kept-take _ _ _ within (kept c))
    ∙ sym (packed_bytes-fields c.args.width c.args.rows c.extend_from_slice-2.new.self.items (kept-below _ _ _ bytes (kept c)) (omega (arith, kept-length _ _ _ within (kept c))) (subst (λ (k : ℕ). k < 2 ^ (c.args.rows * c.args.width)) (sym (kept-number _ _ _ (kept c))) (fits c)))

pub returns-clause-read : goal.returns-clause-read
returns-clause-read c = record { within = c.if-bytes-count.false; width = refl; rows = length-fields _ _ _; below = AllBelow-fields _ _ _ }
