use Rattle.std.proofs.Common.{◌≡◌, ◌+◌, ◌*◌, ◌%◌, ◌^◌, ◌<◌, ◌-◌, bit_or, bit_and, length, arith, ap, sym, subst, ◌∙◌, ℕ, List}
use Rattle.std.proofs.lemmas.Nat.{shr_below, and_mask}
use Rattle.ut_bits.specs.Bits.{number_of, AllBelow}
use Rattle.ut_bits.proofs.BitLemmas.{word-put, number_of-le_bytes_4, number_of-put, number_of-put_flush, pow-places, AllBelow-append, AllBelow-to_le_bytes_4}
use Rattle.ut_bits.proofs.bit_writer.BitWriter.put.Goals as goal

pub invariant_of-self-then-bits-ge32 : goal.invariant_of-self-then-bits-ge32
invariant_of-self-then-bits-ge32 c =
    let put = word-put c.from.result c.self.inside.bits c.self.inside.word c.args.width c.self.invariant.0 c.requires.width (omega arith) c.self.invariant.1 in
    let top : c.self.inside.bits + c.args.width ≡ c.self.inside.bits + c.from-2.result - 32 + 32 = omega arith in
    (omega arith, shr_below _ (c.self.inside.bits + c.from-2.result - 32) 32 (subst (λ (k : ℕ). bit_or (c.from.result * 2 ^ c.self.inside.bits % 2 ^ 64) c.self.inside.word < 2 ^ k) top put.1), subst (λ (l : List ℕ). AllBelow 256 l) (sym c.in_ok-extend_from_slice.ensures.items) (AllBelow-append 256 c.self.inside.bytes.items c.to_le_bytes.result c.self.invariant.2 (subst (λ (l : List ℕ). AllBelow 256 l) (sym c.to_le_bytes.ensures) (AllBelow-to_le_bytes_4 _))))

pub invariant_of-self-else-bits-ge32 : goal.invariant_of-self-else-bits-ge32
invariant_of-self-else-bits-ge32 c =
    let put = word-put c.from.result c.self.inside.bits c.self.inside.word c.args.width c.self.invariant.0 c.requires.width (omega arith) c.self.invariant.1 in
    let top : c.self.inside.bits + c.args.width ≡ c.self.inside.bits + c.from-2.result = omega arith in
    (omega arith, subst (λ (k : ℕ). bit_or (c.from.result * 2 ^ c.self.inside.bits % 2 ^ 64) c.self.inside.word < 2 ^ k) top put.1, c.self.invariant.2)

pub returns-in_ok-extend_from_slice-clause-number : goal.returns-in_ok-extend_from_slice-clause-number
returns-in_ok-extend_from_slice-clause-number c =
    let put = word-put c.from.result c.self.inside.bits c.self.inside.word c.args.width c.self.invariant.0 c.requires.width (omega arith) c.self.invariant.1 in
    let sum : bit_or (c.from.result * 2 ^ c.self.inside.bits % 2 ^ 64) c.self.inside.word ≡ c.self.inside.word + 2 ^ c.self.inside.bits * c.args.value = put.0 ∙ ap (λ (v : ℕ). c.self.inside.word + 2 ^ c.self.inside.bits * v) c.from.ensures in
    let mask : bit_and (bit_or (c.from.result * 2 ^ c.self.inside.bits % 2 ^ 64) c.self.inside.word) 4294967295 ≡ bit_or (c.from.result * 2 ^ c.self.inside.bits % 2 ^ 64) c.self.inside.word % 2 ^ 32 = and_mask _ 32 in
    let four : length c.to_le_bytes.result ≡ 4 = ap (λ xs. length xs) c.to_le_bytes.ensures in
    let low : number_of c.to_le_bytes.result ≡ bit_or (c.from.result * 2 ^ c.self.inside.bits % 2 ^ 64) c.self.inside.word % 2 ^ 32 =
    ap (λ xs. number_of xs) c.to_le_bytes.ensures ∙ number_of-le_bytes_4 (bit_and (bit_or (c.from.result * 2 ^ c.self.inside.bits % 2 ^ 64) c.self.inside.word) 4294967295) (omega arith) ∙ mask in
    rw (← c.self.view_is)
    (number_of-put_flush c.self.inside.bytes.items c.to_le_bytes.result c.extend_from_slice.new.self.items c.self.inside.bits c.args.value c.self.inside.word _ c.in_ok-extend_from_slice.ensures.items four low sum)

pub returns-else-bits-ge32-clause-number : goal.returns-else-bits-ge32-clause-number
returns-else-bits-ge32-clause-number c =
    let put = word-put c.from.result c.self.inside.bits c.self.inside.word c.args.width c.self.invariant.0 c.requires.width (omega arith) c.self.invariant.1 in
    let sum : bit_or (c.from.result * 2 ^ c.self.inside.bits % 2 ^ 64) c.self.inside.word ≡ c.self.inside.word + 2 ^ c.self.inside.bits * c.args.value = put.0 ∙ ap (λ (v : ℕ). c.self.inside.word + 2 ^ c.self.inside.bits * v) c.from.ensures in
    rw (← c.self.view_is)
    (number_of-put (number_of c.self.inside.bytes.items) (256 ^ length c.self.inside.bytes.items) (2 ^ (8 * length c.self.inside.bytes.items + c.self.inside.bits)) c.self.inside.bits c.args.value c.self.inside.word _ sum (pow-places (length c.self.inside.bytes.items) c.self.inside.bits))
