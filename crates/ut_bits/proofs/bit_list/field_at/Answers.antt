use Rattle.std.proofs.Common.{◌≡◌, ℕ, ◌*◌, ◌/◌, ◌%◌, ◌^◌, drop, arith, ap, ◌∙◌}
use Rattle.std.proofs.lemmas.Nat.{and_mask, one_shl}
use Rattle.std.proofs.lemmas.List.{length-drop}
use Rattle.ut_bits.proofs.BitLemmas.{AllBelow-from_places, AllBelow-drop, little_from-mod, number_of-drop, field_from_word, take-rest}
use Rattle.byteorder.specs.Endian.{little_from}
use Rattle.ut_bits.specs.Bits.{AllBelow, number_of}
use Rattle.ut_bits.proofs.bit_list.field_at.Goals as goal

pub returns : goal.returns
returns c =
    let bytes : AllBelow 256 c.args.bytes.now = AllBelow-from_places 256 c.args.bytes.now (λ i. omega (arith, c.type_inv.bytes i)) in
    let read : c.read_u64-word.result ≡ little_from 0 8 (drop (c.args.bit / 8) c.args.bytes.now) = c.read_u64-word.ensures ∙ ap (λ xs. little_from 0 8 xs) (take-rest (c.args.bit / 8) c.args.bytes.now) in
    let word : c.read_u64-word.result ≡ number_of c.args.bytes.now / 256 ^ (c.args.bit / 8) % 256 ^ 8 =
    read
    ∙ little_from-mod 8 (drop (c.args.bit / 8) c.args.bytes.now) (AllBelow-drop 256 (c.args.bit / 8) c.args.bytes.now bytes) (omega (arith, length-drop (c.args.bit / 8) c.args.bytes.now))
    ∙ ap (λ (x : ℕ). x % 256 ^ 8) (number_of-drop (c.args.bit / 8) c.args.bytes.now bytes) in
    let mask : 1 * 2 ^ c.args.width % 2 ^ 64 ≡ 2 ^ c.args.width = one_shl c.args.width 64 (omega arith) in
    rw (mask, and_mask (c.read_u64-word.result / 2 ^ (c.args.bit % 8)) c.args.width, word)
    (field_from_word (number_of c.args.bytes.now) c.args.bit c.args.width c.requires.width)
