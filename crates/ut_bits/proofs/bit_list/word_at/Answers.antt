use Rattle.std.proofs.Common.{ℕ, ◌/◌, ◌%◌, ◌^◌, drop, arith, ap, ◌∙◌}
use Rattle.std.proofs.lemmas.List.{length-drop}
use Rattle.byteorder.specs.Endian.{little_from}
use Rattle.ut_bits.specs.Bits.{AllBelow, number_of}
use Rattle.ut_bits.proofs.BitLemmas.{AllBelow-from_places, AllBelow-drop, little_from-mod, number_of-drop, take-rest, pow256}
use Rattle.ut_bits.proofs.bit_list.word_at.Goals as goal

pub returns : goal.returns
returns c =
    let bytes : AllBelow 256 c.args.bytes.now = AllBelow-from_places 256 c.args.bytes.now (λ i. omega (arith, c.type_inv.bytes i)) in
    c.read_u64.ensures
    ∙ ap (λ xs. little_from 0 8 xs) (take-rest c.args.at c.args.bytes.now)
    ∙ little_from-mod 8 (drop c.args.at c.args.bytes.now) (AllBelow-drop 256 c.args.at c.args.bytes.now bytes) (omega (arith, length-drop c.args.at c.args.bytes.now))
    ∙ ap (λ (x : ℕ). x % 256 ^ 8) (number_of-drop c.args.at c.args.bytes.now bytes)
    ∙ ap (λ (x : ℕ). number_of c.args.bytes.now / x % 2 ^ 64) (pow256 c.args.at)
