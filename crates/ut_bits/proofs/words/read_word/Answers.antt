use Rattle.std.proofs.Common.{◌∙◌, arith}
use Rattle.ut_bits.specs.Bits.{AllBelow}
use Rattle.ut_bits.proofs.BitLemmas.{AllBelow-from_places}
use Rattle.ut_bits.proofs.WordLemmas.{little_from-word}
use Rattle.ut_bits.proofs.words.read_word.Goals as goal

pub returns : goal.returns
returns c =
    let bytes : AllBelow 256 c.args.bytes.now = AllBelow-from_places 256 c.args.bytes.now (λ i. omega (arith, c.type_inv.bytes i)) in
    c.read_u32.ensures ∙ little_from-word c.args.bytes.now bytes c.requires
