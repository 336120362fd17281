use Rattle.std.proofs.Common.{arith, eq-eqb, refl}
use borrow.Author.Tests.{eqb-true}
use Rattle.ut_bits.specs.Bits.{AllBelow}
use Rattle.ut_bits.proofs.BitLemmas.{AllBelow-from_places, unused-none, unused-zero, zero-unused}
use Rattle.ut_bits.proofs.bit_list.are_unused_bits_zero.Goals as goal

pub returns-then-used-eq0 : goal.returns-then-used-eq0
returns-then-used-eq0 c =
    let bytes : AllBelow 256 c.args.bytes.now = AllBelow-from_places 256 c.args.bytes.now (λ i. omega (arith, c.type_inv.bytes i)) in
    (λ _. unused-none c.args.bits c.args.bytes.now bytes c.requires (omega arith), λ _. refl)

pub returns : goal.returns
returns c =
    let bytes : AllBelow 256 c.args.bytes.now = AllBelow-from_places 256 c.args.bytes.now (λ i. omega (arith, c.type_inv.bytes i)) in
    (λ h. unused-zero c.args.bits c.args.bytes.now bytes c.requires (omega arith) (eqb-true _ _ h), λ h. eq-eqb _ 0 (zero-unused c.args.bits c.args.bytes.now c.requires (omega arith) h))
