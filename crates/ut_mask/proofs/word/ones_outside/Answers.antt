use Rattle.std.proofs.Common.{◌≡◌, ℕ, ◌+◌, ◌-◌, ◌^◌, ◌≤◌, ap, arith}
use Rattle.std.proofs.Math.Pow.{pow_mono}
use Rattle.ut_mask.proofs.BitLemmas.{word_bits-outside}
use Rattle.ut_mask.proofs.word.ones_outside.Goals as goal

powers : (a b : ℕ) → a ≤ b → 2 ^ a ≤ 2 ^ b
powers a b h = pow_mono h

pub overflow_add-result : goal.overflow_add-result
overflow_add-result c = omega (arith, c.ones.ensures, c.ones-2.ensures, powers c.args.from c.args.to c.requires.order, powers c.args.to 64 c.requires.within)

pub returns : goal.returns
returns c =
    let sum : c.args.from + (c.args.to - c.args.from) ≡ c.args.to = omega (arith, c.requires.order) in
    let same = ap (λ (k : ℕ). 2 ^ k) sum in
    word_bits-outside c.args.from (c.args.to - c.args.from) (64 - c.args.to) _ (omega (arith, c.requires.order, c.requires.within))
    (omega (arith, same, c.ones.ensures, c.ones-2.ensures, powers c.args.from c.args.to c.requires.order, powers c.args.to 64 c.requires.within))
