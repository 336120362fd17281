use Rattle.std.proofs.Common.{◌≡◌, ℕ, ◌*◌, ◌%◌, ◌^◌, ◌<◌, ◌≤◌, subst, arith}
use Rattle.std.proofs.lemmas.Nat.{one_shl}
use Rattle.ut_codes.proofs.SizeLemmas.{width-is}
use Rattle.ut_codes.proofs.form.width_of.Goals as goal

pub returns-then-from-width-clause-width : goal.returns-then-from-width-clause-width
returns-then-from-width-clause-width c =
    let one : 1 * 2 ^ c.loop-width.width % 2 ^ 64 ≡ 2 ^ c.loop-width.width = one_shl c.loop-width.width 64 (omega arith) in
    let bound : c.args.reach ≤ 2 ^ c.loop-width.width = omega (arith, one, c.if-from-width.true, c.from.ensures) in
    width-is c.args.reach c.loop-width.width bound c.loop-width.invariant

pub returns-clause-width : goal.returns-clause-width
returns-clause-width c =
    let last : c.loop-width.width ≡ 32 = omega arith in
    width-is c.args.reach 32 (omega arith) (subst (λ (w : ℕ). (v : ℕ) → v < w → 2 ^ v < c.args.reach) last c.loop-width.invariant)
