use Rattle.std.proofs.Common.{◌≡◌, ℕ, ◌^◌, sym, ap, subst, ◌∙◌, arith, eq-eqb}
use Rattle.std.proofs.lemmas.Bool.{lt-ltb}
use borrow.Author.Tests.{eqb-true}
use Rattle.ut_bits.specs.Bits.{AllBelow}
use Rattle.ut_sparse.proofs.SparseLemmas.{AllBelow-weaker}
use Rattle.ut_codes.proofs.FormLemmas.{form-none, none-below, below-none}
use Rattle.ut_codes.proofs.reading.is_packed_least.Goals as goal

pub returns-then-reach-gt0 : goal.returns-then-reach-gt0
returns-then-reach-gt0 c =
    let zero-width = sym c.width-width.ensures.width ∙ c.if-width-eq0.true in
    let one : 2 ^ c.args.vector.now.width ≡ 1 = ap (λ (w : ℕ). 2 ^ w) zero-width in (
      λ _. (AllBelow-weaker _ c.args.reach c.args.vector.now.codes c.requires.below (omega (arith, one)), form-none c.args.vector.now.codes c.args.reach (sym c.requires.width ∙ zero-width)),
      λ _. lt-ltb 0 c.args.reach (omega arith),
    )

pub returns-else-reach-gt0 : goal.returns-else-reach-gt0
returns-else-reach-gt0 c =
    let zero-width = sym c.width-width.ensures.width ∙ c.if-width-eq0.true in
    let none : c.args.reach ≡ 0 = omega arith in (
      λ h. (none-below c.args.reach c.args.vector.now.codes (sym c.len.ensures.len ∙ eqb-true _ _ h), form-none c.args.vector.now.codes c.args.reach (sym c.requires.width ∙ zero-width)),
      λ k. eq-eqb _ 0 (c.len.ensures.len ∙ below-none c.args.vector.now.codes (subst (λ (n : ℕ). AllBelow n c.args.vector.now.codes) none k.0)),
    )
