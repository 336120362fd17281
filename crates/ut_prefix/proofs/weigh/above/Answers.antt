use Rattle.std.proofs.Common.{◌≡◌, ℤ, ◌∙◌, refl, sym, subst, arith}
use Rattle.std.proofs.lemmas.Int.{ints}
use Rattle.ut_prefix.specs.Totals.{IsWithin}
use Rattle.ut_prefix.proofs.AboveLemmas.{above-is}
use Rattle.ut_prefix.proofs.weigh.above.Goals as goal

pub returns-clause-value : goal.returns-clause-value
returns-clause-value c =
    let within = c.number_of.ensures.within in
    let is : c.from-4.result ≡ c.number_of.result = omega (arith, ints) in
    (above-is c.args.weight c.args.usual c.args.key.now c.from-3.result c.from-4.result _ (omega arith) (omega arith) (omega (arith, ints)) (is ∙ c.number_of.ensures.value) (subst (λ (z : ℤ). IsWithin 9223372036854775808 1 z) (sym is) c.number_of.ensures.within) refl).0

pub returns-clause-within : goal.returns-clause-within
returns-clause-within c =
    let within = c.number_of.ensures.within in
    let is : c.from-4.result ≡ c.number_of.result = omega (arith, ints) in
    (above-is c.args.weight c.args.usual c.args.key.now c.from-3.result c.from-4.result _ (omega arith) (omega arith) (omega (arith, ints)) (is ∙ c.number_of.ensures.value) (subst (λ (z : ℤ). IsWithin 9223372036854775808 1 z) (sym is) c.number_of.ensures.within) refl).1
