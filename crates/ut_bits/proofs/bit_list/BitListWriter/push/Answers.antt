use Rattle.std.proofs.Common.{◌≡◌, ℕ, ◌+◌, ◌*◌, ◌^◌, ◌<◌, ◌++◌, [], ◌∷◌, length, arith, ap, sym, subst, ◌∙◌}
use Rattle.ut_bits.specs.Bits.{fields}
use Rattle.ut_bits.proofs.BitLemmas.{length-fields}
use Rattle.ut_bits.proofs.ListLemmas.{fields-push, fields-fit}
use Rattle.ut_bits.proofs.bit_list.BitListWriter.push.Goals as goal

pub invariant_of-self-2 : goal.invariant_of-self-2
invariant_of-self-2 c =
    let small : c.args.code < 2 ^ c.self.inside.width = subst (λ v. c.args.code < 2 ^ v.width) (sym c.self.view_is) c.requires.below in
    let number : c.put.new.self.number ≡ c.self.inside.bits.number + 2 ^ (c.self.inside.len * c.self.inside.width) * c.args.code =
    c.in_ok-put.ensures.number ∙ ap (λ (k : ℕ). c.self.inside.bits.number + 2 ^ k * c.args.code) c.self.invariant.2 in
    let seen : length (fields c.self.inside.width c.self.inside.len c.self.inside.bits.number) < 2 ^ 31 = subst (λ v. length v.codes < 2 ^ 31) (sym c.self.view_is) c.requires.room in
    let room : c.self.inside.len < 2 ^ 31 = subst (λ (n : ℕ). n < 2 ^ 31) (length-fields _ _ _) seen in
    let count : c.self.inside.len * c.self.inside.width + c.self.inside.width ≡ (c.self.inside.len + 1) * c.self.inside.width = grind arith in (
      c.self.invariant.0,
      omega arith,
      c.in_ok-put.ensures.count ∙ ap (λ (k : ℕ). k + c.self.inside.width) c.self.invariant.2 ∙ count,
      subst (λ (k : ℕ). k < 2 ^ ((c.self.inside.len + 1) * c.self.inside.width)) (sym number) (fields-fit c.self.inside.width c.self.inside.len c.self.inside.bits.number c.args.code c.self.invariant.3 small),
    )

pub returns-clause-ok : goal.returns-clause-ok
returns-clause-ok c =
    let small : c.args.code < 2 ^ c.self.inside.width = subst (λ v. c.args.code < 2 ^ v.width) (sym c.self.view_is) c.requires.below in
    let number : c.put.new.self.number ≡ c.self.inside.bits.number + 2 ^ (c.self.inside.len * c.self.inside.width) * c.args.code =
    c.in_ok-put.ensures.number ∙ ap (λ (k : ℕ). c.self.inside.bits.number + 2 ^ k * c.args.code) c.self.invariant.2 in
    ap (λ (x : ℕ). fields c.self.inside.width (c.self.inside.len + 1) x) number
    ∙ fields-push c.self.inside.width c.self.inside.len c.self.inside.bits.number c.args.code c.self.invariant.3 small
    ∙ ap (λ v. v.codes ++ c.args.code ∷ []) c.self.view_is
