use Rattle.std.proofs.Common.{◌≡◌, ◌-◌, ℕ, get_or, [], arith, sym, ◌∙◌, subst, ap, inl, inr}
use Rattle.std.specs.declared.cmp.Ordering.TheVariants.{Less}
use Rattle.std.proofs.lemmas.Bool.{cases_lt}
use Rattle.std.proofs.lemmas.Cmp.{nat_list_cmp_total}
use Rattle.ut_key.specs.Keys.{key_cmp}
use Rattle.ut_key.proofs.key_list.is_ascending.Goals as goal

pub loop-i-preserved : goal.loop-i-preserved
loop-i-preserved c = λ p q lt up.
    let step : key_cmp (get_or c.args.keys.now (c.loop-i.i - 1) []) (get_or c.args.keys.now c.loop-i.i []) ≡ Less = sym c.compare_at.ensures ∙ c.in-Less.is in
    elim (cases_lt q c.loop-i.i) [
      | inl before ↦ c.loop-i.invariant p q lt before
      | inr here ↦
          let at : c.loop-i.i ≡ q = omega arith in
          subst (λ (n : ℕ). key_cmp (get_or c.args.keys.now p []) (get_or c.args.keys.now n []) ≡ Less) at
          (elim (cases_lt p (c.loop-i.i - 1)) [
            | inl far ↦ nat_list_cmp_total.trans (get_or c.args.keys.now p []) (get_or c.args.keys.now (c.loop-i.i - 1) []) (get_or c.args.keys.now c.loop-i.i []) (c.loop-i.invariant p (c.loop-i.i - 1) far (omega arith)) step
            | inr near ↦ let same : c.loop-i.i - 1 ≡ p = omega arith in ap (λ (n : ℕ). key_cmp (get_or c.args.keys.now n []) (get_or c.args.keys.now c.loop-i.i [])) (sym same) ∙ step
          ])
    ]
