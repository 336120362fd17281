use Rattle.std.proofs.Common.{◌≡◌, ℕ, List, ◌<◌, length, get_or, [], true, false, arith, refl, sym, ◌∙◌, subst, below_more, ◌+◌}
use Rattle.std.specs.List.{Contains}
use Rattle.std.proofs.lemmas.List.{get_or_default}
use Rattle.ut_prefix.specs.Chain.{chain_steps, end_to_end}
use Rattle.ut_prefix.proofs.ChainLemmas.{Contains-found, LacksAll-take, steps_so_far, steps_in_all}
use Rattle.ut_prefix.proofs.chain.DictChain.lacks_all.Goals as goal

false_true : false ≡ true → ⊥
false_true e = cc

pub returns-in-Some-clause-lacks : goal.returns-in-Some-clause-lacks
returns-in-Some-clause-lacks g c =
    let asked : c.as_slice.result.now ≡ get_or c.args.dict.now c.loop-code.code [] = c.as_slice.ensures.bytes ∙ c.get.ensures.key in
    let held = Contains-found (end_to_end c.args.self.now) c.in-Some.field-0 c.as_slice.result.now c.in-Some.ensures.found in (
      λ e _ _ _. false_true e,
      λ lacks. absurd (lacks (get_or c.args.dict.now c.loop-code.code []) (c.loop-code.code, omega (arith, c.len-code-end.ensures.len, c.loop-code-test.true), in_dict c.args.dict.now c.loop-code.code (omega (arith, c.len-code-end.ensures.len, c.loop-code-test.true)))
          (subst (λ (l : List ℕ). Contains (end_to_end c.args.self.now) l) asked held)),
    )
  where
    in_dict : (keys : List (List ℕ)) (i : ℕ) → i < length keys → get_or keys i (get_or keys i []) ≡ get_or keys i []
    in_dict keys i lt = get_or_default keys i (get_or keys i []) [] lt

pub loop-code-preserved : goal.loop-code-preserved
loop-code-preserved g c =
    let asked : c.as_slice.result.now ≡ get_or c.args.dict.now c.loop-code.code [] = c.as_slice.ensures.bytes ∙ c.get.ensures.key in (
      below_more _ _ c.loop-code.invariant.0 (λ held. c.in-None.ensures.absent.0 refl (subst (λ (l : List ℕ). Contains (end_to_end c.args.self.now) l) (sym asked) held)),
      steps_so_far (chain_steps c.args.self.now) c.loop-code.code c.args.steps.now c.loop-code.steps c.get.new.steps c.find.new.steps c.loop-code.invariant.1 c.get.ensures.step c.in-None.ensures.cost,
    )

pub returns-clause-lacks : goal.returns-clause-lacks
returns-clause-lacks g c =
    (λ _. LacksAll-take c.args.self.now c.args.dict.now c.loop-code.code (omega (arith, c.len-code-end.ensures.len, c.loop-code-test.false)) c.loop-code.invariant.0, λ _. refl)

pub returns-in-Some-clause-cost : goal.returns-in-Some-clause-cost
returns-in-Some-clause-cost g c =
    steps_in_all (chain_steps c.args.self.now) (c.loop-code.code + 1) (length c.args.dict.now) c.args.steps.now c.find.new.steps (omega (arith, c.len-code-end.ensures.len, c.loop-code-test.true))
    (steps_so_far (chain_steps c.args.self.now) c.loop-code.code c.args.steps.now c.loop-code.steps c.get.new.steps c.find.new.steps c.loop-code.invariant.1 c.get.ensures.step c.in-Some.ensures.cost)

pub returns-clause-cost : goal.returns-clause-cost
returns-clause-cost g c =
    steps_in_all (chain_steps c.args.self.now) c.loop-code.code (length c.args.dict.now) c.args.steps.now c.loop-code.steps (omega (arith, c.len-code-end.ensures.len, c.loop-code.auto.code-end)) c.loop-code.invariant.1
