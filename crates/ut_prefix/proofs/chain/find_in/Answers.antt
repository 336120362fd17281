use Rattle.std.proofs.Common.{◌≡◌, ◌+◌, ◌<◌, [], ℕ, length, length-append, take, get_or, Some, arith, refl, sym, ap, ◌∙◌, subst, true, false}
use Rattle.std.specs.List.{slice_get, Contains}
use Rattle.std.proofs.lemmas.Option.{slice_get_within}
use Rattle.ut_prefix.specs.Chain.{shared_dicts, end_to_end}
use Rattle.ut_prefix.proofs.ChainLemmas.{dict_at, end_to_end-within, end_to_end-more, slice_get-end_to_end, steps-within, steps-more, absent-more, Contains-found}
use Rattle.ut_prefix.proofs.chain.find_in.Goals as goal

true_false : true ≡ false → ⊥
true_false e = cc

-- the dictionary that is asked
at : (g : _) (c : goal.In-Some g) → (c.loop-dict.dict-index < length (shared_dicts c.args.dicts.now)) × (c.deref.result.now ≡ get_or (shared_dicts c.args.dicts.now) c.loop-dict.dict-index [])
at g c = dict_at c.args.dicts.now c.loop-dict.dict-index c.dict-item.result c.deref.result.now c.loop-dict-test.true c.dict-item.is c.deref.ensures

next : (g : _) (c : goal.After-len-start g) → (c.loop-dict.dict-index < length (shared_dicts c.args.dicts.now)) × (c.deref.result.now ≡ get_or (shared_dicts c.args.dicts.now) c.loop-dict.dict-index [])
next g c = dict_at c.args.dicts.now c.loop-dict.dict-index c.dict-item.result c.deref.result.now c.loop-dict-test.true c.dict-item.is c.deref.ensures

pub overflow_add-result : goal.overflow_add-result
overflow_add-result g c =
    let within = slice_get_within c.deref.result.now c.in-Some.place c.args.key.now c.in-Some.ensures.found in
    let size = ap (λ l. length l) (at g c).1 in
    let all = end_to_end-within (shared_dicts c.args.dicts.now) c.loop-dict.dict-index (at g c).0 in
    omega (arith, within, size, all, c.loop-dict.invariant.0, c.requires)

found : (g : _) (c : goal.In-Some g) → slice_get (end_to_end (shared_dicts c.args.dicts.now)) (c.loop-dict.start + c.in-Some.place) ≡ Some c.args.key.now
found g c =
    ap (λ (k : ℕ). slice_get (end_to_end (shared_dicts c.args.dicts.now)) (k + c.in-Some.place)) c.loop-dict.invariant.0
    ∙ slice_get-end_to_end (shared_dicts c.args.dicts.now) c.loop-dict.dict-index c.in-Some.place c.args.key.now (at g c).0 (ap (λ l. slice_get l c.in-Some.place) (sym (at g c).1) ∙ c.in-Some.ensures.found)

pub returns-in-Some-clause-found : goal.returns-in-Some-clause-found
returns-in-Some-clause-found g c = found g c

pub returns-in-Some-clause-absent : goal.returns-in-Some-clause-absent
returns-in-Some-clause-absent g c =
    (λ e _. true_false e, λ none. absurd (none (Contains-found (end_to_end (shared_dicts c.args.dicts.now)) (c.loop-dict.start + c.in-Some.place) c.args.key.now (found g c))))

pub returns-in-Some-clause-cost : goal.returns-in-Some-clause-cost
returns-in-Some-clause-cost g c =
    steps-within (shared_dicts c.args.dicts.now) c.loop-dict.dict-index c.deref.result.now c.args.steps.now c.loop-dict.steps c.find.new.steps (at g c).0 (at g c).1 c.loop-dict.invariant.2 c.in-Some.ensures.cost

size : (g : _) (c : goal.After-len-start g) → c.len-start.result ≡ length (get_or (shared_dicts c.args.dicts.now) c.loop-dict.dict-index [])
size g c =
    c.len-start.ensures.len ∙ ap (λ l. length l) (dict_at c.args.dicts.now c.loop-dict.dict-index c.dict-item.result c.deref-in-None.result.now c.loop-dict-test.true c.dict-item.is c.deref-in-None.ensures).1

pub overflow_add-start : goal.overflow_add-start
overflow_add-start g c =
    let all = end_to_end-within (shared_dicts c.args.dicts.now) c.loop-dict.dict-index (next g c).0 in
    omega (arith, size g c, all, c.loop-dict.invariant.0, c.requires)

pub loop-dict-preserved : goal.loop-dict-preserved
loop-dict-preserved g c =
    let chain = shared_dicts c.args.dicts.now in
    let i = c.loop-dict.dict-index in (
      omega (arith, size g c, c.loop-dict.invariant.0, ap (λ l. length l) (end_to_end-more chain i (next g c).0), length-append (end_to_end (take i chain)) (get_or chain i [])),
      absent-more chain i c.args.key.now (next g c).0 c.loop-dict.invariant.1 (λ h. c.in-None.ensures.absent.0 refl (subst (λ l. Contains l c.args.key.now) (sym (next g c).1) h)),
      steps-more chain i c.deref.result.now c.args.steps.now c.loop-dict.steps c.find.new.steps (next g c).0 (next g c).1 c.loop-dict.invariant.2 c.in-None.ensures.cost,
    )
