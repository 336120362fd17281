use Rattle.std.proofs.Common.{◌≡◌, ◌∙◌, ◌<◌, List, ℕ, false, length, get_or, filter, All, sym, ap, subst, arith}
use Rattle.std.specs.List.{Contains}
use Rattle.std.proofs.lemmas.List.{take_all}
use Rattle.std.proofs.lemmas.List.Elements.{All-filter}
use Rattle.std.proofs.lemmas.List.FromFn.{length-range_with_len}
use Rattle.std.proofs.lemmas.List.Sorted.{length_permutation}
use Rattle.std.specs.List.{range_with_len}
use Rattle.ut_key.specs.Keys.{IsAscending}
use Rattle.ut_unsorted.specs.FirstSeen.{keys_at}
use Rattle.ut_merge.proofs.SeekLemmas.{ascending-filter, filter-exactly, filter-few, permuted-within}
use Rattle.ut_merge.proofs.seeking.new_codes.Goals as goal

pub bounds-new-code : goal.bounds-new-code
bounds-new-code c =
    let all = permuted-within (length c.args.closed.now) c.in_ok-order.order.items c.in_ok-order.ensures.all in
    let low = subst (All (λ x. x < length c.args.closed.now)) (sym c.as_slice-code-items.ensures.value) all c.loop-code.code-index 0 c.loop-code-test.true in
    omega (arith, low, c.requires.flags)

-- the codes are those of the order that are new
done : (c : goal.After-drop-order-2) → c.loop-code.codes.items ≡ filter (λ code. get_or c.args.new.now code false) c.in_ok-order.order.items
done c =
    c.loop-code.invariant
    ∙ ap (λ (l : List ℕ). filter (λ code. get_or c.args.new.now code false) l) (take_all c.loop-code.code-index c.as_slice-code-items.result.now c.loop-code-test.false ∙ c.as_slice-code-items.ensures.value)

pub returns-clause-within : goal.returns-clause-within
returns-clause-within c =
    subst (All (λ x. x < length c.args.closed.now)) (sym (done c))
    (All-filter (λ code. get_or c.args.new.now code false) (λ x. x < length c.args.closed.now) c.in_ok-order.order.items (permuted-within (length c.args.closed.now) c.in_ok-order.order.items c.in_ok-order.ensures.all))

pub returns-clause-exactly : goal.returns-clause-exactly
returns-clause-exactly c code lt =
    let r = filter-exactly (length c.args.closed.now) (λ x. get_or c.args.new.now x false) c.in_ok-order.order.items c.in_ok-order.ensures.all code lt in
    (λ there. r.0 (subst (λ (l : List ℕ). Contains l code) (done c) there), λ new. subst (λ (l : List ℕ). Contains l code) (sym (done c)) (r.1 new))

pub returns-clause-ascending : goal.returns-clause-ascending
returns-clause-ascending c =
    subst (λ (l : List ℕ). IsAscending (keys_at c.args.closed.now l)) (sym (done c))
    (ascending-filter c.args.closed.now (λ code. get_or c.args.new.now code false) c.in_ok-order.order.items c.in_ok-order.ensures.ascending)

pub returns-clause-few : goal.returns-clause-few
returns-clause-few c =
    let few = filter-few (λ code. get_or c.args.new.now code false) c.in_ok-order.order.items in
    let size = length_permutation (range_with_len 0 (length c.args.closed.now)) c.in_ok-order.order.items c.in_ok-order.ensures.all in
    omega (arith, few, size, length-range_with_len 0 (length c.args.closed.now), ap (λ (l : List ℕ). length l) (done c))
