use Rattle.std.proofs.Common.{◌≡◌, ◌+ℤ◌, ◌≤ℤ◌, ℤ, negsuc, pos, [], sym, ◌∙◌, subst}
use Rattle.std.specs.Vec.Iter.{into_iter_items}
use Rattle.std.proofs.lemmas.List.Elements.{All-head}
use Rattle.ut_ops.specs.Gathered.{IsWithin}
use Rattle.ut_ops.specs.Tally.{sum_of, added}
use Rattle.ut_ops.proofs.GatherLemmas.{IsUnited, sum-held, united-none, united-more, united-fits}
use Rattle.ut_ops.proofs.groups.united.Goals as goal

pub loop-key-init : goal.loop-key-init
loop-key-init c =
    subst (λ es. IsUnited c.args.gathered.items (into_iter_items c.into_iter-key-iterator.result) es) (sym c.new-sums.ensures.empty)
    (subst (λ xs. IsUnited c.args.gathered.items xs []) (sym c.into_iter-key-iterator.ensures.into_iter_gives.0) (united-none c.args.gathered.items c.requires))

pub add-requires-clause-low : goal.add-requires-clause-low
add-requires-clause-low c =
    let g = c.in-Some.field-0 in
    let all = subst (λ xs. IsUnited c.args.gathered.items xs c.loop-key.sums.entries) c.in-Some.ensures.steps.0 c.loop-key.invariant in
    let same = sum-held g (All-head (IsWithin 2147483648) g (into_iter_items c.next.new.self) all.small) in
    let key : g.key ≡ c.new.result = sym c.new.ensures in
    subst (λ (t : ℤ). negsuc 85070591730234615865843651857942052863 ≤ℤ t) (λ i. sym same i +ℤ sum_of (key i) c.loop-key.sums.entries)
    (united-fits c.args.gathered.items g (into_iter_items c.next.new.self) c.loop-key.sums.entries all).0

pub add-requires-clause-high : goal.add-requires-clause-high
add-requires-clause-high c =
    let g = c.in-Some.field-0 in
    let all = subst (λ xs. IsUnited c.args.gathered.items xs c.loop-key.sums.entries) c.in-Some.ensures.steps.0 c.loop-key.invariant in
    let same = sum-held g (All-head (IsWithin 2147483648) g (into_iter_items c.next.new.self) all.small) in
    let key : g.key ≡ c.new.result = sym c.new.ensures in
    subst (λ (t : ℤ). t ≤ℤ pos 85070591730234615865843651857942052864) (λ i. sym same i +ℤ sum_of (key i) c.loop-key.sums.entries)
    (united-fits c.args.gathered.items g (into_iter_items c.next.new.self) c.loop-key.sums.entries all).1

pub loop-key-preserved : goal.loop-key-preserved
loop-key-preserved c =
    let g = c.in-Some.field-0 in
    let all = subst (λ xs. IsUnited c.args.gathered.items xs c.loop-key.sums.entries) c.in-Some.ensures.steps.0 c.loop-key.invariant in
    let same = sum-held g (All-head (IsWithin 2147483648) g (into_iter_items c.next.new.self) all.small) in
    let key : g.key ≡ c.new.result = sym c.new.ensures in
    united-more c.args.gathered.items g (into_iter_items c.next.new.self) c.loop-key.sums.entries c.add.new.sums.entries all
    (c.in_ok-add.ensures ∙ (λ i. added (sym key i) (same i) c.loop-key.sums.entries))
