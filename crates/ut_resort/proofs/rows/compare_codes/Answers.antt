use Rattle.std.proofs.Common.{◌+◌, drop, sym, ◌∙◌}
use Rattle.std.specs.Ordering.{nat_cmp, ordering_then}
use Rattle.ut_resort.specs.Sorting.{codes_cmp, lists_now}
use Rattle.ut_resort.proofs.PackLemmas.{codes_cmp-at}
use Rattle.ut_resort.proofs.rows.compare_codes.Goals as goal

pub returns-in-Less : goal.returns-in-Less
returns-in-Less c =
    let rest = codes_cmp (drop (c.loop-codes.codes-index + 1) (lists_now c.args.lists.now)) c.args.a c.args.b in
    let told = c.in-Less.ensures ∙ (λ j. nat_cmp (c.code_of.ensures j) (c.code_of-in-loop-codes.ensures j)) in
    (λ j. ordering_then (told j) rest) ∙ sym (codes_cmp-at c.args.lists.now c.loop-codes.codes-index c.args.a c.args.b _ c.loop-codes-test.true) ∙ sym c.loop-codes.invariant

pub returns-in-Greater : goal.returns-in-Greater
returns-in-Greater c =
    let rest = codes_cmp (drop (c.loop-codes.codes-index + 1) (lists_now c.args.lists.now)) c.args.a c.args.b in
    let told = c.in-Greater.ensures ∙ (λ j. nat_cmp (c.code_of.ensures j) (c.code_of-in-loop-codes.ensures j)) in
    (λ j. ordering_then (told j) rest) ∙ sym (codes_cmp-at c.args.lists.now c.loop-codes.codes-index c.args.a c.args.b _ c.loop-codes-test.true) ∙ sym c.loop-codes.invariant

pub loop-codes-preserved : goal.loop-codes-preserved
loop-codes-preserved c =
    let rest = codes_cmp (drop (c.loop-codes.codes-index + 1) (lists_now c.args.lists.now)) c.args.a c.args.b in
    let told = c.in-Equal.ensures ∙ (λ j. nat_cmp (c.code_of.ensures j) (c.code_of-in-loop-codes.ensures j)) in
    c.loop-codes.invariant ∙ codes_cmp-at c.args.lists.now c.loop-codes.codes-index c.args.a c.args.b _ c.loop-codes-test.true ∙ sym (λ j. ordering_then (told j) rest)
