use Rattle.std.proofs.Common.{◌<◌, ◌^◌, ℕ, List, length, sym, ◌∙◌, ap, subst, arith, true≢false}
use Rattle.std.specs.Bool.{◌==◌}
use Rattle.ut_image.specs.declared.drawn.Drawn.{Drawn}
use Rattle.ut_image.specs.Rules.{drawn_differ, ids_of, AreOwnIds}
use Rattle.ut_image.proofs.OneLemmas.{one_drawn}
use Rattle.ut_image.proofs.ImageLemmas.{tables_read, no_tables, more_behind, same_names, other_ids}
use Rattle.ut_image.proofs.image.image_from.Goals as goal

pub read_list-requires : goal.read_list-requires
read_list-requires c = one_drawn

pub returns-in_default-2-clause-none : goal.returns-in_default-2-clause-none
returns-in_default-2-clause-none c =
    let fits : c.in-Some.count < 2 ^ 32 = omega arith in
    no_tables c.args.next c.args.commits c.args.bytes.now c.in-Some.count c.in-Some.rest.now c.in-Some.ensures.found fits (rw c.in_default-2.is at c.in_ok-tables.ensures.none)

pub returns-then-not-is_empty-clause-none : goal.returns-then-not-is_empty-clause-none
returns-then-not-is_empty-clause-none c =
    let t = tables_read c.args.bytes.now c.in-Some.count c.in-Some.rest.now c.in-Some-2.tables c.in-Some-2.behind.now c.in-Some.ensures.found (omega arith) (rw c.in-Some-2.is at c.in_ok-tables.ensures.found) in
    more_behind c.args.next c.args.commits c.args.bytes.now c.in-Some.count c.in-Some.rest.now c.in-Some-2.tables c.in-Some-2.behind.now t
    (λ none. true≢false (sym (c.is_empty.ensures ∙ ap (λ (l : List ℕ). length l == 0) none) ∙ c.if-not-is_empty.true))

pub returns-then-not-drawn_differ-clause-none : goal.returns-then-not-drawn_differ-clause-none
returns-then-not-drawn_differ-clause-none c =
    let t = tables_read c.args.bytes.now c.in-Some.count c.in-Some.rest.now c.in-Some-2.tables c.in-Some-2.behind.now c.in-Some.ensures.found (omega arith) (rw c.in-Some-2.is at c.in_ok-tables.ensures.found) in
    same_names c.args.next c.args.commits c.args.bytes.now c.in-Some.count c.in-Some.rest.now c.in-Some-2.tables c.in-Some-2.behind.now t
    (ap drawn_differ (sym c.as_slice.ensures) ∙ sym c.drawn_differ.ensures ∙ c.if-not-drawn_differ.true)

pub returns-then-not-branch-clause-none : goal.returns-then-not-branch-clause-none
returns-then-not-branch-clause-none c =
    let t = tables_read c.args.bytes.now c.in-Some.count c.in-Some.rest.now c.in-Some-2.tables c.in-Some-2.behind.now c.in-Some.ensures.found (omega arith) (rw c.in-Some-2.is at c.in_ok-tables.ensures.found) in
    other_ids c.args.next c.args.commits c.args.bytes.now c.in-Some.count c.in-Some.rest.now c.in-Some-2.tables c.in-Some-2.behind.now t
    (λ right. true≢false (sym (c.in_ok-have_own_ids.ensures.1 (subst (λ (ds : List Drawn). AreOwnIds c.args.next (ids_of ds)) (sym c.as_slice-2.ensures) right)) ∙ c.if-not-branch.true))
