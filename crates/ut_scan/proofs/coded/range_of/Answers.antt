use Rattle.std.proofs.Common.{◌∙◌, ◌+◌, ◌<◌, ◌++◌, ◌∷◌, [], Some, List, ℕ, length, refl, ap, sym, subst, arith}
use Rattle.std.specs.List.{Contains}
use Rattle.std.proofs.lemmas.Option.{slice_get_within}
use Rattle.ut_bits.specs.Places.{is_in}
use Rattle.ut_prefix.specs.Chain.{code_meets, end_to_end}
use Rattle.ut_scan.proofs.RangeLemmas.{absent-range, found-range}
use Rattle.ut_scan.proofs.coded.range_of.Goals as goal

pub overflow_add-code : goal.overflow_add-code
overflow_add-code g c =
    let lt : c.in-Some.code < length (end_to_end c.args.chain.now) = slice_get_within (end_to_end c.args.chain.now) c.in-Some.code c.as_slice.result.now c.in-Some.ensures.found in
    omega (arith, lt, c.requires.few)

pub returns-in_default-clause-exact : goal.returns-in_default-clause-exact
returns-in_default-clause-exact g c = λ code.
    let keys = end_to_end c.args.chain.now in
    let key = c.args.pred.now.key in
    ap (λ l. is_in l code) c.new.ensures.items
    ∙ absent-range keys key code (subst (λ (k : List ℕ). ¬ Contains keys k) c.as_slice.ensures.bytes (c.in_default.ensures.absent.0 refl))
    ∙ ap (λ op. code_meets op key keys code) (sym c.requires.equality)

pub returns-clause-exact : goal.returns-clause-exact
returns-clause-exact g c = λ code.
    let keys = end_to_end c.args.chain.now in
    let key = c.args.pred.now.key in
    let k = c.in-Some.code in
    ap (λ l. is_in l code) (c.in_ok-push.ensures.items ∙ ap (λ l. l ++ (k, k + 1) ∷ []) c.new-ranges.ensures.items)
    ∙ found-range keys key k code c.requires.distinct (c.in-Some.ensures.found ∙ ap (λ (b : List ℕ). Some b) c.as_slice.ensures.bytes)
    ∙ ap (λ op. code_meets op key keys code) (sym c.requires.equality)
