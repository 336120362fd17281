use Rattle.std.proofs.Common.{◌∙◌, ◌<◌, [], ◌∷◌, List, ℕ, length, sym, ap, subst, arith}
use Rattle.std.proofs.lemmas.List.{get_or_append_left}
use Rattle.ut_l2.specs.KeyRows.{KeyRow}
use Rattle.ut_main.specs.Parts.{MainValue, PartValue, AreWide}
use Rattle.ut_merge.specs.Places.{list_at}
use Rattle.ut_merge.proofs.GatherLemmas.{part-rows-are, part-wide}
use Rattle.ut_merge.proofs.olds.rows_in_list.Goals as goal

pub returns-then-list-parts-clause-wide : goal.returns-then-list-parts-clause-wide
returns-then-list-parts-clause-wide c =
    let job = c.args.job.now in
    let g = c.args.list in
    let main = c.main-then-list-parts.result.now in
    let part = c.deref.result.now in
    let lt : g < length job.parts = omega (arith, c.if-list-parts.true, c.parts.ensures.count, ap (λ (m : MainValue). length m.parts) c.main.ensures) in
    let before = ap (λ (p : PartValue). p.before) c.deref.ensures ∙ c.part.ensures.before in
    let rows = ap (λ (p : PartValue). p.rows) c.deref.ensures ∙ c.part.ensures.rows in
    let same = part-rows-are job 0 g main part c.main-then-list-parts.ensures before rows ∙ sym (get_or_append_left job.parts (job.closed ∷ []) [] g lt) in
    subst (λ (n : ℕ). AreWide n (list_at job g)) (part-wide job 0 g main part c.main-then-list-parts.ensures before rows)
    (subst (λ (l : List KeyRow). AreWide (length part.before) l) same c.len.ensures.wide)
