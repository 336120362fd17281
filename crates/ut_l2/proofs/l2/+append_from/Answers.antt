use Rattle.std.proofs.Common.{◌∙◌, ◌<◌, length, set, get_or, take, ap, rules}
use Rattle.std.proofs.lemmas.List.{get_or-set_same}
use Rattle.ut_l2.specs.Sources.{cells_in}
use Rattle.ut_l2.proofs.DeltaLemmas.{set-back}
use Rattle.ut_l2.proofs.l2.+append_from.Goals as goal

pub returns-in-Err-clause-err : goal.returns-in-Err-clause-err
returns-in-Err-clause-err t c =
    let cols = c.args.columns.now.items in
    let lt : c.args.first < length c.args.columns.now.items = search rules in
    let there = c.index_mut.ensures.value ∙ ap (λ l. get_or l c.args.first c.index_mut.result.now) c.in-Err.ensures.err ∙ get_or-set_same cols c.args.first c.append.new.self c.index_mut.result.now lt in
    ap (λ l. set l c.args.first c.cut.new.self) c.in-Err.ensures.err
    ∙ ap (set (set cols c.args.first c.append.new.self) c.args.first) (c.cut.ensures ∙ ap (take c.len-before.result) there ∙ ap (λ n. take n c.append.new.self) c.len-before.ensures.len)
    ∙ set-back cols c.args.first c.append.new.self (cells_in c.args.source c.args.first c.args.from c.args.n) c.index_mut-column.result.now c.index_mut-column.ensures.value c.in_ok-append.ensures.ok
