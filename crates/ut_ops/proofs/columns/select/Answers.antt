use Rattle.std.proofs.Common.{◌<◌, sym, ap, ◌∙◌, map, subst, length}
use Rattle.std.specs.List.{All}
use Rattle.ut_ops.specs.Fit.{cell}
use Rattle.ut_names.specs.Resolved.{AreColumns}
use Rattle.ut_ops.specs.Named.{AreWithin}
use Rattle.ut_ops.proofs.NamedLemmas.{rows-whole, rows-picked}
use Rattle.ut_ops.proofs.columns.select.Goals as goal

pub some_columns-requires-clause-places : goal.some_columns-requires-clause-places
some_columns-requires-clause-places c =
    let columns = c.args.table.now.stages.columns in
    subst (All (λ place. place < length columns)) (sym c.as_slice.ensures.value) (subst (AreWithin columns) c.in-Named.is c.requires.places)

pub returns-in_ok-rows-in-All : goal.returns-in_ok-rows-in-All
returns-in_ok-rows-in-All c = λ n names named.
    let s = c.args.table.now.stages in
    c.in_ok-rows-in-All.ensures ∙ rows-whole n s names c.args.hits.now (subst (AreColumns s.columns names) c.in-All.is named)

pub returns-in_ok-rows-in-Named : goal.returns-in_ok-rows-in-Named
returns-in_ok-rows-in-Named c = λ n names named.
    let s = c.args.table.now.stages in
    c.in_ok-rows-in-Named.ensures ∙ ap (λ ps. map (λ f. map (λ place. cell s place f) ps) c.args.hits.now) c.as_slice.ensures.value
    ∙ rows-picked n s names c.in-Named.places c.args.hits.now c.requires.fit (subst (AreColumns s.columns names) c.in-Named.is named)
