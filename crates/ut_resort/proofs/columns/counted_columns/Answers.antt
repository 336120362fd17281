use Rattle.std.proofs.Common.{◌≡◌, ◌∙◌, get_or, map, All, sym, ap, subst, arith, refl}
use Rattle.std.proofs.lemmas.List.Elements.{All-push}
use Rattle.ut_resort.specs.declared.columns.Counted.{Counted}
use Rattle.ut_resort.proofs.SortLemmas.{places-push}
use Rattle.ut_resort.proofs.columns.counted_columns.Goals as goal

pub loop-column-preserved : goal.loop-column-preserved
loop-column-preserved c =
    let distinct = c.args.distinct.now in
    let item : Counted = record { keys = get_or distinct c.loop-column.column 0; column = c.loop-column.column } in
    let one : item.keys ≡ get_or distinct item.column 0 = refl in (
      omega arith,
      ap (map (λ (p : Counted). p.column)) c.in_ok-push.ensures.items ∙ places-push (λ p. p.column) c.loop-column.all.items item c.loop-column.invariant.1,
      subst (All (λ (p : Counted). p.keys ≡ get_or distinct p.column 0)) (sym c.in_ok-push.ensures.items) (All-push (λ (p : Counted). p.keys ≡ get_or distinct p.column 0) c.loop-column.all.items item c.loop-column.invariant.2 one),
    )
