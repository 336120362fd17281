use Rattle.std.proofs.Common.{◌∙◌, get_or, map, All, sym, ap, subst, arith, refl}
use Rattle.std.proofs.lemmas.List.Elements.{All-push}
use Rattle.ut_resort.specs.declared.rows.Keyed.{Keyed}
use Rattle.ut_resort.specs.Sorting.{IsKeyed}
use Rattle.ut_resort.proofs.SortLemmas.{places-push}
use Rattle.ut_resort.proofs.rows.keyed_rows.Goals as goal

pub loop-row-preserved : goal.loop-row-preserved
loop-row-preserved c =
    let keys = c.args.keys.now in
    let item : Keyed = record { key = get_or keys c.loop-row.row 0; row = c.loop-row.row } in
    let one : IsKeyed keys item = record { key = refl; within = c.loop-row-test.true } in (
      omega arith,
      ap (map (λ (p : Keyed). p.row)) c.in_ok-push.ensures.items ∙ places-push (λ p. p.row) c.loop-row.rows.items item c.loop-row.invariant.1,
      subst (All (IsKeyed keys)) (sym c.in_ok-push.ensures.items) (All-push (IsKeyed keys) c.loop-row.rows.items item c.loop-row.invariant.2 one),
    )
