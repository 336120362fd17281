use Rattle.std.proofs.Common.{List, [], ◌∷◌, subst}
use Rattle.ut_value.specs.declared.value.Column.{Column}
use Rattle.ut_plain.specs.Compiled.{Compiles}
use Rattle.ut_table.proofs.FindsLemmas.{are-there}
use Rattle.check_table.proofs.found.find.Goals as goal

pub returns : goal.returns
returns g c =
    are-there c.args.table.now.stages _ _ _ _ c.in_ok-found.found.items
    (c.in_ok-found.ensures _ (subst (λ (columns : List Column). Compiles columns (c.args.pred.now ∷ []) (c.placed.result ∷ [])) c.columns.ensures c.placed.ensures))
