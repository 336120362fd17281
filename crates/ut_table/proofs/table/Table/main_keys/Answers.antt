use Rattle.std.proofs.Common.{◌≡◌, List, ℕ, IfOk, ap, sym, subst}
use Rattle.ut_main.specs.Parts.{MainValue}
use Rattle.ut_scan.specs.Coded.{keys_in}
use Rattle.ut_table.specs.Contents.{TableValue}
use Rattle.ut_table.proofs.CodedLemmas.{main-is}
use Rattle.ut_table.proofs.table.Table.main_keys.Goals as goal

pub returns : goal.returns
returns c =
    subst (λ (m : MainValue). IfOk c.main_keys.result (λ (keys : List (List ℕ)). keys ≡ keys_in m c.args.column)) (sym (main-is c.self.invariant (ap (λ (v : TableValue). v.stages) c.self.view_is)))
    c.main_keys.ensures
