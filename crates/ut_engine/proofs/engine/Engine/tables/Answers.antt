use Rattle.std.proofs.Common.{◌∙◌, ap, length, subst}
use Rattle.ut_tables.specs.Rows.{Rows}
use Rattle.ut_engine.specs.Lent.{Lent}
use Rattle.ut_engine.specs.Tables.{IsTableCount}
use Rattle.ut_engine.proofs.engine.Engine.tables.Goals as goal

pub returns : goal.returns
returns g c =
    subst (λ (x : Lent g.row.D.Denot). IsTableCount x.store.store c.table_count.result) c.self.view_is
    (record { held = c.table_count.ensures ∙ ap (λ (r : Rows). length r.tables) c.all_rows.ensures; plain = λ p stands. c.table_count.ensures ∙ ap (λ (r : Rows). length r.tables) c.all_rows.ensures ∙ ap length stands.counts.tables })
