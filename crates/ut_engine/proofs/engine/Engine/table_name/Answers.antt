use Rattle.std.proofs.Common.{◌≡◌, ◌<◌, ℕ, List, Some, Bor, sym, ◌∙◌, ap, subst, length, slice_get}
use Rattle.std.specs.Option.{option_map}
use Rattle.ut_plain.specs.declared.table.Table.{Table}
use Rattle.ut_tables.specs.Rows.{Rows}
use Rattle.ut_engine.specs.Lent.{Lent}
use Rattle.ut_engine.specs.Tables.{IsTableName, name_at}
use Rattle.ut_engine.proofs.TableLemmas.{item_some}
use Rattle.ut_engine.proofs.engine.Engine.table_name.Goals as goal

pub unwrap-requires : goal.unwrap-requires
unwrap-requires g c =
    let within = subst (λ (x : Lent g.row.D.Denot). c.args.place < length x.store.store.rows.tables) (sym c.self.view_is) c.requires.there in
    item_some (λ (name : Bor (List ℕ)). name.now) (λ (t : Table). t.name) c.self.inside.store.store.rows.tables c.args.place c.table_name.result within (c.table_name.ensures ∙ ap (λ (r : Rows). option_map (λ (t : Table). t.name) (slice_get r.tables c.args.place)) c.all_rows.ensures)

pub returns : goal.returns
returns g c =
    let is = sym (c.table_name.ensures ∙ ap (λ (r : Rows). option_map (λ (t : Table). t.name) (slice_get r.tables c.args.place)) c.all_rows.ensures) ∙ ap (option_map (λ (name : Bor (List ℕ)). name.now)) c.unwrap.ensures in
    subst (λ (x : Lent g.row.D.Denot). IsTableName x.store.store c.args.place c.unwrap.result.now) c.self.view_is
    (record { held = is; plain = λ p stands. subst (λ (ts : List Table). name_at ts c.args.place ≡ Some c.unwrap.result.now) stands.counts.tables is })
