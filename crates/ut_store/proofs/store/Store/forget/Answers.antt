use Rattle.std.proofs.Common.{IsTrue, refl, sym, ap, subst}
use Rattle.ut_stamps.specs.Stamps.{fate_at, is_running}
use Rattle.ut_tables.specs.Rows.{RowsValue}
use Rattle.ut_store.specs.Ending.{Forgotten}
use Rattle.ut_store.specs.Held.{Held}
use Rattle.ut_store.specs.contracts.store.Store.{the_view}
use Rattle.ut_store.proofs.store.Store.forget.Goals as goal

pub abort-requires : goal.abort-requires
abort-requires c = subst (λ (x : Held). IsTrue (is_running (fate_at x.rows.fates c.args.opened.number))) (sym c.self.view_is) c.requires.may

pub returns : goal.returns
returns c =
    subst (λ (x : Held). Forgotten x c.args.session c.args.opened (record (the_view c.self.inside) { rows = c.abort.new.self.rows; seats = c.close.new.self })) c.self.view_is (record {
      rows = ap (λ (v : RowsValue). v.rows) c.abort.ensures;
      seats = c.close.ensures;
      counts = refl;
    })
