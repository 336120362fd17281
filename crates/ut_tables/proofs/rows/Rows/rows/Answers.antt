use Rattle.std.proofs.Common.{◌≡◌, ◌∙◌, List, [], Some, arith, map, refl, sym, ap, subst}
use Rattle.ut_plain.specs.Condition.{meets}
use Rattle.ut_plain.specs.Tables.{place_of}
use Rattle.ut_plain.specs.declared.table.Table.{Table}
use Rattle.ut_scan.specs.declared.place.Found.{Found}
use Rattle.ut_staged.specs.Staged.{Staged}
use Rattle.ut_table.specs.Finds.{AreThere}
use Rattle.ut_tables.specs.Finds.{row_in}
use Rattle.ut_tables.specs.Rows.{RowsValue}
use Rattle.ut_tables.specs.contracts.rows.Rows.{the_view}
use Rattle.ut_tables.proofs.IndexLemmas.{place_within, read_is}
use Rattle.ut_tables.proofs.FoundLemmas.{all_wanted, are_there}
use Rattle.ut_tables.proofs.rows.Rows.rows.Goals as goal

pub index-requires : goal.index-requires
index-requires c =
    let r = c.args.self.now.rows in
    let named : place_of r.tables c.args.name.now ≡ Some c.in-Some.place = sym (c.place_of.ensures ∙ ap (λ (ts : List Table). place_of ts c.args.name.now) (c.deref.ensures.value ∙ ap (λ (x : RowsValue). x.rows.tables) c.self.view_is)) ∙ c.in-Some.is in
    let t = c.requires c.in-Some.place named in
    let within = place_within (the_view c.self.inside) c.args.self.now c.self.inside.stages.items c.in-Some.place t.table c.self.view_is refl t.at in
    omega (arith, within)

pub rows_found-requires : goal.rows_found-requires
rows_found-requires c =
    let r = c.args.self.now.rows in
    let named : place_of r.tables c.args.name.now ≡ Some c.in-Some.place = sym (c.place_of.ensures ∙ ap (λ (ts : List Table). place_of ts c.args.name.now) (c.deref.ensures.value ∙ ap (λ (x : RowsValue). x.rows.tables) c.self.view_is)) ∙ c.in-Some.is in
    let t = c.requires c.in-Some.place named in
    let here = read_is (the_view c.self.inside) c.args.self.now c.self.inside.stages.items c.in-Some.place c.index.result.now c.index.result.now c.self.view_is refl c.index.ensures t.table t.at in
    let hits = c.in_ok-found-in-Some.ensures t.table [] t.at (all_wanted t.table.columns) in
    subst (λ (found : List Found). AreThere c.index.result.now.stages found) (sym c.deref-in-Some.ensures.value)
    (subst (λ (s : Staged). AreThere s c.in_ok-found-in-Some.found.items) (sym here)
    (are_there r c.args.at c.args.own c.in-Some.place (meets t.table.columns []) c.in_ok-found-in-Some.found.items t.table t.at hits))

pub returns-in_ok-rows-in-Some : goal.returns-in_ok-rows-in-Some
returns-in_ok-rows-in-Some c =
    let r = c.args.self.now.rows in
    let named : place_of r.tables c.args.name.now ≡ Some c.in-Some.place = sym (c.place_of.ensures ∙ ap (λ (ts : List Table). place_of ts c.args.name.now) (c.deref.ensures.value ∙ ap (λ (x : RowsValue). x.rows.tables) c.self.view_is)) ∙ c.in-Some.is in
    let t = c.requires c.in-Some.place named in
    let here = read_is (the_view c.self.inside) c.args.self.now c.self.inside.stages.items c.in-Some.place c.index.result.now c.index.result.now c.self.view_is refl c.index.ensures t.table t.at in
    record {
      place = c.in-Some.place;
      named = named;
      table = t.table;
      at = t.at;
      found = c.in_ok-found-in-Some.found.items;
      hits = c.in_ok-found-in-Some.ensures t.table [] t.at (all_wanted t.table.columns);
      rows_are = c.in_ok-rows-in-Some.ensures ∙ (λ i. map (row_in (here i)) (c.deref-in-Some.ensures.value i));
    }
