use Rattle.std.proofs.Common.{◌≡◌, ◌∙◌, sym, arith, refl, ap, length}
use Rattle.std.proofs.lemmas.Grind.{common_steps}
use Rattle.ut_plain.specs.declared.statement.Statement.TheVariants.{Update}
use Rattle.check_oracle.specs.Store.{plain_of}
use Rattle.ut_plain.specs.Tables.{columns_in, place_in}
use Rattle.ut_plain.specs.Made.{updates, changed_value}
use Rattle.ut_plain.specs.Plain.{is_taken}
use Rattle.ut_plain.specs.Refusals.{first_taken}
use Rattle.check_oracle.proofs.WriteLemmas.{few_tables, length-found, update_full, update_gives}
use Rattle.check_oracle.proofs.writes.update.Goals as goal

pub returns-then-not-has_ids : goal.returns-then-not-has_ids
returns-then-not-has_ids c =
    let rows : c.len.result ≡ length c.in_ok-hits.hits.items = grind (arith, common_steps) in
    update_full (plain_of c.args.held.now) c.args.sight.now c.args.session c.args.table.now _ c.args.column.now c.args.value.now c.args.preds.now _ _ _ c.in_ok-hits.hits.items c.len.result c.in_ok-out.out.reply (plain_of c.in_ok-out.out.held) c.requires refl refl refl refl c.in_ok-hits.ensures
    rows (sym c.has_ids.ensures ∙ c.if-not-has_ids.true) c.in_ok-out.ensures

pub place_in-place-requires : goal.place_in-place-requires
place_in-place-requires c = let few = few_tables (plain_of c.args.held.now) c.args.sight.now c.args.session (Update c.args.table.now c.args.column.now c.args.value.now c.args.preds.now) c.requires in omega (arith, few, ap length c.as_slice-tables.ensures.value)

pub change_rows-requires-clause-few : goal.change_rows-requires-clause-few
change_rows-requires-clause-few c =
    let fewer = length-found c.args.sight.now.tables.items c.args.sight.now.rows.items c.args.table.now c.args.preds.now in
    let few = c.requires.sees.few in
    omega (arith, fewer, few, ap length c.in_ok-hits.ensures, ap length c.as_slice-5.ensures.value)

pub returns : goal.returns
returns c =
    let hits = c.in_ok-hits.hits.items in
    let place : c.place_in-place.result ≡ place_in c.args.sight.now.tables.items c.args.table.now = c.place_in-place.ensures ∙ (λ i. place_in (c.as_slice-tables.ensures.value i) (c.as_slice.ensures.bytes i)) in
    let columns : c.columns_in-columns.result.now ≡ columns_in c.args.sight.now.tables.items c.args.table.now = c.columns_in-columns.ensures ∙ (λ i. columns_in (c.as_slice-tables.ensures.value i) (c.as_slice-2.ensures.bytes i)) in
    let change = changed_value c.columns_in-columns.result.now c.as_slice-3.result.now c.args.value.now in
    let ops : c.in_ok-ops.ops ≡ updates c.place_in-place.result c.args.held.now.next_id change hits = c.in_ok-ops.ensures ∙ ap (updates c.place_in-place.result c.args.held.now.next_id change) c.as_slice-4.ensures.value in
    update_gives (plain_of c.args.held.now) c.args.sight.now c.args.session c.args.table.now _ c.args.column.now c.as_slice-3.result.now c.args.value.now c.args.preds.now _ c.args.sight.now.tables.items c.columns_in-columns.result.now _ hits c.place_in-place.result (length c.as_slice-5.result.now)
    (first_taken (is_taken (plain_of c.args.held.now) c.args.session) c.as_slice-5.result.now) c.in_ok-ops.ops c.in_ok-out-2.out.reply (plain_of c.in_ok-out-2.out.held) c.requires
    refl refl refl c.as_slice-3.ensures.bytes refl c.in_ok-hits.ensures place columns (ap length c.as_slice-5.ensures.value) (ap (first_taken (is_taken (plain_of c.args.held.now) c.args.session)) c.as_slice-5.ensures.value) ops c.in_ok-out-2.ensures
