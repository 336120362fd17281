use Rattle.std.proofs.Common.{◌≡◌, ◌∙◌, sym, arith, ap, length}
use Rattle.ut_plain.specs.declared.statement.Statement.TheVariants.{Bulk}
use Rattle.check_oracle.specs.Store.{plain_of}
use Rattle.ut_plain.specs.Tables.{columns_in, place_in}
use Rattle.ut_plain.specs.Made.{rows_of, inserts}
use Rattle.check_oracle.proofs.WriteLemmas.{few_tables, bulk_width, bulk_full, bulk_gives}
use Rattle.check_oracle.proofs.writes.bulk.Goals as goal

pub row_count-rows-requires : goal.row_count-rows-requires
row_count-rows-requires c = let some = bulk_width (plain_of c.args.held.now) c.args.sight.now c.args.session c.args.table.now c.args.values.now _ _ c.requires c.as_slice.ensures.value c.as_slice-2.ensures.bytes in omega (arith, some, ap length c.columns_in-width.ensures)

pub returns-then-not-has_ids : goal.returns-then-not-has_ids
returns-then-not-has_ids c =
    let rows : c.row_count-rows.result ≡ length (rows_of (length (columns_in c.as_slice.result.now c.as_slice-2.result.now)) c.args.values.now) = c.row_count-rows.ensures ∙ (λ i. length (rows_of (length (c.columns_in-width.ensures i)) (c.as_slice-3.ensures i))) in
    bulk_full (plain_of c.args.held.now) c.args.sight.now c.args.session c.args.table.now c.args.values.now c.as_slice.result.now c.as_slice-2.result.now c.row_count-rows.result c.in_ok-out.out.reply (plain_of c.in_ok-out.out.held) c.requires c.as_slice.ensures.value c.as_slice-2.ensures.bytes
    rows (sym c.has_ids.ensures ∙ c.if-not-has_ids.true) c.in_ok-out.ensures

pub place_in-place-requires : goal.place_in-place-requires
place_in-place-requires c = let few = few_tables (plain_of c.args.held.now) c.args.sight.now c.args.session (Bulk c.args.table.now c.args.values.now) c.requires in omega (arith, few, ap length c.as_slice-4.ensures.value)

pub load-requires-clause-width : goal.load-requires-clause-width
load-requires-clause-width c = let some = bulk_width (plain_of c.args.held.now) c.args.sight.now c.args.session c.args.table.now c.args.values.now _ _ c.requires c.as_slice.ensures.value c.as_slice-2.ensures.bytes in omega (arith, some, ap length c.columns_in-width.ensures)

pub returns : goal.returns
returns c =
    let rows : c.row_count-rows.result ≡ length (rows_of (length (columns_in c.as_slice.result.now c.as_slice-2.result.now)) c.args.values.now) = c.row_count-rows.ensures ∙ (λ i. length (rows_of (length (c.columns_in-width.ensures i)) (c.as_slice-3.ensures i))) in
    let tables : c.as_slice-4.result.now ≡ c.as_slice.result.now = c.as_slice-4.ensures.value ∙ sym c.as_slice.ensures.value in
    let name : c.as_slice-5.result.now ≡ c.as_slice-2.result.now = c.as_slice-5.ensures.bytes ∙ sym c.as_slice-2.ensures.bytes in
    let place : c.place_in-place.result ≡ place_in c.as_slice.result.now c.as_slice-2.result.now = c.place_in-place.ensures ∙ (λ i. place_in (tables i) (name i)) in
    let ops : c.in_ok-ops.ops ≡ inserts c.place_in-place.result c.args.held.now.next_id (rows_of (length (columns_in c.as_slice.result.now c.as_slice-2.result.now)) c.args.values.now) =
    c.in_ok-ops.ensures ∙ (λ i. inserts c.place_in-place.result c.args.held.now.next_id (rows_of (length (c.columns_in-width.ensures i)) (c.as_slice-6.ensures i))) in
    bulk_gives (plain_of c.args.held.now) c.args.sight.now c.args.session c.args.table.now c.args.values.now c.as_slice.result.now c.as_slice-2.result.now c.place_in-place.result c.row_count-rows.result c.in_ok-ops.ops c.in_ok-out-2.out.reply (plain_of c.in_ok-out-2.out.held) c.requires
    c.as_slice.ensures.value c.as_slice-2.ensures.bytes place rows ops c.in_ok-out-2.ensures
