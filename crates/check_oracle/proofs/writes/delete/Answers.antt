use Rattle.std.proofs.Common.{◌≡◌, ◌∙◌, arith, refl, ap, length}
use Rattle.ut_plain.specs.declared.statement.Statement.TheVariants.{Delete}
use Rattle.check_oracle.specs.Store.{plain_of}
use Rattle.ut_plain.specs.Tables.{place_in}
use Rattle.ut_plain.specs.Made.{deletes_all}
use Rattle.ut_plain.specs.Plain.{is_taken}
use Rattle.ut_plain.specs.Refusals.{first_taken}
use Rattle.check_oracle.proofs.WriteLemmas.{few_tables, length-found, delete_gives}
use Rattle.check_oracle.proofs.writes.delete.Goals as goal

pub place_in-place-requires : goal.place_in-place-requires
place_in-place-requires c = let few = few_tables (plain_of c.args.held.now) c.args.sight.now c.args.session (Delete c.args.table.now c.args.preds.now) c.requires in omega (arith, few, ap length c.as_slice.ensures.value)

pub change_rows-requires-clause-few : goal.change_rows-requires-clause-few
change_rows-requires-clause-few c =
    let fewer = length-found c.args.sight.now.tables.items c.args.sight.now.rows.items c.args.table.now c.args.preds.now in
    let few = c.requires.sees.few in
    omega (arith, fewer, few, ap length c.in_ok-hits.ensures, ap length c.as_slice-4.ensures.value)

pub returns : goal.returns
returns c =
    let hits = c.in_ok-hits.hits.items in
    let place : c.place_in-place.result ≡ place_in c.args.sight.now.tables.items c.args.table.now = c.place_in-place.ensures ∙ (λ i. place_in (c.as_slice.ensures.value i) (c.as_slice-2.ensures.bytes i)) in
    let ops : c.in_ok-ops.ops ≡ deletes_all c.place_in-place.result hits = c.in_ok-ops.ensures ∙ ap (deletes_all c.place_in-place.result) c.as_slice-3.ensures.value in
    delete_gives (plain_of c.args.held.now) c.args.sight.now c.args.session c.args.table.now _ c.args.preds.now _ c.args.sight.now.tables.items _ hits c.place_in-place.result (length c.as_slice-4.result.now) (first_taken (is_taken (plain_of c.args.held.now) c.args.session) c.as_slice-4.result.now) c.in_ok-ops.ops c.in_ok-out.out.reply (plain_of c.in_ok-out.out.held) c.requires
    refl refl refl refl c.in_ok-hits.ensures place (ap length c.as_slice-4.ensures.value) (ap (first_taken (is_taken (plain_of c.args.held.now) c.args.session)) c.as_slice-4.ensures.value) ops c.in_ok-out.ensures
