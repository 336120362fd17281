use Rattle.std.proofs.Common.{◌≡◌, arith, ap, length, min, get_or}
use Rattle.std.proofs.lemmas.Grind.{common_steps}
use Rattle.ut_plain.specs.declared.statement.Statement.TheVariants.{MergeL1}
use Rattle.check_oracle.specs.Store.{plain_of}
use Rattle.ut_plain.specs.Tables.{place_in}
use Rattle.check_oracle.proofs.WriteLemmas.{few_tables}
use Rattle.check_oracle.proofs.ShapeLemmas.{merge_gives, restaged}
use Rattle.check_oracle.proofs.shapes.merge_l1.Goals as goal

pub place_in-requires : goal.place_in-requires
place_in-requires c = let few = few_tables (plain_of c.args.held.now) c.args.sight.now c.args.session (MergeL1 c.args.table.now c.args.n) c.requires in omega (arith, few, ap length c.as_slice.ensures.value)

pub returns : goal.returns
returns c =
    let place : c.from-place.result ≡ place_in c.as_slice.result.now c.as_slice-2.result.now = grind (arith, common_steps) in
    let read : c.index-stages.result.now ≡ get_or c.args.held.now.stages.items c.from-place.result c.index-stages.result.now = grind (arith, common_steps) in
    let count : c.min-count.result ≡ min c.args.n (length c.index-stages.result.now.l1) = grind (arith, common_steps) in
    let state = restaged (plain_of c.in_ok-next.next) (plain_of c.args.held.now) c.args.n c.from-place.result c.move_l1.new.stages.items c.in_ok-next.ensures c.in_ok-move_l1.ensures in
    merge_gives (plain_of c.args.held.now) c.args.sight.now c.args.session c.args.n c.from-place.result c.min-count.result c.args.table.now c.as_slice-2.result.now c.as_slice.result.now c.index-stages.result.now _ c.requires c.as_slice.ensures.value c.as_slice-2.ensures.bytes place read count state
