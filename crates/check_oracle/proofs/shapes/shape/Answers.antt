use Rattle.std.proofs.Common.{◌≡◌, arith, ap, length, get_or, subst}
use Rattle.std.proofs.lemmas.Grind.{common_steps}
use Rattle.ut_plain.specs.declared.statement.Statement.TheVariants.{Shape}
use Rattle.check_oracle.specs.Store.{plain_of, Gives}
use Rattle.ut_plain.specs.declared.reply.Reply.TheVariants as replies
use Rattle.ut_plain.specs.Tables.{place_in}
use Rattle.ut_plain.specs.Stages.{shape_of}
use Rattle.check_oracle.proofs.WriteLemmas.{few_tables}
use Rattle.check_oracle.proofs.ShapeLemmas.{shape_gives}
use Rattle.check_oracle.proofs.shapes.shape.Goals as goal

pub place_in-requires : goal.place_in-requires
place_in-requires c = let few = few_tables (plain_of c.args.held.now) c.args.sight.now c.args.session (Shape c.args.table.now) c.requires in omega (arith, few, ap length c.as_slice.ensures.value)

pub returns : goal.returns
returns c =
    let place : c.from-place.result ≡ place_in c.as_slice.result.now c.as_slice-2.result.now = grind (arith, common_steps) in
    let read : c.index-stages.result.now ≡ get_or c.args.held.now.stages.items c.from-place.result c.index-stages.result.now = grind (arith, common_steps) in
    let shape : c.in_ok-shape.shape ≡ shape_of c.index-stages.result.now = c.in_ok-shape.ensures in
    shape_gives (plain_of c.args.held.now) c.args.sight.now c.args.session c.from-place.result c.args.table.now c.as_slice-2.result.now c.as_slice.result.now c.index-stages.result.now c.in_ok-out.out.reply (plain_of c.in_ok-out.out.held) c.requires c.as_slice.ensures.value c.as_slice-2.ensures.bytes place read
    (subst (λ shape. Gives (record { reply = replies.Shape shape; plain = plain_of c.args.held.now }) c.in_ok-out.out.reply (plain_of c.in_ok-out.out.held)) shape c.in_ok-out.ensures)
