use Rattle.std.proofs.Common.{arith, ap, length}
use Rattle.ut_plain.specs.declared.statement.Statement.TheVariants.{Insert}
use Rattle.check_oracle.specs.Store.{plain_of}
use Rattle.check_oracle.proofs.WriteLemmas.{few_tables, insert_gives}
use Rattle.check_oracle.proofs.writes.insert.Goals as goal

pub place_in-place-requires : goal.place_in-place-requires
place_in-place-requires c = let few = few_tables (plain_of c.args.held.now) c.args.sight.now c.args.session (Insert c.args.table.now c.args.values.now) c.requires in omega (arith, few, ap length c.as_slice.ensures.value)

pub returns : goal.returns
returns c = insert_gives (plain_of c.args.held.now) c.args.sight.now c.args.session c.args.table.now c.args.values.now _ _ _ _ c.in_ok-out.out.reply (plain_of c.in_ok-out.out.held) c.requires c.as_slice.ensures.value c.as_slice-2.ensures.bytes c.place_in-place.ensures c.in_ok-ops.ensures c.in_ok-out.ensures
