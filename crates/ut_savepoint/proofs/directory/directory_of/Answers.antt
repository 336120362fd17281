use Rattle.std.proofs.Common.{length, ap, arith}
use Rattle.ut_savepoint.proofs.SpellLemmas.{refs_count}
use Rattle.ut_savepoint.proofs.directory.directory_of.Goals as goal

pub image_front-requires-clause-parts : goal.image_front-requires-clause-parts
image_front-requires-clause-parts c =
    let few = c.table-item.result.few in
    omega (arith, few, c.deref.ensures.len, c.deref-in-loop-table.ensures.len, ap length c.in_ok-refs.ensures.refs, refs_count c.loop-table.left.now c.deref.result.now)
