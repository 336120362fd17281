use Rattle.std.proofs.Common.{rules}
use Rattle.ut_crew.proofs.crew.fn.each.scope+FnOnce.call_once.Goals as goal

pub scope-requires : goal.scope-requires
scope-requires g c = search (rules)
