use Rattle.std.proofs.Common.{refl}
use Rattle.check_rows.proofs.KnownLemmas.{known_empty, known_behind}
use Rattle.check_rows.proofs.known.state_after.Goals as goal

pub returns-clause-state : goal.returns-clause-state
returns-clause-state c = known_behind _ _ _ c.args.first.now c.args.behind.now (known_empty _ c.new.ensures.items c.new-2.ensures.items refl refl) c.in_ok-follow_all.ensures.state c.in_ok-follow_all-2.ensures.state
