use Rattle.ut_crowd.proofs.KeeperLemmas.{end_taken}
use Rattle.ut_crowd.proofs.merger.end_pending.Goals as goal

pub returns-clause-taken : goal.returns-clause-taken
returns-clause-taken g c = end_taken c.args.engine.now.store.store.counts.pending c.end_merge.result c.end_merge.ensures.ends
