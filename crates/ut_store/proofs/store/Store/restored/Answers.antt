use Rattle.ut_store.proofs.RestoredLemmas.{stands_opened}
use Rattle.ut_store.proofs.store.Store.restored.Goals as goal

pub returns : goal.returns
returns c p opens same = stands_opened c.args.restored c.in_ok-sessions.sessions c.in_ok-frame.frame.payload c.args.rows_limit p c.in_ok-sessions.ensures opens same
