use Rattle.std.proofs.Common.{◌∙◌}
use Rattle.ut_txn.proofs.OwnLemmas.{own_some, payload_read}
use Rattle.ut_txn.proofs.sessions.Sessions.has_own.Goals as goal

pub returns-clause-own : goal.returns-clause-own
returns-clause-own c os is =
    let read = payload_read c.self.inside.seats.items c.args.self.now c.args.session c.index.result.now c.self.view_is c.self.invariant c.requires c.index.ensures in
    own_some c.has_own.result c.index.result.now.payload os c.has_own.ensures (read ∙ is)
