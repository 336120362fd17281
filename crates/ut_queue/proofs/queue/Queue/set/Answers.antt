-- An item of the rest is one of all, further behind.
use Rattle.std.proofs.Common.{◌∙◌, ap, set}
use Rattle.std.proofs.lemmas.List.{drop-set-add}
use Rattle.ut_queue.proofs.queue.Queue.set.Goals as goal

pub returns-clause-items : goal.returns-clause-items
returns-clause-items g c = drop-set-add c.self.inside.taken c.self.inside.held.items c.args.i c.args.item ∙ ap (λ q. set q.items c.args.i c.args.item) c.self.view_is
