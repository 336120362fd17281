use Rattle.std.proofs.Common.{◌<◌, ap, arith}
use Rattle.ut_store.specs.Held.{Held}
use Rattle.ut_store.proofs.ExecutedLemmas.{asked_work, executed}
use Rattle.ut_store.proofs.AskedWorkLemmas.{entering_small, entering_ready, entering_work}
use Rattle.ut_store.proofs.store.Store.insert.Goals as goal

pub overflow_cast-row : goal.overflow_cast-row
overflow_cast-row c = let small : c.args.table < 65536 = entering_small c.args.self.now c.args.session c.args.table c.args.values c.requires in omega arith

pub finish-requires-clause-asked : goal.finish-requires-clause-asked
finish-requires-clause-asked c =
    asked_work c.args.self.now c.args.session _ _ c.requires
    (entering_work c.args.self.now c.args.session c.args.table c.args.values c.self.inside.counts.next_id c.requires.seat c.requires.stands (ap (λ (h : Held). h.counts.next_id) c.self.view_is))

pub finish-requires-clause-ready : goal.finish-requires-clause-ready
finish-requires-clause-ready c =
    entering_ready c.args.self.now c.args.session c.args.table c.args.values c.self.inside.counts.next_id c.requires (ap (λ (h : Held). h.counts.next_id) c.self.view_is)

pub returns : goal.returns
returns c =
    executed c.args.self.now c.finish.new.self c.args.session _ _ c.finish.result
    (entering_work c.args.self.now c.args.session c.args.table c.args.values c.self.inside.counts.next_id c.requires.seat c.requires.stands (ap (λ (h : Held). h.counts.next_id) c.self.view_is)) c.finish.ensures
