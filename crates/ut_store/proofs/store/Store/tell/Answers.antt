use Rattle.std.proofs.Common.{sym, subst}
use Rattle.ut_look.specs.Look.{Sight}
use Rattle.ut_query.specs.Look.{CanLook}
use Rattle.ut_query.specs.Tells.{IsAsked, Tells}
use Rattle.ut_store.proofs.LookLemmas.{can_ask}
use Rattle.ut_store.proofs.AskedTableLemmas.{asking, told_for, ask_lacks}
use Rattle.ut_store.proofs.store.Store.tell.Goals as goal

pub answer-requires-clause-looks : goal.answer-requires-clause-looks
answer-requires-clause-looks c = subst (λ (l : Sight). CanLook l) (sym c.look.ensures) (can_ask c.args.self.now c.args.session c.requires.seat c.requires.stands)

pub answer-requires-clause-asked : goal.answer-requires-clause-asked
answer-requires-clause-asked c = subst (λ (l : Sight). IsAsked l.tables c.args.question) (sym c.look.ensures) (asking c.args.self.now c.args.session c.args.question c.requires)

pub returns-in-Ok : goal.returns-in-Ok
returns-in-Ok c = told_for c.args.self.now c.args.session c.args.question c.in-Ok.reply c.requires.seat (subst (λ (l : Sight). Tells l c.args.question c.in-Ok.reply) c.look.ensures c.in-Ok.ensures)

pub returns : goal.returns
returns c = ask_lacks c.args.self.now c.args.session c.args.question
