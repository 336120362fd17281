use Rattle.std.proofs.Common.{sym, subst}
use Rattle.ut_look.specs.Look.{Sight}
use Rattle.ut_query.specs.Look.{CanLook}
use Rattle.ut_query.specs.Tells.{IsAnswer}
use Rattle.ut_shot.proofs.ShotLemmas.{can_ask, is_answered}
use Rattle.ut_shot.proofs.shot.Shot.answer.Goals as goal

pub ask-requires : goal.ask-requires
ask-requires c = subst CanLook (sym c.look.ensures) (can_ask c.args.query.now c.args.self.now c.requires.0 c.requires.1)

pub returns-in-Ok : goal.returns-in-Ok
returns-in-Ok c s is =
    is_answered c.args.query.now c.args.self.now c.in-Ok.reply (subst (λ (l : Sight). IsAnswer l c.args.query.now c.in-Ok.reply) c.look.ensures (rw c.in-Ok.is at c.ask.ensures.ok)) s is
