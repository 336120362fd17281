use Rattle.ut_restart.proofs.FillLemmas.{push-fit, push-room, filled-is}
use Rattle.ut_restart.proofs.filling.fill.Goals as goal

pub push_rows-requires-clause-fit : goal.push_rows-requires-clause-fit
push_rows-requires-clause-fit c = push-fit c.args.drawn c.args.main c.requires.shown.0 c.requires.shown.1 c.in_ok-stages.stages.stages (c.in_ok-stages.ensures c.requires.shown.0 c.requires.shown.1)

pub push_rows-requires-clause-few : goal.push_rows-requires-clause-few
push_rows-requires-clause-few c = push-room c.args.drawn c.args.main c.requires.shown.0 c.requires.shown.1 c.in_ok-stages.stages.stages (c.in_ok-stages.ensures c.requires.shown.0 c.requires.shown.1) c.requires.few

pub returns-clause-stages : goal.returns-clause-stages
returns-clause-stages c = λ s is. filled-is c.args.drawn c.args.main s is c.in_ok-stages.stages.stages (c.in_ok-stages.ensures s is) c.push_rows.new.stages.stages c.in_ok-push_rows.ensures
