use Rattle.std.proofs.lemmas.Result.{IfOk-weaker}
use Rattle.ut_plain.specs.declared.statement.Statement.TheVariants.{SaveStep}
use Rattle.ut_plain.specs.Step.{step, save_written}
use Rattle.check_oracle.specs.Store.{plain_of, Gives}
use Rattle.check_oracle.proofs.SaveLemmas.{step_gives}
use Rattle.check_oracle.proofs.saves.save_step.Goals as goal

pub returns : goal.returns
returns c =
    let p = plain_of c.args.held.now in
    IfOk-weaker c.written.result (λ out. Gives (save_written p c.args.n p.phase) out.reply (plain_of out.held)) (λ out. Gives (step p c.args.session (SaveStep c.args.n)) out.reply (plain_of out.held))
    (λ out g. step_gives p c.args.sight.now c.args.session c.args.n out.reply (plain_of out.held) c.requires g) c.written.ensures
