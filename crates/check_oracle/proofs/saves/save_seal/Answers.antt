use Rattle.std.proofs.lemmas.Result.{IfOk-weaker}
use Rattle.ut_plain.specs.declared.statement.Statement.TheVariants.{SaveSeal}
use Rattle.ut_plain.specs.Step.{step, save_sealed}
use Rattle.check_oracle.specs.Store.{plain_of, Gives}
use Rattle.check_oracle.proofs.SaveLemmas.{seal_gives}
use Rattle.check_oracle.proofs.saves.save_seal.Goals as goal

pub returns : goal.returns
returns c =
    let p = plain_of c.args.held.now in
    IfOk-weaker c.sealed.result (λ out. Gives (save_sealed p p.phase) out.reply (plain_of out.held)) (λ out. Gives (step p c.args.session (SaveSeal)) out.reply (plain_of out.held))
    (λ out g. seal_gives p c.args.sight.now c.args.session out.reply (plain_of out.held) c.requires g) c.sealed.ensures
