use Rattle.std.proofs.lemmas.Result.{IfOk-weaker}
use Rattle.ut_plain.specs.declared.statement.Statement.TheVariants.{SaveBegin}
use Rattle.ut_plain.specs.declared.reply.Refusal.TheVariants as refusals
use Rattle.ut_plain.specs.Step.{step, save_begun}
use Rattle.check_oracle.specs.Store.{plain_of, refuses, Gives}
use Rattle.check_oracle.proofs.SaveLemmas.{save_full, begin_gives}
use Rattle.check_oracle.proofs.saves.save_begin.Goals as goal

pub returns-then-not-has_page_room : goal.returns-then-not-has_page_room
returns-then-not-has_page_room c =
    let p = plain_of c.args.held.now in
    IfOk-weaker c.refused.result (λ out. Gives (refuses p refusals.Full) out.reply (plain_of out.held)) (λ out. Gives (step p c.args.session SaveBegin) out.reply (plain_of out.held))
    (λ out g. save_full p c.args.sight.now c.args.session c.has_page_room.result out.reply (plain_of out.held) c.requires c.has_page_room.ensures c.if-not-has_page_room.true g) c.refused.ensures

pub returns : goal.returns
returns c =
    let p = plain_of c.args.held.now in
    IfOk-weaker c.begun.result (λ out. Gives (save_begun p) out.reply (plain_of out.held)) (λ out. Gives (step p c.args.session SaveBegin) out.reply (plain_of out.held))
    (λ out g. begin_gives p c.args.sight.now c.args.session c.has_page_room.result out.reply (plain_of out.held) c.requires c.has_page_room.ensures c.if-not-has_page_room.false g) c.begun.ensures
