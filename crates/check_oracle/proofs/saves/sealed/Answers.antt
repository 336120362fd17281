use Rattle.std.proofs.Common.{refl}
use Rattle.std.proofs.lemmas.Result.{IfOk-weaker}
use Rattle.ut_plain.specs.declared.reply.Reply.TheVariants as replies
use Rattle.ut_plain.specs.Step.{save_sealed}
use Rattle.check_oracle.specs.Store.{plain_of, directory_of, Gives}
use Rattle.check_oracle.proofs.HeldLemmas.{write_ends, no_seal}
use Rattle.check_oracle.proofs.saves.sealed.Goals as goal

pub returns-in_default : goal.returns-in_default
returns-in_default c =
    let held = c.args.held.now in
    let p = plain_of held in
    IfOk-weaker c.stays.result (λ out. Gives (record { reply = replies.Done; plain = p }) out.reply (plain_of out.held)) (λ out. Gives (save_sealed p p.phase) out.reply (plain_of out.held))
    (λ out g. no_seal p held.progress held.captured.length (directory_of held.captured) out.reply (plain_of out.held) refl c.in_default.not-Writing g) c.stays.ensures

pub returns : goal.returns
returns c =
    let held = c.args.held.now in
    let next = c.in_ok-next.next in
    write_ends (plain_of held) (plain_of next) held.progress next.progress next.captured.length held.captured.length _ c.in-Writing.pages (directory_of next.captured) (directory_of held.captured) c.in_ok-next.ensures refl refl c.in-Writing.is
