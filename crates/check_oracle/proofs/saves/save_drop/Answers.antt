use Rattle.std.proofs.Common.{refl}
use Rattle.ut_plain.specs.declared.reply.Reply.TheVariants as replies
use Rattle.ut_plain.specs.Plain.{Idle}
use Rattle.check_oracle.specs.Store.{plain_of}
use Rattle.check_oracle.proofs.HeldLemmas.{phase_changed}
use Rattle.check_oracle.proofs.SaveLemmas.{drop_gives}
use Rattle.check_oracle.proofs.saves.save_drop.Goals as goal

pub returns : goal.returns
returns c =
    let p = plain_of c.args.held.now in
    let copy = plain_of c.in_ok-next.next in
    drop_gives p c.args.sight.now c.args.session replies.Done (record copy { phase = Idle }) c.requires (record { answer = refl; state = phase_changed copy p Idle c.in_ok-next.ensures })
