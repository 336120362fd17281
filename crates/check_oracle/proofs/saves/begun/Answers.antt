use Rattle.std.proofs.Common.{refl}
use Rattle.check_oracle.specs.Store.{plain_of}
use Rattle.check_oracle.proofs.HeldLemmas.{save_begins}
use Rattle.check_oracle.proofs.saves.begun.Goals as goal

pub returns : goal.returns
returns c =
    let image = c.in_ok-next-2.ensures in
    save_begins (plain_of c.args.held.now) (plain_of c.in_ok-next.next) _ _ _ c.in_ok-next.ensures image.length refl image.image
