use Rattle.std.proofs.Common.{rules}
use Rattle.check_gate.proofs.crew.each.Goals as goal

pub scoped-requires : goal.scoped-requires
scoped-requires g c =
    let b = c.type_bounds in
    record { at = λ s. ((c.requires.own, c.requires.done, c.requires.room, c.requires.always), search (rules, b.send-E.owned, b.send-E.leaving, b.send-A.owned, b.send-A.leaving, b.send-E-Job.owned, b.send-E-Job.leaving, b.sync-R.shared)) }
