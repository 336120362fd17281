use Rattle.std.proofs.Common.{rules}
use Rattle.ut_crew.proofs.crew.each.Goals as goal

pub scoped-requires : goal.scoped-requires
scoped-requires g c =
    let b = c.type_bounds in
    record { at = λ s. ((c.requires.own, c.requires.done, c.requires.room, c.requires.can), search (rules, b.send-E.owned, b.send-E.leaving, b.send-A.owned, b.send-A.leaving, b.send-M.owned, b.send-M.leaving, b.send-M-End.owned, b.send-M-End.leaving, b.send-S.owned, b.send-S.leaving, b.send-E-Job.owned, b.send-E-Job.leaving, b.sync-R.shared)) }
