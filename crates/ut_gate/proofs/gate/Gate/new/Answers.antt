use Rattle.std.proofs.Common.{rules, ◌≡◌, List, [], ◌∷◌, subst, sym}
use Rattle.atomic_table.specs.Table.{opening}
use Rattle.ut_gate.specs.declared.view.Home.{Home}
use Rattle.ut_gate.specs.Line.{InOrder}
use Rattle.ut_gate.specs.Tells.{newcomer}
use Rattle.ut_gate.proofs.Splits.{opens}
use Rattle.ut_gate.proofs.gate.Gate.new.Goals as goal

pub new-requires-2 : goal.new-requires-2
new-requires-2 g c =
    let is : c.push_reserved.new.self.items ≡ record { value = c.args.value; turns = 0 } ∷ [] = search rules in
    subst (λ (l : List (Home g.row.E.Denot)). InOrder g.E.Held.book g.E.Held.job (g.E.Held.stands_on g.E.Held.ground) (opening (0 ∷ 0 ∷ []) l (newcomer [] 63))) (sym is)
    (opens g.E.Held.book g.E.Held.job (g.E.Held.stands_on g.E.Held.ground) c.args.value c.requires.job c.requires.ground)
