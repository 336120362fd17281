use Rattle.std.proofs.Common.{rules, refl, ap, ◌∙◌, sym, List, ℕ, ◌∷◌}
use Rattle.atomic_table.specs.Table.{rest}
use Rattle.ut_gate.specs.declared.view.Home.{Home}
use Rattle.ut_gate.proofs.Leaves.{leaves_at, left_at}
use Rattle.ut_gate.proofs.steps.leave.Goals as goal

pub slot_mut-home-requires : goal.slot_mut-home-requires
slot_mut-home-requires g c = let h = c.requires.turn in (search rules, (h.home, h.out ∙ ap (λ (l : List (ℕ × Home g.row.E.Denot)). (0, h.home) ∷ rest l) (sym h.out)))

pub fetch_add-served-requires : goal.fetch_add-served-requires
fetch_add-served-requires g c = (search rules, search rules, leaves_at g.E.Held.book g.E.Held.job _ _ _ c.args.seat.now.me _ c.slot_mut-home.result.now _ c.requires.turn c.slot_mut-home.ensures.value refl refl refl)

pub returns-clause-left : goal.returns-clause-left
returns-clause-left g c = left_at g.E.Held.book g.E.Held.job (g.E.Held.stands_on g.E.Held.ground) c.args.seat.now.me _ c.fetch_add-served.new.seat.me c.args.line.now.table_id.slots c.slot_mut-home.result.now _ c.slot_mut-home.ensures.value refl refl c.fetch_add-served.ensures.2
