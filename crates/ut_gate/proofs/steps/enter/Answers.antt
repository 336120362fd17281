use Rattle.std.proofs.Common.{rules, sym, subst}
use Rattle.atomic_table.specs.declared.shared.Seat.{Seat}
use Rattle.ut_gate.specs.declared.view.Home.{Home}
use Rattle.ut_gate.specs.declared.view.View.{View}
use Rattle.ut_gate.specs.Steps.{HasTurn, IsAtTurn}
use Rattle.ut_gate.proofs.Looks.{draws, waits_on, came, came_with}
use Rattle.ut_gate.proofs.steps.enter.Goals.{in-None, in-Some+then-load-ticket}
use Rattle.ut_gate.proofs.steps.enter.Goals as goal

pub fetch_add-ticket-requires : goal.fetch_add-ticket-requires
fetch_add-ticket-requires g c = (search rules, search rules, draws g.E.Held.book g.E.Held.job _ _ _ _ c.requires.idle.0)

pub load-requires : goal.load-requires
load-requires g c = (search rules, search rules, waits_on g.E.Held.book g.E.Held.job _ c.fetch_add-ticket.result c.args.seat.now.me c.loop.seat.me c.loop.invariant.2 _ _)

pub returns-clause-value : goal.returns-clause-value
returns-clause-value g c = elim c.match-next.branch [
  | in-None w ↦ let no : ⊥ = search (rules, w.in-None.is) in absurd no
  | in-Some+then-load-ticket w ↦
      subst (λ (s : Seat (Home g.row.E.Denot) (View g.row.E-Entry.Denot g.row.E-Job.Denot)). IsAtTurn g.E.Held.book g.E.Held.job (g.E.Held.stands_on g.E.Held.ground) s.me) (sym w.seat-is)
      (came_with g.E.Held.book g.E.Held.job _ c.fetch_add-ticket.result w.load.result c.args.seat.now.me c.loop.seat.me w.load.new.seat.me c.args.line.now.table_id.slots c.loop.invariant.2 w.load.ensures.2 (search rules) c.requires.idle.1)
]

pub returns-clause-turn : goal.returns-clause-turn
returns-clause-turn g c = elim c.match-next.branch [
  | in-None w ↦ let no : ⊥ = search (rules, w.in-None.is) in absurd no
  | in-Some+then-load-ticket w ↦
      subst (λ (s : Seat (Home g.row.E.Denot) (View g.row.E-Entry.Denot g.row.E-Job.Denot)). HasTurn g.E.Held.book g.E.Held.job (g.E.Held.stands_on g.E.Held.ground) c.args.seat.now.me s.me) (sym w.seat-is)
      (came g.E.Held.book g.E.Held.job _ c.fetch_add-ticket.result w.load.result c.args.seat.now.me c.loop.seat.me w.load.new.seat.me c.args.line.now.table_id.slots c.loop.invariant.2 w.load.ensures.2 (search rules))
]
