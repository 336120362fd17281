use Rattle.std.proofs.Common.{rules, ap, ◌∙◌, ◌<◌, get_or, Bool, List, false, arith}
use Rattle.atomic_table.specs.Table.{Me}
use Rattle.ut_gate.specs.declared.view.Home.{Home}
use Rattle.ut_gate.specs.declared.view.View.{View}
use Rattle.ut_gate.specs.Tells.{ticket_of}
use Rattle.ut_gate.proofs.Ends.{rests, lasts, last_at, none_left}
use Rattle.ut_gate.proofs.steps.end.Goals as goal

pub load-requires : goal.load-requires
load-requires g c = (search rules, search rules, rests g.E.Held.book g.E.Held.job _ _ _ _ c.requires.turn)

pub take-home-requires : goal.take-home-requires
take-home-requires g c =
    let count = c.close_with-closed.ensures.counts.1 in
    let one = c.requires.own.2 in (omega arith, c.close_with-closed.ensures.values.1 0 (omega arith) (omega arith))

pub free-requires : goal.free-requires
free-requires g c = λ k less.
    let count = c.close_with-closed.ensures.counts.1 in
    let one = c.requires.own.2 in
    let same = c.take-home.ensures.others.2 in
    ap (λ (fs : List Bool). get_or fs k false) c.take-home.ensures.others.1 ∙ none_left _ k (omega arith)

pub returns : goal.returns
returns g c =
    let M : Type 0 = Me (Home g.row.E.Denot) (View g.row.E-Entry.Denot g.row.E-Job.Denot) in
    last_at _ _ _ _ _ c.load.new.seat.me c.take-home.result.value c.load.ensures.2
    (lasts g.E.Held.book g.E.Held.job (g.E.Held.stands_on g.E.Held.ground) c.load.new.seat.id (ticket_of c.args.seat.me.0.stage) c.load.new.seat.me.0 _ _ c.take-home.result (ap (λ (z : M). z.0.stage) c.load.ensures.2) c.close_with-closed.ensures.values.2 c.take-home.ensures.value)
