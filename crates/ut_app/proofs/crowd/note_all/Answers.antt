use Rattle.std.proofs.Common.{List, ◌++◌, drop, sym, ap, ◌∙◌}
use Rattle.ut_outside.specs.declared.ack.Ack.{Ack}
use Rattle.ut_crowd.specs.Book.{acks_in}
use Rattle.ut_app.proofs.CrowdLemmas.{on_err}
use Rattle.ut_app.proofs.crowd.note_all.Goals as goal

pub returns-in_err-make_room-clause-some : goal.returns-in_err-make_room-clause-some
returns-in_err-make_room-clause-some c =
    let rest = acks_in (drop c.loop-turn.turn-index c.args.book.now) in
    on_err c.from_residual.result (rest, sym c.loop-turn.invariant ∙ ap (λ (acks : List Ack). acks ++ rest) (sym c.in_err-make_room.ensures.items))
