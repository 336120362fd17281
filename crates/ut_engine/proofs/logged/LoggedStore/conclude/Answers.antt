use Rattle.std.proofs.Common.{◌∙◌, ap}
use Rattle.ut_nextid.specs.NextIds.{Noted, noted_as}
use Rattle.ut_engine.specs.Logged.{Logged}
use Rattle.ut_engine.proofs.logged.LoggedStore.conclude.Goals as goal

pub returns : goal.returns
returns g c = λ st is.
    let handed : Logged = c.hand_out-reply.new.self in
    record {
      handed = handed;
      hands = c.hand_out-reply.ensures;
      notes = ap (λ (next : Noted). record handed { next = next }) (c.note.ensures ∙ (λ i. noted_as handed.next c.args.session (is i) c.hand_out-reply.result c.args.before (c.next_id-after.ensures i)));
    }
