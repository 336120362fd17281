use Rattle.std.proofs.Common.{◌≡◌, false, refl, sym, ◌∙◌, ap, subst}
use Rattle.ut_plain.specs.declared.statement.Statement.{Statement}
use Rattle.ut_plain.specs.declared.reply.Reply.TheVariants as replies
use Rattle.ut_names.specs.Binding.{statement_of}
use Rattle.ut_engine.specs.Lent.{Lent}
use Rattle.ut_engine.specs.Saves.{HasPlanned}
use Rattle.ut_engine.specs.Serves.{Serves}
use Rattle.ut_engine.proofs.LentLemmas.{goes_on}
use Rattle.ut_engine.proofs.RunsLemmas.{are_ready, runs_stand}
use Rattle.ut_engine.proofs.ServedLemmas.{serves_executed, serves_refused, task_keeps, task_begins, piece_dropped, piece_begun, unsaved}
use Rattle.ut_engine.proofs.engine.Engine.answer.Goals as goal

pub bind-requires : goal.bind-requires
bind-requires g c = runs_stand _ _ (c.self.invariant (subst (λ (e : Lent g.row.D.Denot). e.store.down ≡ false) (sym c.self.view_is) c.requires.up))

-- a task is executed
pub execute-outcome-requires : goal.execute-outcome-requires
execute-outcome-requires g c =
    let ran = c.self.invariant (subst (λ (e : Lent g.row.D.Denot). e.store.down ≡ false) (sym c.self.view_is) c.requires.up) in
    record { seat = c.requires.seat; stands = runs_stand _ _ ran; st = c.args.st; asked = record { binds = rw c.in-Ok-Task.field-0-is at c.in-Ok-Task.ensures.ok; suits = c.requires.suits; spelled = c.requires.spelled } }

pub conclude-requires-clause-ready : goal.conclude-requires-clause-ready
conclude-requires-clause-ready g c = are_ready _ _ (c.self.invariant (subst (λ (e : Lent g.row.D.Denot). e.store.down ≡ false) (sym c.self.view_is) c.requires.up))

pub returns-in-Ok-Task-clause-serves : goal.returns-in-Ok-Task-clause-serves
returns-in-Ok-Task-clause-serves g c =
    let ran = c.self.invariant (subst (λ (e : Lent g.row.D.Denot). e.store.down ≡ false) (sym c.self.view_is) c.requires.up) in
    let v = g.D.Disk.view c.self.inside.disk.now in
    let w = g.D.Disk.view c.conclude.new.disk in
    let binds = rw c.in-Ok-Task.field-0-is at c.in-Ok-Task.ensures.ok in
    subst (λ (e : Lent g.row.D.Denot). Serves e.store (g.D.Disk.view e.disk) c.args.session c.args.st c.conclude.result c.conclude.new.self w) c.self.view_is
    (serves_executed c.self.inside.store c.conclude.new.self c.execute-outcome.new.self c.in-Ok-Task.task c.execute-outcome.result c.response-response.result c.next_id-before.result v w c.args.session c.args.st c.conclude.result
    c.requires.seat c.requires.suits c.requires.spelled ran c.next_id-before.ensures binds c.execute-outcome.ensures c.response-response.ensures (c.conclude.ensures c.args.st c.ending_of-ending.ensures))

pub invariant_of-self : goal.invariant_of-self
invariant_of-self g c =
    let ran = c.self.invariant (subst (λ (e : Lent g.row.D.Denot). e.store.down ≡ false) (sym c.self.view_is) c.requires.up) in
    let v = g.D.Disk.view c.self.inside.disk.now in
    let w = g.D.Disk.view c.conclude.new.disk in
    let binds = rw c.in-Ok-Task.field-0-is at c.in-Ok-Task.ensures.ok in
    goes_on c.self.inside.store c.conclude.new.self v w c.args.session c.args.st c.conclude.result ran.0 ran.1
    (serves_executed c.self.inside.store c.conclude.new.self c.execute-outcome.new.self c.in-Ok-Task.task c.execute-outcome.result c.response-response.result c.next_id-before.result v w c.args.session c.args.st c.conclude.result
    c.requires.seat c.requires.suits c.requires.spelled ran c.next_id-before.ensures binds c.execute-outcome.ensures c.response-response.ensures (c.conclude.ensures c.args.st c.ending_of-ending.ensures))

pub returns-in-Ok-Task-clause-dropped : goal.returns-in-Ok-Task-clause-dropped
returns-in-Ok-Task-clause-dropped g c drop =
    let binds = rw c.in-Ok-Task.field-0-is at c.in-Ok-Task.ensures.ok in
    absurd (task_keeps _ c.args.st c.in-Ok-Task.task binds.is drop)

-- a merge ends
pub returns-in-Ok-MergeEnd-clause-serves : goal.returns-in-Ok-MergeEnd-clause-serves
returns-in-Ok-MergeEnd-clause-serves g c =
    let binds = rw c.in-Ok-MergeEnd.field-0-is at c.in-Ok-MergeEnd.ensures.ok in
    subst (λ (st : Statement). Serves c.args.self.now.store (g.D.Disk.view c.args.self.now.disk) c.args.session st c.build_and_end.result c.build_and_end.new.self.store (g.D.Disk.view c.build_and_end.new.self.disk)) (sym binds.is) (c.build_and_end.ensures.serves c.args.session c.requires.seat)

pub returns-in-Ok-MergeEnd-clause-dropped : goal.returns-in-Ok-MergeEnd-clause-dropped
returns-in-Ok-MergeEnd-clause-dropped g c drop =
    let binds = rw c.in-Ok-MergeEnd.field-0-is at c.in-Ok-MergeEnd.ensures.ok in
    absurd (let no = sym binds.is ∙ drop in cc)

-- a piece of a savepoint
pub save-requires : goal.save-requires
save-requires g c = record { runs = c.self.invariant (subst (λ (e : Lent g.row.D.Denot). e.store.down ≡ false) (sym c.self.view_is) c.requires.up) }

pub invariant_of-self-in-Ok-Save : goal.invariant_of-self-in-Ok-Save
invariant_of-self-in-Ok-Save g c =
    let ran = c.self.invariant (subst (λ (e : Lent g.row.D.Denot). e.store.down ≡ false) (sym c.self.view_is) c.requires.up) in
    goes_on c.self.inside.store c.save.new.self (g.D.Disk.view c.self.inside.disk.now) (g.D.Disk.view c.save.new.disk) c.args.session (statement_of c.in-Ok-Save.piece) c.save.result ran.0 ran.1 (c.save.ensures.serves c.args.session)

pub returns-in-Ok-Save-clause-serves : goal.returns-in-Ok-Save-clause-serves
returns-in-Ok-Save-clause-serves g c =
    let v = g.D.Disk.view c.self.inside.disk.now in
    let w = g.D.Disk.view c.save.new.disk in
    let binds = rw c.in-Ok-Save.field-0-is at c.in-Ok-Save.ensures.ok in
    subst (λ (e : Lent g.row.D.Denot). Serves e.store (g.D.Disk.view e.disk) c.args.session c.args.st c.save.result c.save.new.self w) c.self.view_is
    (subst (λ (st : Statement). Serves c.self.inside.store v c.args.session st c.save.result c.save.new.self w) (sym binds.is) (c.save.ensures.serves c.args.session))

pub returns-in-Ok-Save-clause-dropped : goal.returns-in-Ok-Save-clause-dropped
returns-in-Ok-Save-clause-dropped g c drop =
    let binds = rw c.in-Ok-Save.field-0-is at c.in-Ok-Save.ensures.ok in
    c.save.ensures.dropped (piece_dropped c.in-Ok-Save.piece (sym binds.is ∙ drop)) ∙ ap (λ (e : Lent g.row.D.Denot). e.disk) c.self.view_is

-- it is refused
pub returns-in-Err-clause-serves : goal.returns-in-Err-clause-serves
returns-in-Err-clause-serves g c =
    let ran = c.self.invariant (subst (λ (e : Lent g.row.D.Denot). e.store.down ≡ false) (sym c.self.view_is) c.requires.up) in
    let served = unsaved c.args.st (λ is. c.in-Err.ensures.save is refl) in
    subst (λ (e : Lent g.row.D.Denot). Serves e.store (g.D.Disk.view e.disk) c.args.session c.args.st (replies.Refused c.in-Err.why) e.store (g.D.Disk.view e.disk)) c.self.view_is
    (serves_refused c.self.inside.store (g.D.Disk.view c.self.inside.disk.now) c.args.session c.requires.seat c.args.st served c.requires.spelled ran c.in-Err.why (g.met.D.Disk.only_now c.self.inside.disk.now) (c.in-Err.ensures.err c.args.session c.requires.seat served))

-- what is planned
pub returns-in-Ok-Task-clause-planned : goal.returns-in-Ok-Task-clause-planned
returns-in-Ok-Task-clause-planned g c begin pages told =
    let binds = rw c.in-Ok-Task.field-0-is at c.in-Ok-Task.ensures.ok in
    absurd (task_begins _ c.args.st c.in-Ok-Task.task binds.is begin)

pub returns-in-Ok-MergeEnd-clause-planned : goal.returns-in-Ok-MergeEnd-clause-planned
returns-in-Ok-MergeEnd-clause-planned g c begin pages told =
    let binds = rw c.in-Ok-MergeEnd.field-0-is at c.in-Ok-MergeEnd.ensures.ok in
    absurd (let no = sym binds.is ∙ begin in cc)

pub returns-in-Ok-Save-clause-planned : goal.returns-in-Ok-Save-clause-planned
returns-in-Ok-Save-clause-planned g c begin pages told =
    let binds = rw c.in-Ok-Save.field-0-is at c.in-Ok-Save.ensures.ok in
    subst (λ (e : Lent g.row.D.Denot). HasPlanned e.store c.save.new.self.saving pages) c.self.view_is
    (c.save.ensures.planned (piece_begun c.in-Ok-Save.piece (sym binds.is ∙ begin)) pages told)

pub returns-in-Err-clause-planned : goal.returns-in-Err-clause-planned
returns-in-Err-clause-planned g c begin pages told = absurd cc
