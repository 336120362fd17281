use Rattle.std.proofs.Common.{◌≡◌, None, Some, Result, Err, IfOk, false, is_some, refl, sym, ap, ◌∙◌, subst, arith, IsTrue}
use Rattle.ut_merge.specs.Jobs.{JobValue}
use Rattle.ut_plain.specs.declared.reply.Reply.{Reply}
use Rattle.ut_plain.specs.declared.reply.Reply.TheVariants as replies
use Rattle.ut_plain.specs.declared.reply.Refusal.TheVariants as refusals
use Rattle.ut_plain.specs.declared.reply.Why.TheVariants as whys
use Rattle.ut_plain.specs.declared.statement.Statement.TheVariants as statements
use Rattle.ut_plain.specs.Names.{has_table}
use Rattle.ut_outside.specs.Faults.{Rose}
use Rattle.ut_store.specs.Jobs.{pending_job}
use Rattle.ut_plain.specs.Plain.{Plain}
use Rattle.ut_engine.specs.declared.error.BeginError.{BeginError}
use Rattle.ut_engine.specs.declared.error.BeginError.TheVariants as errors
use Rattle.ut_engine.specs.Lent.{Lent}
use Rattle.ut_engine.specs.Logged.{Logged}
use Rattle.ut_engine.specs.Merging.{begin_reply, is_fault, HasReason}
use Rattle.ut_engine.specs.Runs.{Runs}
use Rattle.ut_engine.specs.Serves.{Serves}
use Rattle.ut_engine.proofs.LentLemmas.{goes_on}
use Rattle.ut_engine.proofs.RunsLemmas.{are_ready, runs_stand}
use Rattle.ut_engine.proofs.ServedLemmas.{asked_merge, below, serves_merge, serves_no_merge, serves_refused, serves_stopped, unknown}
use Rattle.ut_engine.proofs.engine.Engine.merge_begin.Goals as goal
use Rattle.ut_engine.proofs.engine.Engine.merge_begin.Goals.{in-Ok-append, in-Err}

-- there is no such table
pub returns-in_default-clause-serves : goal.returns-in_default-clause-serves
returns-in_default-clause-serves g c =
    subst (λ (e : Lent g.row.D.Denot). Serves e.store (g.D.Disk.view e.disk) 0 (statements.MergeBegin c.args.table.now c.args.kind) (replies.Refused refusals.Name) e.store (g.D.Disk.view e.disk)) c.self.view_is
    (serves_refused c.self.inside.store (g.D.Disk.view c.self.inside.disk.now) 0 (omega arith) (statements.MergeBegin c.args.table.now c.args.kind) refl c.place_of.ensures.rule (c.self.invariant (subst (λ (e : Lent g.row.D.Denot). e.store.down ≡ false) (sym c.self.view_is) c.requires.up)) refusals.Name (g.met.D.Disk.only_now c.self.inside.disk.now)
    (unknown c.self.inside.store.store c.args.table.now (statements.MergeBegin c.args.table.now c.args.kind) refl refl (sym c.in_default.ensures.place)))

pub merge_begin-requires-clause-stands : goal.merge_begin-requires-clause-stands
merge_begin-requires-clause-stands g c = runs_stand _ _ (c.self.invariant (subst (λ (e : Lent g.row.D.Denot). e.store.down ≡ false) (sym c.self.view_is) c.requires.up))

pub merge_begin-requires-clause-there : goal.merge_begin-requires-clause-there
merge_begin-requires-clause-there g c = below c.self.inside.store.store.rows.tables c.args.table.now c.in-Some.table (sym c.in-Some.ensures.place)

pub append-requires : goal.append-requires
append-requires g c = let ready = are_ready _ _ (c.self.invariant (subst (λ (e : Lent g.row.D.Denot). e.store.down ≡ false) (sym c.self.view_is) c.requires.up)) in record { log = ready.log; room = ready.room; settled = ready.settled }

pub returns-in_default-clause-reason : goal.returns-in_default-clause-reason
returns-in_default-clause-reason g c =
    subst (λ (e : Lent g.row.D.Denot). has_table e.store.store.rows.tables c.args.table.now ≡ false) c.self.view_is (ap is_some (sym c.in_default.ensures.place))

-- it begins, or the disk failed
pub invariant_of-self : goal.invariant_of-self
invariant_of-self g c =
    let v = g.D.Disk.view c.self.inside.disk.now in
    let w = g.D.Disk.view c.append.new.disk in
    let ran = c.self.invariant (subst (λ (e : Lent g.row.D.Denot). e.store.down ≡ false) (sym c.self.view_is) c.requires.up) in
    let number = c.in-Ok.job.head.number in
    let answers = (c.in-Ok.ensures.executes 0 (omega arith)).each (statements.MergeBegin c.args.table.now c.args.kind) (asked_merge c.self.inside.store.store c.args.table.now c.args.kind c.in-Some.table c.place_of.ensures.rule (sym c.in-Some.ensures.place)) in
    let on : (reply : Reply) → Serves c.self.inside.store v 0 (statements.MergeBegin c.args.table.now c.args.kind) reply c.append.new.self w → c.append.new.self.down ≡ false → (p : Plain) × Runs c.append.new.self w p =
    λ reply serves. goes_on c.self.inside.store c.append.new.self v w 0 (statements.MergeBegin c.args.table.now c.args.kind) reply ran.0 ran.1 serves in
    elim c.match-append.branch [
      | in-Ok-append x ↦ on (replies.Merge number) (serves_merge c.self.inside.store v 0 (omega arith) (statements.MergeBegin c.args.table.now c.args.kind) refl c.place_of.ensures.rule ran w c.merge_begin.new.self number refl answers c.append.ensures.any_moment c.append.new.self x.in-Ok-append.ensures.kept x.in-Ok-append.ensures.ok)
      | in-Err x ↦ on replies.DiskFault (serves_no_merge c.self.inside.store v 0 (omega arith) (statements.MergeBegin c.args.table.now c.args.kind) refl c.place_of.ensures.rule ran w c.merge_begin.new.self number refl answers c.append.ensures.any_moment c.append.new.self x.in-Err.ensures.down x.in-Err.ensures.err)
    ]

pub returns-after-append-clause-serves : goal.returns-after-append-clause-serves
returns-after-append-clause-serves g c =
    let v = g.D.Disk.view c.self.inside.disk.now in
    let w = g.D.Disk.view c.append.new.disk in
    let ran = c.self.invariant (subst (λ (e : Lent g.row.D.Denot). e.store.down ≡ false) (sym c.self.view_is) c.requires.up) in
    let number = c.in-Ok.job.head.number in
    let answers = (c.in-Ok.ensures.executes 0 (omega arith)).each (statements.MergeBegin c.args.table.now c.args.kind) (asked_merge c.self.inside.store.store c.args.table.now c.args.kind c.in-Some.table c.place_of.ensures.rule (sym c.in-Some.ensures.place)) in
    let told : (reply : Reply) → begin_reply c.match-append.result ≡ reply → Serves c.self.inside.store v 0 (statements.MergeBegin c.args.table.now c.args.kind) reply c.append.new.self w → Serves c.args.self.now.store (g.D.Disk.view c.args.self.now.disk) 0 (statements.MergeBegin c.args.table.now c.args.kind) (begin_reply c.match-append.result) c.append.new.self w =
    λ reply is serves. subst (λ (e : Lent g.row.D.Denot). Serves e.store (g.D.Disk.view e.disk) 0 (statements.MergeBegin c.args.table.now c.args.kind) (begin_reply c.match-append.result) c.append.new.self w) c.self.view_is
    (subst (λ (r : Reply). Serves c.self.inside.store v 0 (statements.MergeBegin c.args.table.now c.args.kind) r c.append.new.self w) (sym is) serves) in
    elim c.match-append.branch [
      | in-Ok-append x ↦ told (replies.Merge number) (ap begin_reply x.result-is) (serves_merge c.self.inside.store v 0 (omega arith) (statements.MergeBegin c.args.table.now c.args.kind) refl c.place_of.ensures.rule ran w c.merge_begin.new.self number refl answers c.append.ensures.any_moment c.append.new.self x.in-Ok-append.ensures.kept x.in-Ok-append.ensures.ok)
      | in-Err x ↦ told replies.DiskFault (ap begin_reply x.result-is) (serves_no_merge c.self.inside.store v 0 (omega arith) (statements.MergeBegin c.args.table.now c.args.kind) refl c.place_of.ensures.rule ran w c.merge_begin.new.self number refl answers c.append.ensures.any_moment c.append.new.self x.in-Err.ensures.down x.in-Err.ensures.err)
    ]

pub returns-after-append-clause-job : goal.returns-after-append-clause-job
returns-after-append-clause-job g c =
    elim c.match-append.branch [
      | in-Ok-append x ↦ subst (λ (r : Result JobValue BeginError). IfOk r (λ job. pending_job c.append.new.self.store ≡ Some job)) (sym x.result-is)
          (ap (λ (e : Logged). pending_job e.store) x.in-Ok-append.ensures.kept ∙ (c.in-Ok.ensures.executes 0 (omega arith)).job c.in-Ok.job refl)
      | in-Err x ↦ subst (λ (r : Result JobValue BeginError). IfOk r (λ job. pending_job c.append.new.self.store ≡ Some job)) (sym x.result-is) tt
    ]

pub returns-after-append-clause-reason : goal.returns-after-append-clause-reason
returns-after-append-clause-reason g c =
    let now = c.args.self.now.store.store in
    let none = subst (λ (e : Lent g.row.D.Denot). IsTrue (has_table e.store.store.rows.tables c.args.table.now) × (e.store.store.counts.pending ≡ None)) c.self.view_is (ap is_some (sym c.in-Some.ensures.place), c.in-Ok.ensures.idle) in
    elim c.match-append.branch [
      | in-Ok-append x ↦ subst (λ (r : Result JobValue BeginError). HasReason r (has_table now.rows.tables c.args.table.now) now.counts.pending) (sym x.result-is) none
      | in-Err x ↦ subst (λ (r : Result JobValue BeginError). HasReason r (has_table now.rows.tables c.args.table.now) now.counts.pending) (sym x.result-is) none
    ]

pub returns-after-append-clause-cause : goal.returns-after-append-clause-cause
returns-after-append-clause-cause g c is =
    let w = g.D.Disk.view c.append.new.disk in
    elim c.match-append.branch [
      | in-Ok-append x ↦ absurd (let other = sym x.result-is ∙ is in cc)
      | in-Err x ↦ subst (λ (e : Lent g.row.D.Denot). Rose (g.D.Disk.view e.disk).faults w.faults) c.self.view_is x.in-Err.ensures.err.rose
    ]

pub returns-after-append-clause-down : goal.returns-after-append-clause-down
returns-after-append-clause-down g c =
    let up = subst (λ (e : Lent g.row.D.Denot). e.store.down ≡ false) (sym c.self.view_is) c.requires.up in
    elim c.match-append.branch [
      | in-Ok-append x ↦ ap (λ (e : Logged). e.down) x.in-Ok-append.ensures.kept ∙ up ∙ sym (ap is_fault x.result-is)
      | in-Err x ↦ ap (λ (e : Logged). e.down) x.in-Err.ensures.down ∙ sym (ap is_fault x.result-is)
    ]

-- another is pending
pub invariant_of-self-in-Err-Busy : goal.invariant_of-self-in-Err-Busy
invariant_of-self-in-Err-Busy g c =
    let v = g.D.Disk.view c.self.inside.disk.now in
    let does = rw c.in-Err-Busy.field-0-is at c.in-Err-Busy.ensures.executes in
    let new = record c.self.inside.store { store = c.merge_begin.new.self } in
    let ran = c.self.invariant (subst (λ (e : Lent g.row.D.Denot). e.store.down ≡ false) (sym c.self.view_is) c.requires.up) in
    goes_on c.self.inside.store new v v 0 (statements.MergeBegin c.args.table.now c.args.kind) (replies.Refused (refusals.State (whys.Busy c.in-Err-Busy.number))) ran.0 ran.1
    (serves_stopped c.self.inside.store v c.merge_begin.new.self c.args.table.now c.args.kind c.in-Some.table (refusals.State (whys.Busy c.in-Err-Busy.number)) (g.met.D.Disk.only_now c.self.inside.disk.now) ran c.place_of.ensures.rule (sym c.in-Some.ensures.place) does)

pub returns-in-Err-Busy-clause-down : goal.returns-in-Err-Busy-clause-down
returns-in-Err-Busy-clause-down g c = subst (λ (e : Lent g.row.D.Denot). e.store.down ≡ false) (sym c.self.view_is) c.requires.up

pub returns-in-Err-Busy-clause-serves : goal.returns-in-Err-Busy-clause-serves
returns-in-Err-Busy-clause-serves g c =
    let does = rw c.in-Err-Busy.field-0-is at c.in-Err-Busy.ensures.executes in
    let new = record c.self.inside.store { store = c.merge_begin.new.self } in
    subst (λ (e : Lent g.row.D.Denot). Serves e.store (g.D.Disk.view e.disk) 0 (statements.MergeBegin c.args.table.now c.args.kind) (replies.Refused (refusals.State (whys.Busy c.in-Err-Busy.number))) new (g.D.Disk.view c.self.inside.disk.now)) c.self.view_is
    (serves_stopped c.self.inside.store (g.D.Disk.view c.self.inside.disk.now) c.merge_begin.new.self c.args.table.now c.args.kind c.in-Some.table (refusals.State (whys.Busy c.in-Err-Busy.number)) (g.met.D.Disk.only_now c.self.inside.disk.now)
    (c.self.invariant (subst (λ (e : Lent g.row.D.Denot). e.store.down ≡ false) (sym c.self.view_is) c.requires.up)) c.place_of.ensures.rule (sym c.in-Some.ensures.place) does)

pub returns-in-Err-Busy-clause-reason : goal.returns-in-Err-Busy-clause-reason
returns-in-Err-Busy-clause-reason g c =
    let busy = rw c.in-Err-Busy.field-0-is at c.in-Err-Busy.ensures.busy in
    subst (λ (e : Lent g.row.D.Denot). HasReason (Err (errors.Busy c.in-Err-Busy.number)) (has_table e.store.store.rows.tables c.args.table.now) e.store.store.counts.pending) c.self.view_is (ap is_some (sym c.in-Some.ensures.place), busy c.in-Err-Busy.number refl)

-- there is no room
pub invariant_of-self-in-Err-Full : goal.invariant_of-self-in-Err-Full
invariant_of-self-in-Err-Full g c =
    let v = g.D.Disk.view c.self.inside.disk.now in
    let does = rw c.in-Err-Full.field-0-is at c.in-Err-Full.ensures.executes in
    let new = record c.self.inside.store { store = c.merge_begin.new.self } in
    let ran = c.self.invariant (subst (λ (e : Lent g.row.D.Denot). e.store.down ≡ false) (sym c.self.view_is) c.requires.up) in
    goes_on c.self.inside.store new v v 0 (statements.MergeBegin c.args.table.now c.args.kind) (replies.Refused refusals.Full) ran.0 ran.1
    (serves_stopped c.self.inside.store v c.merge_begin.new.self c.args.table.now c.args.kind c.in-Some.table refusals.Full (g.met.D.Disk.only_now c.self.inside.disk.now) ran c.place_of.ensures.rule (sym c.in-Some.ensures.place) does)

pub returns-in-Err-Full-clause-down : goal.returns-in-Err-Full-clause-down
returns-in-Err-Full-clause-down g c = subst (λ (e : Lent g.row.D.Denot). e.store.down ≡ false) (sym c.self.view_is) c.requires.up

pub returns-in-Err-Full-clause-serves : goal.returns-in-Err-Full-clause-serves
returns-in-Err-Full-clause-serves g c =
    let does = rw c.in-Err-Full.field-0-is at c.in-Err-Full.ensures.executes in
    let new = record c.self.inside.store { store = c.merge_begin.new.self } in
    subst (λ (e : Lent g.row.D.Denot). Serves e.store (g.D.Disk.view e.disk) 0 (statements.MergeBegin c.args.table.now c.args.kind) (replies.Refused refusals.Full) new (g.D.Disk.view c.self.inside.disk.now)) c.self.view_is
    (serves_stopped c.self.inside.store (g.D.Disk.view c.self.inside.disk.now) c.merge_begin.new.self c.args.table.now c.args.kind c.in-Some.table refusals.Full (g.met.D.Disk.only_now c.self.inside.disk.now)
    (c.self.invariant (subst (λ (e : Lent g.row.D.Denot). e.store.down ≡ false) (sym c.self.view_is) c.requires.up)) c.place_of.ensures.rule (sym c.in-Some.ensures.place) does)

pub returns-in-Err-Full-clause-reason : goal.returns-in-Err-Full-clause-reason
returns-in-Err-Full-clause-reason g c =
    let full = rw c.in-Err-Full.field-0-is at c.in-Err-Full.ensures.full in
    subst (λ (e : Lent g.row.D.Denot). IsTrue (has_table e.store.store.rows.tables c.args.table.now) × (e.store.store.counts.pending ≡ None)) c.self.view_is (ap is_some (sym c.in-Some.ensures.place), full refl)

-- memory is wanting
pub invariant_of-self-in-Err-Memory : goal.invariant_of-self-in-Err-Memory
invariant_of-self-in-Err-Memory g c =
    let v = g.D.Disk.view c.self.inside.disk.now in
    let does = rw c.in-Err-Memory.field-0-is at c.in-Err-Memory.ensures.executes in
    let new = record c.self.inside.store { store = c.merge_begin.new.self } in
    let ran = c.self.invariant (subst (λ (e : Lent g.row.D.Denot). e.store.down ≡ false) (sym c.self.view_is) c.requires.up) in
    goes_on c.self.inside.store new v v 0 (statements.MergeBegin c.args.table.now c.args.kind) (replies.Refused refusals.Memory) ran.0 ran.1
    (serves_stopped c.self.inside.store v c.merge_begin.new.self c.args.table.now c.args.kind c.in-Some.table refusals.Memory (g.met.D.Disk.only_now c.self.inside.disk.now) ran c.place_of.ensures.rule (sym c.in-Some.ensures.place) does)

pub returns-in-Err-Memory-clause-down : goal.returns-in-Err-Memory-clause-down
returns-in-Err-Memory-clause-down g c = subst (λ (e : Lent g.row.D.Denot). e.store.down ≡ false) (sym c.self.view_is) c.requires.up

pub returns-in-Err-Memory-clause-serves : goal.returns-in-Err-Memory-clause-serves
returns-in-Err-Memory-clause-serves g c =
    let does = rw c.in-Err-Memory.field-0-is at c.in-Err-Memory.ensures.executes in
    let new = record c.self.inside.store { store = c.merge_begin.new.self } in
    subst (λ (e : Lent g.row.D.Denot). Serves e.store (g.D.Disk.view e.disk) 0 (statements.MergeBegin c.args.table.now c.args.kind) (replies.Refused refusals.Memory) new (g.D.Disk.view c.self.inside.disk.now)) c.self.view_is
    (serves_stopped c.self.inside.store (g.D.Disk.view c.self.inside.disk.now) c.merge_begin.new.self c.args.table.now c.args.kind c.in-Some.table refusals.Memory (g.met.D.Disk.only_now c.self.inside.disk.now)
    (c.self.invariant (subst (λ (e : Lent g.row.D.Denot). e.store.down ≡ false) (sym c.self.view_is) c.requires.up)) c.place_of.ensures.rule (sym c.in-Some.ensures.place) does)
