use Rattle.std.proofs.Common.{◌≡◌, ℕ, Some, true, false, is_err, Result, IfOk, refl, sym, ap, ◌∙◌, subst, arith}
use Rattle.std.specs.Option.{option_map}
use Rattle.ut_plain.specs.declared.stage.PendingMerge.{PendingMerge}
use Rattle.ut_plain.specs.declared.reply.Reply.{Reply}
use Rattle.ut_plain.specs.declared.reply.Reply.TheVariants as replies
use Rattle.ut_plain.specs.declared.statement.Statement.TheVariants as statements
use Rattle.ut_outside.specs.declared.faults.Failed.{Failed}
use Rattle.ut_outside.specs.Faults.{Rose}
use Rattle.ut_plain.specs.Plain.{Plain}
use Rattle.ut_store.specs.Jobs.{pending_job}
use Rattle.ut_engine.specs.Lent.{Lent}
use Rattle.ut_engine.specs.Logged.{Logged}
use Rattle.ut_engine.specs.Merging.{end_reply}
use Rattle.ut_engine.specs.Runs.{Runs}
use Rattle.ut_engine.specs.Serves.{Serves}
use Rattle.ut_engine.proofs.LentLemmas.{goes_on}
use Rattle.ut_engine.proofs.RunsLemmas.{are_ready, runs_stand}
use Rattle.ut_engine.proofs.ServedLemmas.{serves_merge, serves_no_merge}
use Rattle.ut_engine.proofs.engine.Engine.merge_end.Goals as goal
use Rattle.ut_engine.proofs.engine.Engine.merge_end.Goals.{in-Ok, in-Err}

pub merge_end-number-requires-clause-stands : goal.merge_end-number-requires-clause-stands
merge_end-number-requires-clause-stands g c = runs_stand _ _ (c.self.invariant (subst (λ (e : Lent g.row.D.Denot). e.store.down ≡ false) (sym c.self.view_is) c.requires.up))

pub merge_end-number-requires-clause-built : goal.merge_end-number-requires-clause-built
merge_end-number-requires-clause-built g c = subst (λ (e : Lent g.row.D.Denot). pending_job e.store.store ≡ Some c.args.built) (sym c.self.view_is) c.requires.built

pub append-requires : goal.append-requires
append-requires g c = let ready = are_ready _ _ (c.self.invariant (subst (λ (e : Lent g.row.D.Denot). e.store.down ≡ false) (sym c.self.view_is) c.requires.up)) in record { log = ready.log; room = ready.room; settled = ready.settled }

pub invariant_of-self : goal.invariant_of-self
invariant_of-self g c =
    let v = g.D.Disk.view c.self.inside.disk.now in
    let w = g.D.Disk.view c.append.new.disk in
    let ran = c.self.invariant (subst (λ (e : Lent g.row.D.Denot). e.store.down ≡ false) (sym c.self.view_is) c.requires.up) in
    let on : (reply : Reply) → Serves c.self.inside.store v 0 statements.MergeEnd reply c.append.new.self w → c.append.new.self.down ≡ false → (p : Plain) × Runs c.append.new.self w p =
    λ reply serves. goes_on c.self.inside.store c.append.new.self v w 0 statements.MergeEnd reply ran.0 ran.1 serves in
    elim c.match-append.branch [
      | in-Ok x ↦ on (replies.Merge c.merge_end-number.result) (serves_merge c.self.inside.store v 0 (omega arith) statements.MergeEnd refl refl ran w c.merge_end-number.new.self c.merge_end-number.result refl (c.merge_end-number.ensures.answers 0 (omega arith)) c.append.ensures.any_moment c.append.new.self x.in-Ok.ensures.kept x.in-Ok.ensures.ok)
      | in-Err x ↦ on replies.DiskFault (serves_no_merge c.self.inside.store v 0 (omega arith) statements.MergeEnd refl refl ran w c.merge_end-number.new.self c.merge_end-number.result refl (c.merge_end-number.ensures.answers 0 (omega arith)) c.append.ensures.any_moment c.append.new.self x.in-Err.ensures.down x.in-Err.ensures.err)
    ]

pub returns-clause-serves : goal.returns-clause-serves
returns-clause-serves g c session low =
    let v = g.D.Disk.view c.self.inside.disk.now in
    let w = g.D.Disk.view c.append.new.disk in
    let ran = c.self.invariant (subst (λ (e : Lent g.row.D.Denot). e.store.down ≡ false) (sym c.self.view_is) c.requires.up) in
    let told : (reply : Reply) → end_reply c.match-append.result ≡ reply → Serves c.self.inside.store v session statements.MergeEnd reply c.append.new.self w → Serves c.args.self.now.store (g.D.Disk.view c.args.self.now.disk) session statements.MergeEnd (end_reply c.match-append.result) c.append.new.self w =
    λ reply is serves. subst (λ (e : Lent g.row.D.Denot). Serves e.store (g.D.Disk.view e.disk) session statements.MergeEnd (end_reply c.match-append.result) c.append.new.self w) c.self.view_is
    (subst (λ (r : Reply). Serves c.self.inside.store v session statements.MergeEnd r c.append.new.self w) (sym is) serves) in
    elim c.match-append.branch [
      | in-Ok x ↦ told (replies.Merge c.merge_end-number.result) (ap end_reply x.result-is) (serves_merge c.self.inside.store v session low statements.MergeEnd refl refl ran w c.merge_end-number.new.self c.merge_end-number.result refl (c.merge_end-number.ensures.answers session low) c.append.ensures.any_moment c.append.new.self x.in-Ok.ensures.kept x.in-Ok.ensures.ok)
      | in-Err x ↦ told replies.DiskFault (ap end_reply x.result-is) (serves_no_merge c.self.inside.store v session low statements.MergeEnd refl refl ran w c.merge_end-number.new.self c.merge_end-number.result refl (c.merge_end-number.ensures.answers session low) c.append.ensures.any_moment c.append.new.self x.in-Err.ensures.down x.in-Err.ensures.err)
    ]

pub returns-clause-number : goal.returns-clause-number
returns-clause-number g c =
    let number = subst (λ (e : Lent g.row.D.Denot). option_map (λ (m : PendingMerge). m.number) e.store.store.counts.pending ≡ Some c.merge_end-number.result) c.self.view_is c.merge_end-number.ensures.number in
    elim c.match-append.branch [
      | in-Ok x ↦ subst (λ (r : Result ℕ Failed). IfOk r (λ n. option_map (λ (m : PendingMerge). m.number) c.args.self.now.store.store.counts.pending ≡ Some n)) (sym x.result-is) number
      | in-Err x ↦ subst (λ (r : Result ℕ Failed). IfOk r (λ n. option_map (λ (m : PendingMerge). m.number) c.args.self.now.store.store.counts.pending ≡ Some n)) (sym x.result-is) tt
    ]

pub returns-clause-down : goal.returns-clause-down
returns-clause-down g c =
    let up = subst (λ (e : Lent g.row.D.Denot). e.store.down ≡ false) (sym c.self.view_is) c.requires.up in
    elim c.match-append.branch [
      | in-Ok x ↦ ap (λ (e : Logged). e.down) x.in-Ok.ensures.kept ∙ up ∙ sym (ap is_err x.result-is)
      | in-Err x ↦ ap (λ (e : Logged). e.down) x.in-Err.ensures.down ∙ sym (ap is_err x.result-is)
    ]

pub returns-clause-cause : goal.returns-clause-cause
returns-clause-cause g c is =
    let w = g.D.Disk.view c.append.new.disk in
    elim c.match-append.branch [
      | in-Ok x ↦ absurd (let no : true ≡ false = sym is ∙ ap is_err x.result-is in cc)
      | in-Err x ↦ subst (λ (e : Lent g.row.D.Denot). Rose (g.D.Disk.view e.disk).faults w.faults) c.self.view_is x.in-Err.ensures.err.rose
    ]
