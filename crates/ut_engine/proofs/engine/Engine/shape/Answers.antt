use Rattle.std.proofs.Common.{◌≡◌, false, true, is_some, Option, Result, IfOk, refl, sym, ap, subst, arith}
use Rattle.std.specs.declared.alloc.AllocError.{AllocError}
use Rattle.ut_plain.specs.declared.reply.Shape.{Shape}
use Rattle.ut_plain.specs.declared.reply.Reply.{Reply}
use Rattle.ut_plain.specs.declared.reply.Reply.TheVariants as replies
use Rattle.ut_plain.specs.declared.reply.Refusal.TheVariants as refusals
use Rattle.ut_plain.specs.declared.statement.Statement.TheVariants as statements
use Rattle.ut_plain.specs.Names.{has_table}
use Rattle.ut_engine.specs.Lent.{Lent}
use Rattle.ut_engine.specs.Serves.{Serves}
use Rattle.ut_engine.specs.Staging.{shape_reply}
use Rattle.ut_engine.proofs.RunsLemmas.{runs_stand}
use Rattle.ut_engine.proofs.ServedLemmas.{asked_shape, below, serves_told, serves_refused, unknown, wants_memory}
use Rattle.ut_engine.proofs.engine.Engine.shape.Goals as goal
use Rattle.ut_engine.proofs.engine.Engine.shape.Goals.{in-Ok, in-Err}

-- there is no such table
pub returns-in_default-clause-serves : goal.returns-in_default-clause-serves
returns-in_default-clause-serves g c =
    subst (λ (e : Lent g.row.D.Denot). Serves e.store (g.D.Disk.view e.disk) 0 (statements.Shape c.args.table.now) (replies.Refused refusals.Name) e.store (g.D.Disk.view e.disk)) c.self.view_is
    (serves_refused c.self.inside.store (g.D.Disk.view c.self.inside.disk.now) 0 (omega arith) (statements.Shape c.args.table.now) refl c.place_of.ensures.rule (c.self.invariant (subst (λ (e : Lent g.row.D.Denot). e.store.down ≡ false) (sym c.self.view_is) c.requires.up)) refusals.Name (g.met.D.Disk.only_now c.self.inside.disk.now)
    (unknown c.self.inside.store.store c.args.table.now (statements.Shape c.args.table.now) refl refl (sym c.in_default.ensures.place)))

pub shape-requires-clause-stands : goal.shape-requires-clause-stands
shape-requires-clause-stands g c = runs_stand _ _ (c.self.invariant (subst (λ (e : Lent g.row.D.Denot). e.store.down ≡ false) (sym c.self.view_is) c.requires.up))

pub shape-requires-clause-there : goal.shape-requires-clause-there
shape-requires-clause-there g c = below c.self.inside.store.store.rows.tables c.args.table.now c.in-Some.table (sym c.in-Some.ensures.place)

pub returns-in_default-clause-there : goal.returns-in_default-clause-there
returns-in_default-clause-there g c =
    subst (λ (e : Lent g.row.D.Denot). false ≡ has_table e.store.store.rows.tables c.args.table.now) c.self.view_is (sym (ap is_some (sym c.in_default.ensures.place)))

pub returns-clause-serves : goal.returns-clause-serves
returns-clause-serves g c =
    let v = g.D.Disk.view c.self.inside.disk.now in
    let ran = c.self.invariant (subst (λ (e : Lent g.row.D.Denot). e.store.down ≡ false) (sym c.self.view_is) c.requires.up) in
    let now = c.args.self.now in
    let said : (reply : Reply) → shape_reply c.match-shape.result ≡ reply → Serves now.store (g.D.Disk.view now.disk) 0 (statements.Shape c.args.table.now) reply now.store (g.D.Disk.view now.disk)
    → Serves now.store (g.D.Disk.view now.disk) 0 (statements.Shape c.args.table.now) (shape_reply c.match-shape.result) now.store (g.D.Disk.view now.disk) =
    λ reply is serves. subst (λ (r : Reply). Serves now.store (g.D.Disk.view now.disk) 0 (statements.Shape c.args.table.now) r now.store (g.D.Disk.view now.disk)) (sym is) serves in
    elim c.match-shape.branch [
      | in-Ok x ↦ said (replies.Shape x.in-Ok.shape) (ap shape_reply x.result-is)
          (subst (λ (e : Lent g.row.D.Denot). Serves e.store (g.D.Disk.view e.disk) 0 (statements.Shape c.args.table.now) (replies.Shape x.in-Ok.shape) e.store (g.D.Disk.view e.disk)) c.self.view_is
          (serves_told c.self.inside.store v 0 (omega arith) (statements.Shape c.args.table.now) refl c.place_of.ensures.rule ran c.self.inside.store.store (replies.Shape x.in-Ok.shape) (g.met.D.Disk.only_now c.self.inside.disk.now) refl refl
          ((x.in-Ok.ensures 0 (omega arith)).each (statements.Shape c.args.table.now) (asked_shape c.self.inside.store.store c.args.table.now c.in-Some.table c.place_of.ensures.rule (sym c.in-Some.ensures.place)))))
      | in-Err x ↦ said (replies.Refused refusals.Memory) (ap shape_reply x.result-is) (wants_memory now.store (g.D.Disk.view now.disk) 0 (statements.Shape c.args.table.now) (g.met.D.Disk.only_now now.disk) refl)
    ]

pub returns-clause-there : goal.returns-clause-there
returns-clause-there g c =
    let now = c.args.self.now in
    let there = subst (λ (e : Lent g.row.D.Denot). true ≡ has_table e.store.store.rows.tables c.args.table.now) c.self.view_is (sym (ap is_some (sym c.in-Some.ensures.place))) in
    elim c.match-shape.branch [
      | in-Ok x ↦ subst (λ (r : Result (Option Shape) AllocError). IfOk r (λ shape. is_some shape ≡ has_table now.store.store.rows.tables c.args.table.now)) (sym x.result-is) there
      | in-Err x ↦ subst (λ (r : Result (Option Shape) AllocError). IfOk r (λ shape. is_some shape ≡ has_table now.store.store.rows.tables c.args.table.now)) (sym x.result-is) tt
    ]
