use Rattle.std.proofs.Common.{sym, subst}
use Rattle.ut_names.specs.declared.bound.Task.{Task}
use Rattle.ut_names.specs.declared.bound.Task.TheVariants as tasks
use Rattle.ut_store.specs.declared.outcome.Outcome.{Outcome}
use Rattle.ut_store.specs.Executing.{Executes, MayExecute}
use Rattle.ut_store.proofs.BoundLemmas.{there_l1, there_merge, there_shape}
use Rattle.ut_store.proofs.store.Store.execute.Goals as goal

pub merge_l1-requires-clause-there : goal.merge_l1-requires-clause-there
merge_l1-requires-clause-there c =
    there_l1 c.args.self.now c.args.session c.in-MergeL1.table c.in-MergeL1.n (subst (λ (task : Task). MayExecute c.args.self.now c.args.session task) c.in-MergeL1.is c.requires)

pub returns-in-MergeL1 : goal.returns-in-MergeL1
returns-in-MergeL1 c =
    subst (λ (task : Task). Executes c.args.self.now c.args.session task c.moved.result c.merge_l1.new.self) (sym c.in-MergeL1.is)
    (subst (λ (o : Outcome). Executes c.args.self.now c.args.session (tasks.MergeL1 c.in-MergeL1.table c.in-MergeL1.n) o c.merge_l1.new.self) (sym c.moved.ensures) (c.merge_l1.ensures c.args.session c.requires.seat))

pub merge_begin-requires-clause-there : goal.merge_begin-requires-clause-there
merge_begin-requires-clause-there c =
    there_merge c.args.self.now c.args.session c.in-MergeBegin.table c.in-MergeBegin.kind (subst (λ (task : Task). MayExecute c.args.self.now c.args.session task) c.in-MergeBegin.is c.requires)

pub returns-in-MergeBegin : goal.returns-in-MergeBegin
returns-in-MergeBegin c =
    subst (λ (task : Task). Executes c.args.self.now c.args.session task c.merging.result c.merge_begin.new.self) (sym c.in-MergeBegin.is)
    (subst (λ (o : Outcome). Executes c.args.self.now c.args.session (tasks.MergeBegin c.in-MergeBegin.table c.in-MergeBegin.kind) o c.merge_begin.new.self) (sym c.merging.ensures) (c.merge_begin.ensures.executes c.args.session c.requires.seat))

pub shape-requires-clause-there : goal.shape-requires-clause-there
shape-requires-clause-there c =
    there_shape c.args.self.now c.args.session c.in-Shape.table (subst (λ (task : Task). MayExecute c.args.self.now c.args.session task) c.in-Shape.is c.requires)

pub returns-in-Shape : goal.returns-in-Shape
returns-in-Shape c =
    subst (λ (task : Task). Executes c.args.self.now c.args.session task c.shown.result c.args.self.now) (sym c.in-Shape.is)
    (subst (λ (o : Outcome). Executes c.args.self.now c.args.session (tasks.Shape c.in-Shape.table) o c.args.self.now) (sym c.shown.ensures) (c.shape.ensures c.args.session c.requires.seat))
