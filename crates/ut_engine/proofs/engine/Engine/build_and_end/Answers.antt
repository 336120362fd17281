use Rattle.std.proofs.Common.{Some, refl, sym, ◌∙◌, ap, subst}
use Rattle.ut_plain.specs.declared.reply.Reply.{Reply}
use Rattle.ut_plain.specs.declared.statement.Statement.TheVariants as statements
use Rattle.ut_engine.specs.Serves.{Serves}
use Rattle.ut_engine.proofs.ServedLemmas.{serves_nothing, wants_memory}
use Rattle.ut_engine.proofs.engine.Engine.build_and_end.Goals as goal

-- no merge is pending
pub returns-in-Ok-None-clause-serves : goal.returns-in-Ok-None-clause-serves
returns-in-Ok-None-clause-serves g c session low =
    let none = rw c.in-Ok-None.field-0-is at c.in-Ok-None.ensures in
    serves_nothing c.args.self.now.store (g.D.Disk.view c.args.self.now.disk) session (g.met.D.Disk.only_now c.args.self.now.disk) (sym none)

-- its part was built
pub merge_end-requires-clause-built : goal.merge_end-requires-clause-built
merge_end-requires-clause-built g c =
    let job = rw c.in-Ok-Some.field-0-is at c.in-Ok-Some.ensures in
    sym job ∙ ap Some (sym c.in-Ok.ensures.built)

pub returns-in-Ok-clause-serves : goal.returns-in-Ok-clause-serves
returns-in-Ok-clause-serves g c session low =
    subst (λ (r : Reply). Serves c.args.self.now.store (g.D.Disk.view c.args.self.now.disk) session statements.MergeEnd r c.merge_end.new.self.store (g.D.Disk.view c.merge_end.new.self.disk)) (sym c.end_reply.ensures) (c.merge_end.ensures.serves session low)

-- memory was wanting, to build or to share the job
pub returns-in-Ok-Some-clause-serves : goal.returns-in-Ok-Some-clause-serves
returns-in-Ok-Some-clause-serves g c session low =
    wants_memory c.args.self.now.store (g.D.Disk.view c.args.self.now.disk) session statements.MergeEnd (g.met.D.Disk.only_now c.args.self.now.disk) refl

pub returns-clause-serves : goal.returns-clause-serves
returns-clause-serves g c session low =
    wants_memory c.args.self.now.store (g.D.Disk.view c.args.self.now.disk) session statements.MergeEnd (g.met.D.Disk.only_now c.args.self.now.disk) refl
