use Rattle.std.proofs.Common.{◌⊎◌, Some, sym, ◌∙◌, ap, subst}
use Rattle.std.specs.Prelude.{IsTrue}
use Rattle.ut_plain.specs.declared.statement.Parsed.TheVariants.{Good}
use Rattle.ut_plain.specs.declared.statement.Statement.TheVariants.{MergeBegin}
use Rattle.ut_plain.specs.declared.reply.Reply.{Reply}
use Rattle.ut_engine.specs.Merging.{begin_reply, is_fault}
use Rattle.ut_course.specs.Coming.{Comes}
use Rattle.ut_course.proofs.ComeLemmas.{comes_statement}
use Rattle.ut_crowd.specs.Asking.{is_refusal}
use Rattle.ut_crowd.proofs.KeeperLemmas.{begin_over}
use Rattle.ut_crowd.proofs.merger.begin.Goals as goal

pub returns-in-Ok-clause-comes : goal.returns-in-Ok-clause-comes
returns-in-Ok-clause-comes g c =
    subst (λ (r : Reply). Comes c.args.engine.now.store (g.D.Disk.view c.args.engine.now.disk) (Good 0 (MergeBegin c.args.table.now c.args.kind)) (Some 0) r c.merge_begin-answer.new.self.store (g.D.Disk.view c.merge_begin-answer.new.self.disk)) (sym c.begin_reply-reply.ensures)
    (comes_statement _ _ 0 (MergeBegin c.args.table.now c.args.kind) _ _ _ c.merge_begin-answer.ensures.serves)

pub returns-in-Err-clause-comes : goal.returns-in-Err-clause-comes
returns-in-Err-clause-comes g c =
    subst (λ (r : Reply). Comes c.args.engine.now.store (g.D.Disk.view c.args.engine.now.disk) (Good 0 (MergeBegin c.args.table.now c.args.kind)) (Some 0) r c.merge_begin-answer.new.self.store (g.D.Disk.view c.merge_begin-answer.new.self.disk)) (sym c.begin_reply-reply.ensures)
    (comes_statement _ _ 0 (MergeBegin c.args.table.now c.args.kind) _ _ _ c.merge_begin-answer.ensures.serves)

pub returns-in-Err-clause-none : goal.returns-in-Err-clause-none
returns-in-Err-clause-none g c =
    subst (λ (r : Reply). IsTrue (is_refusal r) ⊎ IsTrue c.merge_begin-answer.new.self.store.down) (sym (c.begin_reply-reply.ensures ∙ ap begin_reply c.in-Err.is))
    (begin_over c.in-Err.field-0 c.merge_begin-answer.new.self.store.down (c.merge_begin-answer.ensures.down ∙ ap is_fault c.in-Err.is))
