use Rattle.std.proofs.Common.{Some, sym, subst, arith}
use Rattle.ut_plain.specs.declared.reply.Reply.{Reply}
use Rattle.ut_plain.specs.declared.statement.Parsed.TheVariants.{Good}
use Rattle.ut_plain.specs.declared.statement.Statement.TheVariants as statements
use Rattle.ut_course.specs.Coming.{Comes}
use Rattle.ut_course.proofs.ComeLemmas.{comes_statement}
use Rattle.ut_engine.specs.Merging.{EndsMerge}
use Rattle.ut_engine.proofs.MergingLemmas.{ends_told}
use Rattle.ut_course.proofs.answer.end_merge.Goals as goal

pub returns-clause-comes : goal.returns-clause-comes
returns-clause-comes g c =
    subst (λ (r : Reply). Comes c.args.engine.now.store (g.D.Disk.view c.args.engine.now.disk) (Good 0 statements.MergeEnd) (Some 0) r c.merge_end.new.self.store (g.D.Disk.view c.merge_end.new.self.disk)) (sym c.end_reply.ensures)
    (comes_statement _ _ 0 statements.MergeEnd _ _ _ (c.merge_end.ensures.serves 0 (omega arith)))

pub returns-clause-ends : goal.returns-clause-ends
returns-clause-ends g c =
    subst (λ (r : Reply). EndsMerge c.args.engine.now.store.store.counts.pending r) (sym c.end_reply.ensures) (ends_told c.args.engine.now.store.store.counts.pending c.merge_end.result c.merge_end.ensures.number)
