use Rattle.std.proofs.Common.{List, sym, subst}
use Rattle.ut_plain.specs.Plain.{Plain}
use Rattle.ut_plain.specs.View.{captured_now}
use Rattle.ut_savepoint.specs.declared.captured.CapturedTable.{CapturedTable}
use Rattle.ut_savepoint.specs.Captured.{Captures}
use Rattle.ut_store.specs.Stands.{StandsFor}
use Rattle.ut_engine.proofs.PlanningLemmas.{rows_read, few_tables, planned_is, none_is}
use Rattle.ut_engine.proofs.logged.LoggedStore.planned.Goals as goal

pub captured-requires : goal.captured-requires
captured-requires c =
    let p : Plain = c.requires.stands.plain in
    (p, rows_read c.args.self.now.store p c.all_rows-rows.result.now.rows c.entries-entries.result c.all_rows-rows.ensures c.entries-entries.ensures c.requires.stands.stands)

pub plan-requires : goal.plan-requires
plan-requires c =
    let p : Plain = c.requires.stands.plain in
    let stands : StandsFor c.args.self.now.store p = c.requires.stands.stands in
    few_tables c.deref.result.now p stands.plain (subst (λ (l : List CapturedTable). Captures l (captured_now p)) (sym c.deref.ensures.value) (c.in_ok-tables.ensures p (rows_read c.args.self.now.store p c.all_rows-rows.result.now.rows c.entries-entries.result c.all_rows-rows.ensures c.entries-entries.ensures stands)))

pub returns-clause-planned : goal.returns-clause-planned
returns-clause-planned c =
    let captures = λ (p : Plain) (stands : StandsFor c.args.self.now.store p). subst (λ (l : List CapturedTable). Captures l (captured_now p)) (sym c.deref.ensures.value) (c.in_ok-tables.ensures p (rows_read c.args.self.now.store p c.all_rows-rows.result.now.rows c.entries-entries.result c.all_rows-rows.ensures c.entries-entries.ensures stands)) in
    planned_is c.args.self.now c.captured_root.result c.deref.result.now c.captured_root.ensures captures c.plan.result c.plan.ensures.planned

pub returns-clause-none : goal.returns-clause-none
returns-clause-none c =
    let captures = λ (p : Plain) (stands : StandsFor c.args.self.now.store p). subst (λ (l : List CapturedTable). Captures l (captured_now p)) (sym c.deref.ensures.value) (c.in_ok-tables.ensures p (rows_read c.args.self.now.store p c.all_rows-rows.result.now.rows c.entries-entries.result c.all_rows-rows.ensures c.entries-entries.ensures stands)) in
    none_is c.args.self.now c.captured_root.result c.deref.result.now c.captured_root.ensures captures c.plan.result c.plan.ensures.none
