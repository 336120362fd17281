use Rattle.std.proofs.Common.{inl, List, ℕ, Some, refl, sym, subst}
use Rattle.ut_plain.specs.declared.statement.Statement.TheVariants as statements
use Rattle.ut_crowd.specs.Keepers.{IsMergeDue}
use Rattle.ut_crowd.proofs.KeeperLemmas.{l1_is_due}
use Rattle.ut_crowd.proofs.hall.Hall.move_rows.Goals as goal

pub returns-in-Ok-clause-kept : goal.returns-in-Ok-clause-kept
returns-in-Ok-clause-kept g c =
    let old = c.args.self.now.engine.store in
    let was = g.D.Disk.view c.args.self.now.engine.disk in
    let l1 = c.args.self.now.l1 in
    let waited = c.args.self.now.save_waits in
    let table : List ℕ = c.in-Ok.table in (
      statements.MergeL1 table l1,
      subst (λ (name : List ℕ). IsMergeDue l1 waited old was (Some (statements.MergeL1 name l1))) (sym c.in-Ok.ensures.copy) (l1_is_due l1 old was c.args.place c.table_name.result.now c.table_name.ensures.plain waited c.requires.due),
      c.ask.ensures.kept,
      λ goes. tt,
    )

pub returns-in-Err-clause-kept : goal.returns-in-Err-clause-kept
returns-in-Err-clause-kept g c =
    let old = c.args.self.now.engine.store in
    let was = g.D.Disk.view c.args.self.now.engine.disk in
    let l1 = c.args.self.now.l1 in (
      statements.MergeL1 c.table_name.result.now l1,
      l1_is_due l1 old was c.args.place c.table_name.result.now c.table_name.ensures.plain c.args.self.now.save_waits c.requires.due,
      inl refl,
      λ goes. tt,
    )
