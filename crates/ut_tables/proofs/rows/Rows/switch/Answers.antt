use Rattle.std.proofs.Common.{◌∙◌, length, refl, ap, subst}
use Rattle.ut_plain.specs.Merges.{staying}
use Rattle.ut_staged.specs.Staged.{Staged, switched}
use Rattle.ut_staged.specs.Tables.{IsArranged}
use Rattle.ut_table.specs.Pending.{pending_job}
use Rattle.ut_tables.specs.contracts.rows.Rows.{the_view}
use Rattle.ut_tables.proofs.IndexLemmas.{changed_to, job_table, read_is}
use Rattle.ut_tables.proofs.rows.Rows.switch.Goals as goal

pub switch-requires : goal.switch-requires
switch-requires c =
    let t = job_table c.args.self.now.rows c.args.place c.args.built c.requires in
    ap pending_job (read_is (the_view c.self.inside) _ c.self.inside.stages.items c.args.place c.index_mut.result.now c.index_mut.result.now c.self.view_is refl c.index_mut.ensures.value t.table t.at) ∙ t.has

pub returns : goal.returns
returns c =
    let t = job_table c.args.self.now.rows c.args.place c.args.built c.requires in
    let kind = c.args.built.head.kind in
    let here = read_is (the_view c.self.inside) _ c.self.inside.stages.items c.args.place c.index_mut.result.now c.index_mut.result.now c.self.view_is refl c.index_mut.ensures.value t.table t.at in
    record {
      table = t.table;
      at = t.at;
      olds = c.switch.ensures.0;
      arranged = subst (λ (s : Staged). IsArranged kind s c.switch.ensures.0) here c.switch.ensures.1;
      rows = changed_to (the_view c.self.inside) _ c.self.inside.stages.items c.args.place c.index_mut.result.now c.switch.new.self c.self.view_is refl c.index_mut.ensures.value
          (λ (s : Staged). switched (staying kind (length s.parts)) c.switch.ensures.0 s) c.switch.ensures.2 t.table t.at;
    }
