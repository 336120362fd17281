use Rattle.std.proofs.Common.{ℕ, ◌∙◌, ◌+◌, ◌≤◌, ◌++◌, ◌^◌, length, map, replicate, None, refl, ap, arith}
use Rattle.std.specs.Arc.{arc_value}
use Rattle.ut_stamps.specs.declared.visibility.Stamp.{Stamp}
use Rattle.ut_stamps.specs.StampLists.{StampLists}
use Rattle.ut_l2.specs.KeyRows.{keyed}
use Rattle.ut_staged.specs.Staged.{entered_l2, begun_row}
use Rattle.ut_table.specs.Contents.{TableValue, closed_rows}
use Rattle.ut_table.proofs.ChangeLemmas.{loaded-stages, loaded-kept, IsChange}
use Rattle.ut_table.proofs.ReadLemmas.{counts, rows-are, rows-wide, l2-stage}
use Rattle.ut_table.proofs.table.Table.load.Goals as goal

pub append-requires-clause-stage : goal.append-requires-clause-stage
append-requires-clause-stage c = l2-stage c.self.invariant (ap (λ (v : TableValue). v.stages) c.self.view_is) c.as_slice.result.now (arc_value c.self.inside.l2) c.as_slice.ensures refl

pub append-requires-clause-wide : goal.append-requires-clause-wide
append-requires-clause-wide c =
    let view = ap (λ (v : TableValue). v.stages) c.self.view_is in
    rows-wide c.self.invariant view c.args.rows.now (rows-are c.self.invariant view c.args.rows.now c.requires.fit c.rows_keep_rules.ensures)

pub append-requires-clause-count : goal.append-requires-clause-count
append-requires-clause-count c =
    let view = ap (λ (v : TableValue). v.stages) c.self.view_is in
    omega (arith, counts c.self.invariant view, c.requires.few)

-- the stamp of a row that a transaction begins
abbrev begun : ℕ → Stamp
begun t = record { begin = t; end = None }

-- what stands in the stages then
change : (c : goal.After-begin_all)
    → let s = c.self.inside in IsChange (record { columns = s.columns; l1 = s.l1.items; l2 = arc_value s.l2; main = s.main; pending = s.pending; stamps = s.stamps })
    s.l1.items ((arc_value s.l2).rows ++ map keyed c.args.rows.now) s.stamps.l1.items (s.stamps.l2.items ++ replicate (length c.args.rows.now) (begun c.args.t)) s.l1.items (arc_value c.append.new.l2) c.begin_all.new.stamps
change c =
    let others = c.begin_all.ensures.others in
    record {
      l1_rows = refl;
      width = c.append.ensures.width;
      l2_rows = c.in_ok-append.ensures.ok;
      l1_stamps = ap (λ (s : StampLists). s.l1.items) others ∙ c.room.ensures.kept.l1;
      l2_stamps = c.begin_all.ensures.l2 ∙ ap (λ l. l ++ replicate (length c.args.rows.now) (begun c.args.t)) c.room.ensures.kept.l2;
      closed = ap (λ (s : StampLists). s.closed) others ∙ c.room.ensures.kept.closed;
      parts = ap (λ (s : StampLists). s.parts) others ∙ c.room.ensures.kept.parts;
    }

pub invariant_of-self-2 : goal.invariant_of-self-2
invariant_of-self-2 c =
    let view = ap (λ (v : TableValue). v.stages) c.self.view_is in
    let few : length c.self.inside.l1.items + length (arc_value c.self.inside.l2).rows + length (closed_rows c.self.inside.pending) + length c.args.rows.now ≤ 2 ^ 31 = omega (arith, counts c.self.invariant view, c.requires.few) in
    loaded-kept c.self.invariant c.args.rows.now (begun c.args.t) (rows-are c.self.invariant view c.args.rows.now c.requires.fit c.rows_keep_rules.ensures) (change c) few

pub returns-clause-ok : goal.returns-clause-ok
returns-clause-ok c =
    let view = ap (λ (v : TableValue). v.stages) c.self.view_is in
    loaded-stages c.self.invariant c.args.rows.now (begun c.args.t) (rows-are c.self.invariant view c.args.rows.now c.requires.fit c.rows_keep_rules.ensures) (change c)
    ∙ ap (entered_l2 (map (begun_row c.args.t) c.args.rows.now)) view
