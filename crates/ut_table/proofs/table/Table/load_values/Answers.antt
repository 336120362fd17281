use Rattle.std.proofs.Common.{◌≡◌, ◌∙◌, ◌+◌, ◌/◌, ◌<◌, ◌≤◌, ◌++◌, ◌^◌, length, map, replicate, None, IsTrue, refl, sym, ap, subst, arith}
use Rattle.std.specs.Arc.{arc_value}
use Rattle.std.specs.List.{list_all}
use Rattle.ut_value.specs.KeyBytes.{is_value}
use Rattle.ut_stamps.specs.declared.visibility.Stamp.{Stamp}
use Rattle.ut_stamps.specs.StampLists.{StampLists}
use Rattle.ut_staged.specs.Staged.{entered_l2, begun_row}
use Rattle.ut_l2.specs.Sources.{AreFlat}
use Rattle.ut_l2.proofs.SourceLemmas.{flat-count}
use Rattle.ut_table.specs.Contents.{TableValue, closed_rows}
use Rattle.ut_table.proofs.ChangeLemmas.{loaded-stages, loaded-kept}
use Rattle.ut_table.proofs.ReadLemmas.{counts, rows-are, columns-are, l2-stage}
use Rattle.ut_table.proofs.FlatLemmas.{flat-kept}
use Rattle.ut_table.proofs.table.Table.load_values.Goals as goal

pub overflow_cast-count : goal.overflow_cast-count
overflow_cast-count g c =
    let view = ap (λ (v : TableValue). v.stages) c.self.view_is in
    let w : length c.as_slice.result.now ≡ length c.args.self.now.stages.columns = ap length (c.as_slice.ensures ∙ columns-are c.self.invariant view) in
    let many = ap (λ n. length c.args.values.now / n) w ∙ flat-count g.rows c.args.first_id (length c.args.self.now.stages.columns) c.args.values.now c.requires.0 c.requires.1.0 in
    omega (arith, many, c.requires.1.1.1.1)

pub append_values-requires : goal.append_values-requires
append_values-requires g c =
    let view = ap (λ (v : TableValue). v.stages) c.self.view_is in
    let w = ap length (sym (columns-are c.self.invariant view)) ∙ sym c.self.invariant.rows.l2_wide in (
      l2-stage c.self.invariant view c.as_slice-2.result.now (arc_value c.self.inside.l2) c.as_slice-2.ensures refl,
      (
        subst (λ n. AreFlat g.rows c.args.first_id n c.args.values.now) w c.requires.0,
        (omega (arith, w, c.requires.1.0), (c.requires.1.1.1.0, omega (arith, counts c.self.invariant view, c.requires.1.1.1.1))),
      ),
    )

pub invariant_of-self-2 : goal.invariant_of-self-2
invariant_of-self-2 g c =
    let view = ap (λ (v : TableValue). v.stages) c.self.view_is in
    let stamp : Stamp = record { begin = c.args.t; end = None } in
    let w : length c.as_slice.result.now ≡ length c.args.self.now.stages.columns = ap length (c.as_slice.ensures ∙ columns-are c.self.invariant view) in
    let many = ap (λ n. length c.args.values.now / n) w ∙ flat-count g.rows c.args.first_id (length c.args.self.now.stages.columns) c.args.values.now c.requires.0 c.requires.1.0 in
    let kept = flat-kept g.rows (subst (λ vs. IsTrue (list_all is_value vs)) (sym c.requires.0.flat) c.values_keep_rules.ensures) in
    let few : length c.self.inside.l1.items + length (arc_value c.self.inside.l2).rows + length (closed_rows c.self.inside.pending) + length g.rows ≤ 2 ^ 31 = omega (arith, counts c.self.invariant view, c.requires.1.1.1.1) in
    let others = c.begin_all.ensures.others in
    loaded-kept c.self.invariant g.rows stamp (rows-are c.self.invariant view g.rows c.requires.1.1.0 kept)
    (record {
      l1_rows = refl;
      width = c.append_values.ensures.width;
      l2_rows = c.in_ok-append_values.ensures.ok;
      l1_stamps = ap (λ (s : StampLists). s.l1.items) others ∙ c.room.ensures.kept.l1;
      l2_stamps = c.begin_all.ensures.l2 ∙ ap (λ l. l ++ replicate (length c.args.values.now / length c.as_slice.result.now) stamp) c.room.ensures.kept.l2
          ∙ ap (λ n. c.self.inside.stamps.l2.items ++ replicate n stamp) many;
      closed = ap (λ (s : StampLists). s.closed) others ∙ c.room.ensures.kept.closed;
      parts = ap (λ (s : StampLists). s.parts) others ∙ c.room.ensures.kept.parts;
    })
    few

pub returns-clause-ok : goal.returns-clause-ok
returns-clause-ok g c =
    let view = ap (λ (v : TableValue). v.stages) c.self.view_is in
    let stamp : Stamp = record { begin = c.args.t; end = None } in
    let w : length c.as_slice.result.now ≡ length c.args.self.now.stages.columns = ap length (c.as_slice.ensures ∙ columns-are c.self.invariant view) in
    let many = ap (λ n. length c.args.values.now / n) w ∙ flat-count g.rows c.args.first_id (length c.args.self.now.stages.columns) c.args.values.now c.requires.0 c.requires.1.0 in
    let kept = flat-kept g.rows (subst (λ vs. IsTrue (list_all is_value vs)) (sym c.requires.0.flat) c.values_keep_rules.ensures) in
    let others = c.begin_all.ensures.others in
    loaded-stages c.self.invariant g.rows stamp (rows-are c.self.invariant view g.rows c.requires.1.1.0 kept)
    {news = c.begin_all.new.stamps} (record {
      l1_rows = refl;
      width = c.append_values.ensures.width;
      l2_rows = c.in_ok-append_values.ensures.ok;
      l1_stamps = ap (λ (s : StampLists). s.l1.items) others ∙ c.room.ensures.kept.l1;
      l2_stamps = c.begin_all.ensures.l2 ∙ ap (λ l. l ++ replicate (length c.args.values.now / length c.as_slice.result.now) stamp) c.room.ensures.kept.l2
          ∙ ap (λ n. c.self.inside.stamps.l2.items ++ replicate n stamp) many;
      closed = ap (λ (s : StampLists). s.closed) others ∙ c.room.ensures.kept.closed;
      parts = ap (λ (s : StampLists). s.parts) others ∙ c.room.ensures.kept.parts;
    })
    ∙ ap (entered_l2 (map (begun_row c.args.t) g.rows)) view
