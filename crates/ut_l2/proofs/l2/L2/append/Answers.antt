use Rattle.std.proofs.Common.{◌≡◌, ◌∙◌, ◌++◌, [], All, get_or, length, map, sym, ap, subst, arith}
use Rattle.ut_value.specs.declared.value.Row.{Row}
use Rattle.ut_l2.specs.KeyRows.{cell, keyed}
use Rattle.ut_l2.specs.Delta.{rows_of, IsDelta}
use Rattle.ut_l2.proofs.SourceLemmas.{all-mapped}
use Rattle.ut_l2.proofs.DeltaLemmas.{rows-length, final-rows, final-is}
use Rattle.ut_l2.proofs.l2.L2.append.Goals as goal

pub append_pieces-requires-clause-equal : goal.append_pieces-requires-clause-equal
append_pieces-requires-clause-equal c = λ j lt.
    let n = sym (rows-length c.self.inside.ids.items c.self.inside.columns.items) ∙ ap (λ d. length d.rows) c.self.view_is in
    c.self.invariant.equal j lt ∙ n ∙ sym c.len-before.ensures.len

pub invariant_of-self-2 : goal.invariant_of-self-2
invariant_of-self-2 c =
    let n = sym (rows-length c.self.inside.ids.items c.self.inside.columns.items) ∙ ap (λ d. length d.rows) c.self.view_is in
    let w : length c.self.inside.columns.items ≡ c.args.self.now.width = ap (λ d. d.width) c.self.view_is in
    let wide : All (λ (r : Row). length r.values ≡ length c.self.inside.columns.items) c.args.rows.now = λ k d lt. c.requires.wide k d lt ∙ sym w in
    let ids = c.append_ids.ensures ∙ ap (λ l. l ++ map (λ (r : Row). r.id) c.args.rows.now) c.reserve.ensures.items in
    subst (λ l. IsDelta l c.append_pieces.new.columns.items) (sym ids)
    (final-is c.self.inside.ids.items c.self.inside.columns.items c.append_pieces.new.columns.items c.self.invariant c.args.rows.now wide c.append_pieces.ensures.width (λ j from lt. c.in_ok-append_pieces.ensures.ok j lt ∙ ap (λ l. get_or c.self.inside.columns.items j [] ++ l) (all-mapped [] (cell j) c.args.rows.now)) (omega (arith, n, c.requires.count)))

pub returns-clause-ok : goal.returns-clause-ok
returns-clause-ok c =
    let w : length c.self.inside.columns.items ≡ c.args.self.now.width = ap (λ d. d.width) c.self.view_is in
    let wide : All (λ (r : Row). length r.values ≡ length c.self.inside.columns.items) c.args.rows.now = λ k d lt. c.requires.wide k d lt ∙ sym w in
    let ids = c.append_ids.ensures ∙ ap (λ l. l ++ map (λ (r : Row). r.id) c.args.rows.now) c.reserve.ensures.items in
    ap (λ l. rows_of l c.append_pieces.new.columns.items) ids
    ∙ final-rows c.self.inside.ids.items c.self.inside.columns.items c.append_pieces.new.columns.items c.self.invariant c.args.rows.now wide c.append_pieces.ensures.width (λ j from lt. c.in_ok-append_pieces.ensures.ok j lt ∙ ap (λ l. get_or c.self.inside.columns.items j [] ++ l) (all-mapped [] (cell j) c.args.rows.now))
    ∙ ap (λ d. d.rows ++ map keyed c.args.rows.now) c.self.view_is
