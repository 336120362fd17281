use Rattle.std.proofs.Common.{◌≡◌, ◌/◌, ◌<◌, ◌∙◌, ◌++◌, [], get_or, length, map, sym, ap, subst, arith}
use Rattle.std.specs.List.{range_with_len}
use Rattle.ut_l2.specs.KeyRows.{keyed}
use Rattle.ut_l2.specs.Delta.{rows_of, IsDelta}
use Rattle.ut_l2.specs.Sources.{AreFlat, cells_in}
use Rattle.ut_l2.specs.declared.source.Source.TheVariants.{Flat}
use Rattle.ut_l2.proofs.SourceLemmas.{flat-count, flat-cells}
use Rattle.ut_l2.proofs.DeltaLemmas.{rows-length, final-rows, final-is}
use Rattle.ut_l2.proofs.l2.L2.append_values.Goals as goal

pub append_pieces-requires-clause-equal : goal.append_pieces-requires-clause-equal
append_pieces-requires-clause-equal g c = λ j lt.
    let n = sym (rows-length c.self.inside.ids.items c.self.inside.columns.items) ∙ ap (λ d. length d.rows) c.self.view_is in
    c.self.invariant.equal j lt ∙ n ∙ sym c.len-before.ensures.len

pub append_pieces-requires-clause-count : goal.append_pieces-requires-clause-count
append_pieces-requires-clause-count g c =
    let w : length c.self.inside.columns.items ≡ c.args.self.now.width = ap (λ d. d.width) c.self.view_is in
    let wl : c.len.result ≡ c.args.self.now.width = omega (arith, w) in
    let many = ap (λ n. length c.args.values.now / n) wl ∙ flat-count g.rows c.args.first_id c.args.self.now.width c.args.values.now c.requires.0 c.requires.1.0 in
    omega (arith, many, c.len-before.ensures.len, c.requires.1.1.1)

pub overflow_cast-count : goal.overflow_cast-count
overflow_cast-count g c =
    let w : length c.self.inside.columns.items ≡ c.args.self.now.width = ap (λ d. d.width) c.self.view_is in
    let wl : c.len.result ≡ c.args.self.now.width = omega (arith, w) in
    let many = ap (λ n. length c.args.values.now / n) wl ∙ flat-count g.rows c.args.first_id c.args.self.now.width c.args.values.now c.requires.0 c.requires.1.0 in
    omega (arith, many, c.len-count.ensures, c.requires.1.1.1)

pub append_numbers-requires-clause-ids : goal.append_numbers-requires-clause-ids
append_numbers-requires-clause-ids g c =
    let w : length c.self.inside.columns.items ≡ c.args.self.now.width = ap (λ d. d.width) c.self.view_is in
    let wl : c.len.result ≡ c.args.self.now.width = omega (arith, w) in
    let many = ap (λ n. length c.args.values.now / n) wl ∙ flat-count g.rows c.args.first_id c.args.self.now.width c.args.values.now c.requires.0 c.requires.1.0 in
    omega (arith, many, c.len-count.ensures, c.requires.1.1.0)

pub invariant_of-self-2 : goal.invariant_of-self-2
invariant_of-self-2 g c =
    let cols = c.self.inside.columns.items in
    let n = sym (rows-length c.self.inside.ids.items cols) ∙ ap (λ d. length d.rows) c.self.view_is in
    let w : length cols ≡ c.args.self.now.width = ap (λ d. d.width) c.self.view_is in
    let are = subst (λ n. AreFlat g.rows c.args.first_id n c.args.values.now) (sym w) c.requires.0 in
    let some : 0 < length cols = omega (arith, w, c.requires.1.0) in
    let wl : c.len.result ≡ length cols = omega arith in
    let many = c.len-count.ensures ∙ ap (λ n. length c.args.values.now / n) wl ∙ flat-count g.rows c.args.first_id (length cols) c.args.values.now are some in
    let ids = c.append_numbers.ensures ∙ ap (λ l. l ++ range_with_len c.args.first_id c.len-count.result) c.reserve.ensures.items
    ∙ ap (λ k. c.self.inside.ids.items ++ range_with_len c.args.first_id k) many
    ∙ ap (λ l. c.self.inside.ids.items ++ l) (sym are.ids) in
    subst (λ l. IsDelta l c.append_pieces.new.columns.items) (sym ids)
    (final-is c.self.inside.ids.items cols c.append_pieces.new.columns.items c.self.invariant g.rows are.wide c.append_pieces.ensures.width
    (λ j from lt. c.in_ok-append_pieces.ensures.ok j lt
    ∙ ap (λ n. get_or cols j [] ++ cells_in (Flat n c.args.values) j 0 (length c.args.values.now / n)) wl
    ∙ ap (λ l. get_or cols j [] ++ l) (flat-cells g.rows c.args.first_id (length cols) c.args.values.now are some j lt)) (omega (arith, n, c.requires.1.1.1)))

pub returns-clause-ok : goal.returns-clause-ok
returns-clause-ok g c =
    let cols = c.self.inside.columns.items in
    let w : length cols ≡ c.args.self.now.width = ap (λ d. d.width) c.self.view_is in
    let are = subst (λ n. AreFlat g.rows c.args.first_id n c.args.values.now) (sym w) c.requires.0 in
    let some : 0 < length cols = omega (arith, w, c.requires.1.0) in
    let wl : c.len.result ≡ length cols = omega arith in
    let many = c.len-count.ensures ∙ ap (λ n. length c.args.values.now / n) wl ∙ flat-count g.rows c.args.first_id (length cols) c.args.values.now are some in
    let ids = c.append_numbers.ensures ∙ ap (λ l. l ++ range_with_len c.args.first_id c.len-count.result) c.reserve.ensures.items
    ∙ ap (λ k. c.self.inside.ids.items ++ range_with_len c.args.first_id k) many
    ∙ ap (λ l. c.self.inside.ids.items ++ l) (sym are.ids) in
    ap (λ l. rows_of l c.append_pieces.new.columns.items) ids
    ∙ final-rows c.self.inside.ids.items cols c.append_pieces.new.columns.items c.self.invariant g.rows are.wide c.append_pieces.ensures.width
    (λ j from lt. c.in_ok-append_pieces.ensures.ok j lt
    ∙ ap (λ n. get_or cols j [] ++ cells_in (Flat n c.args.values) j 0 (length c.args.values.now / n)) wl
    ∙ ap (λ l. get_or cols j [] ++ l) (flat-cells g.rows c.args.first_id (length cols) c.args.values.now are some j lt))
    ∙ ap (λ d. d.rows ++ map keyed g.rows) c.self.view_is
