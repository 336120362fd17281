use Rattle.std.proofs.Common.{◌+◌, ◌++◌, ◌∷◌, [], length, ◌∙◌, sym, ap, append_assoc, arith, refl}
use Rattle.std.proofs.lemmas.List.{length-append}
use Rattle.std.proofs.lemmas.List.FromFn.{length-map-range_with_len, map-range_with_len_more}
use Rattle.ut_l2.specs.Sources.{cells_in, key_in}
use Rattle.ut_l2.proofs.column.Column.append.Goals as goal

pub push_value-requires : goal.push_value-requires
push_value-requires c =
    let at = c.loop-i in
    let long = ap length at.invariant ∙ length-append c.args.self.now (cells_in c.args.source c.args.column c.args.from at.i) in
    let more = length-map-range_with_len (key_in c.args.source c.args.column) c.args.from at.i in
    omega (arith, long, more, c.loop-i-test.true, c.requires.count)

pub loop-i-preserved : goal.loop-i-preserved
loop-i-preserved c =
    let at = c.loop-i in
    c.in-Ok.ensures.ok
    ∙ ap (λ k. at.self ++ k ∷ []) c.value.ensures
    ∙ ap (λ l. l ++ key_in c.args.source c.args.column (c.args.from + at.i) ∷ []) at.invariant
    ∙ append_assoc c.args.self.now (cells_in c.args.source c.args.column c.args.from at.i) (key_in c.args.source c.args.column (c.args.from + at.i) ∷ [])
    ∙ ap (λ l. c.args.self.now ++ l) (sym (map-range_with_len_more (key_in c.args.source c.args.column) c.args.from at.i (c.args.from + at.i) refl))
