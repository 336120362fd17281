use Rattle.std.proofs.Common.{◌≡◌, min, length, take, drop, ap, ◌∙◌, subst, arith, length-drop, IsTrue}
use Rattle.std.specs.List.{list_all}
use Rattle.ut_value.specs.declared.entry.Op.TheVariants.{Insert}
use Rattle.ut_value.specs.Spelling.{is_op}
use Rattle.ut_plain.specs.Made.{inserts}
use Rattle.ut_plain.proofs.BoolLemmas.{and_right}
use Rattle.ut_plain.proofs.CutLemmas.{rows_of-split}
use Rattle.ut_change.proofs.bulk.Bulk.split.Goals as goal

pub returns-clause-ops : goal.returns-clause-ops
returns-clause-ops c =
    let b = c.args.self in
    let front : c.split_at.result.0.now ≡ take (min b.width (length b.values.now)) b.values.now = cc in
    let back : c.split_at.result.1.now ≡ drop (min b.width (length b.values.now)) b.values.now = cc in
    ap (inserts b.table b.id) (rows_of-split b.width b.values.now c.split_at.result.0.now c.split_at.result.1.now c.requires.is.width c.requires.some front back)

pub returns-clause-behind : goal.returns-clause-behind
returns-clause-behind c =
    let b = c.args.self in
    let front : c.split_at.result.0.now ≡ take (min b.width (length b.values.now)) b.values.now = cc in
    let back : c.split_at.result.1.now ≡ drop (min b.width (length b.values.now)) b.values.now = cc in
    let split = rows_of-split b.width b.values.now c.split_at.result.0.now c.split_at.result.1.now c.requires.is.width c.requires.some front back in
    record {
      width = c.requires.is.width;
      ids = omega (arith, ap length split, c.requires.is.ids);
      rule = and_right (is_op (Insert b.table b.id c.split_at.result.0.now)) _ (subst (λ rows. IsTrue (list_all is_op (inserts b.table b.id rows))) split c.requires.is.rule);
    }

pub returns-clause-shorter : goal.returns-clause-shorter
returns-clause-shorter c =
    let b = c.args.self in
    let back : c.split_at.result.1.now ≡ drop (min b.width (length b.values.now)) b.values.now = cc in
    let shorter = ap length back ∙ length-drop (min b.width (length b.values.now)) b.values.now in
    omega (arith, shorter, c.requires.is.width, c.requires.some)
