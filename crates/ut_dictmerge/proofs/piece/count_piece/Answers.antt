use Rattle.std.proofs.Common.{◌+◌, ◌||◌, false, get_or, ap, [], arith}
use Rattle.ut_dictmerge.specs.Pieces.{kept}
use Rattle.ut_dictmerge.proofs.StepLemmas.{left, step_a, step_b, step_both, counted}
use Rattle.ut_dictmerge.proofs.piece.count_piece.Goals as goal

pub loop-i-preserved-in-Less : goal.loop-i-preserved-in-Less
loop-i-preserved-in-Less c =
    let n = c.in-Less.ensures in
    record {
      after_a = omega arith;
      after_b = omega arith;
      before_a = omega (arith, n.0);
      before_b = omega (arith, n.0);
      small = omega (arith, c.count_of-count.ensures.small);
      count_is = counted c.loop-i.count _ (kept (get_or c.args.used_a.now c.loop-i.i false) (get_or c.args.a.now c.loop-i.i [])) (left c.args.a.now c.args.used_a.now c.args.b.now c.args.used_b.now c.args.to.now.a c.args.to.now.b c.loop-i.i c.loop-i.j) (left c.args.a.now c.args.used_a.now c.args.b.now c.args.used_b.now c.args.to.now.a c.args.to.now.b (c.loop-i.i + 1) c.loop-i.j) _ c.loop-i.invariant.count_is
          (step_a c.args.a.now c.args.used_a.now c.args.b.now c.args.used_b.now c.args.to.now.a c.args.to.now.b c.loop-i.i c.loop-i.j (record { lists = c.requires.lists; end_a = c.requires.borders.to_a; end_b = c.requires.borders.to_b }) n) (ap (λ k. c.loop-i.count + k) (c.count_of-count.ensures.count (get_or c.args.a.now c.loop-i.i [])));
    }

pub loop-i-preserved-in-Greater : goal.loop-i-preserved-in-Greater
loop-i-preserved-in-Greater c =
    let n = c.in-Greater.ensures in
    record {
      after_a = omega arith;
      after_b = omega arith;
      before_a = omega (arith, n.0);
      before_b = omega (arith, n.0);
      small = omega (arith, c.count_of-count-in-Greater.ensures.small);
      count_is = counted c.loop-i.count _ (kept (get_or c.args.used_b.now c.loop-i.j false) (get_or c.args.b.now c.loop-i.j [])) (left c.args.a.now c.args.used_a.now c.args.b.now c.args.used_b.now c.args.to.now.a c.args.to.now.b c.loop-i.i c.loop-i.j) (left c.args.a.now c.args.used_a.now c.args.b.now c.args.used_b.now c.args.to.now.a c.args.to.now.b c.loop-i.i (c.loop-i.j + 1)) _ c.loop-i.invariant.count_is
          (step_b c.args.a.now c.args.used_a.now c.args.b.now c.args.used_b.now c.args.to.now.a c.args.to.now.b c.loop-i.i c.loop-i.j (record { lists = c.requires.lists; end_a = c.requires.borders.to_a; end_b = c.requires.borders.to_b }) n) (ap (λ k. c.loop-i.count + k) (c.count_of-count-in-Greater.ensures.count (get_or c.args.b.now c.loop-i.j [])));
    }

pub loop-i-preserved : goal.loop-i-preserved
loop-i-preserved c =
    let n = c.in-Equal.ensures in
    record {
      after_a = omega arith;
      after_b = omega arith;
      before_a = omega (arith, n.0);
      before_b = omega (arith, n.0, n.1);
      small = omega (arith, c.count_of-count-in-Equal.ensures.small);
      count_is = counted c.loop-i.count _ (kept (get_or c.args.used_a.now c.loop-i.i false || get_or c.args.used_b.now c.loop-i.j false) (get_or c.args.a.now c.loop-i.i [])) (left c.args.a.now c.args.used_a.now c.args.b.now c.args.used_b.now c.args.to.now.a c.args.to.now.b c.loop-i.i c.loop-i.j) (left c.args.a.now c.args.used_a.now c.args.b.now c.args.used_b.now c.args.to.now.a c.args.to.now.b (c.loop-i.i + 1) (c.loop-i.j + 1)) _ c.loop-i.invariant.count_is
          (step_both c.args.a.now c.args.used_a.now c.args.b.now c.args.used_b.now c.args.to.now.a c.args.to.now.b c.loop-i.i c.loop-i.j (record { lists = c.requires.lists; end_a = c.requires.borders.to_a; end_b = c.requires.borders.to_b }) n) (ap (λ k. c.loop-i.count + k) (c.count_of-count-in-Equal.ensures.count (get_or c.args.a.now c.loop-i.i [])));
    }
