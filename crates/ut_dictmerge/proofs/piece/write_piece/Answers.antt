use Rattle.std.proofs.Common.{◌∙◌, ◌++◌, ◌+◌, ◌||◌, false, get_or, refl, ap}
use Rattle.ut_dictmerge.specs.Pieces.{kept}
use Rattle.ut_dictmerge.proofs.WriteLemmas.{written_a, written_b, written_both}
use Rattle.ut_dictmerge.proofs.piece.write_piece.Goals as goal

pub loop-i-preserved-in-Less : goal.loop-i-preserved-in-Less
loop-i-preserved-in-Less c =
    written_a c.args.a.now c.args.used_a.now c.args.b.now c.args.used_b.now c.args.from.a c.args.from.b c.args.to.a c.args.to.b c.args.base c.loop-i.keys c.loop-i.from_a.items c.loop-i.from_b.items c.loop-i.i c.loop-i.j (c.args.base + c.len.result) c.keep.new.keys c.add.new.map.items
    (record { lists = c.requires.lists; end_a = c.requires.borders.to_a; end_b = c.requires.borders.to_b })
    c.loop-i.invariant c.in-Less.ensures (ap (λ n. c.args.base + n) c.len.ensures.len) (c.in_ok-keep-in-Less.ensures ∙ ap (λ k. c.loop-i.keys ++ kept (get_or c.args.used_a.now c.loop-i.i false) k) c.key.ensures.key) c.in_ok-add-in-Less.ensures

pub loop-i-preserved-in-Greater : goal.loop-i-preserved-in-Greater
loop-i-preserved-in-Greater c =
    written_b c.args.a.now c.args.used_a.now c.args.b.now c.args.used_b.now c.args.from.a c.args.from.b c.args.to.a c.args.to.b c.args.base c.loop-i.keys c.loop-i.from_a.items c.loop-i.from_b.items c.loop-i.i c.loop-i.j (c.args.base + c.len.result) c.keep-in-Greater.new.keys c.add-in-Greater.new.map.items
    (record { lists = c.requires.lists; end_a = c.requires.borders.to_a; end_b = c.requires.borders.to_b })
    c.loop-i.invariant c.in-Greater.ensures (ap (λ n. c.args.base + n) c.len.ensures.len) (c.in_ok-keep-in-Greater.ensures ∙ ap (λ k. c.loop-i.keys ++ kept (get_or c.args.used_b.now c.loop-i.j false) k) c.key-in-Greater.ensures.key) c.in_ok-add-in-Greater.ensures

pub loop-i-preserved : goal.loop-i-preserved
loop-i-preserved c =
    written_both c.args.a.now c.args.used_a.now c.args.b.now c.args.used_b.now c.args.from.a c.args.from.b c.args.to.a c.args.to.b c.args.base c.loop-i.keys c.loop-i.from_a.items c.loop-i.from_b.items c.loop-i.i c.loop-i.j (c.args.base + c.len.result) (get_or c.args.used_a.now c.loop-i.i false || get_or c.args.used_b.now c.loop-i.j false)
    c.keep-in-Equal.new.keys c.add-in-Equal.new.map.items c.add-in-Equal-2.new.map.items
    (record { lists = c.requires.lists; end_a = c.requires.borders.to_a; end_b = c.requires.borders.to_b })
    c.loop-i.invariant c.in-Equal.ensures (ap (λ n. c.args.base + n) c.len.ensures.len) refl
    (c.in_ok-keep-in-Equal.ensures ∙ ap (λ k. c.loop-i.keys ++ kept (get_or c.args.used_a.now c.loop-i.i false || get_or c.args.used_b.now c.loop-i.j false) k) c.key-in-Equal.ensures.key) c.in_ok-add-in-Equal.ensures c.in_ok-add-in-Equal-2.ensures
