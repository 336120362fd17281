use Rattle.std.proofs.Common.{◌+◌, ◌*◌, arith}
use Rattle.ut_sparse.proofs.SparseLemmas.{count-word_all, marked-parts, marked-le, marked-take-le, ranks-push}
use Rattle.ut_sparse.proofs.marks.ranks_of.Goals as goal

pub overflow_add-before : goal.overflow_add-before
overflow_add-before c =
    let some = count-word_all c.args.marks.now.width (64 * c.loop-k.k) c.word.result c.args.marks.now.codes c.requires.width c.requires.bits c.word.ensures in
    let parts = marked-parts (64 * c.loop-k.k) 64 (64 * (c.loop-k.k + 1)) c.args.marks.now.codes (omega arith) in
    omega (arith, c.loop-k.invariant.next, some, parts, marked-take-le c.args.marks.now.codes (64 * (c.loop-k.k + 1)), marked-le c.args.marks.now.codes c.requires.bits, c.len.ensures.len, c.len.ensures.small)

pub loop-k-preserved : goal.loop-k-preserved
loop-k-preserved c =
    let inv = c.loop-k.invariant in
    let some = count-word_all c.args.marks.now.width (64 * c.loop-k.k) c.word.result c.args.marks.now.codes c.requires.width c.requires.bits c.word.ensures in
    let parts = marked-parts (64 * c.loop-k.k) 64 (64 * (c.loop-k.k + 1)) c.args.marks.now.codes (omega arith) in
    let pushed = ranks-push c.args.marks.now.codes c.loop-k.ranks.items c.push.new.self.items c.loop-k.k c.loop-k.before c.in_ok-push.ensures.items inv.count inv.ranks inv.next in
    record {
      count = pushed.0;
      ranks = pushed.1;
      next = omega (arith, inv.next, some, parts);
    }

pub returns : goal.returns
returns c =
    let inv = c.loop-k.invariant in
    let pushed = ranks-push c.args.marks.now.codes c.loop-k.ranks.items c.push-2.new.self.items c.loop-k.k c.loop-k.before c.in_ok-push-2.ensures.items inv.count inv.ranks inv.next in
    (omega (arith, pushed.0, c.len.ensures.len), λ k h. pushed.1 k (omega (arith, pushed.0, h)))
