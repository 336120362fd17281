use Rattle.std.proofs.Common.{ℕ, ◌*◌, ◌/◌, ◌%◌, ◌≤◌, length, take, subst, sym, arith}
use Rattle.ut_sparse.proofs.SparseLemmas.{count-masked, marked-parts, marked-le}
use Rattle.std.proofs.lemmas.List.{length-take-le}
use Rattle.ut_bits.proofs.BitLemmas.{AllBelow-take}
use Rattle.ut_sparse.proofs.marks.rank_at.Goals as goal

pub word-word-requires : goal.word-word-requires
word-word-requires c = subst (λ (w : ℕ). 64 * (c.args.i / 64) ≤ length c.args.marks.now.codes * w) (sym c.requires.width) (omega (arith, c.requires.within))

pub overflow_add-result : goal.overflow_add-result
overflow_add-result c =
    let block = c.requires.ranks.1 (c.args.i / 64) (omega (arith, c.requires.ranks.0, c.requires.within)) in
    let some = count-masked c.args.marks.now.width (64 * (c.args.i / 64)) (c.args.i % 64) c.word-word.result c.args.marks.now.codes c.requires.width c.requires.bits (omega arith) c.word-word.ensures in
    let parts = marked-parts (64 * (c.args.i / 64)) (c.args.i % 64) c.args.i c.args.marks.now.codes (omega arith) in
    let small = marked-le (take c.args.i c.args.marks.now.codes) (AllBelow-take 2 c.args.i c.args.marks.now.codes c.requires.bits) in
    let size = length-take-le c.args.i c.args.marks.now.codes (omega (arith, c.requires.within)) in
    omega (arith, block, some, parts, small, size, c.ranges.i)

pub returns : goal.returns
returns c =
    let block = c.requires.ranks.1 (c.args.i / 64) (omega (arith, c.requires.ranks.0, c.requires.within)) in
    let some = count-masked c.args.marks.now.width (64 * (c.args.i / 64)) (c.args.i % 64) c.word-word.result c.args.marks.now.codes c.requires.width c.requires.bits (omega arith) c.word-word.ensures in
    let parts = marked-parts (64 * (c.args.i / 64)) (c.args.i % 64) c.args.i c.args.marks.now.codes (omega arith) in
    omega (arith, block, some, parts)
