use Rattle.std.proofs.Common.{◌-◌, length, sym, ap, ◌∙◌, take, drop, get_or, arith}
use Rattle.std.proofs.lemmas.List.{length-take}
use Rattle.ut_key.proofs.ArenaLemmas.{ends_at, key_at}
use Rattle.ut_key.proofs.key_list.part.Goals as goal

pub slice_bounds-result-count : goal.slice_bounds-result-count
slice_bounds-result-count c = let e = ends_at 0 c.args.ends.now (length c.args.bytes.now) c.args.i c.requires.ends c.requires.index in omega (arith, e.0, c.start_of-start.ensures)

pub slice_bounds-result-start : goal.slice_bounds-result-start
slice_bounds-result-start c = let e = ends_at 0 c.args.ends.now (length c.args.bytes.now) c.args.i c.requires.ends c.requires.index in omega (arith, e.0, e.2, c.start_of-start.ensures)

pub slice_bounds-result-end : goal.slice_bounds-result-end
slice_bounds-result-end c = let e = ends_at 0 c.args.ends.now (length c.args.bytes.now) c.args.i c.requires.ends c.requires.index in omega (arith, e.0, e.2, c.start_of-start.ensures)

pub returns-clause-key : goal.returns-clause-key
returns-clause-key c =
    ap (λ n. take (get_or c.args.ends.now c.args.i 0 - n) (drop n c.args.bytes.now)) c.start_of-start.ensures ∙ sym (key_at 0 c.args.ends.now c.args.bytes.now c.args.i c.requires.index)

pub returns-clause-short : goal.returns-clause-short
returns-clause-short c =
    let e = ends_at 0 c.args.ends.now (length c.args.bytes.now) c.args.i c.requires.ends c.requires.index in
    omega (arith, e.1, c.start_of-start.ensures, length-take (get_or c.args.ends.now c.args.i 0 - c.start_of-start.result) (drop c.start_of-start.result c.args.bytes.now))
