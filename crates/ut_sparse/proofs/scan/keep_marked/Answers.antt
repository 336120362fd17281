use Rattle.std.proofs.Common.{◌≡◌, ℕ, ◌+◌, ◌-◌, ◌≤◌, Bool, List, length, take, get_or, refl, sym, ap, ◌∙◌, arith}
use Rattle.std.specs.Prelude.{map, replicate}
use Rattle.std.proofs.lemmas.List.{take_all}
use Rattle.ut_bits.specs.Bits.{AllBelow}
use Rattle.ut_bits.specs.Places.{is_in}
use Rattle.ut_mask.specs.Mask.{kept, kept_from}
use Rattle.ut_mask.proofs.KeptLemmas.{kept_from-none, length-kept_from}
use Rattle.ut_mask.proofs.ScanLemmas.{kept-range, kept-whole, length-kept_by}
use Rattle.ut_sparse.specs.Sparse.{marked, merged}
use Rattle.ut_sparse.proofs.SparseLemmas.{marked-next, length-merged, get_or-merged_left}
use Rattle.ut_sparse.proofs.ScanLemmas.{IsNextMark, code-at_mark, bare}
use Rattle.ut_sparse.proofs.scan.keep_marked.Goals as goal

-- rows without marks stay where the code that is left out does
unmarked : (test : ℕ → Bool) (left from to : ℕ) (marks others : List ℕ) (ms now next : List Bool) (stays : Bool) → stays ≡ test left → from ≤ to → to ≤ length marks → marked (take to marks) ≡ marked (take from marks)
    → now ≡ kept ms (map test (take from (merged left marks others))) → next ≡ kept_from from now (replicate (to - from) stays) → next ≡ kept ms (map test (take to (merged left marks others)))
unmarked test left from to marks others ms now next stays same le within none is step =
    kept-range test from to (merged left marks others) 0 stays ms now next le (omega (arith, within, length-merged left marks others)) is
    (λ i lo hi. ap test (get_or-merged_left left marks others i (omega (arith, hi, within)) (bare marks from to i none lo hi within)) ∙ sym same) step

-- a marked row stays where its code does
at-mark : (test : ℕ → Bool) (left from mark end rank : ℕ) (marks others : List ℕ) (ms now next : List Bool) (stays : Bool) → AllBelow 2 marks → IsNextMark marks from mark → rank ≡ marked (take from marks) → end ≡ mark + 1
    → stays ≡ test (get_or others rank 0) → now ≡ kept ms (map test (take mark (merged left marks others))) → next ≡ kept_from mark now (replicate (end - mark) stays) → next ≡ kept ms (map test (take end (merged left marks others)))
at-mark test left from mark end rank marks others ms now next stays bits found count e same is step =
    kept-range test mark end (merged left marks others) 0 stays ms now next (omega (arith, e)) (omega (arith, e, found.within, length-merged left marks others)) is
    (λ i lo hi.
    let here : i ≡ mark = omega (arith, lo, hi, e) in
    ap (λ (k : ℕ). test (get_or (merged left marks others) k 0)) here ∙ ap test (code-at_mark left from mark rank marks others bits found count) ∙ sym same)
    step

pub loop-rank-init : goal.loop-rank-init
loop-rank-init c = record { within = omega arith; rank = refl; kept = sym (kept_from-none 0 c.args.mask.now) }

pub keep_range-requires-clause-within : goal.keep_range-requires-clause-within
keep_range-requires-clause-within c =
    let codes = merged c.args.left_out c.args.marks.now.codes c.args.others.now.codes in
    let size = length-kept_by (is_in c.args.ranges.now) c.loop-rank.from codes c.args.mask.now c.loop-rank.mask c.loop-rank.invariant.kept in
    omega (arith, size, c.requires.length, c.next_mark-mark.ensures.within)

pub keep_range-requires-in-loop-rank-clause-within : goal.keep_range-requires-in-loop-rank-clause-within
keep_range-requires-in-loop-rank-clause-within c =
    let codes = merged c.args.left_out c.args.marks.now.codes c.args.others.now.codes in
    let size = length-kept_by (is_in c.args.ranges.now) c.loop-rank.from codes c.args.mask.now c.loop-rank.mask c.loop-rank.invariant.kept in
    let same = ap (λ (l : List Bool). length l) c.keep_range.ensures ∙ length-kept_from c.loop-rank.from c.loop-rank.mask (replicate (c.next_mark-mark.result - c.loop-rank.from) c.is_in-stays.result) in
    omega (arith, size, same, c.requires.length, c.next_mark-mark.ensures.within)

pub loop-rank-preserved : goal.loop-rank-preserved
loop-rank-preserved c =
    let inv = c.loop-rank.invariant in
    let found = c.next_mark-mark.ensures in
    let mark = c.next_mark-mark.result in
    let marks = c.args.marks.now.codes in
    let others = c.args.others.now.codes in
    let test = is_in c.args.ranges.now in
    let next : IsNextMark marks c.loop-rank.from mark = record { within = found.within; here = found.mark; first = found.first } in
    let before = unmarked test c.args.left_out c.loop-rank.from mark marks others c.args.mask.now c.loop-rank.mask c.keep_range.new.self c.is_in-stays.result c.is_in-stays.ensures found.behind (omega (arith, found.within)) found.first inv.kept c.keep_range.ensures in
    record {
      within = omega (arith, found.within);
      rank = omega (arith, inv.rank, found.first, found.mark, marked-next marks mark found.within);
      kept =
          at-mark test c.args.left_out c.loop-rank.from mark (mark + 1) c.loop-rank.rank marks others c.args.mask.now c.keep_range.new.self c.keep_range-in-loop-rank.new.self c.is_in.result c.requires.marks.bits next inv.rank refl
          (c.is_in.ensures ∙ ap (λ (n : ℕ). is_in c.args.ranges.now n) c.get.ensures) before c.keep_range-in-loop-rank.ensures;
    }

pub keep_range-requires-2-clause-within : goal.keep_range-requires-2-clause-within
keep_range-requires-2-clause-within c =
    let codes = merged c.args.left_out c.args.marks.now.codes c.args.others.now.codes in
    let size = length-kept_by (is_in c.args.ranges.now) c.loop-rank.from codes c.args.mask.now c.loop-rank.mask c.loop-rank.invariant.kept in
    omega (arith, size, c.requires.length, c.len.ensures.len)

pub returns : goal.returns
returns c =
    let inv = c.loop-rank.invariant in
    let marks = c.args.marks.now.codes in
    let others = c.args.others.now.codes in
    let test = is_in c.args.ranges.now in
    let end = c.len.result in
    let size : end ≡ length marks = c.len.ensures.len in
    let none : marked (take end marks) ≡ marked (take c.loop-rank.from marks) =
    ap (λ l. marked l) (take_all end marks (omega (arith, size))) ∙ c.requires.marks.paired ∙ omega (arith, inv.rank, c.loop-rank-test.false) in
    let long = length-merged c.args.left_out marks others in
    kept-whole test end (merged c.args.left_out marks others) c.args.mask.now c.keep_range-2.new.self (omega (arith, c.requires.length, long)) (omega (arith, size, long))
    (unmarked test c.args.left_out c.loop-rank.from end marks others c.args.mask.now c.loop-rank.mask c.keep_range-2.new.self c.is_in-stays.result c.is_in-stays.ensures (omega (arith, inv.within, size)) (omega (arith, size)) none inv.kept c.keep_range-2.ensures)
