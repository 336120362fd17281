use Rattle.std.proofs.Common.{◌≡◌, ℕ, ◌+◌, ◌-◌, ◌++◌, List, length, take, get_or, ap, sym, ◌∙◌, arith, append_assoc}
use Rattle.std.specs.Int.{from_bool}
use Rattle.std.specs.List.{range_with_len}
use Rattle.std.proofs.lemmas.List.{take_all}
use Rattle.ut_bits.specs.Places.{places_from, is_in}
use Rattle.ut_sparse.specs.Sparse.{marked, merged}
use Rattle.ut_sparse.proofs.SparseLemmas.{marked-next, length-merged}
use Rattle.ut_sparse.proofs.ScanLemmas.{IsNextMark, places-to_mark, places-bare}
use Rattle.ut_sparse.proofs.scan.append_all_in.Goals as goal

pub loop-rank-preserved : goal.loop-rank-preserved
loop-rank-preserved c =
    let inv = c.loop-rank.invariant in
    let found = c.next_mark-mark.ensures in
    let mark = c.next_mark-mark.result in
    let marks = c.args.marks.now.codes in
    let others = c.args.others.now.codes in
    let test = is_in c.args.ranges.now in
    let next : IsNextMark marks c.loop-rank.from mark = record { within = found.within; here = found.mark; first = found.first } in
    let one : c.from.result ≡ from_bool (test (get_or others c.loop-rank.rank 0)) =
    c.from.ensures ∙ ap from_bool (c.is_in.ensures ∙ ap (λ (n : ℕ). is_in c.args.ranges.now n) c.get.ensures) in
    let more = places-to_mark test c.args.left_out c.loop-rank.from mark c.loop-rank.rank _ marks others c.requires.marks.bits c.requires.present found.behind next inv.rank (ap (λ (n : ℕ). mark + n) one) in
    record {
      within = omega (arith, found.within);
      rank = omega (arith, inv.rank, found.first, found.mark, marked-next marks mark found.within);
      places =
          c.in-Ok.ensures.ok ∙ ap (λ (l : List ℕ). l ++ range_with_len c.loop-rank.from (mark + c.from.result - c.loop-rank.from)) inv.places ∙ append_assoc c.reserve.new.self.items _ _
          ∙ ap (λ (l : List ℕ). c.reserve.new.self.items ++ l) (sym more);
    }

pub returns-in-Ok-append_range-clause-ok : goal.returns-in-Ok-append_range-clause-ok
returns-in-Ok-append_range-clause-ok c =
    let inv = c.loop-rank.invariant in
    let marks = c.args.marks.now.codes in
    let codes = merged c.args.left_out marks c.args.others.now.codes in
    let test = is_in c.args.ranges.now in
    let end = c.len-2.result in
    let size : end ≡ length marks = c.len-2.ensures.len in
    let all : take end marks ≡ marks = take_all end marks (omega (arith, size)) in
    let whole : take end codes ≡ codes = take_all end codes (omega (arith, size, length-merged c.args.left_out marks c.args.others.now.codes)) in
    let none : marked (take end marks) ≡ marked (take c.loop-rank.from marks) = ap (λ l. marked l) all ∙ c.requires.marks.paired ∙ omega (arith, inv.rank, c.loop-rank-test.false) in
    let more = places-bare test c.args.left_out c.loop-rank.from end marks c.args.others.now.codes c.requires.present (omega (arith, inv.within, size)) (omega (arith, size)) none in
    c.in-Ok-append_range.ensures.ok ∙ ap (λ (l : List ℕ). l ++ range_with_len c.loop-rank.from (end - c.loop-rank.from)) inv.places ∙ append_assoc c.reserve.new.self.items _ _
    ∙ ap (λ (l : List ℕ). c.reserve.new.self.items ++ l) (sym more ∙ ap (λ l. places_from test 0 l) whole)
    ∙ ap (λ (l : List ℕ). l ++ places_from test 0 codes) c.in_ok-reserve.ensures.items
