use Rattle.std.proofs.Common.{◌≡◌, ℕ, ◌+◌, ◌*◌, ◌≤◌, ◌++◌, length, take, drop, ap, sym, ◌∙◌, arith, List, append_assoc}
use Rattle.std.proofs.lemmas.List.{take_all}
use Rattle.ut_bits.specs.Places.{places_from, is_in}
use Rattle.ut_sparse.specs.Sparse.{merged}
use Rattle.ut_sparse.proofs.ScanLemmas.{places_from-word}
use Rattle.ut_sparse.proofs.SparseLemmas.{length-merged}
use Rattle.ut_sparse.proofs.scan.append_others_in.Goals as goal

pub loop-k-preserved : goal.loop-k-preserved
loop-k-preserved c =
    let codes = merged c.args.left_out c.args.marks.now.codes c.args.others.now.codes in
    let test = is_in c.args.ranges.now in
    let size = length-merged c.args.left_out c.args.marks.now.codes c.args.others.now.codes in
    let within : 64 * c.loop-k.k ≤ length codes = omega (arith, size) in
    let next : 64 * c.loop-k.k + 64 ≡ 64 * (c.loop-k.k + 1) = omega arith in
    c.in-Ok.ensures.ok ∙ ap (λ (l : List ℕ). l ++ places_from test (64 * c.loop-k.k) (take 64 (drop (64 * c.loop-k.k) codes))) c.loop-k.invariant ∙ append_assoc c.args.out.now.items _ _
    ∙ ap (λ (l : List ℕ). c.args.out.now.items ++ l) (sym (places_from-word test (64 * c.loop-k.k) codes within) ∙ ap (λ (n : ℕ). places_from test 0 (take n codes)) next)

pub returns-clause-ok : goal.returns-clause-ok
returns-clause-ok c =
    let codes = merged c.args.left_out c.args.marks.now.codes c.args.others.now.codes in
    let size = length-merged c.args.left_out c.args.marks.now.codes c.args.others.now.codes in
    c.loop-k.invariant ∙ ap (λ (l : List ℕ). c.args.out.now.items ++ places_from (is_in c.args.ranges.now) 0 l) (take_all (64 * c.loop-k.k) codes (omega (arith, size)))
