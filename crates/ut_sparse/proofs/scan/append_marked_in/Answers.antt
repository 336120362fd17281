use Rattle.std.proofs.Common.{◌≡◌, ℕ, ◌+◌, ◌*◌, ◌++◌, take, get_or, ap, sym, ◌∙◌, arith, List, [], ◌∷◌, append_assoc, append-nil}
use Rattle.std.specs.Int.{trailing_zeros, w64}
use Rattle.ut_bits.specs.Places.{places_from, is_in}
use Rattle.ut_bits.proofs.PlacesLemmas.{places_from-one, places_from-none}
use Rattle.ut_sparse.specs.Sparse.{merged}
use Rattle.ut_sparse.proofs.SparseLemmas.{marked-le}
use Rattle.ut_sparse.proofs.ScanLemmas.{at-mark, places-at_mark, places-unmarked, length-word, word-joined, word_from}
use Rattle.ut_sparse.proofs.scan.append_marked_in.Goals as goal
use Rattle.ut_sparse.proofs.scan.append_marked_in.Goals.{then-is_in+in-Ok, else-is_in}

pub loop-rest-init : goal.loop-rest-init
loop-rest-init c =
    let same : 64 * c.args.k + 0 ≡ 64 * c.args.k = omega arith in
    record {
      within = omega arith;
      rest = word-joined c.args.marks.now.width (64 * c.args.k) c.word-rest.result c.args.marks.now.codes c.requires.marks.width c.requires.marks.bits c.word-rest.ensures;
      rank = rw same c.requires.rank;
      places = sym (append-nil c.args.out.now.items);
    }

pub get-requires : goal.get-requires
get-requires c =
    let inv = c.loop-rest.invariant in
    let mark = at-mark c.args.left_out (64 * c.args.k) c.loop-rest.passed c.loop-rest.rank c.loop-rest.rest c.args.marks.now.codes c.args.others.now.codes c.requires.marks.bits c.requires.marks.paired inv.within inv.rest (omega (arith, c.loop-rest-test.true)) inv.rank in
    mark.there

pub overflow_add-k : goal.overflow_add-k
overflow_add-k c =
    let inv = c.loop-rest.invariant in
    let mark = at-mark c.args.left_out (64 * c.args.k) c.loop-rest.passed c.loop-rest.rank c.loop-rest.rest c.args.marks.now.codes c.args.others.now.codes c.requires.marks.bits c.requires.marks.paired inv.within inv.rest (omega (arith, c.loop-rest-test.true)) inv.rank in
    omega (arith, mark.fits, c.requires.marks.few)

pub overflow_add-k-then-is_in : goal.overflow_add-k-then-is_in
overflow_add-k-then-is_in c =
    let inv = c.loop-rest.invariant in
    let mark = at-mark c.args.left_out (64 * c.args.k) c.loop-rest.passed c.loop-rest.rank c.loop-rest.rest c.args.marks.now.codes c.args.others.now.codes c.requires.marks.bits c.requires.marks.paired inv.within inv.rest (omega (arith, c.loop-rest-test.true)) inv.rank in
    omega (arith, mark.fits, c.requires.marks.few)

pub overflow_add-rank : goal.overflow_add-rank
overflow_add-rank c =
    let inv = c.loop-rest.invariant in
    let mark = at-mark c.args.left_out (64 * c.args.k) c.loop-rest.passed c.loop-rest.rank c.loop-rest.rest c.args.marks.now.codes c.args.others.now.codes c.requires.marks.bits c.requires.marks.paired inv.within inv.rest (omega (arith, c.loop-rest-test.true)) inv.rank in
    omega (arith, mark.there, c.requires.marks.few, c.requires.marks.paired, marked-le c.args.marks.now.codes c.requires.marks.bits)

pub overflow_add-passed-in-loop-rest : goal.overflow_add-passed-in-loop-rest
overflow_add-passed-in-loop-rest c =
    let inv = c.loop-rest.invariant in
    let mark = at-mark c.args.left_out (64 * c.args.k) c.loop-rest.passed c.loop-rest.rank c.loop-rest.rest c.args.marks.now.codes c.args.others.now.codes c.requires.marks.bits c.requires.marks.paired inv.within inv.rest (omega (arith, c.loop-rest-test.true)) inv.rank in
    omega (arith, mark.fits, c.requires.marks.few)

pub loop-rest-smaller : goal.loop-rest-smaller
loop-rest-smaller c =
    let inv = c.loop-rest.invariant in
    let mark = at-mark c.args.left_out (64 * c.args.k) c.loop-rest.passed c.loop-rest.rank c.loop-rest.rest c.args.marks.now.codes c.args.others.now.codes c.requires.marks.bits c.requires.marks.paired inv.within inv.rest (omega (arith, c.loop-rest-test.true)) inv.rank in
    omega (arith, mark.within, length-word (64 * c.args.k) c.args.marks.now.codes)

pub loop-rest-preserved : goal.loop-rest-preserved
loop-rest-preserved c =
    let inv = c.loop-rest.invariant in
    let mark = at-mark c.args.left_out (64 * c.args.k) c.loop-rest.passed c.loop-rest.rank c.loop-rest.rest c.args.marks.now.codes c.args.others.now.codes c.requires.marks.bits c.requires.marks.paired inv.within inv.rest (omega (arith, c.loop-rest-test.true)) inv.rank in
    let test = is_in c.args.ranges.now in
    let zeros = trailing_zeros w64 c.loop-rest.rest in
    let codes = word_from (64 * c.args.k) (merged c.args.left_out c.args.marks.now.codes c.args.others.now.codes) in
    let more = places-at_mark test c.args.left_out (64 * c.args.k) c.loop-rest.passed c.loop-rest.rank c.loop-rest.rest zeros c.args.marks.now.codes c.args.others.now.codes c.requires.absent mark in
    let here : c.is_in.result ≡ test (get_or c.args.others.now.codes c.loop-rest.rank 0) = c.is_in.ensures ∙ ap (λ (n : ℕ). is_in c.args.ranges.now n) c.get.ensures in
    let sum : 64 * c.args.k + (c.loop-rest.passed + zeros) ≡ 64 * c.args.k + c.loop-rest.passed + zeros = omega arith in
    let joined : (tail : List ℕ) → places_from test (64 * c.args.k + (c.loop-rest.passed + zeros)) (get_or c.args.others.now.codes c.loop-rest.rank 0 ∷ []) ≡ tail
    → c.loop-rest.out.items ++ tail ≡ c.args.out.now.items ++ places_from test (64 * c.args.k) (take (c.loop-rest.passed + (zeros + 1)) codes) =
    λ tail e. ap (λ (l : List ℕ). l ++ tail) inv.places ∙ append_assoc c.args.out.now.items _ tail ∙ ap (λ (l : List ℕ). c.args.out.now.items ++ l) (ap (λ (l : List ℕ). places_from test (64 * c.args.k) (take c.loop-rest.passed codes) ++ l) (sym e) ∙ sym more) in
    record {
      within = omega (arith, mark.within);
      rest = mark.behind;
      rank = mark.counted;
      places =
          elim c.if-is_in.branch [
            | then-is_in+in-Ok w ↦
                ap (λ v. v.items) w.out-is ∙ w.in-Ok.ensures.items
                ∙ joined ((64 * c.args.k + c.loop-rest.passed + zeros) ∷ []) (places_from-one test _ _ (sym here ∙ w.if-is_in.true) ∙ ap (λ (n : ℕ). n ∷ []) sum)
            | else-is_in w ↦ ap (λ v. v.items) w.out-is ∙ sym (append-nil c.loop-rest.out.items) ∙ joined [] (places_from-none test _ _ (sym here ∙ w.if-is_in.false))
          ];
    }

pub returns-clause-ok : goal.returns-clause-ok
unfolding word_from
returns-clause-ok c =
    let inv = c.loop-rest.invariant in
    inv.places
    ∙ ap (λ (l : List ℕ). c.args.out.now.items ++ l)
    (sym (places-unmarked (is_in c.args.ranges.now) c.args.left_out (64 * c.args.k) c.loop-rest.passed c.args.marks.now.codes c.args.others.now.codes c.requires.marks.bits c.requires.absent inv.within (sym c.loop-rest-test.false ∙ inv.rest)))
