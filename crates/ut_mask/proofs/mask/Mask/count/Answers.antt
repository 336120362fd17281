use Rattle.std.proofs.Common.{◌≡◌, ℕ, ◌+◌, ◌*◌, ◌^◌, ◌<◌, ◌≤◌, Bool, List, length, take, get_or, refl, ap, ◌∙◌, arith}
use Rattle.std.specs.List.{count_by}
use Rattle.std.specs.Int.RustNames.{count_ones}
use Rattle.std.proofs.lemmas.List.{take_more, length-take-le, take_all}
use Rattle.std.proofs.lemmas.List.Sums.{count_by-le-length}
use Rattle.ut_mask.specs.Mask.{words_bits}
use Rattle.ut_mask.proofs.WordsLemmas.{count-more, count-all, length-words_bits}
use Rattle.ut_mask.proofs.mask.Mask.count.Goals as goal

-- one word more
more : (i count ones : ℕ) (ws : List ℕ) → i < length ws → get_or ws i 0 < 2 ^ 64 → count ≡ count_by (λ (b : Bool). b) (words_bits (take i ws)) → ones ≡ count_ones (get_or ws i 0)
    → count + ones ≡ count_by (λ (b : Bool). b) (words_bits (take (i + 1) ws))
more i count ones ws within h is same =
    omega (arith, is, same, count-more (get_or ws i 0) (take i ws) (take (i + 1) ws) h (take_more ws i 0 within))

few : (i : ℕ) (ws : List ℕ) → i ≤ length ws → count_by (λ (b : Bool). b) (words_bits (take i ws)) ≤ 64 * i
few i ws within = omega (arith, count_by-le-length (λ (b : Bool). b) (words_bits (take i ws)), length-words_bits (take i ws), length-take-le i ws within)

pub overflow_add-count : goal.overflow_add-count
overflow_add-count c =
    let word = c.type_inv.word-items c.loop-word.word-index in
    let next = more c.loop-word.word-index c.loop-word.count (count_ones (get_or c.as_slice-word-items.result.now c.loop-word.word-index 0)) c.as_slice-word-items.result.now c.loop-word-test.true word.fits c.loop-word.invariant refl in
    let bound = few (c.loop-word.word-index + 1) c.as_slice-word-items.result.now (omega arith) in
    let size = ap (λ (l : List ℕ). length l) c.as_slice-word-items.ensures.value in
    omega (arith, next, bound, size, c.self.invariant.count, c.self.invariant.few)

pub loop-word-preserved : goal.loop-word-preserved
loop-word-preserved c =
    let word = c.type_inv.word-items c.loop-word.word-index in
    more c.loop-word.word-index c.loop-word.count (count_ones (get_or c.as_slice-word-items.result.now c.loop-word.word-index 0)) c.as_slice-word-items.result.now c.loop-word-test.true word.fits c.loop-word.invariant refl

pub returns : goal.returns
returns c =
    let items = c.as_slice-word-items.ensures.value in
    let words = c.self.inside.words.items in
    c.loop-word.invariant ∙ ap (λ (l : List ℕ). count_by (λ (b : Bool). b) (words_bits l)) (take_all c.loop-word.word-index c.as_slice-word-items.result.now (omega arith) ∙ items)
    ∙ count-all c.self.inside.len words c.self.invariant ∙ ap (λ (l : List Bool). count_by (λ (b : Bool). b) l) c.self.view_is
