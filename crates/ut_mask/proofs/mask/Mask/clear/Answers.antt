use Rattle.std.proofs.Common.{◌≡◌, ℕ, ◌+◌, ◌-◌, ◌*◌, ◌/◌, ◌<◌, ◌≤◌, ◌++◌, List, Bool, false, true, length, replicate, sym, ap, ◌∙◌, arith}
use Rattle.std.proofs.lemmas.List.{length-replicate, replicate-append-replicate}
use Rattle.ut_mask.specs.Mask.{kept_from, word_bits}
use Rattle.ut_mask.proofs.KeptLemmas.{length-kept_from, kept_from-none, kept_from-next, kept_from-true, kept_from-true_behind}
use Rattle.ut_mask.proofs.mask.Mask.clear.Goals as goal

-- the places up to the end of the range or of the word
more : (from at n a b c to : ℕ) (ms old bs : List Bool) → n + a ≡ at → from ≤ at → to ≡ at + b → bs ≡ replicate a true ++ (replicate b false ++ replicate c true) → old ≡ kept_from from ms (replicate (at - from) false)
    → kept_from n old bs ≡ kept_from from ms (replicate (to - from) false)
more from at n a b c to ms old bs place le end bits is =
    let sum : at - from + b ≡ to - from = omega (arith, le, end) in
    ap (λ (l : List Bool). kept_from n old l) bits
    ∙ kept_from-true at n a old (replicate b false ++ replicate c true) (sym place)
    ∙ kept_from-true_behind at c old (replicate b false)
    ∙ ap (λ (l : List Bool). kept_from at l (replicate b false)) is
    ∙ kept_from-next at from ms (replicate (at - from) false) (replicate b false) (omega (arith, le, length-replicate {A = Bool} (at - from) false))
    ∙ ap (λ (l : List Bool). kept_from from ms l) (replicate-append-replicate (at - from) b false ∙ ap (λ (k : ℕ). replicate k false) sum)

pub loop-at-init : goal.loop-at-init
loop-at-init c =
    let none : c.args.from - c.args.from ≡ 0 = omega arith in
    record {
      behind = omega arith;
      within = c.requires.order;
      kept = sym (ap (λ (k : ℕ). kept_from c.args.from c.args.self.now (replicate k false)) none ∙ kept_from-none c.args.from c.args.self.now);
    }

pub keep_word-requires : goal.keep_word-requires
keep_word-requires c =
    let inv = c.loop-at.invariant in
    let size = ap (λ (l : List Bool). length l) inv.kept ∙ length-kept_from c.args.from c.args.self.now (replicate (c.loop-at.at - c.args.from) false) in
    omega (arith, size, inv.within, c.requires.within)

pub loop-at-preserved : goal.loop-at-preserved
loop-at-preserved c =
    let inv = c.loop-at.invariant in
    let start = c.loop-at.at / 64 * 64 in
    let end = start + c.min.result in
    let bound : start ≤ c.loop-at.at = omega arith in
    let near : c.loop-at.at < start + 64 = omega arith in
    let some : c.loop-at.at < end = omega (arith, c.min.ensures, c.loop-at-test.true) in
    let last : end ≤ c.args.to = omega (arith, c.min.ensures, c.loop-at-test.true) in
    record {
      behind = omega (arith, inv.behind, some);
      within = last;
      kept =
          c.keep_word.ensures
          ∙ more c.args.from c.loop-at.at (64 * (c.loop-at.at / 64)) (c.loop-at.at - start) (end - start - (c.loop-at.at - start)) (64 - (end - start)) end c.args.self.now c.loop-at.self (word_bits c.ones_outside.result) (omega (arith, bound)) inv.behind
          (omega (arith, some, bound)) c.ones_outside.ensures inv.kept;
    }
