use Rattle.std.proofs.Common.{◌≡◌, ℕ, ◌+◌, ◌-◌, ◌*◌, ◌/◌, ◌<◌, ◌≤◌, min, Bool, false, List, length, take, get_or, sym, ap, ◌∙◌, subst, arith}
use Rattle.std.specs.Prelude.{map}
use Rattle.std.proofs.lemmas.List.{take_min}
use Rattle.ut_bits.specs.Places.{is_in}
use Rattle.ut_mask.specs.Mask.{kept}
use Rattle.ut_mask.proofs.KeptLemmas.{kept_from-none}
use Rattle.ut_mask.proofs.ScanLemmas.{kept-range, kept-whole, length-kept_by}
use Rattle.ut_packed.specs.declared.bounds.Bounds.{Bounds}
use Rattle.ut_packed.specs.Bounds.{AreBounds, IsBetween}
use Rattle.ut_packed.proofs.BoundsLemmas.{holds, misses, kept-all}
use Rattle.ut_packed.proofs.masks.keep_words.Goals as goal
use Rattle.ut_packed.proofs.masks.keep_words.Goals.{then-not-must_stand+then-may_stand, then-not-must_stand+else-may_stand, else-not-must_stand}

pub loop-b-init : goal.loop-b-init
loop-b-init c = sym (kept_from-none 0 c.args.mask.now)

-- what stands past the last block
abbrev no_bounds : Bounds
no_bounds = record { least = 0; greatest = 0 }

-- a code of a block stands between its bounds
of-block : (b i : ℕ) (codes : List ℕ) (bounds : List Bounds) → AreBounds codes bounds → 1024 * b ≤ i → i < 1024 * b + 1024 → i < length codes → IsBetween (get_or bounds b no_bounds) (get_or codes i 0)
of-block b i codes bounds are lo hi there =
    let block : i / 1024 ≡ b = omega (arith, lo, hi) in
    subst (λ n. IsBetween (get_or bounds n no_bounds) (get_or codes i 0)) block (are.each i no_bounds there)

-- up to the list's end there is no more
up-to : (test : ℕ → Bool) (n m : ℕ) (codes : List ℕ) (first : List Bool) → m ≡ min n (length codes) → kept first (map test (take m codes)) ≡ kept first (map test (take n codes))
up-to test n m codes first e = ap (λ (l : List ℕ). kept first (map test l)) (ap (λ (k : ℕ). take k codes) e ∙ take_min n codes)

pub loop-b-preserved : goal.loop-b-preserved
loop-b-preserved c =
    let test = is_in c.args.ranges.now in
    let b = c.loop-b.b in
    let n = 1024 * b in
    let block = get_or c.args.bounds.now b no_bounds in
    let codes = c.args.list.now.codes in
    let within : n ≤ length codes = omega (arith, c.len.ensures.len) in
    elim c.if-not-must_stand.branch [
      | then-not-must_stand+then-may_stand w ↦
          w.mask-is ∙ w.keep_block.ensures c.args.mask.now c.requires.length c.loop-b.invariant
      | then-not-must_stand+else-may_stand w ↦
          w.mask-is
          ∙ kept-range test n w.min.result codes 0 false c.args.mask.now c.loop-b.mask _ (omega (arith, w.min.ensures, within, w.len-else-may_stand.ensures.len)) (omega (arith, w.min.ensures, w.len-else-may_stand.ensures.len)) c.loop-b.invariant
          (λ i lo hi. misses block c.args.ranges.now (get_or codes i 0) (sym w.may_stand.ensures ∙ w.if-may_stand.false) (of-block b i codes c.args.bounds.now c.requires.bounds lo (omega (arith, hi, w.min.ensures)) (omega (arith, hi, w.min.ensures, w.len-else-may_stand.ensures.len))))
          w.clear.ensures
          ∙ up-to test (1024 * (b + 1)) w.min.result codes c.args.mask.now (omega (arith, w.min.ensures, w.len-else-may_stand.ensures.len))
      | else-not-must_stand w ↦
          w.mask-is
          ∙ kept-all test 1024 n (1024 * (b + 1)) (n + min (length codes - n) 1024) codes c.args.mask.now c.loop-b.mask within (omega arith) (omega arith) c.loop-b.invariant
          (λ i lo hi.
          holds block c.args.ranges.now (get_or codes i 0) (sym c.must_stand.ensures ∙ w.if-not-must_stand.false)
          (of-block b i codes c.args.bounds.now c.requires.bounds lo (omega (arith, hi)) (omega (arith, hi))))
    ]

pub returns : goal.returns
returns c =
    kept-whole (is_in c.args.ranges.now) (1024 * c.loop-b.b) c.args.list.now.codes c.args.mask.now c.loop-b.mask c.requires.length (omega (arith, c.len.ensures.len, c.loop-b-test.false)) c.loop-b.invariant

pub keep_block-requires-clause-length : goal.keep_block-requires-clause-length
keep_block-requires-clause-length c = length-kept_by (is_in c.args.ranges.now) (1024 * c.loop-b.b) c.args.list.now.codes c.args.mask.now c.loop-b.mask c.loop-b.invariant ∙ c.requires.length

pub keep_block-requires-clause-within : goal.keep_block-requires-clause-within
keep_block-requires-clause-within c = omega (arith, c.len.ensures.len)

pub clear-requires-clause-within : goal.clear-requires-clause-within
clear-requires-clause-within c =
    omega (arith, length-kept_by (is_in c.args.ranges.now) (1024 * c.loop-b.b) c.args.list.now.codes c.args.mask.now c.loop-b.mask c.loop-b.invariant, c.requires.length, c.min.ensures)
