use Rattle.std.proofs.Common.{◌≡◌, ◌∙◌, ℕ, ◌+◌, ◌-◌, ◌/◌, ◌^◌, ◌<◌, ◌≤◌, List, [], length, get_or, ap, sym, refl, arith}
use Rattle.std.specs.Int.{to_be_bytes, w64}
use Rattle.std.specs.Ordering.{is_lt}
use Rattle.ut_key.specs.Keys.{key_cmp}
use Rattle.ut_key.proofs.HalfLemmas.{halves}
use Rattle.ut_unsorted.specs.FirstSeen.{key_eq}
use Rattle.ut_unsorted.proofs.RisingLemmas.{rising-found, rising-absent}
use Rattle.ut_unsorted.proofs.WordLemmas.{bytes-not_below, words-differ, words-less}
use Rattle.ut_unsorted.proofs.rising.find.Invariants.{IsBetween}
use Rattle.ut_unsorted.proofs.rising.find.Goals.{else-low-words-via-then-low-words+else-number_at-number-2, else-low-words-via-else-low-words}
use Rattle.ut_unsorted.proofs.rising.find.Goals as goal

module _ (ws : List (List ℕ)) (n low high m x before now after : ℕ) (between : IsBetween ws (to_be_bytes w64 n) low high before now) (at : to_be_bytes w64 x ≡ get_or ws m []) (small : n < 2 ^ 64) (fits : x < 2 ^ 64) (middle : m ≡ low + (high - low) / 2) (some : low < high) (step : after ≡ now + 1) where
  -- the search goes on behind a word that is less
  behind : x < n → IsBetween ws (to_be_bytes w64 n) (m + 1) high before after
  behind less = record {
    ordered = omega (arith, middle, some);
    within = between.within;
    under = λ _. let back : m + 1 - 1 ≡ m = omega arith in ap (λ j. key_cmp (get_or ws j []) (to_be_bytes w64 n)) back ∙ ap (λ a. key_cmp a (to_be_bytes w64 n)) (sym at) ∙ words-less x n fits small less;
    over = between.over;
    cost = λ digits lt. halves (high - low) (high - (m + 1)) before now after digits (omega (arith, some)) (omega (arith, middle, some)) step (between.cost digits lt);
  }

  -- and in front of one that isn't
  in_front : n ≤ x → IsBetween ws (to_be_bytes w64 n) low m before after
  in_front more = record {
    ordered = omega (arith, middle);
    within = omega (arith, middle, some, between.within);
    under = between.under;
    over = λ _. ap (λ a. is_lt (key_cmp a (to_be_bytes w64 n))) (sym at) ∙ bytes-not_below n x small fits more;
    cost = λ digits lt. halves (high - low) (m - low) before now after digits (omega (arith, some)) (omega (arith, middle)) step (between.cost digits lt);
  }

pub loop-low-preserved-then-number_at-number : goal.loop-low-preserved-then-number_at-number
loop-low-preserved-then-number_at-number g c =
    behind c.args.words.now c.args.number c.loop-low.low c.loop-low.high (c.loop-low.low + (c.loop-low.high - c.loop-low.low) / 2) c.number_at.result _ c.loop-low.steps _ c.loop-low.invariant c.number_at.ensures.number c.ranges.number.fits c.number_at.type_inv refl c.loop-low-test.true c.number_at.ensures.step c.if-number_at-number.true

pub loop-low-preserved : goal.loop-low-preserved
loop-low-preserved g c =
    in_front c.args.words.now c.args.number c.loop-low.low c.loop-low.high (c.loop-low.low + (c.loop-low.high - c.loop-low.low) / 2) c.number_at.result _ c.loop-low.steps _ c.loop-low.invariant c.number_at.ensures.number c.ranges.number.fits c.number_at.type_inv refl c.loop-low-test.true c.number_at.ensures.step c.if-number_at-number.false

pub returns-then-number_at-number-2-clause-place : goal.returns-then-number_at-number-2-clause-place
returns-then-number_at-number-2-clause-place g c =
    let ws = c.args.words.now in
    let low = c.loop-low.low in
    let within : c.loop-low.low ≤ length c.args.words.now = omega (arith, c.loop-low.invariant.ordered, c.loop-low.invariant.within) in
    rising-found ws (to_be_bytes w64 c.args.number) c.requires.ascending low within c.loop-low.invariant.under c.if-low-words.true
    (sym c.number_at-then-low-words.ensures.number ∙ ap (to_be_bytes w64) c.if-number_at-number-2.true)

pub returns-clause-place : goal.returns-clause-place
returns-clause-place g c =
    let ws = c.args.words.now in
    let low = c.loop-low.low in
    let k = to_be_bytes w64 c.args.number in
    let within : c.loop-low.low ≤ length c.args.words.now = omega (arith, c.loop-low.invariant.ordered, c.loop-low.invariant.within) in
    let met : c.loop-low.low ≡ c.loop-low.high = omega (arith, c.loop-low.invariant.ordered, c.loop-low-test.false) in
    rising-absent ws k c.requires.ascending low within c.loop-low.invariant.under
    (λ lt. ap (λ j. is_lt (key_cmp (get_or ws j []) k)) met ∙ c.loop-low.invariant.over (omega (arith, met, lt)))
    (λ lt. elim c.else-low-words.branch [
      | else-low-words-via-then-low-words+else-number_at-number-2 w ↦ ap (key_eq k) (sym w.number_at-then-low-words.ensures.number)
          ∙ words-differ c.args.number w.number_at-then-low-words.result c.ranges.number.fits w.number_at-then-low-words.type_inv (λ e. w.if-number_at-number-2.false (sym e))
      | else-low-words-via-else-low-words w ↦ absurd (omega (arith, lt, w.if-low-words.false))
    ])
