use Rattle.std.proofs.Common.{◌≡◌, ℕ, ◌+◌, ◌-◌, ◌*◌, ◌≤◌, min, Bool, List, length, take, drop, sym, ap, ◌∙◌, arith}
use Rattle.std.specs.Prelude.{map}
use Rattle.std.specs.Simd.Lanes.{mask_l}
use Rattle.std.proofs.lemmas.List.{length-drop, take_min}
use Rattle.ut_bits.specs.Places.{is_in}
use Rattle.ut_mask.specs.Mask.{kept}
use Rattle.ut_mask.proofs.KeptLemmas.{length-kept_from}
use Rattle.ut_mask.proofs.ScanLemmas.{kept-word, kept-passed}
use Rattle.ut_packed.proofs.WordLemmas.{answers}
use Rattle.ut_packed.proofs.masks.keep_block.Goals as goal
use Rattle.ut_packed.proofs.masks.keep_block.Goals.{then-not-is_word_clear, else-not-is_word_clear}

-- up to 64 codes are the next 64, or all that are left
next-64 : (test : ℕ → Bool) (n end : ℕ) (codes : List ℕ) → end ≡ n + min (length codes - n) 64 → answers test n end codes ≡ map test (take 64 (drop n codes))
next-64 test n end codes e =
    let some : end - n ≡ min 64 (length (drop n codes)) = omega (arith, e, length-drop n codes) in
    ap (λ (k : ℕ). map test (take k (drop n codes))) some ∙ ap (λ (l : List ℕ). map test l) (take_min 64 (drop n codes))

-- the words up to the block's end are the codes up to there
whole-block : (test : ℕ → Bool) (b k : ℕ) (codes : List ℕ) (first : List Bool) → min (64 * k) (length codes) ≡ min (1024 * (b + 1)) (length codes)
    → kept first (map test (take (64 * k) codes)) ≡ kept first (map test (take (1024 * (b + 1)) codes))
whole-block test b k codes first same =
    ap (λ (l : List ℕ). kept first (map test l)) (sym (take_min (64 * k) codes) ∙ ap (λ (n : ℕ). take n codes) same ∙ take_min (1024 * (b + 1)) codes)

pub loop-k-init : goal.loop-k-init
loop-k-init c = record {
  size = c.requires.length;
  done = λ first few was. was ∙ ap (λ (n : ℕ). kept first (map (is_in c.args.ranges.now) (take n c.args.list.now.codes))) (omega arith);
}

pub is_word_clear-requires : goal.is_word_clear-requires
is_word_clear-requires c = omega (arith, c.loop-k.invariant.size, c.len.ensures.len, c.min-end.ensures)

pub loop-k-preserved : goal.loop-k-preserved
loop-k-preserved c =
    let test = is_in c.args.ranges.now in
    let n = 64 * c.loop-k.k in
    let codes = c.args.list.now.codes in
    let within : n ≤ length codes = omega (arith, c.len.ensures.len, c.min-end.ensures) in
    elim c.if-not-is_word_clear.branch [
      | then-not-is_word_clear w ↦ record {
        size = ap (λ (l : List Bool). length l) (w.mask-is ∙ w.keep_word.ensures) ∙ length-kept_from _ c.loop-k.mask _ ∙ c.loop-k.invariant.size;
        done = λ first few was.
            w.mask-is ∙ w.keep_word.ensures
            ∙ kept-word test n (64 * (c.loop-k.k + 1)) codes first c.loop-k.mask w.bits_in.result few within (omega arith) (c.loop-k.invariant.done first few was)
            (w.bits_in.ensures ∙ ap (λ (l : List Bool). mask_l l) (next-64 test n (n + w.min.result) codes (omega (arith, w.min.ensures, w.len-then-not-is_word_clear.ensures.len))));
      }
      | else-not-is_word_clear w ↦ record {
        size = ap (λ (l : List Bool). length l) w.mask-is ∙ c.loop-k.invariant.size;
        done = λ first few was.
            w.mask-is
            ∙ kept-passed test n (64 * (c.loop-k.k + 1)) codes first c.loop-k.mask within (omega arith) (c.loop-k.invariant.done first few was) (sym c.is_word_clear.ensures ∙ w.if-not-is_word_clear.false);
      }
    ]

pub returns : goal.returns
returns c = λ first few was.
    c.loop-k.invariant.done first few was
    ∙ whole-block (is_in c.args.ranges.now) c.args.b c.loop-k.k c.args.list.now.codes first (omega (arith, c.len.ensures.len, c.min-end.ensures, c.loop-k-test.false))
