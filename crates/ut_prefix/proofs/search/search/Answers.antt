use Rattle.std.proofs.Common.{◌≡◌, ◌+◌, ◌-◌, ◌*◌, ◌<◌, ℕ, List, get_or, [], arith, sym, ap, ◌∙◌, inl, inr}
use Rattle.std.proofs.lemmas.Bool.{cases_lt}
use Rattle.std.specs.FinMap.{slice_cmp-IsAntisymmetric, nat_cmp-IsAntisymmetric}
use Rattle.ut_key.specs.Keys.{key_cmp}
use Rattle.ut_prefix.specs.Reading.{keys_of, block_keys}
use Rattle.ut_prefix.proofs.OrderLemmas.{less_before, greater_on}
use Rattle.ut_prefix.proofs.LayoutLemmas.{block_at, IsBlock-at, get_or-in_block, length-keys_of}
use Rattle.ut_prefix.proofs.search.search.Goals as goal

pub returns-then-blocks-eq0-clause-above : goal.returns-then-blocks-eq0-clause-above
returns-then-blocks-eq0-clause-above g c = λ _ i le lt.
    let size = length-keys_of c.args.starts.now c.args.len c.args.bytes.now c.requires.count in
    let zero_at : 16 * c.search_starts-blocks.result ≡ 0 = omega arith in
    greater_on (keys_of c.args.starts.now c.args.len c.args.bytes.now) c.args.key.now (16 * c.search_starts-blocks.result) i c.requires.ascending (c.search_starts-blocks.ensures.after (omega arith)) (omega arith) (omega (arith, size))

pub block_of-block-requires-clause-start : goal.block_of-block-requires-clause-start
block_of-block-requires-clause-start g c = (block_at c.args.starts.now c.args.len c.args.bytes.now _ c.requires.blocks (omega (arith, c.search_starts-blocks.ensures.within))).0

pub search_block-i-requires-clause-block : goal.search_block-i-requires-clause-block
search_block-i-requires-clause-block g c =
    IsBlock-at c.args.starts.now c.args.len c.args.bytes.now c.block_of-block.result.now (c.search_starts-blocks.result - 1) c.min-count.result c.requires.blocks (omega (arith, c.search_starts-blocks.ensures.within)) c.block_of-block.ensures (omega (arith, c.min-count.ensures))

-- a key of the block
in_block : (g : _) (c : goal.After-search_block-i g) (i : ℕ) → i < c.min-count.result
    → get_or (block_keys c.min-count.result c.block_of-block.result.now) i [] ≡ get_or (keys_of c.args.starts.now c.args.len c.args.bytes.now) (16 * (c.search_starts-blocks.result - 1) + i) []
in_block g c i lt =
    get_or-in_block c.args.starts.now c.args.len c.args.bytes.now c.block_of-block.result.now (c.search_starts-blocks.result - 1) i c.min-count.result c.requires.count c.block_of-block.ensures lt (omega (arith, c.min-count.ensures))

pub returns-clause-below : goal.returns-clause-below
returns-clause-below g c = λ i lt.
    let size = length-keys_of c.args.starts.now c.args.len c.args.bytes.now c.requires.count in
    elim (cases_lt i (16 * (c.search_starts-blocks.result - 1))) [
      | inl before ↦ less_before (keys_of c.args.starts.now c.args.len c.args.bytes.now) c.args.key.now (16 * (c.search_starts-blocks.result - 1)) i c.requires.ascending (c.search_starts-blocks.ensures.before (omega arith)) before (omega (arith, size, c.search_starts-blocks.ensures.within))
      | inr on ↦
          let at : 16 * (c.search_starts-blocks.result - 1) + (i - 16 * (c.search_starts-blocks.result - 1)) ≡ i = omega arith in
          let here = in_block g c (i - 16 * (c.search_starts-blocks.result - 1)) (omega (arith, c.search_block-i.ensures.within)) in
          ap (λ (k : ℕ). key_cmp (get_or (keys_of c.args.starts.now c.args.len c.args.bytes.now) k []) c.args.key.now) (sym at)
          ∙ ap (λ (l : List ℕ). key_cmp l c.args.key.now) (sym here) ∙ c.search_block-i.ensures.below (i - 16 * (c.search_starts-blocks.result - 1)) (omega arith)
    ]

pub returns-clause-equal : goal.returns-clause-equal
returns-clause-equal g c = λ h.
    let at : 16 * (c.search_starts-blocks.result - 1) + c.search_block-i.result.0 ≡ (c.search_starts-blocks.result - 1) * 16 + c.search_block-i.result.0 = omega arith in
    let here = in_block g c c.search_block-i.result.0 (c.search_block-i.ensures.found h) in
    ap (λ (k : ℕ). get_or (keys_of c.args.starts.now c.args.len c.args.bytes.now) k []) (sym at) ∙ sym here
    ∙ slice_cmp-IsAntisymmetric nat_cmp-IsAntisymmetric _ _ (c.search_block-i.ensures.equal h)

pub returns-clause-above : goal.returns-clause-above
returns-clause-above g c = λ h i le lt.
    let size = length-keys_of c.args.starts.now c.args.len c.args.bytes.now c.requires.count in
    elim (cases_lt c.search_block-i.result.0 c.min-count.result) [
      | inl within ↦
          let here = in_block g c c.search_block-i.result.0 within in
          greater_on (keys_of c.args.starts.now c.args.len c.args.bytes.now) c.args.key.now (16 * (c.search_starts-blocks.result - 1) + c.search_block-i.result.0) i c.requires.ascending
          (ap (λ (l : List ℕ). key_cmp l c.args.key.now) (sym here) ∙ c.search_block-i.ensures.above h within) (omega arith) (omega (arith, size))
      | inr past ↦
          greater_on (keys_of c.args.starts.now c.args.len c.args.bytes.now) c.args.key.now (16 * c.search_starts-blocks.result) i c.requires.ascending (c.search_starts-blocks.ensures.after (omega (arith, c.min-count.ensures, c.search_block-i.ensures.within))) (omega (arith, c.min-count.ensures, c.search_block-i.ensures.within)) (omega (arith, size))
    ]
