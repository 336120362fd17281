use Rattle.std.proofs.Common.{◌≡◌, ◌+◌, ◌-◌, ◌*◌, ◌/◌, ℕ, List, get_or, [], arith, sym, ap, ◌∙◌, inl, inr}
use Rattle.std.specs.declared.cmp.Ordering.TheVariants.{Less, Equal, Greater}
use Rattle.ut_key.specs.Keys.{key_cmp}
use Rattle.ut_key.proofs.HalfLemmas.{halves}
use Rattle.ut_prefix.specs.Reading.{keys_of}
use Rattle.ut_prefix.proofs.LayoutLemmas.{block_at, first-in_block, IsBlock-at}
use Rattle.ut_prefix.proofs.search.search_starts.Goals as goal

pub block_of-block-requires-clause-start : goal.block_of-block-requires-clause-start
block_of-block-requires-clause-start g c = (block_at c.args.starts.now c.args.len c.args.bytes.now _ c.requires.blocks (omega arith)).0

pub first_of-requires : goal.first_of-requires
first_of-requires g c =
    IsBlock-at c.args.starts.now c.args.len c.args.bytes.now c.block_of-block.result.now (c.loop-low.low + (c.loop-low.high - c.loop-low.low) / 2) 1 c.requires.blocks (omega arith) c.block_of-block.ensures (omega arith)

less_greater : Less ≡ Greater → ⊥
less_greater e = cc

equal_greater : Equal ≡ Greater → ⊥
equal_greater e = cc

pub loop-low-preserved-in-Greater : goal.loop-low-preserved-in-Greater
loop-low-preserved-in-Greater g c =
    let first : c.first_of.result.0.now ≡ get_or (keys_of c.args.starts.now c.args.len c.args.bytes.now) (16 * (c.loop-low.low + (c.loop-low.high - c.loop-low.low) / 2)) [] =
    c.first_of.ensures.key ∙ first-in_block c.args.starts.now c.args.len c.args.bytes.now c.block_of-block.result.now (c.loop-low.low + (c.loop-low.high - c.loop-low.low) / 2) c.requires.count (omega arith) c.block_of-block.ensures in
    record {
      ordered = omega arith;
      within = omega arith;
      under = c.loop-low.invariant.under;
      over = λ _. ap (λ (l : List ℕ). key_cmp l c.args.key.now) (sym first) ∙ sym c.compare.ensures.order ∙ c.in-Greater.is;
      cost = λ digits lt. halves (c.loop-low.high - c.loop-low.low) _ _ c.loop-low.steps _ digits (omega arith) (omega arith) c.compare.ensures.step (c.loop-low.invariant.cost digits lt);
    }

pub loop-low-preserved : goal.loop-low-preserved
loop-low-preserved g c =
    let first : c.first_of.result.0.now ≡ get_or (keys_of c.args.starts.now c.args.len c.args.bytes.now) (16 * (c.loop-low.low + (c.loop-low.high - c.loop-low.low) / 2)) [] =
    c.first_of.ensures.key ∙ first-in_block c.args.starts.now c.args.len c.args.bytes.now c.block_of-block.result.now (c.loop-low.low + (c.loop-low.high - c.loop-low.low) / 2) c.requires.count (omega arith) c.block_of-block.ensures in
    let at : 16 * (c.loop-low.low + (c.loop-low.high - c.loop-low.low) / 2) ≡ 16 * (c.loop-low.low + (c.loop-low.high - c.loop-low.low) / 2 + 1 - 1) = omega arith in
    record {
      ordered = omega arith;
      within = c.loop-low.invariant.within;
      under = λ _ is.
          let same : c.compare.result ≡ Greater = c.compare.ensures.order ∙ ap (λ (l : List ℕ). key_cmp l c.args.key.now) first ∙ ap (λ (k : ℕ). key_cmp (get_or (keys_of c.args.starts.now c.args.len c.args.bytes.now) k []) c.args.key.now) at ∙ is in
          elim c.in-Less.is [ inl less ↦ less_greater (sym less ∙ same) | inr equal ↦ equal_greater (sym equal ∙ same) ];
      over = c.loop-low.invariant.over;
      cost = λ digits lt. halves (c.loop-low.high - c.loop-low.low) _ _ c.loop-low.steps _ digits (omega arith) (omega arith) c.compare.ensures.step (c.loop-low.invariant.cost digits lt);
    }
