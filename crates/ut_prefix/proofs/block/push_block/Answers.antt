use Rattle.std.proofs.Common.{◌≡◌, ◌+◌, ◌-◌, ◌++◌, ◌∷◌, [], suc, drop, ℕ, List, arith, sym, ap, ◌∙◌, subst}
use Rattle.ut_prefix.specs.Reading.{CanDecode, decoded, block_keys, first_key, next_key}
use Rattle.ut_prefix.proofs.BlockLemmas.{CanDecode-block, CanDecode-next}
use Rattle.ut_prefix.proofs.WalkLemmas.{read_start, read_more, read_end}
use Rattle.ut_prefix.proofs.block.push_block.Goals as goal

pub loop-init : goal.loop-init
loop-init c =
    let n = c.args.count - 1 in
    let block = c.args.block.now in
    let rest = c.first_of.result.1.now in
    let e : c.args.count ≡ suc (c.args.count - 1) = omega (arith, c.requires.some) in
    let key : c.from_slice-key.result ≡ first_key block = c.from_slice-key.ensures ∙ c.first_of.ensures.key in (
      omega (arith, c.requires.some),
      subst (λ (k : List ℕ). CanDecode n k rest) (sym key) (subst (λ (r : List ℕ). CanDecode n (first_key block) r) (sym c.first_of.ensures.rest) (CanDecode-block c.args.count n block (omega (arith, c.requires.some)) c.requires.block)),
      ap (λ l. l ++ drop 1 (decoded n c.from_slice-key.result rest)) (c.in_ok-push.ensures.ok ∙ ap (λ (k : List ℕ). c.args.keys.now ++ k ∷ []) c.as_slice.ensures.bytes)
          ∙ read_start c.args.count n c.args.keys.now block c.from_slice-key.result rest e key c.first_of.ensures.rest,
    )

pub loop-preserved : goal.loop-preserved
loop-preserved c =
    let n = c.args.count - c.loop.counter in
    let m = c.args.count - (c.loop.counter + 1) in
    let next = c.read_next-rest.new.key in
    let rest = c.read_next-rest.result.now in
    let e : c.args.count - c.loop.counter ≡ suc (c.args.count - (c.loop.counter + 1)) = omega (arith, c.loop-test.true) in (
      omega (arith, c.loop-test.true),
      subst (λ (k : List ℕ). CanDecode m k rest) (sym c.read_next-rest.ensures.key) (subst (λ (r : List ℕ). CanDecode m (next_key c.loop.key c.loop.rest.now) r) (sym c.read_next-rest.ensures.rest) (CanDecode-next n m c.loop.key c.loop.rest.now e c.loop.invariant.1)),
      ap (λ l. l ++ drop 1 (decoded m next rest)) (c.in_ok-push-2.ensures.ok ∙ ap (λ (k : List ℕ). c.loop.keys ++ k ∷ []) c.as_slice-in-loop.ensures.bytes)
          ∙ read_more n m c.loop.keys (c.args.keys.now ++ block_keys c.args.count c.args.block.now) c.loop.key c.loop.rest.now next rest e c.read_next-rest.ensures.key c.read_next-rest.ensures.rest c.loop.invariant.2,
    )

pub returns : goal.returns
returns c = read_end (c.args.count - c.loop.counter) c.loop.keys (c.args.keys.now ++ block_keys c.args.count c.args.block.now) c.loop.key c.loop.rest.now (omega (arith, c.loop-test.false, c.loop.invariant.0)) c.loop.invariant.2
