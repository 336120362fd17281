use Rattle.std.proofs.Common.{◌≡◌, ◌+◌, ◌-◌, ◌*◌, ◌/◌, ◌++◌, length, take, drop, ◌∙◌, sym, ap, arith, refl, [], ◌∷◌, List, ℕ}
use Rattle.ut_prefix.specs.Spelling.{block_bytes, blocks_bytes}
use Rattle.ut_prefix.specs.Reading.{starts_of}
use Rattle.ut_prefix.proofs.SpellingLemmas.{block_is, next_blocks, blocks-step, starts-step, no_blocks, no_starts, keys_of-written, IsKept-written}
use Rattle.ut_prefix.proofs.AboveLemmas.{IsKept-bits}
use Rattle.ut_prefix.proofs.dict.PrefixDict.from_sorted.Goals as goal

pub loop-i-preserved : goal.loop-i-preserved
loop-i-preserved c =
    let keys = c.args.keys.now in
    let i = c.loop-i.i in
    let block : take (c.min.result - 16 * i) (drop (16 * i) keys) ≡ take 16 (drop (16 * i) keys) = block_is keys i c.min.result (omega (arith, c.min.ensures, c.len-len.ensures.len)) (omega (arith, c.len-len.ensures.len)) in
    let later = next_blocks keys i in
    let wrote : c.write_block.new.out.items ≡ c.loop-i.bytes.items ++ block_bytes (take (c.min.result - 16 * i) (drop (16 * i) keys)) = c.in_ok-write_block.ensures in (
      blocks-step ((c.len-len.result + 15) / 16 - (i + 1)) ((c.len-len.result + 15) / 16 - i) (drop (16 * i) keys) _ (drop (16 * (i + 1)) keys) c.loop-i.bytes.items c.write_block.new.out.items (blocks_bytes ((c.len-len.result + 15) / 16) keys) (omega arith) block later wrote c.loop-i.invariant.0,
      starts-step ((c.len-len.result + 15) / 16 - (i + 1)) ((c.len-len.result + 15) / 16 - i) (length c.loop-i.bytes.items) (length c.write_block.new.out.items) (drop (16 * i) keys) _ (drop (16 * (i + 1)) keys) c.loop-i.bytes.items c.write_block.new.out.items c.loop-i.starts.items c.push.new.self.items (starts_of ((c.len-len.result + 15) / 16) 0 keys) (omega arith) block later wrote refl refl
          (c.in_ok-push.ensures.items ∙ ap (λ (n : ℕ). c.loop-i.starts.items ++ n ∷ []) (ap (λ (l : List ℕ). length l) c.as_slice.ensures.value)) c.loop-i.invariant.1,
    )

none_left : (c : goal.After-loop-i) → (c.len-len.result + 15) / 16 - c.loop-i.i ≡ 0
none_left c = omega arith

pub invariant_of-result : goal.invariant_of-result
invariant_of-result c =
    IsKept-bits _ _ _ _
    (IsKept-written c.args.keys.now c.len-len.result c.loop-i.starts.items c.loop-i.bytes.items c.total_of-total.result (sym c.len-len.ensures.len) (no_starts _ _ _ c.loop-i.starts.items _ (none_left c) c.loop-i.invariant.1) (no_blocks _ _ c.loop-i.bytes.items _ (none_left c) c.loop-i.invariant.0) (omega (arith, c.requires.few, c.len-len.ensures.len)) c.len-len.ensures.short c.requires.ascending c.total_of-total.ensures)

pub returns : goal.returns
returns c =
    keys_of-written c.args.keys.now c.len-len.result c.loop-i.starts.items c.loop-i.bytes.items (sym c.len-len.ensures.len) (no_starts _ _ _ c.loop-i.starts.items _ (none_left c) c.loop-i.invariant.1) (no_blocks _ _ c.loop-i.bytes.items _ (none_left c) c.loop-i.invariant.0)
