use Rattle.std.proofs.Common.{◌≡◌, ◌+◌, ◌-◌, ◌<◌, ◌≤◌, ℕ, List, get_or, []}
use Rattle.std.specs.declared.cmp.Ordering.TheVariants.{Less}
use Rattle.ut_key.specs.Keys.{key_cmp}
use Rattle.ut_prefix.specs.Reading.{CanDecode, block_keys}
use Rattle.ut_prefix.proofs.BlockLemmas.{nth}
use Rattle.ut_prefix.proofs.block.search_block.Given as goal

-- where the search of a block stands before place i
pub record IsAt (count i : ℕ) (block key current rest : List ℕ) (before now : ℕ) : Type 0 where
  pub can : CanDecode (count - 1 - i) current rest
  pub keys : (j : ℕ) → i + j < count → nth j current rest ≡ get_or (block_keys count block) (i + j) []
  pub below : (j : ℕ) → j < i → key_cmp (get_or (block_keys count block) j []) key ≡ Less
  pub cost : now ≤ before + i

abbrev pub invariant-loop-i : goal.invariant-loop-i
invariant-loop-i g l = IsAt l.count l.i l.block l.key l.current l.rest l.initial.steps l.steps
