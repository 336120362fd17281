use Rattle.std.proofs.Common.{◌≡◌, take}
use Rattle.ut_prefix.specs.Chain.{shared_dicts}
use Rattle.ut_prefix.proofs.chain.share.Given as goal

abbrev pub invariant-loop-dict : goal.invariant-loop-dict
invariant-loop-dict l = shared_dicts l.shared.items ≡ take l.dict-index (shared_dicts l.dicts)
