use Rattle.std.proofs.Common.{◌≡◌, ◌++◌, length, take}
use Rattle.std.specs.List.{flat_map}
use Rattle.ut_bits.specs.Words.{word_bytes}
use Rattle.ut_main.proofs.ids.append_ids.Given as goal

abbrev pub invariant-loop-id : goal.invariant-loop-id
invariant-loop-id l = l.out.items ≡ l.fn.out.items ++ (word_bytes (length l.ids) ++ flat_map word_bytes (take l.id-index l.ids))
