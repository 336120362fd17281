use Rattle.std.proofs.Common.{◌≡◌, ◌++◌, take}
use Rattle.ut_key.proofs.ArenaLemmas.{shifted}
use Rattle.ut_key.proofs.key_list.KeyList.followed_by.Given as goal

abbrev pub invariant-loop-end : goal.invariant-loop-end
invariant-loop-end l = l.ends.items ≡ l.initial.ends.items ++ shifted l.shift (take l.end-index l.others)
