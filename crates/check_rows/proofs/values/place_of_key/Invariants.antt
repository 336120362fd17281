use Rattle.std.proofs.Common.{◌≡◌, ◌++◌, take, drop}
use Rattle.ut_plain.specs.Query.{with_key}
use Rattle.check_rows.proofs.values.place_of_key.Given as goal

-- the keys so far are before it
abbrev pub invariant-loop-place : goal.invariant-loop-place
invariant-loop-place l = with_key l.key l.keys ≡ take l.place l.keys ++ with_key l.key (drop l.place l.keys)
