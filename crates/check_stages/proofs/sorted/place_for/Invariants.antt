use Rattle.std.proofs.Common.{◌≡◌, ◌++◌, take, drop}
use Rattle.std.specs.Ordering.{is_lt}
use Rattle.ut_plain.specs.Merges.{put, place_cmp}
use Rattle.check_stages.proofs.sorted.place_for.Given as goal

-- the places so far are before it
abbrev pub invariant-loop-at : goal.invariant-loop-at
invariant-loop-at l = put (λ a b. is_lt (place_cmp l.columns a b)) l.place l.sorted ≡ take l.at l.sorted ++ put (λ a b. is_lt (place_cmp l.columns a b)) l.place (drop l.at l.sorted)
