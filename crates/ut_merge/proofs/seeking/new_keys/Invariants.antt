use Rattle.std.proofs.Common.{◌≡◌, ◌<◌, ℕ, length, take, get_or, None}
use Rattle.ut_unsorted.specs.FirstSeen.{keys_at}
use Rattle.ut_merge.specs.Uniting.{IsPlaceIn}
use Rattle.ut_merge.proofs.seeking.new_keys.Given as goal

abbrev pub invariant-loop-place : goal.invariant-loop-place
invariant-loop-place l =
    (l.keys ≡ keys_at l.closed (take l.place l.codes.items)) × (length l.places.items ≡ length l.closed)
    × ((code : ℕ) → code < length l.closed → IsPlaceIn (take l.place l.codes.items) code (get_or l.places.items code None))
