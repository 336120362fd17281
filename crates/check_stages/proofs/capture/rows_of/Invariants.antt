use Rattle.std.proofs.Common.{◌≡◌, take}
use Rattle.std.specs.List.{filter}
use Rattle.check_stages.specs.There.{is_live_by}
use Rattle.check_stages.proofs.capture.rows_of.Given as goal

abbrev pub invariant-loop-place : goal.invariant-loop-place
invariant-loop-place l = l.rows ≡ filter (is_live_by l.ids) (take l.place-index l.places)
