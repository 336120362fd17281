use Rattle.std.proofs.Common.{◌≡◌, ◌++◌, drop}
use Rattle.std.specs.List.{flat_map}
use Rattle.ut_image.specs.Rules.{ids_in}
use Rattle.ut_image.proofs.ids.ids_of.Given as goal

abbrev pub invariant-loop-drawn : goal.invariant-loop-drawn
invariant-loop-drawn l = l.ids.items ++ flat_map ids_in (drop l.drawn-index l.tables) ≡ flat_map ids_in l.tables
