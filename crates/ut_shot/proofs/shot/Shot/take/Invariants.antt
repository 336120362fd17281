use Rattle.std.proofs.Common.{◌≡◌, map, take}
use Rattle.ut_table.specs.Contents.{TableValue}
use Rattle.ut_look.specs.Look.{sight}
use Rattle.ut_shot.specs.Reads.{taken_from}
use Rattle.ut_shot.proofs.shot.Shot.take.Given as goal

abbrev pub invariant-loop-n : goal.invariant-loop-n
invariant-loop-n l = (l.tables.items ≡ take l.n l.look.tables.now) × (map (λ (t : TableValue). t.stages) l.stages.items ≡ taken_from (sight l.look) l.query 0 (take l.n (sight l.look).staged))
