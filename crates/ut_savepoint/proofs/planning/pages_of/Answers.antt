use Rattle.std.proofs.Common.{◌≡◌, [], drop, ap, arith}
use Rattle.std.proofs.lemmas.List.{drop_all}
use Rattle.ut_savepoint.specs.Planning.{pages_of}
use Rattle.ut_savepoint.proofs.planning.pages_of.Goals as goal

pub returns : goal.returns
returns c =
    let parts = c.args.parts.now in
    let none : drop c.loop-part.part-index parts ≡ [] = drop_all c.loop-part.part-index parts (omega arith) in
    let here : pages_of (drop c.loop-part.part-index parts) ≡ 0 = ap pages_of none in
    (omega arith, omega arith)
