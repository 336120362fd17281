use Rattle.std.proofs.Common.{◌∙◌, ℕ, Option, Some, None, ap}
use Rattle.std.specs.Global.{Vec}
use Rattle.ut_merge.proofs.CodingLemmas.{chosen-pushed}
use Rattle.ut_merge.proofs.coding.push_closed.Goals.{in-Some+in_ok-push-in-Some, in-None+in_ok-push-in-None}
use Rattle.ut_merge.proofs.coding.push_closed.Goals as goal

pub loop-i-preserved : goal.loop-i-preserved
loop-i-preserved c =
    let new = c.match-places-i.entries.items in
    let items = λ (v : Vec (Option ℕ)). v.items in
    let more = λ (o : Option ℕ). chosen-pushed c.args.start c.args.places.now c.args.found.now c.args.entries.now.items c.loop-i.entries.items new c.loop-i.i o c.requires.found c.loop-i-test.true c.loop-i.invariant in
    elim c.match-places-i.branch [
      | in-Some+in_ok-push-in-Some w ↦ more (Some w.in-Some.p) w.in-Some.is (ap items w.entries-is ∙ w.in_ok-push-in-Some.ensures.items)
      | in-None+in_ok-push-in-None w ↦ more None w.in-None.is (ap items w.entries-is ∙ w.in_ok-push-in-None.ensures.items)
    ]
