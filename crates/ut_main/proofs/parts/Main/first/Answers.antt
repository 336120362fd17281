use Rattle.std.proofs.Common.{◌≤◌, length, arith}
use Rattle.std.proofs.lemmas.List.{length-map}
use Rattle.std.specs.Arc.{arc_value}
use Rattle.ut_main.specs.Parts.{shared_parts}
use Rattle.ut_main.proofs.MainLemmas.{first-copied, main-first, main-first_value, length-shared}
use Rattle.ut_main.proofs.parts.Main.first.Goals as goal

pub invariant_of-result : goal.invariant_of-result
invariant_of-result c =
    let arcs = c.self.inside.parts.items in
    let le : c.args.n ≤ length (shared_parts arcs) = omega (arith, c.requires, length-shared arcs c.self.inside.width c.args.self.now c.self.view_is, length-map arcs (λ a. arc_value a)) in
    let new = first-copied arcs c.deref.result.now c.args.n c.loop-part.part-index (shared_parts c.loop-part.parts.items) c.deref.ensures.value c.loop-part.invariant c.loop-part-test.false in
    main-first c.self.inside.width (shared_parts arcs) (shared_parts c.loop-part.parts.items) c.args.n c.self.invariant le new

pub returns : goal.returns
returns c =
    let arcs = c.self.inside.parts.items in
    let new = first-copied arcs c.deref.result.now c.args.n c.loop-part.part-index (shared_parts c.loop-part.parts.items) c.deref.ensures.value c.loop-part.invariant c.loop-part-test.false in
    main-first_value c.self.inside.width (shared_parts arcs) (shared_parts c.loop-part.parts.items) c.args.self.now c.args.n c.self.view_is new
