use Rattle.std.proofs.Common.{◌≡◌, refl, Some, IfSome, All, replicate}
use Rattle.std.proofs.lemmas.List.Elements.{All-pop, All-same, All-replicate}
use Rattle.ut_gate.specs.Passes.{Carried, fresh}
use Rattle.check_gate.proofs.run.share.Goals as goal

pub jobs_of-requires-after_bounds : goal.jobs_of-requires-after_bounds
jobs_of-requires-after_bounds g c =
    let P : Carried g.row.E-Entry.Denot g.row.E-Job.Denot → Type 0 = λ p. p.gate ≡ c.in-Ok.gate in
    let all = All-same P c.in-Ok.passes (replicate c.args.seats (fresh c.in-Ok.gate)) c.in-Ok.ensures.ok (All-replicate P c.args.seats (fresh c.in-Ok.gate) refl) in
    λ κs lives. (All-pop P c.in-Ok.passes c.pop.new.self (Some c.in_ok-first.first) c.in_ok-first.ensures all).0

pub parted-requires-clause-first : goal.parted-requires-clause-first
parted-requires-clause-first g c =
    let P : Carried g.row.E-Entry.Denot g.row.E-Job.Denot → Type 0 = λ p. p.gate ≡ c.in-Ok.gate in
    let all = All-same P c.in-Ok.passes (replicate c.args.seats (fresh c.in-Ok.gate)) c.in-Ok.ensures.ok (All-replicate P c.args.seats (fresh c.in-Ok.gate) refl) in
    λ κs lives. (All-pop P c.in-Ok.passes c.pop.new.self (Some c.in_ok-first.first) c.in_ok-first.ensures all).1
