use Rattle.std.proofs.Common.{inl, inr, map}
use Rattle.ut_app.specs.Top.{Served}
use Rattle.ut_app.proofs.TopLemmas.{words_usage, served_runs, served_still, crowd_runs}
use Rattle.ut_app.proofs.program.top.Goals as goal

pub returns-in-Err-clause-usage : goal.returns-in-Err-clause-usage
returns-in-Err-clause-usage g c = words_usage (map (λ w. w.now) c.args.words.now) c.in-Err.error c.status_of.result c.ended.result.status c.status_of.ensures c.ended.ensures.status c.in-Err.ensures.refused

pub returns-in-Crowd-clause-ran : goal.returns-in-Crowd-clause-ran
returns-in-Crowd-clause-ran g c = Served c.in-Ok.plan c.in-Ok.ensures.taken (crowd_runs c.in-Ok.plan _ _ _ _ _ _ c.in-Crowd.is c.crowd.ensures)

pub returns-in-Run-clause-ran : goal.returns-in-Run-clause-ran
returns-in-Run-clause-ran g c = Served c.in-Ok.plan c.in-Ok.ensures.taken (served_runs c.in-Ok.plan.mode c.in-Ok.plan _ _ _ _ _ _ (inl c.in-Run.is) c.serve.ensures.ran)

pub returns-in-Bench-clause-ran : goal.returns-in-Bench-clause-ran
returns-in-Bench-clause-ran g c = Served c.in-Ok.plan c.in-Ok.ensures.taken (served_runs c.in-Ok.plan.mode c.in-Ok.plan _ _ _ _ _ _ (inr c.in-Bench.is) c.serve-in-Bench.ensures.ran)

pub returns-in-Crowd-clause-still : goal.returns-in-Crowd-clause-still
returns-in-Crowd-clause-still g c e = let n = c.crowd.ensures.still e in (n.reads, n.writes, n.disk)

pub returns-in-Run-clause-still : goal.returns-in-Run-clause-still
returns-in-Run-clause-still g c e = let n = served_still c.in-Ok.plan.mode c.in-Ok.plan _ _ _ _ _ _ c.serve.ensures.ran e in (n.reads, n.writes, n.disk)

pub returns-in-Bench-clause-still : goal.returns-in-Bench-clause-still
returns-in-Bench-clause-still g c e = let n = served_still c.in-Ok.plan.mode c.in-Ok.plan _ _ _ _ _ _ c.serve-in-Bench.ensures.ran e in (n.reads, n.writes, n.disk)
