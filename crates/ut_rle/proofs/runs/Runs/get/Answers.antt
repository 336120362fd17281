use Rattle.std.proofs.Common.{◌<◌, length, get_or, sym, ap, subst, ◌∙◌, arith}
use Rattle.ut_rle.specs.Runs.{expanded}
use Rattle.ut_rle.specs.Ends.{lengths_from, Ascend}
use Rattle.ut_rle.proofs.EndsLemmas.{Ascend-AreRuns, length-expanded, code-at}
use Rattle.ut_rle.proofs.runs.Runs.get.Goals as goal

pub run_at-requires : goal.run_at-requires
run_at-requires c =
    let within : c.args.i < length (expanded (lengths_from 0 c.self.inside.runs.items)) = subst (λ v. c.args.i < length v.codes) (sym c.self.view_is) c.requires in
    let all = length-expanded _ 0 c.self.inside.runs.items c.self.invariant.3 in
    rw c.as_slice-runs.ensures.value (omega (arith, within, all))

pub returns : goal.returns
returns c =
    let ascending : Ascend 0 c.as_slice-runs.result.now = subst (λ l. Ascend 0 l) (sym c.as_slice-runs.ensures.value) (Ascend-AreRuns _ 0 c.self.inside.runs.items c.self.invariant.3) in
    rw (← c.self.view_is)
    (sym (code-at c.as_slice-runs.result.now c.run_at.result c.args.i _ ascending c.run_at.ensures.within c.run_at.ensures.before c.run_at.ensures.holds)
    ∙ ap (λ l. get_or (expanded (lengths_from 0 l)) c.args.i 0) c.as_slice-runs.ensures.value)
