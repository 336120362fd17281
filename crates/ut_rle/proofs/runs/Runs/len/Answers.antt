use Rattle.std.proofs.Common.{◌≡◌, ap, length, arith}
use Rattle.ut_rle.specs.Runs.{expanded}
use Rattle.ut_rle.specs.Ends.{lengths_from}
use Rattle.ut_rle.proofs.EndsLemmas.{length-expanded}
use Rattle.ut_rle.proofs.runs.Runs.len.Goals as goal

pub returns-clause-len : goal.returns-clause-len
returns-clause-len c =
    let all = length-expanded _ 0 c.self.inside.runs.items c.self.invariant.3 in
    let same : length (expanded (lengths_from 0 c.self.inside.runs.items)) ≡ length c.args.self.now.codes = ap (λ v. length v.codes) c.self.view_is in
    omega (arith, all, same, c.self.invariant.2)
