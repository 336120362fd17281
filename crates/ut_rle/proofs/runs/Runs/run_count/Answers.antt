use Rattle.std.proofs.Common.{◌≡◌, ap, length, arith}
use Rattle.ut_rle.proofs.RunsLemmas.{runs_of-expanded}
use Rattle.ut_rle.proofs.EndsLemmas.{length-lengths_from}
use Rattle.ut_rle.proofs.EntryLemmas.{length-le_rows, end-rows}
use Rattle.ut_rle.proofs.runs.Runs.run_count.Goals as goal

pub overflow_cast-result : goal.overflow_cast-result
overflow_cast-result c =
    let few = length-le_rows _ _ c.self.invariant.3 in
    let rows = end-rows _ c.self.inside.runs.items c.self.invariant.3 in
    let size = length-lengths_from 0 c.self.inside.runs.items in
    omega (arith, few, rows, size, c.self.invariant.1, c.self.invariant.2, c.as_slice.ensures.len, ap (λ l. length l) c.as_slice.ensures.value)

pub returns : goal.returns
returns c =
    let size : length c.as_slice.result.now ≡ length c.self.inside.runs.items = ap (λ l. length l) c.as_slice.ensures.value in
    rw (← c.self.view_is, runs_of-expanded _ _ c.self.invariant.3, length-lengths_from 0 c.self.inside.runs.items) (omega (arith, size))
