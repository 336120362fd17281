use Rattle.std.proofs.Common.{◌≡◌, ℕ, ◌+◌, ◌-◌, ◌++◌, length, take, get_or, sym, ap, ◌∙◌, arith, append_assoc, vec_len}
use Rattle.ut_rle.specs.Runs.{expanded, copies}
use Rattle.ut_rle.specs.Ends.{lengths_from}
use Rattle.ut_rle.proofs.EndsLemmas.{no_run, Ascend-at, end_from-take, expanded-take, resized}
use Rattle.ut_rle.proofs.scan.append_codes.Goals as goal

pub overflow_sub-count : goal.overflow_sub-count
overflow_sub-count c = omega (arith, c.loop-run.invariant.begun, Ascend-at 0 c.args.runs.now c.loop-run.run-index no_run c.requires c.loop-run-test.true)

pub loop-run-preserved : goal.loop-run-preserved
loop-run-preserved c =
    let inv = c.loop-run.invariant in
    let run = get_or c.args.runs.now c.loop-run.run-index no_run in
    let value : length c.as_slice.result.now ≡ length c.loop-run.out.items = ap (λ l. length l) c.as_slice.ensures.value in
    let wrote = rw (← c.in_ok-cut_at_error.ensures.same) at c.resize.ensures.items in
    record {
      begun = sym (end_from-take 0 c.args.runs.now c.loop-run.run-index no_run c.loop-run-test.true);
      codes =
          c.in_ok-cut_at_error.ensures.ok
          ∙ resized c.loop-run.out.items c.resize.new.self.items (length c.as_slice.result.now + (run.end - c.loop-run.from)) (vec_len c.loop-run.out) (run.end - c.loop-run.from) run.code wrote (omega (arith, value, c.as_slice.ensures.len)) (omega (arith, value))
          ∙ ap (λ l. l ++ copies (run.end - c.loop-run.from) run.code) inv.codes ∙ append_assoc c.args.out.now.items _ _
          ∙ ap (λ l. c.args.out.now.items ++ l) (ap (λ (n : ℕ). expanded (lengths_from 0 (take c.loop-run.run-index c.args.runs.now)) ++ copies (run.end - n) run.code) inv.begun ∙ sym (expanded-take 0 c.args.runs.now c.loop-run.run-index no_run c.loop-run-test.true));
    }
