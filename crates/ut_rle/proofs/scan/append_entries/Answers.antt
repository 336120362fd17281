use Rattle.std.proofs.Common.{ℕ, ◌-◌, ◌++◌, take, get_or, sym, ap, ◌∙◌, arith, append_assoc}
use Rattle.ut_bits.specs.Words.{word_bytes}
use Rattle.ut_rle.specs.Runs.{entries_of}
use Rattle.ut_rle.specs.Ends.{lengths_from}
use Rattle.ut_rle.proofs.EndsLemmas.{no_run, Ascend-at, end_from-take, entries_of-take}
use Rattle.ut_rle.proofs.scan.append_entries.Goals as goal

pub overflow_sub-run : goal.overflow_sub-run
overflow_sub-run c = omega (arith, c.loop-run.invariant.begun, Ascend-at 0 c.args.runs.now c.loop-run.run-index no_run c.requires c.loop-run-test.true)

pub loop-run-preserved : goal.loop-run-preserved
loop-run-preserved c =
    let inv = c.loop-run.invariant in
    let run = get_or c.args.runs.now c.loop-run.run-index no_run in
    let wrote = rw (← c.in_ok-cut_at_error.ensures.same) at c.append_words.ensures.ok in
    record {
      begun = sym (end_from-take 0 c.args.runs.now c.loop-run.run-index no_run c.loop-run-test.true);
      entries =
          c.in_ok-cut_at_error.ensures.ok ∙ wrote
          ∙ ap (λ l. l ++ (word_bytes run.code ++ word_bytes (run.end - c.loop-run.from))) inv.entries ∙ append_assoc c.args.out.now.items _ _
          ∙ ap (λ l. c.args.out.now.items ++ l) (ap (λ (n : ℕ). entries_of (lengths_from 0 (take c.loop-run.run-index c.args.runs.now)) ++ (word_bytes run.code ++ word_bytes (run.end - n))) inv.begun ∙ sym (entries_of-take c.args.runs.now c.loop-run.run-index no_run c.loop-run-test.true));
    }
