use Rattle.std.proofs.Common.{ℕ, ◌-◌, ◌++◌, take, get_or, sym, ap, ◌∙◌, arith, append_assoc}
use Rattle.std.specs.List.{range_with_len}
use Rattle.ut_bits.specs.Places.{places_from, is_in}
use Rattle.ut_rle.specs.Runs.{expanded}
use Rattle.ut_rle.specs.Ends.{lengths_from}
use Rattle.ut_rle.proofs.EndsLemmas.{no_run, Ascend-at, end_from-take, places-hit, places-miss}
use Rattle.ut_rle.proofs.scan.append_places_in.Goals as goal
use Rattle.ut_rle.proofs.scan.append_places_in.Goals.{then-is_in+in_ok-cut_at_error, else-is_in}

pub append_range-requires : goal.append_range-requires
append_range-requires c = omega (arith, c.loop-run.invariant.begun, Ascend-at 0 c.args.runs.now c.loop-run.run-index no_run c.requires c.loop-run-test.true)

pub loop-run-preserved : goal.loop-run-preserved
loop-run-preserved c =
    let inv = c.loop-run.invariant in
    let run = get_or c.args.runs.now c.loop-run.run-index no_run in
    record {
      begun = sym (end_from-take 0 c.args.runs.now c.loop-run.run-index no_run c.loop-run-test.true);
      places =
          elim c.if-is_in.branch [
            | then-is_in+in_ok-cut_at_error w ↦
                ap (λ v. v.items) w.out-is ∙ w.in_ok-cut_at_error.ensures.ok ∙ (rw (← w.in_ok-cut_at_error.ensures.same) at w.append_range.ensures.ok)
                ∙ ap (λ l. l ++ range_with_len c.loop-run.from (run.end - c.loop-run.from)) inv.places ∙ append_assoc c.args.out.now.items _ _
                ∙ ap (λ l. c.args.out.now.items ++ l) (ap (λ (n : ℕ). places_from (is_in c.args.ranges.now) 0 (expanded (lengths_from 0 (take c.loop-run.run-index c.args.runs.now))) ++ range_with_len n (run.end - n)) inv.begun
                ∙ sym (places-hit (is_in c.args.ranges.now) c.args.runs.now c.loop-run.run-index no_run c.requires c.loop-run-test.true (sym c.is_in.ensures ∙ w.if-is_in.true)))
            | else-is_in w ↦
                ap (λ v. v.items) w.out-is ∙ inv.places
                ∙ ap (λ l. c.args.out.now.items ++ l) (sym (places-miss (is_in c.args.ranges.now) c.args.runs.now c.loop-run.run-index no_run c.requires c.loop-run-test.true (sym c.is_in.ensures ∙ w.if-is_in.false)))
          ];
    }
