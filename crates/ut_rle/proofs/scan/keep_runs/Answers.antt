use Rattle.std.proofs.Common.{◌≡◌, ℕ, take, get_or, refl, sym, ap, ◌∙◌, arith}
use Rattle.std.proofs.lemmas.List.{take_all}
use Rattle.ut_bits.specs.Places.{is_in}
use Rattle.ut_mask.proofs.KeptLemmas.{kept_from-none}
use Rattle.ut_mask.proofs.ScanLemmas.{kept-range, kept-whole, length-kept_by}
use Rattle.ut_rle.specs.Runs.{expanded}
use Rattle.ut_rle.specs.Ends.{lengths_from, end_from}
use Rattle.ut_rle.proofs.EndsLemmas.{no_run, Ascend-at, end_from-take, end-within, get_or-expanded, length-expanded_ascending}
use Rattle.ut_rle.proofs.scan.keep_runs.Goals as goal

pub loop-run-init : goal.loop-run-init
loop-run-init c = record { begun = refl; kept = sym (kept_from-none 0 c.args.mask.now) }

pub keep_range-requires-clause-order : goal.keep_range-requires-clause-order
keep_range-requires-clause-order c =
    omega (arith, c.loop-run.invariant.begun, Ascend-at 0 c.args.runs.now c.loop-run.run-index no_run c.requires.order c.loop-run-test.true)

pub keep_range-requires-clause-within : goal.keep_range-requires-clause-within
keep_range-requires-clause-within c =
    let runs = c.args.runs.now in
    let codes = expanded (lengths_from 0 runs) in
    let size = length-kept_by (is_in c.args.ranges.now) c.loop-run.from codes c.args.mask.now c.loop-run.mask c.loop-run.invariant.kept in
    omega (arith, size, c.requires.length, length-expanded_ascending 0 runs c.requires.order, end-within 0 runs c.loop-run.run-index no_run c.requires.order c.loop-run-test.true)

pub loop-run-preserved : goal.loop-run-preserved
loop-run-preserved c =
    let inv = c.loop-run.invariant in
    let runs = c.args.runs.now in
    let codes = expanded (lengths_from 0 runs) in
    let run = get_or runs c.loop-run.run-index no_run in
    let more = Ascend-at 0 runs c.loop-run.run-index no_run c.requires.order c.loop-run-test.true in
    let less = end-within 0 runs c.loop-run.run-index no_run c.requires.order c.loop-run-test.true in
    record {
      begun = sym (end_from-take 0 runs c.loop-run.run-index no_run c.loop-run-test.true);
      kept =
          kept-range (is_in c.args.ranges.now) c.loop-run.from run.end codes 0 c.is_in.result c.args.mask.now c.loop-run.mask c.keep_range.new.self (omega (arith, inv.begun, more))
          (omega (arith, less, length-expanded_ascending 0 runs c.requires.order)) inv.kept
          (λ i lo hi.
          ap (λ (n : ℕ). is_in c.args.ranges.now n) (get_or-expanded 0 runs c.loop-run.run-index i no_run c.requires.order c.loop-run-test.true (omega (arith, inv.begun, lo)) (omega (arith, hi)))
          ∙ sym c.is_in.ensures)
          c.keep_range.ensures;
    }

pub returns : goal.returns
returns c =
    let inv = c.loop-run.invariant in
    let runs = c.args.runs.now in
    let all : take c.loop-run.run-index runs ≡ runs = take_all c.loop-run.run-index runs c.loop-run-test.false in
    let end : c.loop-run.from ≡ end_from 0 runs = inv.begun ∙ ap (λ l. end_from 0 l) all in
    kept-whole (is_in c.args.ranges.now) c.loop-run.from (expanded (lengths_from 0 runs)) c.args.mask.now c.loop-run.mask c.requires.length (omega (arith, end, length-expanded_ascending 0 runs c.requires.order)) inv.kept
