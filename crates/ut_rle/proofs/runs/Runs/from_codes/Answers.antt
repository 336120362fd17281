use Rattle.std.proofs.Common.{◌≡◌, ℕ, ◌-◌, ◌^◌, ◌++◌, length, take, refl, sym, subst, ◌∙◌, arith}
use Rattle.std.proofs.lemmas.Bool.{ne_eqb}
use Rattle.std.proofs.lemmas.List.{take_all}
use Rattle.ut_bits.proofs.BitLemmas.{AllBelow-at}
use Rattle.ut_rle.specs.Runs.{copies, expanded}
use Rattle.ut_rle.specs.Ends.{lengths_from, end_from}
use Rattle.ut_rle.proofs.EndsLemmas.{write-run, run-goes_on, run-begins}
use Rattle.ut_rle.proofs.runs.Runs.from_codes.Goals as goal
use Rattle.ut_rle.proofs.runs.Runs.from_codes.Goals.{then-codes-i+in_ok-push, else-codes-i}

pub loop-i-preserved : goal.loop-i-preserved
loop-i-preserved c =
    let inv = c.loop-i.invariant in
    elim c.if-codes-i.branch [
      | then-codes-i+in_ok-push w ↦
          let done = write-run (2 ^ c.args.width) c.loop-i.runs.items w.push.new.self.items _ _ w.in_ok-push.ensures.items inv.begun inv.codes inv.runs inv.other inv.below in
          rw (w.runs-is, w.current-is)
          record {
            begun = omega (arith, done.0);
            within = omega arith;
            codes = run-begins (expanded (lengths_from 0 w.push.new.self.items)) c.args.codes.now c.loop-i.i (end_from 0 w.push.new.self.items) done.0 c.loop-i-test.true done.1;
            runs = done.2;
            other = done.3 _ ∙ ne_eqb _ _ (λ e. w.if-codes-i.true (sym e));
            below = AllBelow-at _ c.args.codes.now c.loop-i.i c.requires.below c.loop-i-test.true;
          }
      | else-codes-i w ↦
          rw (w.runs-is, w.current-is)
          record {
            begun = omega (arith, inv.begun);
            within = omega arith;
            codes = run-goes_on (expanded (lengths_from 0 c.loop-i.runs.items)) c.args.codes.now c.loop-i.i (end_from 0 c.loop-i.runs.items) c.loop-i.current inv.begun c.loop-i-test.true w.if-codes-i.false inv.codes;
            runs = inv.runs;
            other = inv.other;
            below = inv.below;
          }
    ]

pub invariant_of-result-2 : goal.invariant_of-result-2
invariant_of-result-2 c =
    let inv = c.loop-i.invariant in
    let at : c.loop-i.i ≡ length c.args.codes.now = omega (arith, inv.within) in
    let whole : expanded (lengths_from 0 c.loop-i.runs.items) ++ copies (length c.args.codes.now - end_from 0 c.loop-i.runs.items) c.loop-i.current ≡ c.args.codes.now =
    subst (λ (n : ℕ). expanded (lengths_from 0 c.loop-i.runs.items) ++ copies (n - end_from 0 c.loop-i.runs.items) c.loop-i.current ≡ take n c.args.codes.now) at inv.codes ∙ take_all _ c.args.codes.now (omega arith) in
    let done = write-run (2 ^ c.args.width) c.loop-i.runs.items c.push-2.new.self.items _ _ c.in_ok-push-2.ensures.items (omega (arith, inv.begun)) whole inv.runs inv.other inv.below in
    (c.requires.width, c.requires.count, sym done.0, done.2)

pub returns : goal.returns
returns c =
    let inv = c.loop-i.invariant in
    let at : c.loop-i.i ≡ length c.args.codes.now = omega (arith, inv.within) in
    let whole : expanded (lengths_from 0 c.loop-i.runs.items) ++ copies (length c.args.codes.now - end_from 0 c.loop-i.runs.items) c.loop-i.current ≡ c.args.codes.now =
    subst (λ (n : ℕ). expanded (lengths_from 0 c.loop-i.runs.items) ++ copies (n - end_from 0 c.loop-i.runs.items) c.loop-i.current ≡ take n c.args.codes.now) at inv.codes ∙ take_all _ c.args.codes.now (omega arith) in
    let done = write-run (2 ^ c.args.width) c.loop-i.runs.items c.push-2.new.self.items _ _ c.in_ok-push-2.ensures.items (omega (arith, inv.begun)) whole inv.runs inv.other inv.below in
    record { width = refl; codes = done.1 }
