use Rattle.std.proofs.Common.{◌≡◌, ℕ, ◌/◌, ◌^◌, ◌<◌, false, true, sym, ap, subst, ◌∙◌, arith}
use Rattle.std.proofs.lemmas.List.{take_all}
use Rattle.std.proofs.Math.Nat.{div-eq_of_lt}
use Rattle.std.proofs.lemmas.Nat.{pow_pos}
use Rattle.ut_bits.proofs.BitLemmas.{div-zero}
use Rattle.ut_rle.specs.Runs.{is_last_code, AreRuns, entries_in, rows_of}
use Rattle.ut_rle.specs.Ends.{lengths_from, end_from}
use Rattle.ut_rle.proofs.RunsLemmas.{AreRuns-push}
use Rattle.ut_rle.proofs.EndsLemmas.{lengths_from-push, end_from-push}
use Rattle.ut_rle.proofs.EntryLemmas.{entry-at, next-run, push-entry, length-entries_in, end-rows}
use Rattle.ut_rle.proofs.reading.read_runs.Goals as goal

below_divisor : (b m a : ℕ) → b ≡ a → 0 < m → b / m ≡ 0 → a < m
below_divisor b m a e pos z = subst (λ (n : ℕ). n < m) e (div-zero b m pos z)

pub returns-then-entry-eq0-clause-none : goal.returns-then-entry-eq0-clause-none
returns-then-entry-eq0-clause-none c = λ proper all.
    let inv = c.loop-k.invariant in
    let here = entry-at c.args.count c.loop-k.k c.args.entries.now _ _ c.loop-k-test.true c.read_entry-entry.ensures.code c.read_entry-entry.ensures.length in
    let size = length-entries_in c.args.count c.args.entries.now in
    let next = next-run (2 ^ c.args.width) c.args.rows c.loop-k.k c.loop-k.runs.items (entries_in c.args.count c.args.entries.now) proper all (omega (arith, size, c.loop-k-test.true)) inv.listed inv.proper in
    omega (arith, next.1, here.1, c.if-entry-eq0.true)

pub returns-then-entry-rows-clause-none : goal.returns-then-entry-rows-clause-none
returns-then-entry-rows-clause-none c = λ proper all.
    let inv = c.loop-k.invariant in
    let here = entry-at c.args.count c.loop-k.k c.args.entries.now _ _ c.loop-k-test.true c.read_entry-entry.ensures.code c.read_entry-entry.ensures.length in
    let size = length-entries_in c.args.count c.args.entries.now in
    let next = next-run (2 ^ c.args.width) c.args.rows c.loop-k.k c.loop-k.runs.items (entries_in c.args.count c.args.entries.now) proper all (omega (arith, size, c.loop-k-test.true)) inv.listed inv.proper in
    omega (arith, next.2, here.1, inv.ended, c.if-entry-rows.true)

pub returns-then-from-width-ne0-clause-none : goal.returns-then-from-width-ne0-clause-none
returns-then-from-width-ne0-clause-none c = λ proper all.
    let inv = c.loop-k.invariant in
    let here = entry-at c.args.count c.loop-k.k c.args.entries.now _ _ c.loop-k-test.true c.read_entry-entry.ensures.code c.read_entry-entry.ensures.length in
    let size = length-entries_in c.args.count c.args.entries.now in
    let next = next-run (2 ^ c.args.width) c.args.rows c.loop-k.k c.loop-k.runs.items (entries_in c.args.count c.args.entries.now) proper all (omega (arith, size, c.loop-k-test.true)) inv.listed inv.proper in
    let small : c.from.result < 2 ^ c.args.width = subst (λ (n : ℕ). n < 2 ^ c.args.width) (here.0 ∙ sym c.from.ensures) next.0 in
    c.if-from-width-ne0.true (div-eq_of_lt small)

pub returns-then-is_last_code-clause-none : goal.returns-then-is_last_code-clause-none
returns-then-is_last_code-clause-none c = λ proper all.
    let inv = c.loop-k.invariant in
    let here = entry-at c.args.count c.loop-k.k c.args.entries.now _ _ c.loop-k-test.true c.read_entry-entry.ensures.code c.read_entry-entry.ensures.length in
    let size = length-entries_in c.args.count c.args.entries.now in
    let next = next-run (2 ^ c.args.width) c.args.rows c.loop-k.k c.loop-k.runs.items (entries_in c.args.count c.args.entries.now) proper all (omega (arith, size, c.loop-k-test.true)) inv.listed inv.proper in
    let test : is_last_code (lengths_from 0 c.loop-k.runs.items) c.read_entry-entry.result.code ≡ true =
    ap (λ l. is_last_code (lengths_from 0 l) c.read_entry-entry.result.code) (sym c.as_slice.ensures.value) ∙ sym c.is_last_code.ensures ∙ c.if-is_last_code.true in
    let other : is_last_code (lengths_from 0 c.loop-k.runs.items) c.read_entry-entry.result.code ≡ false = ap (λ (n : ℕ). is_last_code (lengths_from 0 c.loop-k.runs.items) n) (sym here.0) ∙ next.3 in
    cc

pub loop-k-preserved : goal.loop-k-preserved
loop-k-preserved c =
    let inv = c.loop-k.invariant in
    let here = entry-at c.args.count c.loop-k.k c.args.entries.now _ _ c.loop-k-test.true c.read_entry-entry.ensures.code c.read_entry-entry.ensures.length in
    let size = length-entries_in c.args.count c.args.entries.now in
    let other : is_last_code (lengths_from 0 c.loop-k.runs.items) c.read_entry-entry.result.code ≡ false =
    ap (λ l. is_last_code (lengths_from 0 l) c.read_entry-entry.result.code) (sym c.as_slice.ensures.value) ∙ sym c.is_last_code.ensures ∙ c.if-is_last_code.false in
    let small : c.read_entry-entry.result.code < 2 ^ c.args.width = below_divisor c.from.result (2 ^ c.args.width) c.read_entry-entry.result.code c.from.ensures (pow_pos c.args.width) c.if-from-width-ne0.false in
    let long : 0 < c.read_entry-entry.result.length = omega (arith, c.if-entry-eq0.false) in
    let lengths = ap (λ l. lengths_from 0 l) c.in_ok-push.ensures.items ∙ lengths_from-push 0 c.loop-k.runs.items _ in
    let ends = ap (λ l. end_from 0 l) c.in_ok-push.ensures.items ∙ end_from-push 0 c.loop-k.runs.items _ in
    record {
      listed = push-entry c.loop-k.runs.items c.push.new.self.items _ (entries_in c.args.count c.args.entries.now) c.loop-k.k c.in_ok-push.ensures.items inv.listed (omega (arith, size, c.loop-k-test.true)) here.0 (here.1 ∙ omega (arith, inv.ended));
      proper = subst (λ l. AreRuns (2 ^ c.args.width) l) (sym lengths) (AreRuns-push (2 ^ c.args.width) (lengths_from 0 c.loop-k.runs.items) _ _ inv.proper other small (omega (arith, inv.ended, long)));
      ended = sym ends;
      within = omega (arith, c.if-entry-rows.false, inv.within);
    }

pub returns-then-end-rows-clause-none : goal.returns-then-end-rows-clause-none
returns-then-end-rows-clause-none c = λ proper all.
    let inv = c.loop-k.invariant in
    let size = length-entries_in c.args.count c.args.entries.now in
    let listed : lengths_from 0 c.loop-k.runs.items ≡ entries_in c.args.count c.args.entries.now = inv.listed ∙ take_all c.loop-k.k (entries_in c.args.count c.args.entries.now) (omega (arith, size, c.loop-k-test.false)) in
    let rows : c.loop-k.end ≡ c.args.rows = inv.ended ∙ end-rows (2 ^ c.args.width) c.loop-k.runs.items inv.proper ∙ ap (λ l. rows_of l) listed ∙ all in
    c.if-end-rows.true rows

pub returns-clause-runs : goal.returns-clause-runs
returns-clause-runs c =
    let size = length-entries_in c.args.count c.args.entries.now in
    c.loop-k.invariant.listed ∙ take_all c.loop-k.k (entries_in c.args.count c.args.entries.now) (omega (arith, size, c.loop-k-test.false))
