use Rattle.std.proofs.Common.{◌≡◌, ℕ, ◌-◌, ◌^◌, List, length, take, drop, refl, sym, ap, subst, ◌∙◌, arith}
use Rattle.std.proofs.lemmas.List.{length-drop}
use Rattle.ut_bits.specs.Bits.{AllBelow}
use Rattle.ut_bits.proofs.BitLemmas.{AllBelow-from_places, take-rest}
use Rattle.ut_rle.specs.Runs.{expanded, runs_of, entries_in, rows_of, AreRuns}
use Rattle.ut_rle.specs.Ends.{lengths_from}
use Rattle.ut_rle.proofs.RunsLemmas.{runs_of-expanded, AllBelow-expanded}
use Rattle.ut_rle.proofs.EndsLemmas.{length-expanded}
use Rattle.ut_rle.proofs.EntryLemmas.{run_bytes-front, run_bytes-read}
use Rattle.ut_rle.proofs.runs.Runs.from_bytes.Goals as goal

pub returns-then-bytes-lt4-clause-none : goal.returns-then-bytes-lt4-clause-none
returns-then-bytes-lt4-clause-none c = λ codes rest rows below is.
    let front = run_bytes-front c.args.width codes rest c.args.bytes.now c.requires.width (omega (arith, rows, c.requires.rows)) below is in
    omega (arith, front.0, c.if-bytes-lt4.true)

pub returns-then-entries-count-clause-none : goal.returns-then-entries-count-clause-none
returns-then-entries-count-clause-none c = λ codes rest rows below is.
    let front = run_bytes-front c.args.width codes rest c.args.bytes.now c.requires.width (omega (arith, rows, c.requires.rows)) below is in
    let size = ap (λ (l : List ℕ). length l) (take-rest 4 c.args.bytes.now) in
    omega (arith, front.1, front.2, size, c.read_word-count.ensures, c.if-entries-count.true)

pub returns-in_default-clause-none : goal.returns-in_default-clause-none
returns-in_default-clause-none c = λ codes rest rows below is.
    let front = run_bytes-front c.args.width codes rest c.args.bytes.now c.requires.width (omega (arith, rows, c.requires.rows)) below is in
    let none = rw c.in_default.is at c.in_ok-runs.ensures.none in
    let listed : entries_in c.read_word-count.result (take (length c.args.bytes.now - 4) (drop 4 c.args.bytes.now)) ≡ runs_of codes =
    ap (λ (l : List ℕ). entries_in c.read_word-count.result l) (take-rest 4 c.args.bytes.now) ∙ ap (λ (n : ℕ). entries_in n (drop 4 c.args.bytes.now)) (c.read_word-count.ensures ∙ front.1) ∙ front.3 in
    none (subst (λ l. AreRuns (2 ^ c.args.width) l) (sym listed) front.4) (ap (λ l. rows_of l) listed ∙ front.5 ∙ rows)

pub returns-clause-read : goal.returns-clause-read
returns-clause-read c =
    let proper = rw c.in-Some.is at c.in_ok-runs.ensures.proper in
    let rows = rw c.in-Some.is at c.in_ok-runs.ensures.rows in
    let size = ap (λ (l : List ℕ). length l) (take-rest 4 c.args.bytes.now) in
    record {
      within = omega (arith, size, length-drop 4 c.args.bytes.now, c.if-bytes-lt4.false, c.if-entries-count.false);
      width = refl;
      rows = omega (arith, length-expanded _ 0 c.in-Some.runs.items proper, rows);
      below = AllBelow-expanded _ _ proper;
    }

pub returns-clause-spelled : goal.returns-clause-spelled
returns-clause-spelled c =
    let bytes : AllBelow 256 c.args.bytes.now = AllBelow-from_places 256 c.args.bytes.now (λ i. omega (arith, c.type_inv.bytes i)) in
    let proper = rw c.in-Some.is at c.in_ok-runs.ensures.proper in
    let listed = rw c.in-Some.is at c.in_ok-runs.ensures.runs in
    let rest = take-rest 4 c.args.bytes.now in
    let size = ap (λ (l : List ℕ). length l) rest in
    run_bytes-read c.read_word-count.result (expanded (lengths_from 0 c.in-Some.runs.items)) c.args.bytes.now bytes (omega (arith, c.if-bytes-lt4.false)) (omega (arith, size, c.if-entries-count.false)) c.read_word-count.ensures
    (runs_of-expanded _ _ proper ∙ listed ∙ ap (λ (l : List ℕ). entries_in c.read_word-count.result l) rest)
