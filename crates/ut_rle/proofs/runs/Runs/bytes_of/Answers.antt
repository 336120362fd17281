use Rattle.std.proofs.Common.{◌≡◌, ◌++◌, ℕ, sym, ap, subst, ◌∙◌, append_assoc, length}
use Rattle.ut_bits.specs.Words.{word_bytes}
use Rattle.ut_rle.specs.Runs.{entries_of, runs_of}
use Rattle.ut_rle.specs.Ends.{lengths_from, Ascend}
use Rattle.ut_rle.proofs.RunsLemmas.{runs_of-expanded}
use Rattle.ut_rle.proofs.EndsLemmas.{Ascend-AreRuns}
use Rattle.ut_rle.proofs.runs.Runs.bytes_of.Goals as goal

pub append_entries-requires : goal.append_entries-requires
append_entries-requires c = subst (λ l. Ascend 0 l) (sym c.as_slice.ensures.value) (Ascend-AreRuns _ 0 c.self.inside.runs.items c.self.invariant.3)

pub returns-clause-ok : goal.returns-clause-ok
returns-clause-ok c =
    let runs : runs_of c.args.self.now.codes ≡ lengths_from 0 c.self.inside.runs.items = ap (λ v. runs_of v.codes) (sym c.self.view_is) ∙ runs_of-expanded _ _ c.self.invariant.3 in
    c.in_ok-cut_at_error.ensures.ok ∙ (rw (← c.in_ok-cut_at_error.ensures.same) at c.append_entries.ensures.ok) ∙ ap (λ l. l ++ entries_of (lengths_from 0 c.as_slice.result.now)) c.in_ok-append_word.ensures.ok ∙ append_assoc c.args.out.now.items _ _
    ∙ ap (λ (n : ℕ). c.args.out.now.items ++ (word_bytes n ++ entries_of (lengths_from 0 c.as_slice.result.now))) c.run_count.ensures
    ∙ ap (λ l. c.args.out.now.items ++ (word_bytes (length (runs_of c.args.self.now.codes)) ++ entries_of l)) (ap (λ l. lengths_from 0 l) c.as_slice.ensures.value ∙ sym runs)
