use Rattle.std.proofs.Common.{◌∙◌, List, ℕ, pos, sym, ap, arith}
use Rattle.ut_prefix.specs.Totals.{weighed}
use Rattle.ut_prefix.proofs.TotalLemmas.{summed-none}
use Rattle.ut_table.proofs.CodedLemmas.{keys-empty}
use Rattle.ut_table.proofs.coded.main_total.Goals as goal

pub returns-then-parts-eq0-clause-sum : goal.returns-then-parts-eq0-clause-sum
returns-then-parts-eq0-clause-sum c =
    sym (summed-none (λ weight. pos weight) c.args.counts.now)
    ∙ ap (λ (keys : List (List ℕ)). weighed c.args.counts.now keys) (keys-empty c.args.main.now c.args.column (omega (arith, c.parts-parts.ensures.count)))
