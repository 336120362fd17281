use Rattle.std.proofs.Common.{◌∙◌, ap, sym, List, ℕ, ◌∷◌}
use Rattle.std.specs.Prelude.{is_some}
use Rattle.ut_script.specs.Words.{words_of}
use Rattle.ut_script.specs.Conditions.{comparisons_of}
use Rattle.ut_script.proofs.ConditionLemmas.{comparisons-next}
use Rattle.ut_script.proofs.conditions.are_comparisons.Goals as goal

pub loop-words-preserved : goal.loop-words-preserved
loop-words-preserved c =
    let w = c.in-Some.words in
    comparisons-next w.column.now w.op.now w.value.now c.in-Some-next_word.joint.now (words_of c.in-Some-next_word.behind.now) (sym c.is_comparison.ensures ∙ c.if-not-is_comparison.false) (sym c.same_bytes.ensures ∙ c.if-not-same_bytes.false)
    ∙ ap (λ (ws : List (List ℕ)). is_some (comparisons_of (w.column.now ∷ w.op.now ∷ w.value.now ∷ ws))) (sym c.in-Some-next_word.ensures.found)
    ∙ ap (λ (ws : List (List ℕ)). is_some (comparisons_of ws)) (sym c.in-Some.ensures.found)
    ∙ c.loop-words.invariant
