use Rattle.std.proofs.Common.{◌∙◌, ap, sym, List, ℕ, ◌∷◌, ◌++◌}
use Rattle.std.specs.Option.{option_map}
use Rattle.ut_plain.specs.declared.statement.Pred.{Pred}
use Rattle.ut_script.specs.Words.{words_of}
use Rattle.ut_script.specs.Conditions.{comparisons_of}
use Rattle.ut_script.proofs.ConditionLemmas.{preds-next}
use Rattle.ut_script.proofs.conditions.read_comparisons.Goals as goal

pub loop-words-preserved : goal.loop-words-preserved
loop-words-preserved c =
    let w = c.in-Some.words in
    let front = c.loop-words.preds.items in
    ap (λ (ps : List Pred). option_map (λ l. ps ++ l) (comparisons_of (words_of c.in-Some-next_word.behind.now))) c.in_ok-push.ensures.items
    ∙ preds-next front w.column.now w.op.now w.value.now c.in-Some-next_word.joint.now (words_of c.in-Some-next_word.behind.now) c.in-Some-2.pred _ (sym c.same_bytes.ensures ∙ c.if-not-same_bytes.false)
    (sym c.in_ok-pred.ensures ∙ c.in-Some-2.is)
    (ap (λ (ws : List (List ℕ)). option_map (λ l. front ++ l) (comparisons_of (w.column.now ∷ w.op.now ∷ w.value.now ∷ ws))) (sym c.in-Some-next_word.ensures.found)
    ∙ ap (λ (ws : List (List ℕ)). option_map (λ l. front ++ l) (comparisons_of ws)) (sym c.in-Some.ensures.found)
    ∙ c.loop-words.invariant)
