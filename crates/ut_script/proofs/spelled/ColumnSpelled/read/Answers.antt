use Rattle.std.proofs.Common.{◌∙◌, ap, sym, ℕ, take, drop}
use Rattle.ut_script.proofs.SpelledLemmas.{column_of-is}
use Rattle.ut_script.proofs.spelled.ColumnSpelled.read.Goals as goal

pub returns : goal.returns
returns c =
    let word = c.args.word.now in
    sym (column_of-is word _ _ _ c.in-Some.kind (c.split_at.ensures.front ∙ ap (λ (n : ℕ). take n word) c.colon_at.ensures.value) (c.split_at.ensures.back ∙ ap (λ (n : ℕ). drop n word) c.colon_at.ensures.value)
    c.in_ok-name.ensures.says (sym c.kind_of.ensures ∙ c.in-Some.is))
