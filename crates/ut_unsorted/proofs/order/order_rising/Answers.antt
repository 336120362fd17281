use Rattle.std.proofs.Common.{◌∙◌, length, sym, ap, subst}
use Rattle.std.specs.List.{range_with_len}
use Rattle.std.specs.List.Sorted.{IsPermutation}
use Rattle.std.proofs.lemmas.List.Sorted.{IsPermutation-refl}
use Rattle.std.proofs.lemmas.Result.{IfOk-weaker}
use Rattle.ut_key.specs.Keys.{IsAscending}
use Rattle.ut_unsorted.specs.FirstSeen.{keys_at}
use Rattle.ut_unsorted.proofs.OrderLemmas.{keys_at-all}
use Rattle.ut_unsorted.proofs.order.order_rising.Goals as goal

pub returns-clause-all : goal.returns-clause-all
returns-clause-all c =
    let codes = range_with_len 0 (length c.args.words.now) in
    IfOk-weaker c.codes_below.result _ _ (λ v is. subst (IsPermutation codes) (sym is) (IsPermutation-refl codes)) c.codes_below.ensures

pub returns-clause-ascending : goal.returns-clause-ascending
returns-clause-ascending c =
    let words = c.args.words.now in
    IfOk-weaker c.codes_below.result _ _ (λ v is. subst IsAscending (sym (ap (keys_at words) is ∙ keys_at-all words)) c.requires.rising) c.codes_below.ensures
