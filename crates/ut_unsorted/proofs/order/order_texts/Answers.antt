use Rattle.std.proofs.Common.{◌∙◌, length, map, sym, ap, subst, rules, Bool}
use Rattle.std.specs.List.{range_with_len}
use Rattle.std.specs.List.Sorted.{IsPermutation}
use Rattle.std.specs.Ordering.{is_lt}
use Rattle.std.proofs.lemmas.Cmp.{nat_list_cmp_total}
use Rattle.std.proofs.lemmas.List.Sorted.{ranks_by, sorted_far, answers_always}
use Rattle.std.proofs.lemmas.Result.{IfOk-weaker}
use Rattle.ut_key.specs.Keys.{IsAscending, key_cmp}
use Rattle.ut_unsorted.specs.declared.order.CodedText.{CodedText}
use Rattle.ut_unsorted.specs.FirstSeen.{keys_at}
use Rattle.ut_unsorted.proofs.OrderLemmas.{order-all, order-ascending}
use Rattle.ut_unsorted.proofs.order.order_texts.Goals as goal

pub returns-clause-all : goal.returns-clause-all
returns-clause-all c =
    let texts = c.args.texts.now in
    let all = order-all (λ (p : CodedText). p.code) (λ p. p.bytes.now) texts c.in_ok-all.all.items c.sort_unstable_by.new.self.items c.in_ok-all.ensures.codes c.sort_unstable_by.ensures.permutation in
    IfOk-weaker c.text_codes.result _ _ (λ codes is. subst (IsPermutation (range_with_len 0 (length texts))) (sym (is ∙ ap (map (λ (p : CodedText). p.code)) c.as_slice.ensures.value)) all) c.text_codes.ensures

pub returns-clause-ascending : goal.returns-clause-ascending
returns-clause-ascending c =
    let texts = c.args.texts.now in
    let new = c.sort_unstable_by.new.self.items in
    let lt : CodedText → CodedText → Bool = λ a b. is_lt (key_cmp a.bytes.now b.bytes.now) in
    let sorted = c.sort_unstable_by.ensures.sorted lt (ranks_by nat_list_cmp_total (λ (p : CodedText). p.bytes.now)) (answers_always _ _ _ (λ f a r q k. search rules)) in
    let rises = order-ascending (λ (p : CodedText). p.code) (λ p. p.bytes.now) texts c.in_ok-all.all.items new c.requires.differ c.in_ok-all.ensures.codes c.in_ok-all.ensures.texts c.sort_unstable_by.ensures.permutation
    (λ i j d le small. sorted_far lt (ranks_by nat_list_cmp_total (λ (p : CodedText). p.bytes.now)) new sorted i j d le small) in
    IfOk-weaker c.text_codes.result _ _ (λ codes is. subst (λ l. IsAscending (keys_at texts l)) (sym (is ∙ ap (map (λ (p : CodedText). p.code)) c.as_slice.ensures.value)) rises) c.text_codes.ensures
