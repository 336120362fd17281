use Rattle.std.proofs.Common.{◌∙◌, length, map, get_or, sym, ap, subst, arith, rules}
use Rattle.std.specs.Int.{to_be_bytes, w64}
use Rattle.std.specs.List.{range_with_len}
use Rattle.std.specs.List.Sorted.{IsPermutation}
use Rattle.std.proofs.lemmas.List.Sorted.{All-permutation, IsNonDecreasingBy-from_sort_by_key}
use Rattle.std.proofs.lemmas.Result.{IfOk-weaker}
use Rattle.ut_key.specs.Keys.{IsAscending}
use Rattle.ut_unsorted.specs.declared.order.CodedWord.{CodedWord}
use Rattle.ut_unsorted.specs.Coded.{IsCoded}
use Rattle.ut_unsorted.specs.FirstSeen.{keys_at}
use Rattle.ut_unsorted.proofs.OrderLemmas.{order-all, order-ascending}
use Rattle.ut_unsorted.proofs.WordLemmas.{bytes-not_below}
use Rattle.ut_unsorted.proofs.order.order_words.Goals as goal

pub returns-clause-all : goal.returns-clause-all
returns-clause-all c =
    let words = c.args.words.now in
    let all = order-all (λ (p : CodedWord). p.code) (λ p. to_be_bytes w64 p.number) words c.in_ok-all.all.items c.sort_unstable_by_key.new.self.items c.in_ok-all.ensures.codes c.sort_unstable_by_key.ensures.permutation in
    IfOk-weaker c.word_codes.result _ _ (λ codes is. subst (IsPermutation (range_with_len 0 (length words))) (sym (is ∙ ap (map (λ (p : CodedWord). p.code)) c.as_slice.ensures.value)) all) c.word_codes.ensures

pub returns-clause-ascending : goal.returns-clause-ascending
returns-clause-ascending c =
    let words = c.args.words.now in
    let new = c.sort_unstable_by_key.new.self.items in
    let up = IsNonDecreasingBy-from_sort_by_key (λ p. p.number) _ c.sort_unstable_by_key.ensures.sorted (λ a r q k. search rules) in
    let each = All-permutation (IsCoded words) c.in_ok-all.all.items new c.sort_unstable_by_key.ensures.permutation c.in_ok-all.ensures.numbers in
    let rises = order-ascending (λ (p : CodedWord). p.code) (λ p. to_be_bytes w64 p.number) words c.in_ok-all.all.items new c.requires.differ c.in_ok-all.ensures.codes (λ k d lt. (c.in_ok-all.ensures.numbers k d lt).spelled) c.sort_unstable_by_key.ensures.permutation
    (λ i j d le lt. bytes-not_below (get_or new i d).number (get_or new j d).number (each i d (omega (arith, le, lt))).small (each j d lt).small (up i j d le lt)) in
    IfOk-weaker c.word_codes.result _ _ (λ codes is. subst (λ l. IsAscending (keys_at words l)) (sym (is ∙ ap (map (λ (p : CodedWord). p.code)) c.as_slice.ensures.value)) rises) c.word_codes.ensures
