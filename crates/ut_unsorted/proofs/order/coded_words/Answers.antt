use Rattle.std.proofs.Common.{◌∙◌, [], map, All, sym, ap, subst, arith, refl}
use Rattle.std.proofs.lemmas.List.{get_or_read_under}
use Rattle.std.proofs.lemmas.List.Elements.{All-push}
use Rattle.ut_unsorted.specs.declared.order.CodedWord.{CodedWord}
use Rattle.ut_unsorted.specs.Coded.{IsCoded}
use Rattle.ut_unsorted.proofs.OrderLemmas.{codes-push}
use Rattle.ut_unsorted.proofs.order.coded_words.Goals as goal

pub loop-code-preserved : goal.loop-code-preserved
loop-code-preserved c =
    let words = c.args.words.now in
    let item : CodedWord = record { number = c.number-number.result; code = c.loop-code.code } in
    let one : IsCoded words item = record { spelled = c.number-number.ensures ∙ get_or_read_under words c.loop-code.code _ _ [] c.index-words-code.is c.loop-code-test.true refl; small = c.number-number.type_inv } in (
      omega arith,
      ap (map (λ (p : CodedWord). p.code)) c.in_ok-push.ensures.items ∙ codes-push (λ p. p.code) c.loop-code.all.items item c.loop-code.invariant.1,
      subst (All (IsCoded words)) (sym c.in_ok-push.ensures.items) (All-push (IsCoded words) c.loop-code.all.items item c.loop-code.invariant.2 one),
    )
