use Rattle.std.proofs.Common.{◌≡◌, ◌∙◌, [], get_or, map, All, sym, ap, subst, arith, refl}
use Rattle.std.proofs.lemmas.List.{get_or_read_under}
use Rattle.std.proofs.lemmas.List.Elements.{All-push}
use Rattle.ut_unsorted.specs.declared.order.CodedText.{CodedText}
use Rattle.ut_unsorted.proofs.OrderLemmas.{codes-push}
use Rattle.ut_unsorted.proofs.order.coded_texts.Goals as goal

pub loop-code-preserved : goal.loop-code-preserved
loop-code-preserved c =
    let texts = c.args.texts.now in
    let item : CodedText = record { bytes = c.as_slice-bytes.result; code = c.loop-code.code } in
    let one : item.bytes.now ≡ get_or texts item.code [] = c.as_slice-bytes.ensures.bytes ∙ get_or_read_under texts c.loop-code.code _ _ [] c.index-texts-code.is c.loop-code-test.true refl in (
      omega arith,
      ap (map (λ (p : CodedText). p.code)) c.in_ok-push.ensures.items ∙ codes-push (λ p. p.code) c.loop-code.all.items item c.loop-code.invariant.1,
      subst (All (λ (p : CodedText). p.bytes.now ≡ get_or texts p.code [])) (sym c.in_ok-push.ensures.items) (All-push (λ (p : CodedText). p.bytes.now ≡ get_or texts p.code []) c.loop-code.all.items item c.loop-code.invariant.2 one),
    )
