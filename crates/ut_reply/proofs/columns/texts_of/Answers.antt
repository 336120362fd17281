use Rattle.std.proofs.Common.{pos, ◌≡◌, ◌+◌, ◌≤◌, ◌++◌, ◌∷◌, [], get_or, length, sym, ap, ◌∙◌, arith}
use Rattle.std.proofs.lemmas.Grind.{common_steps}
use Rattle.std.proofs.lemmas.List.{get_or_default, length-append}
use Rattle.std.proofs.Math.Seq.{get_or-append_seam}
use Rattle.std.specs.Prelude.{vec_len}
use Rattle.ut_value.specs.declared.value.Value.TheVariants.{Int}
use Rattle.ut_rows.specs.Columns.{value_in}
use Rattle.ut_reply.specs.Texts.{value_text, value_room}
use Rattle.ut_reply.proofs.TextsLemmas.{texts_more}
use Rattle.ut_reply.proofs.columns.texts_of.Goals as goal

pub loop-value-preserved : goal.loop-value-preserved
loop-value-preserved c =
    let values = c.args.values.now in
    let i = c.loop-value.value-index in
    let v = c.value-item.result in
    let bytes = c.loop-value.bytes.items in
    let bounds = c.loop-value.bounds.items in
    let after = c.add_value.new.out.items in
    let ends = c.push-in-loop-value.new.self.items in
    let grown : after ≡ bytes ++ c.args.lead ∷ value_text v = grind (arith, common_steps) in
    let long : vec_len c.add_value.new.out ≡ length after = omega (arith, c.add_value.new.out.ok.0) in
    let pushed : ends ≡ bounds ++ length after ∷ [] = c.in_ok-push-2.ensures.items ∙ ap (λ n. bounds ++ n ∷ []) (c.len.ensures ∙ long) in
    let few : length after ≤ length bytes + (value_room v + 1) =
    omega (arith, long, c.push_reserved.new.self.ok.0, c.loop-value.bytes.ok.0, c.add_value.ensures.len, c.push_reserved.ensures.len, c.in_ok-reserve.ensures.len) in
    let read : value_in values i ≡ v = sym (c.value-item.is ∙ get_or_default values i v (Int (pos 0)) (omega arith)) in
    let many : length ends ≡ i + 1 + 1 = ap length pushed ∙ length-append bounds (length after ∷ []) ∙ ap (λ n. n + 1) c.loop-value.invariant.many in
    record {
      many = many;
      last = ap (λ them. get_or them (i + 1) 0) pushed ∙ ap (λ n. get_or (bounds ++ length after ∷ []) n 0) (sym c.loop-value.invariant.many) ∙ get_or-append_seam bounds (length after) [] 0;
      each = texts_more c.args.lead values v bytes bounds after ends i grown pushed c.loop-value.invariant.many c.loop-value.invariant.last few read c.loop-value.invariant.each;
    }
