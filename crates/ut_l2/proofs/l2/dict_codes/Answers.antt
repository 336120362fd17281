use Rattle.std.proofs.Common.{◌∙◌, ◌<◌, [], length, sym, ap, arith}
use Rattle.ut_key.specs.Keys.{meets}
use Rattle.ut_l2.proofs.ColumnLemmas.{places-more, places-skip}
use Rattle.ut_l2.proofs.l2.dict_codes.Goals as goal
use Rattle.ut_l2.proofs.l2.dict_codes.Goals.{then-is_met+in-Ok, else-is_met}

pub loop-code-preserved : goal.loop-code-preserved
loop-code-preserved c =
    let lt : c.loop-code.code < length c.args.dict.now = omega (arith, c.len-code-end.ensures, c.loop-code-test.true) in
    elim c.if-is_met.branch [
      | then-is_met+in-Ok w ↦ ap (λ v. v.items) w.out-is ∙ w.in-Ok.ensures.items ∙ places-more (meets c.args.op c.args.key.now) c.args.dict.now c.loop-code.code [] lt c.loop-code.out.items c.args.out.now.items c.loop-code.invariant (ap (meets c.args.op c.args.key.now) (sym c.bytes.ensures.key) ∙ sym w.if-is_met.ensures)
      | else-is_met w ↦ ap (λ v. v.items) w.out-is ∙ places-skip (meets c.args.op c.args.key.now) c.args.dict.now c.loop-code.code [] lt c.loop-code.out.items c.args.out.now.items c.loop-code.invariant (ap (meets c.args.op c.args.key.now) (sym c.bytes.ensures.key) ∙ sym w.if-is_met.ensures)
    ]
