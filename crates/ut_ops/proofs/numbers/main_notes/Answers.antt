use Rattle.std.proofs.Common.{◌∙◌, ◌<◌, Some, length, slice_get, sym, ap, subst, arith}
use Rattle.std.proofs.lemmas.List.Elements.{All-push}
use Rattle.std.proofs.lemmas.Option.{slice_get-get_or}
use Rattle.ut_ops.specs.Noted.{IsNoted, AreNoted}
use Rattle.ut_ops.proofs.numbers.main_notes.Goals as goal

pub loop-code-preserved : goal.loop-code-preserved
loop-code-preserved c =
    let s = c.args.table.now.stages in
    let column = c.args.column in
    let keys = c.in_ok-keys.keys in
    let code = c.loop-code.code in
    let lt : c.loop-code.code < length c.in_ok-keys.keys = omega arith in
    let one = c.noted_key.ensures s column c.requires (ap (λ ks. slice_get ks code) (sym c.in_ok-keys.ensures) ∙ slice_get-get_or keys code _ lt ∙ ap Some (sym c.key.ensures.key)) in
    subst (AreNoted s column) (sym c.in_ok-push.ensures.items) (All-push (IsNoted s column) c.loop-code.notes.items c.noted_key.result c.loop-code.invariant one)
