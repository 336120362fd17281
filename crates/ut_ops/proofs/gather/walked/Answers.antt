use Rattle.std.proofs.Common.{◌≡◌, ◌<◌, ◌+◌, List, ℕ, Some, [], ◌∷◌, length, get_or, slice_get, sym, ap, ◌∙◌, subst, arith}
use Rattle.std.proofs.lemmas.List.{length-append}
use Rattle.std.proofs.lemmas.Option.{slice_get-get_or}
use Rattle.ut_value.specs.declared.value.Column.{Column}
use Rattle.ut_scan.specs.Coded.{keys_in}
use Rattle.ut_table.specs.Coded.{keyed_main, no_column}
use Rattle.ut_ops.specs.Seen.{AreSeen}
use Rattle.ut_ops.proofs.SeenLemmas.{seen-more, seen-next, seen-zero, kind-is}
use Rattle.ut_ops.proofs.gather.walked.Goals as goal

pub loop-code-preserved : goal.loop-code-preserved
loop-code-preserved c =
    let s = c.args.table.now.stages in
    let j = c.args.column in
    let marks = c.loop-code.marks.items in
    let lt : c.loop-code.code < length c.in_ok-keys.keys = omega arith in
    let key : slice_get c.in_ok-keys.keys c.loop-code.code ≡ Some c.key.result.now = slice_get-get_or c.in_ok-keys.keys c.loop-code.code _ lt ∙ ap Some (sym c.key.ensures.key) in
    let at : slice_get (keys_in (keyed_main c.args.table.now.stages) c.args.column) (length c.loop-code.marks.items) ≡ Some c.key.result.now
    = ap (slice_get (keys_in (keyed_main s) j)) c.loop-code.invariant.marks ∙ ap (λ ks. slice_get ks c.loop-code.code) (sym c.in_ok-keys.ensures) ∙ key in
    let kind : (get_or c.columns.result.now c.args.column c.index-columns-column.result).kind ≡ (get_or c.args.table.now.stages.columns c.args.column no_column).kind
    = ap (λ (cs : List Column). (get_or cs c.args.column c.index-columns-column.result).kind) c.columns.ensures ∙ kind-is s.columns j c.index-columns-column.result c.requires in
    let next = seen-next s j c.add_key.new.values.items marks c.in_ok-mark.mark (get_or c.columns.result.now c.args.column c.index-columns-column.result).kind c.key.result.now
    (seen-more s j c.loop-code.values.items c.add_key.new.values.items marks c.in_ok-mark.ensures.more c.loop-code.invariant.seen) kind at c.in_ok-mark.ensures.value in
    record {
      seen = subst (AreSeen s j c.add_key.new.values.items) (sym c.in_ok-push.ensures.items) next;
      marks = ap length c.in_ok-push.ensures.items ∙ length-append marks (c.in_ok-mark.mark ∷ []) ∙ ap (λ (n : ℕ). n + 1) c.loop-code.invariant.marks;
    }

pub loop-preserved : goal.loop-preserved
loop-preserved c =
    subst (AreSeen c.args.table.now.stages c.args.column c.loop-code.values.items) (sym c.in_ok-push-2.ensures.items)
    (seen-zero c.args.table.now.stages c.args.column c.loop-code.values.items c.loop.marks.items c.loop.invariant)
