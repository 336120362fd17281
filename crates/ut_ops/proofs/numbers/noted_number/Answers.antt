use Rattle.std.proofs.Common.{◌<◌, length, refl, sym, ap, ◌∙◌, rules}
use Rattle.std.proofs.lemmas.List.Elements.{All-set}
use Rattle.ut_value.specs.declared.value.Kind.TheVariants as kinds
use Rattle.ut_value.specs.declared.value.Value.TheVariants.{Int}
use Rattle.ut_ops.specs.Fit.{cell}
use Rattle.ut_ops.specs.Noted.{IsNoted}
use Rattle.ut_ops.proofs.CellLemmas.{is_cell, within_kind}
use Rattle.ut_ops.proofs.CodeLemmas.{code-cell, in-range, noted-value, noted-new}
use Rattle.ut_ops.proofs.numbers.noted_number.Goals as goal

pub returns-then-note-code-clause-number : goal.returns-then-note-code-clause-number
returns-then-note-code-clause-number c =
    let s = c.args.table.now.stages in
    let small = within_kind s.columns c.args.column kinds.Int c.requires.column in
    let at = code-cell s c.args.column c.args.hit c.code.result c.in-Some.code c.requires.row small c.code.ensures.value c.in-Some.is in
    let lt : c.if-code-room.at < length c.args.notes.now = search rules in
    noted-value s c.args.column c.args.hit _ c.in-Some.code (is_cell s c.args.column c.args.hit c.requires.row small).kept at (c.requires.noted c.if-code-room.at _ lt) c.if-note-code.true

pub returns-clause-noted : goal.returns-clause-noted
returns-clause-noted c =
    let s = c.args.table.now.stages in
    let small = within_kind s.columns c.args.column kinds.Int c.requires.column in
    let at = code-cell s c.args.column c.args.hit c.code.result c.in-Some.code c.requires.row small c.code.ensures.value c.in-Some.is in
    All-set (IsNoted s c.args.column) c.args.notes.now c.if-code-room.at _ (noted-new s c.args.column c.args.hit _ c.in-Some.code at refl
    (c.number_at-number.ensures ∙ ap Int (sym (in-range (cell s c.args.column c.args.hit) c.number_at-number.result c.number_at-number.ensures (is_cell s c.args.column c.args.hit c.requires.row small).kept))))
    c.requires.noted
