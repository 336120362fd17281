use Rattle.std.proofs.Common.{◌≡◌, ◌<◌, ◌∙◌, [], length, get_or, sym, ap, subst, arith}
use Rattle.std.proofs.lemmas.List.{length-map}
use Rattle.ut_unsorted.specs.FirstSeen.{first_seen}
use Rattle.ut_l2.specs.Cells.{cells_of}
use Rattle.ut_l2.proofs.ColumnLemmas.{code-key}
use Rattle.ut_l2.proofs.DeltaLemmas.{get_or-any}
use Rattle.ut_l2.proofs.column.Column.code.Goals as goal

pub returns-clause-within : goal.returns-clause-within
returns-clause-within c =
    let codes = c.self.inside.codes.items in
    let e : length (cells_of c.self.inside.dict codes) ≡ length c.args.self.now = ap length c.self.view_is in
    let m : length (cells_of c.self.inside.dict codes) ≡ length codes = length-map codes (λ x. get_or c.self.inside.dict x []) in
    let lt : c.args.i < length codes = omega arith in
    let w = (code-key c.self.inside.dict codes c.self.inside.postings c.self.invariant c.args.i lt).0 in
    let at : c.index.result.now ≡ get_or codes c.args.i 0 = c.index.ensures ∙ get_or-any codes c.args.i c.index.result.now 0 lt in
    let n : length c.self.inside.dict ≡ length (first_seen c.args.self.now) = ap length c.self.invariant.seen ∙ ap (λ l. length (first_seen l)) c.self.view_is in
    subst (λ x. x < length (first_seen c.args.self.now)) (sym at) (omega (arith, w, n))
