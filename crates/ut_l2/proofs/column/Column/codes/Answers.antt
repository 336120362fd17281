use Rattle.std.proofs.Common.{◌≡◌, ◌<◌, ◌∙◌, length, get_or, sym, ap, subst, arith}
use Rattle.ut_unsorted.specs.FirstSeen.{first_seen}
use Rattle.ut_l2.specs.Cells.{cells_of}
use Rattle.ut_l2.proofs.ColumnLemmas.{code-key}
use Rattle.ut_l2.proofs.DeltaLemmas.{get_or-any}
use Rattle.ut_l2.proofs.column.Column.codes.Goals as goal

pub returns-clause-within : goal.returns-clause-within
returns-clause-within c = λ k d lt.
    let codes = c.self.inside.codes.items in
    let n : length c.as_slice.result.now ≡ length codes = ap length c.as_slice.ensures.value in
    let lc : k < length c.self.inside.codes.items = omega arith in
    let w = (code-key c.self.inside.dict codes c.self.inside.postings c.self.invariant k lc).0 in
    let at : get_or c.as_slice.result.now k d ≡ get_or codes k 0 = ap (λ l. get_or l k d) c.as_slice.ensures.value ∙ get_or-any codes k d 0 lc in
    let m : length c.self.inside.dict ≡ length (first_seen c.args.self.now) = ap length c.self.invariant.seen ∙ ap (λ l. length (first_seen l)) c.self.view_is in
    subst (λ x. x < length (first_seen c.args.self.now)) (sym at) (omega (arith, w, m))

pub returns-clause-keys : goal.returns-clause-keys
returns-clause-keys c =
    let codes = c.self.inside.codes.items in
    let m = c.self.invariant.seen ∙ ap first_seen c.self.view_is in
    ap (cells_of (first_seen c.args.self.now)) c.as_slice.ensures.value ∙ ap (λ d. cells_of d codes) (sym m) ∙ c.self.view_is
