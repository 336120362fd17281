use Rattle.std.proofs.Common.{◌∙◌, [], length, get_or, sym, ap, subst}
use Rattle.std.proofs.lemmas.Bool.{eqb-true, eqb-false}
use Rattle.ut_unsorted.specs.Posted.{places_at}
use Rattle.ut_l2.specs.Cells.{cells_of, IsColumn}
use Rattle.ut_l2.proofs.ColumnLemmas.{some-place, code-within, popped-kept, popped-gone, gone-cells, popped-cells, take-front, nil-length}
use Rattle.ut_l2.proofs.column.Column.pop.Goals as goal

pub forget-requires : goal.forget-requires
forget-requires c = some-place c.self.inside.dict c.self.inside.codes.items c.self.inside.postings c.self.invariant c.pop.new.self.items c.in-Some.code c.in-Some.ensures.items

pub cut-requires : goal.cut-requires
cut-requires c = code-within c.self.inside.dict c.self.inside.codes.items c.self.inside.postings c.self.invariant c.pop.new.self.items c.in-Some.code c.in-Some.ensures.items

pub invariant_of-self : goal.invariant_of-self
invariant_of-self c =
    let empty = sym c.places.ensures ∙ nil-length c.places.result.now (eqb-true (length c.places.result.now) 0 (sym c.if-is_empty.ensures)) in
    subst (λ d. IsColumn d c.pop.new.self.items c.forget.new.self) (sym c.cut.ensures)
    (popped-gone c.self.inside.dict c.self.inside.codes.items c.self.inside.postings c.self.invariant c.pop.new.self.items c.in-Some.code c.in-Some.ensures.items c.forget.new.self
    (λ front e. c.forget.ensures.cut ∙ take-front front (length c.pop.new.self.items) (places_at c.self.inside.postings c.in-Some.code) e) c.forget.ensures.others empty)

pub invariant_of-self-else-is_empty : goal.invariant_of-self-else-is_empty
invariant_of-self-else-is_empty c =
    popped-kept c.self.inside.dict c.self.inside.codes.items c.self.inside.postings c.self.invariant c.pop.new.self.items c.in-Some.code c.in-Some.ensures.items c.forget.new.self
    (λ front e. c.forget.ensures.cut ∙ take-front front (length c.pop.new.self.items) (places_at c.self.inside.postings c.in-Some.code) e) c.forget.ensures.others
    (λ none. eqb-false (length c.places.result.now) 0 (sym c.if-is_empty.ensures) (ap length (c.places.ensures ∙ none)))

pub returns-then-is_empty : goal.returns-then-is_empty
returns-then-is_empty c =
    let empty = sym c.places.ensures ∙ nil-length c.places.result.now (eqb-true (length c.places.result.now) 0 (sym c.if-is_empty.ensures)) in
    let d = c.self.inside.dict in
    ap (λ x. cells_of x c.pop.new.self.items) c.cut.ensures
    ∙ gone-cells d c.self.inside.codes.items c.self.inside.postings c.self.invariant c.pop.new.self.items c.in-Some.code c.in-Some.ensures.items c.forget.new.self
    (λ front e. c.forget.ensures.cut ∙ take-front front (length c.pop.new.self.items) (places_at c.self.inside.postings c.in-Some.code) e) c.forget.ensures.others empty
    ∙ sym (take-front (cells_of d c.pop.new.self.items) (get_or d c.in-Some.code []) c.args.self.now (sym c.self.view_is ∙ popped-cells d c.self.inside.codes.items c.self.inside.postings c.self.invariant c.pop.new.self.items c.in-Some.code c.in-Some.ensures.items))
