use Rattle.std.proofs.Common.{◌≡◌, ◌<◌, ◌∙◌, ◌++◌, ◌∷◌, [], length, get_or, sym, ap, subst, arith}
use Rattle.std.proofs.lemmas.List.{length-map}
use Rattle.ut_unsorted.specs.FirstSeen.{note}
use Rattle.ut_unsorted.specs.Posted.{places_at}
use Rattle.ut_l2.specs.Cells.{cells_of, IsColumn}
use Rattle.ut_l2.proofs.ColumnLemmas.{few, pushed, pushed-cells}
use Rattle.ut_l2.proofs.column.Column.push.Goals as goal

pub len-keys-requires : goal.len-keys-requires
len-keys-requires c = let f = few c.self.inside.dict c.self.inside.codes.items c.self.inside.postings c.self.invariant in omega (arith, c.self.invariant.count)

pub intern-requires-clause-count : goal.intern-requires-clause-count
intern-requires-clause-count c =
    let f = few c.self.inside.dict c.self.inside.codes.items c.self.inside.postings c.self.invariant in
    let e : length (cells_of c.self.inside.dict c.self.inside.codes.items) ≡ length c.args.self.now = ap length c.self.view_is in
    let m : length (cells_of c.self.inside.dict c.self.inside.codes.items) ≡ length c.self.inside.codes.items = length-map c.self.inside.codes.items (λ x. get_or c.self.inside.dict x []) in
    omega arith

pub invariant_of-self-2 : goal.invariant_of-self-2
invariant_of-self-2 c =
    let codes = c.self.inside.codes.items in
    let e : length (cells_of c.self.inside.dict codes) ≡ length c.args.self.now = ap length c.self.view_is in
    let m : length (cells_of c.self.inside.dict codes) ≡ length codes = length-map codes (λ x. get_or c.self.inside.dict x []) in
    let room : length codes < 2147483648 = omega arith in
    let place : length c.as_slice.result.now ≡ length codes = ap length c.as_slice.ensures.value in
    let items = c.push_reserved.ensures.items ∙ ap (λ l. l ++ c.in_ok-code.code ∷ []) c.reserve.ensures.items in
    let base = pushed c.self.inside.dict codes c.self.inside.postings c.self.invariant c.args.key.now c.in_ok-code.code c.in_ok-code.ensures.code c.add.new.self room
    (c.add.ensures.added ∙ ap (λ l. l ++ length c.as_slice.result.now ∷ []) (c.in-Ok.ensures.places c.in_ok-code.code) ∙ ap (λ n. places_at c.self.inside.postings c.in_ok-code.code ++ n ∷ []) place)
    (λ x ne. c.add.ensures.others x ne ∙ c.in-Ok.ensures.places x) in
    subst (λ d. IsColumn d c.push_reserved.new.self.items c.add.new.self) (sym c.in_ok-code.ensures.keys) (subst (λ l. IsColumn (note c.self.inside.dict c.args.key.now) l c.add.new.self) (sym items) base)

pub returns-clause-ok : goal.returns-clause-ok
returns-clause-ok c =
    let codes = c.self.inside.codes.items in
    let items = c.push_reserved.ensures.items ∙ ap (λ l. l ++ c.in_ok-code.code ∷ []) c.reserve.ensures.items in
    ap (λ d. cells_of d c.push_reserved.new.self.items) c.in_ok-code.ensures.keys ∙ ap (cells_of (note c.self.inside.dict c.args.key.now)) items ∙ pushed-cells c.self.inside.dict codes c.self.inside.postings c.self.invariant c.args.key.now c.in_ok-code.code c.in_ok-code.ensures.code ∙ ap (λ l. l ++ c.args.key.now ∷ []) c.self.view_is
