use Rattle.std.proofs.Common.{◌≡◌, ◌∙◌, ◌<◌, [], length, get_or, slice_set, ap, sym, subst, arith}
use Rattle.std.proofs.lemmas.List.{get_or_default}
use Rattle.ut_stamps.specs.declared.place.Place.{Place}
use Rattle.ut_stamps.specs.StampLists.{StampLists, IsPlace, with_stamp}
use Rattle.ut_stamps.proofs.stamp_table.StampTable.set.Goals as goal

pub set-requires-in-Main : goal.set-requires-in-Main
set-requires-in-Main c =
    let lists = c.args.self.now in
    let arr = c.self.inside.parts.items in
    let p = c.in-Main.p in
    let there = subst (IsPlace lists) c.in-Main.is c.requires in
    let view = ap (λ (t : StampLists). t.parts) c.self.view_is in
    let lt : c.in-Main.p < length arr = omega (arith, there.0, ap length view) in
    let old : c.index_mut.result.now ≡ get_or lists.parts p [] =
    c.index_mut.ensures.value ∙ ap (λ n. get_or arr n c.index_mut.result.now) c.from.ensures
    ∙ get_or_default arr p c.index_mut.result.now [] lt ∙ ap (λ l. get_or l p []) view in
    omega (arith, there.1, ap length old)

pub returns-in-Main : goal.returns-in-Main
returns-in-Main c =
    let lists = c.args.self.now in
    let arr = c.self.inside.parts.items in
    let p = c.in-Main.p in
    let there = subst (IsPlace lists) c.in-Main.is c.requires in
    let view = ap (λ (t : StampLists). t.parts) c.self.view_is in
    let lt : c.in-Main.p < length arr = omega (arith, there.0, ap length view) in
    let old : c.index_mut.result.now ≡ get_or lists.parts p [] =
    c.index_mut.ensures.value ∙ ap (λ n. get_or arr n c.index_mut.result.now) c.from.ensures
    ∙ get_or_default arr p c.index_mut.result.now [] lt ∙ ap (λ l. get_or l p []) view in
    let parts : slice_set arr c.from.result c.set-in-Main.new.self ≡ slice_set lists.parts p (slice_set (get_or lists.parts p []) c.in-Main.i c.args.stamp) =
    (λ j. slice_set (view j) (c.from.ensures j) ((c.set-in-Main.ensures ∙ ap (λ l. slice_set l c.in-Main.i c.args.stamp) old) j)) in
    (λ j. record { l1 = (c.self.view_is j).l1; l2 = (c.self.view_is j).l2; closed = (c.self.view_is j).closed; parts = parts j })
    ∙ ap (λ (q : Place). with_stamp lists q c.args.stamp) (sym c.in-Main.is)
