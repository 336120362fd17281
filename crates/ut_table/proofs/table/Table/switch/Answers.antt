use Rattle.std.proofs.Common.{◌≡◌, ◌∙◌, ◌-◌, ◌++◌, length, map, List, None, All, ap, sym, subst, arith}
use Rattle.std.specs.Arc.{arc_value}
use Rattle.ut_plain.specs.Merges.{staying}
use Rattle.ut_stamps.specs.declared.place.Place.{Place}
use Rattle.ut_stamps.specs.StampLists.{stamp_at, IsPlace}
use Rattle.ut_merge.specs.declared.old.Old.{Old}
use Rattle.ut_merge.specs.Jobs.{IsBuilt, stay_of}
use Rattle.ut_staged.specs.Staged.{Staged, switched}
use Rattle.ut_staged.specs.Tables.{IsArranged}
use Rattle.ut_table.specs.Contents.{TableValue, staged}
use Rattle.ut_table.specs.Pending.{pending_job}
use Rattle.ut_table.specs.Places.{place_of_old}
use Rattle.ut_table.proofs.SwitchLemmas.{parts-behind, stays-within, old-places, switched-table, switched-stages}
use Rattle.ut_table.proofs.table.Table.switch.Goals as goal

pub append_stamps-requires-clause-there : goal.append_stamps-requires-clause-there
append_stamps-requires-clause-there c =
    let pending = ap (λ (v : TableValue). pending_job v.stages) c.self.view_is ∙ c.requires in
    let built : IsBuilt c.args.built c.take-main.result.main c.take-main.result.olds.items = record { main_is = c.take-main.ensures.main; places = c.take-main.ensures.olds; rows = c.take-main.ensures.rows; in_place = c.take-main.ensures.in_place } in
    subst (λ l. All (λ (o : Old). IsPlace c.self.inside.stamps (place_of_old o)) l) (sym c.as_slice.ensures.value)
    (old-places c.self.invariant c.args.built pending c.take-main.result.main c.take-main.result.olds.items built)

pub overflow_sub-stay : goal.overflow_sub-stay
overflow_sub-stay c =
    let pending = ap (λ (v : TableValue). pending_job v.stages) c.self.view_is ∙ c.requires in
    let built : IsBuilt c.args.built c.take-main.result.main c.take-main.result.olds.items = record { main_is = c.take-main.ensures.main; places = c.take-main.ensures.olds; rows = c.take-main.ensures.rows; in_place = c.take-main.ensures.in_place } in
    omega (arith, c.parts-stay.ensures.count, parts-behind c.self.invariant c.args.built pending c.take-main.result.main c.take-main.result.olds.items built)

pub switch-requires-clause-there : goal.switch-requires-clause-there
switch-requires-clause-there c =
    let pending = ap (λ (v : TableValue). pending_job v.stages) c.self.view_is ∙ c.requires in
    let built : IsBuilt c.args.built c.take-main.result.main c.take-main.result.olds.items = record { main_is = c.take-main.ensures.main; places = c.take-main.ensures.olds; rows = c.take-main.ensures.rows; in_place = c.take-main.ensures.in_place } in
    omega (arith, c.parts-stay.ensures.count, parts-behind c.self.invariant c.args.built pending c.take-main.result.main c.take-main.result.olds.items built, stays-within c.self.invariant c.args.built pending c.take-main.result.main c.take-main.result.olds.items built)

pub invariant_of-self : goal.invariant_of-self
invariant_of-self c =
    let pending = ap (λ (v : TableValue). pending_job v.stages) c.self.view_is ∙ c.requires in
    let built : IsBuilt c.args.built c.take-main.result.main c.take-main.result.olds.items = record { main_is = c.take-main.ensures.main; places = c.take-main.ensures.olds; rows = c.take-main.ensures.rows; in_place = c.take-main.ensures.in_place } in
    let stay : c.parts-stay.result - 1 ≡ stay_of c.args.built = omega (arith, c.parts-stay.ensures.count, parts-behind c.self.invariant c.args.built pending c.take-main.result.main c.take-main.result.olds.items built) in
    let now = map (λ (o : Old). stamp_at c.self.inside.stamps (place_of_old o)) in
    switched-table c.self.invariant c.args.built pending c.take-main.result.main c.take-main.result.olds.items built c.switch.new.self c.append_stamps.new.out.items (c.parts-stay.result - 1) stay
    (c.append_stamps.ensures ∙ (λ i. c.take-main.ensures.empty i ++ now (c.as_slice.ensures.value i))) c.switch.ensures

pub returns : goal.returns
returns c =
    let pending = ap (λ (v : TableValue). pending_job v.stages) c.self.view_is ∙ c.requires in
    let built : IsBuilt c.args.built c.take-main.result.main c.take-main.result.olds.items = record { main_is = c.take-main.ensures.main; places = c.take-main.ensures.olds; rows = c.take-main.ensures.rows; in_place = c.take-main.ensures.in_place } in
    let stay : c.parts-stay.result - 1 ≡ stay_of c.args.built = omega (arith, c.parts-stay.ensures.count, parts-behind c.self.invariant c.args.built pending c.take-main.result.main c.take-main.result.olds.items built) in
    let now = map (λ (o : Old). stamp_at c.self.inside.stamps (place_of_old o)) in
    let after = switched-stages c.self.invariant c.args.built pending c.take-main.result.main c.take-main.result.olds.items built c.switch.new.self c.append_stamps.new.out.items (c.parts-stay.result - 1) stay
    (c.append_stamps.ensures ∙ (λ i. c.take-main.ensures.empty i ++ now (c.as_slice.ensures.value i))) c.switch.ensures in
    subst (λ (x : Staged). (places : List Place) × IsArranged c.args.built.head.kind x places × (staged (record { columns = c.self.inside.columns; l1 = c.self.inside.l1.items; l2 = arc_value c.self.inside.l2; main = c.take-main.result.main; pending = None; stamps = c.switch.new.self }) ≡ switched (staying c.args.built.head.kind (length x.parts)) places x))
    (ap (λ (v : TableValue). v.stages) c.self.view_is) after
