use Rattle.std.proofs.Common.{◌≡◌, ◌⊎◌, inl, inr, List, [], ◌∷◌, ◌++◌, length, refl, arith}
use Rattle.std.proofs.lemmas.Grind.{common_steps}
use Rattle.std.specs.Vec.Iter.{into_iter_items}
use Rattle.ut_main.specs.Parts.{MainValue}
use Rattle.ut_image.specs.declared.drawn.Drawn.{Drawn}
use Rattle.ut_restart.proofs.FillLemmas.{Filling, filling-start, filling-next, filling-more, filling-then, filling-some, filling-room, heads-end, filled-end}
use Rattle.ut_restart.proofs.filling.fill_all.Goals as goal
use Rattle.ut_restart.proofs.filling.fill_all.Goals.{In-Some}

pub loop-drawn-init : goal.loop-drawn-init
loop-drawn-init c = filling-start _ _ _ _ _ _ (grind (arith, common_steps)) (grind (arith, common_steps)) (grind (arith, common_steps)) (grind (arith, common_steps)) c.requires.few

-- what is left with the table that comes next
left : (c : In-Some) → Filling c.args.tables c.args.mains c.loop-drawn.heads.items c.loop-drawn.filled.items (c.in-Some.drawn ∷ into_iter_items c.next.new.self.a) (c.in-Some.main ∷ into_iter_items c.next.new.self.b)
left c =
    let ts : List Drawn = into_iter_items c.next.new.self.a in
    let ms : List MainValue = into_iter_items c.next.new.self.b in
    filling-next c.args.tables c.args.mains c.loop-drawn.heads.items c.loop-drawn.filled.items _ (c.in-Some.drawn ∷ ts) _ (c.in-Some.main ∷ ms) c.loop-drawn.invariant c.in-Some.ensures.steps.0.0 c.in-Some.ensures.steps.1.0

pub push_filled-requires-clause-shown : goal.push_filled-requires-clause-shown
push_filled-requires-clause-shown c =
    let f = left (goal.at.push_filled-requires-clause-shown c).In-Some in
    filling-some c.args.tables c.args.mains c.loop-drawn.heads.items c.loop-drawn.filled.items c.in-Some.drawn c.in-Some.main (into_iter_items c.next.new.self.a) (into_iter_items c.next.new.self.b) c.requires.shown.0 c.requires.shown.1 f

pub push_filled-requires-clause-few : goal.push_filled-requires-clause-few
push_filled-requires-clause-few c =
    let f = left (goal.at.push_filled-requires-clause-few c).In-Some in
    filling-room c.args.tables c.args.mains c.loop-drawn.heads.items c.loop-drawn.filled.items c.in-Some.drawn c.in-Some.main (into_iter_items c.next.new.self.a) (into_iter_items c.next.new.self.b) f

pub loop-drawn-preserved : goal.loop-drawn-preserved
loop-drawn-preserved c =
    let ts : List Drawn = into_iter_items c.next.new.self.a in
    let ms : List MainValue = into_iter_items c.next.new.self.b in
    let drawn = c.in-Some.drawn in
    let new = c.in_ok-push_filled.ensures.filled in
    let f = left (goal.at.loop-drawn-preserved c).In-Some in
    filling-more c.args.tables c.args.mains (c.loop-drawn.heads.items ++ drawn.table ∷ []) _ (c.loop-drawn.filled.items ++ new.0 ∷ []) _ ts ms
    (filling-then c.args.tables c.args.mains c.loop-drawn.heads.items c.loop-drawn.filled.items drawn c.in-Some.main ts ms drawn.table new.0 f refl new.2)
    c.in_ok-push_filled.ensures.heads new.1

pub returns-clause-tables : goal.returns-clause-tables
returns-clause-tables c =
    let none : (length (into_iter_items c.loop-drawn.drawn-iterator.a) ≡ 0) ⊎ (length (into_iter_items c.loop-drawn.drawn-iterator.b) ≡ 0) = elim c.in-None.ensures.steps [ inl e ↦ inl (omega (arith, e.1.0, c.loop-drawn.drawn-iterator.a.rest.ok.0)) | inr e ↦ inr (omega (arith, e.1.0, c.loop-drawn.drawn-iterator.b.rest.ok.0)) ] in
    heads-end c.args.tables c.args.mains c.loop-drawn.heads.items c.loop-drawn.filled.items _ _ c.loop-drawn.invariant none c.requires.shown.0 c.requires.shown.1

pub returns-clause-stages : goal.returns-clause-stages
returns-clause-stages c = λ ss all.
    let none : (length (into_iter_items c.loop-drawn.drawn-iterator.a) ≡ 0) ⊎ (length (into_iter_items c.loop-drawn.drawn-iterator.b) ≡ 0) = elim c.in-None.ensures.steps [ inl e ↦ inl (omega (arith, e.1.0, c.loop-drawn.drawn-iterator.a.rest.ok.0)) | inr e ↦ inr (omega (arith, e.1.0, c.loop-drawn.drawn-iterator.b.rest.ok.0)) ] in
    filled-end c.args.tables c.args.mains c.loop-drawn.heads.items c.loop-drawn.filled.items _ _ c.loop-drawn.invariant none ss all
