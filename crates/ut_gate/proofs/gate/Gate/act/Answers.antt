use Rattle.std.proofs.Common.{rules, ◌≡◌, ℕ, List, ◌∷◌, refl, sym, ap, ◌∙◌, subst}
use Rattle.std.specs.Prelude.{Option}
use mathlib.Core.List.{IsPrefix}
use Rattle.atomic_table.specs.Table.{Me, rest}
use Rattle.ut_gate.specs.declared.view.Home.{Home}
use Rattle.ut_gate.specs.declared.view.View.{View}
use Rattle.ut_gate.specs.Turns.{MayChange, MeetsJob, slip_after}
use Rattle.ut_gate.specs.Tells.{own_after}
use Rattle.ut_gate.proofs.Acts.{may_leave, acts, fits_lent, seen_lent, job_lent}
use Rattle.ut_gate.proofs.gate.Gate.act.Goals as goal

pub slot_mut-home-requires : goal.slot_mut-home-requires
slot_mut-home-requires g c = let h = c.enter.ensures.value in (search rules, (h.home, h.out ∙ ap (λ (l : List (ℕ × Home g.row.E.Denot)). (0, h.home) ∷ rest l) (sym h.out)))

pub leave-requires-clause-turn : goal.leave-requires-clause-turn
leave-requires-clause-turn g c κs within =
    let before = c.slot_mut-home.result.now.value in
    let after = c.run-answer.new.value in
    let may : MayChange (g.E.Held.job before) (g.E.Held.job after) c.pass.inside.seat.me.0.job = subst (λ (z : Option g.row.E-Job.Denot). MayChange (g.E.Held.job before) (g.E.Held.job after) z) (sym c.pass.invariant.2) c.run-answer.ensures.job.0 in
    may_leave g.E.Held.book g.E.Held.job _ c.pass.inside.seat.me c.enter.new.seat.me _ c.slot_mut-home.result.now _ c.enter.ensures.turn c.pass.invariant.1 c.slot_mut-home.ensures.value refl refl c.run-answer.ensures.ground c.run-answer.ensures.book may

pub invariant_of-pass : goal.invariant_of-pass
invariant_of-pass g c =
    let M : Type 0 = Me (Home g.row.E.Denot) (View g.row.E-Entry.Denot g.row.E-Job.Denot) in
    let before = c.slot_mut-home.result.now.value in
    let after = c.run-answer.new.value in
    let left = acts g.E.Held.book g.E.Held.job (g.E.Held.stands_on g.E.Held.ground) c.pass.inside.seat.me c.enter.new.seat.me _ c.leave.new.seat.me c.slot_mut-home.result.now (record { value = after; turns = c.slot_mut-home.result.now.turns }) c.enter.ensures.turn c.pass.invariant.1 c.slot_mut-home.ensures.value refl c.leave.ensures.left in (
      ap (λ (z : M). z.0.stage) left,
      ap (λ (z : M). z.1) left,
      ap (λ (z : M). z.0.job) left ∙ ap (λ (z : Option g.row.E-Job.Denot). slip_after (g.E.Held.job before) (g.E.Held.job after) z) c.pass.invariant.2 ∙ sym c.run-answer.ensures.job.1,
      ap (λ (z : M). z.0.told) left ∙ c.pass.invariant.3,
      search rules,
      search rules,
    )

pub returns : goal.returns
returns g c =
    let M : Type 0 = Me (Home g.row.E.Denot) (View g.row.E-Entry.Denot g.row.E-Job.Denot) in
    let m = c.pass.inside.seat.me in
    let lent = c.slot_mut-home.result.now in
    let before = lent.value in
    let after = c.run-answer.new.value in
    let left = acts g.E.Held.book g.E.Held.job (g.E.Held.stands_on g.E.Held.ground) m c.enter.new.seat.me _ c.leave.new.seat.me lent (record { value = after; turns = lent.turns }) c.enter.ensures.turn c.pass.invariant.1 c.slot_mut-home.ensures.value refl c.leave.ensures.left in
    let sees : c.leave.new.seat.me.0.seen ≡ g.E.Held.book after = ap (λ (z : M). z.0.seen) left in
    let own : c.leave.new.seat.me.0.own ≡ own_after m.0.own (g.E.Held.book before) (g.E.Held.book after) = ap (λ (z : M). z.0.own) left in
    let fits : g.E.Held.stands_on g.E.Held.ground before = fits_lent g.E.Held.book g.E.Held.job _ m c.enter.new.seat.me lent c.enter.ensures.turn c.slot_mut-home.ensures.value in
    let seen : IsPrefix m.0.seen (g.E.Held.book before) = seen_lent g.E.Held.book g.E.Held.job _ m c.enter.new.seat.me lent c.enter.ensures.turn c.slot_mut-home.ensures.value in
    let meets : MeetsJob (g.E.Held.job before) c.pass.inside.slip.job = subst (λ (z : Option g.row.E-Job.Denot). MeetsJob (g.E.Held.job before) z) c.pass.invariant.2 (job_lent g.E.Held.book g.E.Held.job _ m c.enter.new.seat.me lent c.enter.ensures.turn c.slot_mut-home.ensures.value) in
    search (rules, sees, own, fits, seen, meets)
