use Rattle.std.proofs.Common.{◌≡◌, [], ◌∷◌, ◌++◌, sym, ◌∙◌, ap, subst, arith, Err}
use Rattle.std.proofs.lemmas.Grind.{common_steps}
use Rattle.std.specs.Vec.Iter.{into_iter_items}
use Rattle.ut_restart.specs.declared.error.RestartError.TheVariants.{Damaged}
use Rattle.ut_restart.specs.Applied.{Refused}
use Rattle.ut_restart.proofs.AppliedLemmas.{applied-then, refused-then, refused-front}
use Rattle.ut_restart.proofs.TakenLemmas.{taken_front}
use Rattle.ut_restart.proofs.rows.Rows.apply.Goals as goal

pub loop-op-preserved : goal.loop-op-preserved
loop-op-preserved c = (tt, tt, applied-then c.args.tables.now c.args.self.now c.loop-op.self c.apply_one.new.self c.loop-op.yielded (c.in-Some.op ∷ []) c.loop-op.invariant.2 c.in_ok-apply_one.ensures.ok)

pub returns-in_err-apply_one-clause-damaged : goal.returns-in_err-apply_one-clause-damaged
returns-in_err-apply_one-clause-damaged c = λ e.
    let same : c.in_err-apply_one.field-0.0 ≡ Damaged = grind (arith, common_steps) in
    let here = c.in_err-apply_one.ensures.damaged (ap Err same) in
    let rest = into_iter_items c.next.new.self in
    let front = taken_front c.into_iter-op-iterator.result c.loop-op.yielded c.loop-op.op-iterator c.loop-op.yielded_by in
    let all : c.loop-op.yielded ++ (c.in-Some.op ∷ rest) ≡ c.args.ops = ap (λ xs. c.loop-op.yielded ++ xs) (sym c.in-Some.ensures.steps.0) ∙ sym front ∙ c.into_iter-op-iterator.ensures.into_iter_gives.0 ∙ c.into_vec-op-items.ensures in
    subst (Refused c.args.tables.now c.args.self.now) all
    (refused-then c.args.tables.now c.args.self.now c.loop-op.self c.loop-op.yielded (c.in-Some.op ∷ rest) c.loop-op.invariant.2 (refused-front c.args.tables.now c.loop-op.self (c.in-Some.op ∷ []) rest here))
