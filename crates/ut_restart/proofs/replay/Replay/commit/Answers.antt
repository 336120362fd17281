use Rattle.std.proofs.Common.{◌≡◌, ap, subst, arith, Err}
use Rattle.std.proofs.lemmas.Grind.{common_steps}
use Rattle.ut_restart.specs.declared.error.RestartError.TheVariants.{Damaged}
use Rattle.ut_restart.specs.Applied.{Applied, Refused}
use Rattle.ut_restart.proofs.EntryLemmas.{committed, uncommitted}
use Rattle.ut_restart.proofs.replay.Replay.commit.Goals as goal

pub returns-clause-ok : goal.returns-clause-ok
returns-clause-ok c = committed c.args.self.now c.apply.new.self c.args.ops c.requires.sound (subst (λ ts. Applied ts c.args.self.now.rows c.args.ops c.apply.new.self) c.deref.ensures.value c.in_ok-apply.ensures.ok)

pub returns-in_err-apply-clause-damaged : goal.returns-in_err-apply-clause-damaged
returns-in_err-apply-clause-damaged c = λ e.
    let same : c.in_err-apply.field-0.0 ≡ Damaged = grind (arith, common_steps) in
    uncommitted c.args.self.now c.args.ops (subst (λ ts. Refused ts c.args.self.now.rows c.args.ops) c.deref.ensures.value (c.in_err-apply.ensures.damaged (ap Err same)))
