use Rattle.std.proofs.Common.{◌≡◌, ◌+◌, length, arith, subst, IfSome}
use Rattle.ut_value.specs.KeyBytes.{IsKeyOf}
use Rattle.ut_ops.proofs.SeenLemmas.{last-is}
use Rattle.ut_ops.proofs.gather.add_key.Goals as goal

pub returns-in_ok-add_value-in-Some-clause-value : goal.returns-in_ok-add_value-in-Some-clause-value
returns-in_ok-add_value-in-Some-clause-value c = λ place e.
    let mark : c.in_ok-add_value-in-Some.field-0 + 1 ≡ length c.args.values.now.items + 1 = omega (arith, c.in_ok-add_value-in-Some.ensures.place) in
    last-is c.args.kind c.args.key.now c.args.values.now.items c.add_value.new.values.items c.in-Some.value (c.in_ok-add_value-in-Some.field-0 + 1) place
    (subst (λ o. IfSome o (λ v. IsKeyOf c.args.kind c.args.key.now v)) c.in-Some.is c.in_ok-value.ensures.found) c.in_ok-add_value-in-Some.ensures.values mark e
