use Rattle.std.proofs.Common.{refl}
use Rattle.ut_value.specs.declared.value.Value.TheVariants.{Int}
use Rattle.ut_ops.proofs.CodeLemmas.{in-range, noted-key, noted-none}
use Rattle.ut_ops.proofs.numbers.noted_key.Goals as goal

pub returns-in-Some : goal.returns-in-Some
returns-in-Some c = λ s column kind at.
    let x = c.in-Some.number in
    let found = c.in-Some.ensures.found in
    noted-key s column c.args.code c.args.key.now x _ kind at found.1 found.0 refl (in-range (Int x) x refl found.0)

pub returns-in-None : goal.returns-in-None
returns-in-None c = λ s column kind at. noted-none s column _ refl
