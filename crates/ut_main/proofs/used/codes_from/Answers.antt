use Rattle.std.proofs.Common.{◌≡◌, ◌∙◌, ◌-◌, ◌++◌, true, false, ℕ, List, drop, arith, sym, ap, subst}
use Rattle.std.proofs.lemmas.List.{take-append-drop}
use Rattle.ut_codes.specs.Forms.{code_bytes}
use Rattle.ut_main.specs.Reading.{AreUsed}
use Rattle.ut_main.proofs.UniqueLemmas.{codes-one}
use Rattle.ut_main.proofs.used.codes_from.Goals as goal

pub returns-in-Some-clause-none : goal.returns-in-Some-clause-none
returns-in-Some-clause-none c = λ codes rest may is.
    let size = rw c.in-Some.is at c.in_ok-codes.ensures.rows in
    let below = rw c.in-Some.is at c.in_ok-codes.ensures.below in
    let spelled = rw c.in-Some.is at c.in_ok-codes.ensures.spelled in
    let bytes = c.args.bytes.now in
    let read : code_bytes c.in-Some.codes.codes c.args.reach ++ drop c.in-Some.size bytes ≡ code_bytes codes c.args.reach ++ rest =
    ap (λ (l : List ℕ). l ++ drop c.in-Some.size bytes) (sym spelled) ∙ take-append-drop c.in-Some.size bytes ∙ is in
    let one = codes-one c.in-Some.codes.codes codes (drop c.in-Some.size bytes) rest c.args.reach (omega (arith, c.ranges.reach.fits)) below may.below (size ∙ sym may.count) (omega (arith, size, c.requires.rows)) read in
    let used = subst (λ (l : List ℕ). AreUsed c.args.start (c.args.reach - c.args.start) l) (sym one.0) may.used in
    let good = c.in_ok-are_used-in-Some.ensures.1 used in
    let clash : true ≡ false = sym good ∙ c.if-branch.false in
    cc
