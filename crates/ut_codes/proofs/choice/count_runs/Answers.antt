use Rattle.std.proofs.Common.{true, false, ◌≡◌, ℕ, ◌+◌, ◌-◌, ◌<◌, eqb, List, [], ◌∷◌, length, sym, ◌∙◌, arith}
use Rattle.ut_rle.specs.Runs.{runs_of}
use Rattle.ut_codes.proofs.SizeLemmas.{changes, changes-end, length-runs_of}
use Rattle.ut_codes.proofs.choice.count_runs.Goals as goal

some-runs : (codes : List ℕ) → 0 < length codes → 1 + changes codes ≡ length (runs_of codes)
some-runs [] h = absurd (omega arith)
some-runs (c ∷ cs) h = sym (length-runs_of c cs)

some : (codes : List ℕ) → eqb (length codes) 0 ≡ false → 0 < length codes
some [] h = absurd (let e : true ≡ false = h in cc)
some (c ∷ cs) h = omega arith

pub loop-i-init : goal.loop-i-init
loop-i-init c = record { counted = some-runs c.args.codes.now (some c.args.codes.now (sym c.is_empty.ensures ∙ c.if-is_empty.false)); few = omega arith }

pub returns : goal.returns
returns c =
    let none = changes-end c.args.codes.now (c.loop-i.i - 1) (omega arith) in
    omega (arith, c.loop-i.invariant.counted, none)
