use Rattle.std.proofs.Common.{◌≡◌, ◌∙◌, ◌<◌, length, ap, arith}
use Rattle.ut_bits.specs.Places.{is_in}
use Rattle.ut_codes.specs.Reached.{Reached}
use Rattle.ut_scan.specs.Coded.{code_at}
use Rattle.ut_scan.proofs.CodeLemmas.{code-known, part_keys}
use Rattle.ut_scan.proofs.parts.PartProbe.ranges.Goals as goal

pub returns : goal.returns
returns c = λ i lt.
    let part = c.args.self.now.part.now in
    let column = c.args.pred.now.column in
    let reach : c.reach.result ≡ length (part_keys part column) = c.reach.ensures ∙ ap (λ (v : Reached). v.reach) c.codes.ensures in
    let known : code_at part i column < length (part_keys part column) = (code-known part column i lt).0 in
    c.below.ensures (code_at part i column) (omega (arith, reach, known))
    ∙ ap (λ l. is_in l (code_at part i column)) c.as_slice.ensures.value
