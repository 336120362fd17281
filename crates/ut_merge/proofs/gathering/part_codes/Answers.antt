use Rattle.std.proofs.Common.{◌∙◌, ◌<◌, ◌≤◌, [], ◌∷◌, List, ℕ, length, get_or, sym, ap, subst, arith}
use Rattle.std.specs.Global.{Vec}
use Rattle.std.proofs.lemmas.List.{map-append}
use Rattle.ut_codes.specs.Reached.{Reached}
use Rattle.ut_l2.specs.KeyRows.{cells_at}
use Rattle.ut_main.specs.Parts.{MainValue, PartValue}
use Rattle.ut_merge.specs.Jobs.{stay_of}
use Rattle.ut_merge.specs.Columns.{codes_in, laid_keys, AreCoded}
use Rattle.ut_merge.proofs.GatherLemmas.{part-codes-more, part-vector, part-wide}
use Rattle.ut_merge.proofs.LayoutLemmas.{part-coded}
use Rattle.ut_merge.proofs.gathering.part_codes.Goals as goal

pub codes-requires : goal.codes-requires
codes-requires c =
    let before = ap (λ (p : PartValue). p.before) c.deref.ensures ∙ c.part.ensures.before in
    let rows = ap (λ (p : PartValue). p.rows) c.deref.ensures ∙ c.part.ensures.rows in
    omega (arith, c.requires, part-wide c.args.job.now c.args.column c.loop-p.p c.main-in-loop-p.result.now c.deref.result.now c.main-in-loop-p.ensures before rows)

pub loop-p-preserved : goal.loop-p-preserved
loop-p-preserved c =
    let job = c.args.job.now in
    let column = c.args.column in
    let p = c.loop-p.p in
    let codes = c.in_ok-codes.field-0 in
    let before = ap (λ (p : PartValue). p.before) c.deref.ensures ∙ c.part.ensures.before in
    let rows = ap (λ (p : PartValue). p.rows) c.deref.ensures ∙ c.part.ensures.rows in
    let lt : p < length job.parts = omega (arith, c.loop-p-test.true, c.parts-p-end.ensures.count, ap (λ (m : MainValue). length m.parts) c.main.ensures) in
    let le : stay_of job ≤ p = omega (arith, c.loop-p.auto.p, c.stay-p.ensures.stay) in
    let same = c.in_ok-codes.ensures.codes ∙ ap (λ (v : Reached). v.codes) (c.codes.ensures ∙ part-vector job column p c.main-in-loop-p.result.now c.deref.result.now c.main-in-loop-p.ensures before rows) in
    part-codes-more job column p (codes_in c.loop-p.parts.items) (codes_in c.push.new.self.items) codes.items le c.loop-p.invariant
    (subst (λ (l : List ℕ). AreCoded (laid_keys job column) (cells_at column (get_or job.parts p [])) l) (sym same) (part-coded job column c.requires p lt))
    (ap (λ (l : List (Vec ℕ)). codes_in l) c.in_ok-push.ensures.items ∙ map-append (λ (v : Vec ℕ). v.items) c.loop-p.parts.items (codes ∷ []))
