use Rattle.std.proofs.Common.{◌∙◌, ap, refl}
use Rattle.ut_main.specs.Parts.{PartValue}
use Rattle.ut_scan.proofs.CodeLemmas.{part-of, IsPartOf}
use Rattle.ut_scan.proofs.MainLemmas.{part-columns, part-stamped}
use Rattle.ut_scan.proofs.parts.PartProbe.of.Goals as goal

-- the part that is read
at : (c : goal.After-deref) → IsPartOf c.args.main.now c.args.number c.deref.result.now
at c = part-of c.args.main.now c.args.number c.part-part.result.now c.deref.result.now c.requires.there c.deref.ensures c.part-part.ensures.rows c.part-part.ensures.before

pub invariant_of-result-clause-stamped : goal.invariant_of-result-clause-stamped
invariant_of-result-clause-stamped c = part-stamped c.args.main.now c.args.number c.deref.result.now (at c) c.args.stamps.now.parts c.part-stamps.result.now c.requires.stamped c.part-stamps.ensures

pub invariant_of-result-clause-columns : goal.invariant_of-result-clause-columns
invariant_of-result-clause-columns c = part-columns c.args.main.now c.args.number c.deref.result.now (at c) c.args.coded.now c.requires.columns

pub returns : goal.returns
returns c = record {
  snapshot = refl;
  coded = refl;
  number = refl;
  rows = ap (λ (x : PartValue). x.rows) c.deref.ensures ∙ c.part-part.ensures.rows;
  before = ap (λ (x : PartValue). x.before) c.deref.ensures ∙ c.part-part.ensures.before;
  stamps = c.part-stamps.ensures;
}
