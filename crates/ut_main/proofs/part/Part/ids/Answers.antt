use Rattle.std.proofs.Common.{◌∙◌, map, ap}
use Rattle.ut_main.specs.Columns.{ColumnValue}
use Rattle.ut_main.specs.Parts.{PartValue}
use Rattle.ut_main.proofs.WritingLemmas.{ids-made}
use Rattle.ut_main.proofs.part.Part.ids.Goals as goal

pub returns-clause-ids : goal.returns-clause-ids
returns-clause-ids c =
    c.deref.ensures.value ∙ ids-made c.self.inside.ids.items (map (λ (x : ColumnValue). x.cells) c.self.inside.columns.items)
    ∙ ap (λ (p : PartValue). map (λ r. r.id) p.rows) c.self.view_is
