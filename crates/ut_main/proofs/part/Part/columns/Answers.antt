use Rattle.std.proofs.Common.{◌∙◌, ap}
use Rattle.ut_main.specs.Parts.{PartValue}
use Rattle.ut_main.specs.Spelling.{columns_of}
use Rattle.ut_main.proofs.WritingLemmas.{columns-made}
use Rattle.ut_main.proofs.part.Part.columns.Goals as goal

pub returns : goal.returns
returns c =
    c.deref.ensures.value ∙ columns-made c.self.inside.ids.items c.self.inside.columns.items c.self.invariant
    ∙ ap (λ (p : PartValue). columns_of p) c.self.view_is
