use Rattle.std.proofs.Common.{◌∙◌, ap}
use Rattle.ut_table.specs.Contents.{TableValue}
use Rattle.ut_table.proofs.ReadLemmas.{is-place, stamp-is}
use Rattle.ut_table.proofs.table.Table.stamp.Goals as goal

pub stamp-requires : goal.stamp-requires
stamp-requires c = is-place c.self.invariant (ap (λ (v : TableValue). v.stages) c.self.view_is) c.args.place c.requires

pub returns : goal.returns
returns c = λ row e. c.stamp.ensures ∙ stamp-is c.self.invariant (ap (λ (v : TableValue). v.stages) c.self.view_is) c.args.place row e
