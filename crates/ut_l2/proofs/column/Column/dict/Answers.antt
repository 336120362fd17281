use Rattle.std.proofs.Common.{arith}
use Rattle.ut_l2.proofs.ColumnLemmas.{few}
use Rattle.ut_l2.proofs.column.Column.dict.Goals as goal

pub returns-clause-few : goal.returns-clause-few
returns-clause-few c = let f = few c.self.inside.dict c.self.inside.codes.items c.self.inside.postings c.self.invariant in omega (arith, f, c.self.invariant.count)
