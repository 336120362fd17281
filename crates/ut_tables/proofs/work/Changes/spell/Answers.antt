use Rattle.std.proofs.Common.{◌∙◌, ap}
use Rattle.ut_change.specs.Entering.{insert_of}
use Rattle.ut_tables.specs.Works.{ops_in}
use Rattle.ut_tables.proofs.WorkLemmas.{len_of_one, rule_of_one}
use Rattle.ut_tables.proofs.work.Changes.spell.Goals as goal

pub spell-requires-clause-rule : goal.spell-requires-clause-rule
spell-requires-clause-rule c = rule_of_one (ops_in c.args.self.now) (insert_of c.in-Enters.row) (ap ops_in c.in-Enters.is) c.requires.rule

pub spell-requires-clause-bytes : goal.spell-requires-clause-bytes
spell-requires-clause-bytes c = c.requires.bytes ∙ len_of_one (ops_in c.args.self.now) (insert_of c.in-Enters.row) (ap ops_in c.in-Enters.is)
