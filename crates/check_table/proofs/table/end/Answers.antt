use Rattle.ut_table.proofs.NumberedLemmas.{rest-switched}
use Rattle.check_table.proofs.table.end.Goals as goal

pub returns : goal.returns
returns g c = rest-switched c.args.next c.in_ok-built.built.head.kind c.args.table.now.stages c.switch.new.self.stages c.switch.ensures c.requires.numbered
