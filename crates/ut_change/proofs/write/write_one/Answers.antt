use Rattle.ut_change.proofs.WriteLemmas.{first_there}
use Rattle.ut_change.proofs.write.write_one.Goals as goal

pub end_row-requires : goal.end_row-requires
end_row-requires c = first_there c.args.table.now.stages c.args.hits.now _ c.in-len1-up.len_at_least c.requires.can.there
