use Rattle.std.proofs.Common.{[], ◌∙◌}
use Rattle.ut_change.proofs.bulk.Bulk.spell.Goals as goal

pub returns : goal.returns
returns c = c.add.ensures [] (c.in_ok-room.ensures.payload ∙ c.clear.ensures.payload)
