use Rattle.std.proofs.Common.{[], ◌∙◌}
use Rattle.ut_change.proofs.write.spell_all.Goals as goal

pub returns : goal.returns
returns c = c.add_all.ensures [] (c.in_ok-room.ensures.payload ∙ c.clear.ensures.payload)
