use Rattle.std.proofs.Common.{[]}
use Rattle.check_store.proofs.group.both.Goals as goal

pub group_add-requires-2-clause-under_way : goal.group_add-requires-2-clause-under_way
group_add-requires-2-clause-under_way c = (_, c.in_ok-group_add.ensures.added [] c.in_ok-group_begin.ensures.begun)

pub group_end-requires-clause-under_way : goal.group_end-requires-clause-under_way
group_end-requires-clause-under_way c = (_, c.in_ok-group_add-2.ensures.added _ (c.in_ok-group_add.ensures.added [] c.in_ok-group_begin.ensures.begun))
