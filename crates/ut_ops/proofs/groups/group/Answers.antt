use Rattle.std.proofs.Common.{ap, ◌∙◌, map}
use Rattle.ut_ops.specs.Tally.{as_group}
use Rattle.ut_ops.proofs.TallyLemmas.{groups_are}
use Rattle.ut_ops.proofs.groups.group.Goals as goal

pub returns : goal.returns
returns c = λ n key_name sum_name key_at sum_at.
    c.in_ok-said.ensures ∙ ap (map as_group) (c.in_ok-sums.ensures ∙ c.in_ok-gathered.ensures.sums)
    ∙ groups_are n c.args.table.now.stages key_name sum_name c.args.key c.args.sum c.args.hits.now c.requires.fit key_at sum_at
