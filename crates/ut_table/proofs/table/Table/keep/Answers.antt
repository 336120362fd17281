use Rattle.std.proofs.Common.{◌∙◌, ap}
use Rattle.ut_plain.specs.Merges.{staying}
use Rattle.ut_staged.specs.Keeping.{stamp_flags}
use Rattle.ut_table.specs.Contents.{TableValue}
use Rattle.ut_table.proofs.FlagLemmas.{flags-staged, stays-in}
use Rattle.ut_table.proofs.table.Table.keep.Goals as goal

pub flags_of-requires : goal.flags_of-requires
flags_of-requires c = stays-in c.self.invariant c.args.kind c.staying-stay.result (c.staying-stay.ensures ∙ ap (staying c.args.kind) c.parts.ensures.count)

pub returns : goal.returns
returns c =
    c.of.ensures ∙ c.in_ok-lists.ensures
    ∙ flags-staged c.args.fates.now c.args.snapshots.now c.self.invariant c.args.kind c.staying-stay.result (c.staying-stay.ensures ∙ ap (staying c.args.kind) c.parts.ensures.count)
    ∙ ap (λ (v : TableValue). stamp_flags c.args.fates.now c.args.snapshots.now c.args.kind v.stages) c.self.view_is
