use Rattle.std.proofs.Common.{◌≡◌, length, get_or, ap, arith}
use Rattle.std.proofs.lemmas.Grind.{common_steps}
use Rattle.std.proofs.lemmas.Result.{IfOk-weaker}
use Rattle.ut_plain.specs.declared.statement.Statement.TheVariants.{MergeBegin}
use Rattle.ut_plain.specs.Journal.{journal_len}
use Rattle.ut_plain.specs.Step.{step, merge_begun}
use Rattle.ut_plain.specs.declared.reply.Refusal.TheVariants as refusals
use Rattle.check_oracle.specs.Store.{plain_of, refuses, Gives}
use Rattle.check_oracle.proofs.WriteLemmas.{few_tables}
use Rattle.check_oracle.proofs.MergeLemmas.{begin_full, begin_gives}
use Rattle.check_oracle.proofs.merges.merge_begin.Goals as goal

pub place_in-place-requires : goal.place_in-place-requires
place_in-place-requires c = let few = few_tables (plain_of c.args.held.now) c.args.sight.now c.args.session (MergeBegin c.args.table.now c.args.kind) c.requires in omega (arith, few, ap length c.as_slice.ensures.value)

pub returns-then-not-has_merge_room : goal.returns-then-not-has_merge_room
returns-then-not-has_merge_room c =
    let p = plain_of c.args.held.now in
    let st = MergeBegin c.args.table.now c.args.kind in
    let read : c.index-stages.result.now ≡ get_or c.args.held.now.stages.items c.place_in-place.result c.index-stages.result.now = grind (arith, common_steps) in
    IfOk-weaker c.refused.result (λ out. Gives (refuses p refusals.Full) out.reply (plain_of out.held)) (λ out. Gives (step p c.args.session st) out.reply (plain_of out.held))
    (λ out g. begin_full p c.args.sight.now c.args.session (journal_len p.journal) c.place_in-place.result c.args.table.now c.as_slice-2.result.now c.args.kind c.as_slice.result.now c.index-stages.result.now c.has_merge_room.result out.reply (plain_of out.held) c.requires
    c.as_slice.ensures.value c.as_slice-2.ensures.bytes c.place_in-place.ensures read (omega arith) c.has_merge_room.ensures c.if-not-has_merge_room.true g) c.refused.ensures

pub returns : goal.returns
returns c =
    let p = plain_of c.args.held.now in
    let st = MergeBegin c.args.table.now c.args.kind in
    let read : c.index-stages.result.now ≡ get_or c.args.held.now.stages.items c.place_in-place.result c.index-stages.result.now = grind (arith, common_steps) in
    IfOk-weaker c.begun.result (λ out. Gives (merge_begun p c.place_in-place.result c.args.kind) out.reply (plain_of out.held)) (λ out. Gives (step p c.args.session st) out.reply (plain_of out.held))
    (λ out g. begin_gives p c.args.sight.now c.args.session (journal_len p.journal) c.place_in-place.result c.args.table.now c.as_slice-2.result.now c.args.kind c.as_slice.result.now c.index-stages.result.now c.has_merge_room.result out.reply (plain_of out.held) c.requires
    c.as_slice.ensures.value c.as_slice-2.ensures.bytes c.place_in-place.ensures read (omega arith) c.has_merge_room.ensures c.if-not-has_merge_room.false g) c.begun.ensures
