use Rattle.std.proofs.Common.{◌≡◌, ◌∙◌, ◌+◌, ◌-◌, ◌<◌, ◌≤◌, [], length, take, drop, get_or, sym, ap, subst, arith}
use Rattle.ut_key.specs.Keys.{IsAscending}
use Rattle.ut_l2.specs.KeyRows.{cells_at}
use Rattle.std.specs.Arc.{arc_value}
use Rattle.ut_main.specs.Parts.{MainValue, PartValue}
use Rattle.ut_main.proofs.OwnLemmas.{own-ascending}
use Rattle.ut_prefix.specs.Chain.{end_to_end}
use Rattle.ut_merge.specs.Jobs.{stay_of}
use Rattle.ut_merge.specs.Columns.{chain_in}
use Rattle.ut_merge.specs.Uniting.{AddsDict}
use Rattle.ut_merge.proofs.CodingLemmas.{flags-there, keys-room, part-read, united-next, IsPartDict, IsUnitedTo}
use Rattle.ut_merge.proofs.GatherLemmas.{part-wide}
use Rattle.ut_merge.proofs.KeptLemmas.{staying-le}
use Rattle.ut_merge.proofs.LayoutLemmas.{keys-few}
use Rattle.ut_merge.proofs.coding.own_keys.Goals as goal
use Rattle.ut_merge.proofs.coding.own_keys.Goals.{In_ok-dict}

pub dict-requires-in-loop-p : goal.dict-requires-in-loop-p
dict-requires-in-loop-p g c =
    let before = ap (λ (p : PartValue). p.before) c.deref.ensures ∙ c.part.ensures.before in
    let rows = ap (λ (p : PartValue). p.rows) c.deref.ensures ∙ c.part.ensures.rows in
    omega (arith, c.requires.column, part-wide c.args.job.now c.args.column c.loop-p.p c.main-in-loop-p.result.now c.deref.result.now c.main-in-loop-p.ensures before rows)

-- the part's own dictionary
read : (g : _) (c : In_ok-dict g) → IsPartDict c.args.job.now c.args.column c.loop-p.p c.in_ok-dict.dict
read g c =
    let le : stay_of c.args.job.now ≤ c.loop-p.p = omega (arith, c.loop-p.auto.p, c.stay-p.ensures.stay) in
    let lt : c.loop-p.p < length c.args.job.now.parts = omega (arith, c.loop-p-test.true, c.parts-p-end.ensures.count, ap (λ (m : MainValue). length m.parts) c.main.ensures) in
    part-read c.args.job.now c.args.column c.loop-p.p c.main-in-loop-p.result.now (arc_value c.part.result.now) c.deref.result.now c.in_ok-dict.dict c.deref-in-loop-p.result.now le lt c.main-in-loop-p.ensures c.deref.ensures c.part.ensures.rows c.part.ensures.before
    (c.deref-in-loop-p.ensures ∙ c.dict-in-loop-p.ensures) c.in_ok-dict.ensures

pub overflow_add-end : goal.overflow_add-end
overflow_add-end g c =
    let job = c.args.job.now in
    let own = read g (goal.at.overflow_add-end g c).In_ok-dict in
    let flags = flags-there job c.args.column c.requires.column (staying-le job.head.kind (length job.parts)) c.loop-p.p c.loop-p.at c.args.used.now c.args.new.now c.loop-p.united c.in_ok-dict.dict own c.loop-p.invariant c.requires.used in
    omega (arith, flags, c.len.ensures.len, c.requires.used, keys-few job c.args.column c.requires.column (staying-le job.head.kind (length job.parts)) c.stay-p.ensures.job)

pub slice_bounds-with_dict-end : goal.slice_bounds-with_dict-end
slice_bounds-with_dict-end g c =
    let job = c.args.job.now in
    let own = read g (goal.at.slice_bounds-with_dict-end g c).In_ok-dict in
    let flags = flags-there job c.args.column c.requires.column (staying-le job.head.kind (length job.parts)) c.loop-p.p c.loop-p.at c.args.used.now c.args.new.now c.loop-p.united c.in_ok-dict.dict own c.loop-p.invariant c.requires.used in
    omega (arith, flags, c.len.ensures.len)

pub with_dict-requires-clause-dict : goal.with_dict-requires-clause-dict
with_dict-requires-clause-dict g c κs within =
    let job = c.args.job.now in
    let own = read g (goal.at.with_dict-requires-clause-dict g c).In_ok-dict in
    subst IsAscending (sym own.is) (own-ascending (end_to_end (chain_in job c.args.column c.loop-p.p)) (cells_at c.args.column (get_or job.parts c.loop-p.p [])))

pub with_dict-requires-clause-room : goal.with_dict-requires-clause-room
with_dict-requires-clause-room g c κs within =
    let job = c.args.job.now in
    let own = read g (goal.at.with_dict-requires-clause-room g c).In_ok-dict in
    keys-room job c.args.column c.requires.column (staying-le job.head.kind (length job.parts)) c.loop-p.p c.loop-p.at c.args.used.now c.args.new.now c.loop-p.united c.in_ok-dict.dict own c.loop-p.invariant c.requires.used c.stay-p.ensures.job

pub loop-p-preserved : goal.loop-p-preserved
loop-p-preserved g c =
    let job = c.args.job.now in
    let own = read g (goal.at.loop-p-preserved g c).In_ok-dict in
    let all : c.loop-p.at + c.len.result - c.loop-p.at ≡ length c.in_ok-dict.dict = omega (arith, c.len.ensures.len) in
    let adds = subst (λ n. AddsDict c.in_ok-dict.dict (take n (drop c.loop-p.at c.args.used.now)) c.loop-p.united c.in_ok-united-2.united) all c.in_ok-united-2.ensures in
    subst (λ n. IsUnitedTo job c.args.column (c.loop-p.p + 1) (c.loop-p.at + n) c.args.used.now c.args.new.now c.in_ok-united-2.united) (sym c.len.ensures.len)
    (united-next job c.args.column c.requires.column (staying-le job.head.kind (length job.parts)) c.loop-p.p c.loop-p.at c.args.used.now c.args.new.now c.loop-p.united c.in_ok-dict.dict own c.loop-p.invariant c.requires.used c.in_ok-united-2.united adds)
