use Rattle.std.proofs.Common.{ℕ, ◌≡◌, ◌<◌, true, length, Result, Ok, Err, Option, Some, None, sym, ap, ◌∙◌, subst, slice_get}
use Rattle.std.specs.Option.{option_map}
use Rattle.ut_plain.specs.declared.stage.PendingMerge.{PendingMerge}
use Rattle.ut_merge.specs.Jobs.{JobValue}
use Rattle.ut_store.specs.declared.merges.MergeStop.{MergeStop}
use Rattle.ut_store.specs.declared.merges.MergeStop.TheVariants as stops
use Rattle.ut_store.specs.Held.{Held}
use Rattle.ut_store.specs.Merging.{has_room_to_merge}
use Rattle.ut_store.specs.contracts.store.Store.{the_view}
use Rattle.ut_store.proofs.AskedMergeLemmas.{begin_busy, begin_full, begin_lacks, begin_done}
use Rattle.ut_store.proofs.AskedTableLemmas.{table_there, place_there}
use Rattle.ut_store.proofs.MergeTurnLemmas.{may_merge, merge_small, no_entries, no_places, room_both}
use Rattle.ut_store.proofs.store.Store.merge_begin.Goals as goal
use Rattle.ut_store.proofs.store.Store.merge_begin.Goals.{then-self-ge-ENTRIES_LIMIT-via-then-self-ge-ENTRIES_LIMIT, then-self-ge-ENTRIES_LIMIT-via-else-self-ge-ENTRIES_LIMIT+then-not-has_room_to_merge}

-- ---- one is pending

abbrev busy_in : Result JobValue MergeStop → Option ℕ
busy_in (Err (stops.Busy n)) = Some n
busy_in (Err stops.Full) = None
busy_in (Err stops.Memory) = None
busy_in (Ok job) = None

pub returns-in-Some-clause-executes : goal.returns-in-Some-clause-executes
returns-in-Some-clause-executes c =
    let is : c.args.self.now.counts.pending ≡ Some c.head.result = sym (ap (λ (e : Held). e.counts.pending) c.self.view_is) ∙ c.in-Some.is ∙ ap Some (sym c.head.ensures) in
    begin_busy c.args.self.now c.args.table c.args.kind c.head.result is

pub returns-in-Some-clause-busy : goal.returns-in-Some-clause-busy
returns-in-Some-clause-busy c n h =
    let is : c.args.self.now.counts.pending ≡ Some c.head.result = sym (ap (λ (e : Held). e.counts.pending) c.self.view_is) ∙ c.in-Some.is ∙ ap Some (sym c.head.ensures) in
    ap (option_map (λ (m : PendingMerge). m.number)) is ∙ ap busy_in h

-- ---- no room is left

pub has_room_to_merge-requires : goal.has_room_to_merge-requires
has_room_to_merge-requires c = subst (λ (h : Held). c.args.table < length h.rows.staged) (sym c.self.view_is) (place_there c.args.self.now c.args.table c.requires.stands c.requires.there)

pub returns-then-self-ge-ENTRIES_LIMIT-clause-executes : goal.returns-then-self-ge-ENTRIES_LIMIT-clause-executes
returns-then-self-ge-ENTRIES_LIMIT-clause-executes c =
    let e = c.args.self.now in
    let idle : e.counts.pending ≡ None = sym (ap (λ (x : Held). x.counts.pending) c.self.view_is) ∙ c.in_default.is in
    let t = table_there e c.args.table c.requires.stands c.requires.there in
    begin_full e c.args.table c.args.kind t.0 idle t.1
    (elim c.then-self-ge-ENTRIES_LIMIT.branch [
      | then-self-ge-ENTRIES_LIMIT-via-then-self-ge-ENTRIES_LIMIT w ↦ no_entries (the_view c.self.inside) e t.0 c.args.kind c.self.view_is w.if-self-ge-ENTRIES_LIMIT.true
      | then-self-ge-ENTRIES_LIMIT-via-else-self-ge-ENTRIES_LIMIT+then-not-has_room_to_merge w ↦
          no_places e t.0 c.args.kind (sym (w.has_room_to_merge.ensures t.0 (ap (λ (h : Held). slice_get h.rows.staged c.args.table) c.self.view_is ∙ t.1)) ∙ w.if-not-has_room_to_merge.true)
    ])

pub returns-then-self-ge-ENTRIES_LIMIT-clause-full : goal.returns-then-self-ge-ENTRIES_LIMIT-clause-full
returns-then-self-ge-ENTRIES_LIMIT-clause-full c h = sym (ap (λ (x : Held). x.counts.pending) c.self.view_is) ∙ c.in_default.is

-- ---- it begins

pub close_table-requires-clause-may : goal.close_table-requires-clause-may
close_table-requires-clause-may c =
    let e = c.args.self.now in
    let idle : e.counts.pending ≡ None = sym (ap (λ (x : Held). x.counts.pending) c.self.view_is) ∙ c.in_default.is in
    let t = table_there e c.args.table c.requires.stands c.requires.there in
    may_merge e c.args.table t.0 c.args.kind c.requires.stands idle t.1 (room_both (the_view c.self.inside) e t.0 c.args.kind c.self.view_is c.if-self-ge-ENTRIES_LIMIT.false (sym (c.has_room_to_merge.ensures t.0 (ap (λ (h : Held). slice_get h.rows.staged c.args.table) c.self.view_is ∙ t.1)) ∙ c.if-not-has_room_to_merge.false))

pub close_table-requires-clause-place : goal.close_table-requires-clause-place
close_table-requires-clause-place c =
    let e = c.args.self.now in
    let t = table_there e c.args.table c.requires.stands c.requires.there in
    (merge_small e c.args.table t.0 c.args.kind c.requires.stands t.1 (room_both (the_view c.self.inside) e t.0 c.args.kind c.self.view_is c.if-self-ge-ENTRIES_LIMIT.false (sym (c.has_room_to_merge.ensures t.0 (ap (λ (h : Held). slice_get h.rows.staged c.args.table) c.self.view_is ∙ t.1)) ∙ c.if-not-has_room_to_merge.false))).0

pub close_table-requires-clause-entries : goal.close_table-requires-clause-entries
close_table-requires-clause-entries c = subst (λ (h : Held). h.counts.entries < 1073741823) c.self.view_is c.if-self-ge-ENTRIES_LIMIT.false

pub close_table-requires-clause-merges : goal.close_table-requires-clause-merges
close_table-requires-clause-merges c =
    let e = c.args.self.now in
    let t = table_there e c.args.table c.requires.stands c.requires.there in
    (merge_small e c.args.table t.0 c.args.kind c.requires.stands t.1 (room_both (the_view c.self.inside) e t.0 c.args.kind c.self.view_is c.if-self-ge-ENTRIES_LIMIT.false (sym (c.has_room_to_merge.ensures t.0 (ap (λ (h : Held). slice_get h.rows.staged c.args.table) c.self.view_is ∙ t.1)) ∙ c.if-not-has_room_to_merge.false))).2

pub returns-in-Ok-clause-executes : goal.returns-in-Ok-clause-executes
returns-in-Ok-clause-executes c =
    let e = c.args.self.now in
    let idle : e.counts.pending ≡ None = sym (ap (λ (x : Held). x.counts.pending) c.self.view_is) ∙ c.in_default.is in
    let t = table_there e c.args.table c.requires.stands c.requires.there in
    let room : has_room_to_merge e t.0 c.args.kind ≡ true =
    room_both (the_view c.self.inside) e t.0 c.args.kind c.self.view_is c.if-self-ge-ENTRIES_LIMIT.false (sym (c.has_room_to_merge.ensures t.0 (ap (λ (h : Held). slice_get h.rows.staged c.args.table) c.self.view_is ∙ t.1)) ∙ c.if-not-has_room_to_merge.false) in
    begin_done e c.args.table c.args.kind c.close_table.new.self t.0 c.in-Ok.job c.requires.stands idle t.1 room (c.in-Ok.ensures.ok t.0 t.1) c.in-Ok.ensures.job

pub returns-in-Ok-clause-idle : goal.returns-in-Ok-clause-idle
returns-in-Ok-clause-idle c = sym (ap (λ (x : Held). x.counts.pending) c.self.view_is) ∙ c.in_default.is

pub returns-in-Err-clause-executes : goal.returns-in-Err-clause-executes
returns-in-Err-clause-executes c = begin_lacks c.args.self.now c.args.table c.args.kind c.close_table.new.self c.in-Err.ensures.err
