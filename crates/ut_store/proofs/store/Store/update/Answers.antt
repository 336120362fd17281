use Rattle.std.proofs.Common.{◌<◌, ◌≡◌, true, List, length, refl, ap, sym, ◌∙◌, subst, arith, slice_get}
use Rattle.ut_plain.specs.declared.reply.Refusal.TheVariants as refusals
use Rattle.ut_plain.specs.declared.statement.Statement.{Statement}
use Rattle.ut_names.specs.declared.bound.Task.TheVariants as tasks
use Rattle.ut_scan.specs.declared.place.Found.{Found}
use Rattle.ut_staged.specs.Staged.{Staged}
use Rattle.ut_staged.proofs.ListLemmas.{get-within}
use Rattle.ut_table.specs.Finds.{hits_of}
use Rattle.ut_change.specs.Writes.{AreThere}
use Rattle.ut_change.specs.Made.{updated_ops}
use Rattle.ut_change.proofs.MadeLemmas.{length-hits}
use Rattle.ut_store.specs.Changes.{has_ids_for}
use Rattle.ut_store.specs.Executing.{IsAskedBy}
use Rattle.ut_store.specs.Held.{Held}
use Rattle.ut_store.specs.contracts.store.Store.{the_view}
use Rattle.ut_store.proofs.StandsLemmas.{itself_same}
use Rattle.ut_store.proofs.IndexLemmas.{some_inside}
use Rattle.ut_store.proofs.AskedLemmas.{is_update, may_update}
use Rattle.ut_store.proofs.ExecutedLemmas.{asked_work, executed, lacks, refused_by}
use Rattle.ut_store.proofs.AskedWorkLemmas.{updating_small, updating_found, updating_full, updating_ready, updating_work}
use Rattle.ut_store.proofs.store.Store.update.Goals as goal

pub selected-requires-clause-is : goal.selected-requires-clause-is
selected-requires-clause-is c =
    let d = is_update c.args.self.now c.args.session c.requires.st c.args.target c.args.value c.requires.asked in record { name = d.name; asked = d.preds; is = d.target_is.rows }

pub returns-in_default : goal.returns-in_default
returns-in_default c =
    lacks c.args.self.now c.args.self.now c.args.session (tasks.Update c.args.target c.args.value) c.no_memory.result
    (λ (st : Statement) (a : IsAskedBy c.args.self.now.rows.tables c.args.session (tasks.Update c.args.target c.args.value) st). may_update c.args.self.now c.args.session st c.args.target c.args.value c.requires.seat c.requires.stands a)
    c.no_memory.ensures (itself_same c.args.self.now)

pub returns-then-not-has_ids_for : goal.returns-then-not-has_ids_for
returns-then-not-has_ids_for c =
    refused_by c.args.self.now c.args.self.now c.args.session _ _ refusals.Full refl
    (updating_full c.args.self.now c.args.session c.args.target c.args.value (hits_of c.in-Ok.hits.items) c.in-Ok.ensures c.len.result (c.len.ensures ∙ c.in-Ok.hits.ok.0 ∙ sym (length-hits c.in-Ok.hits.items))
    (sym c.has_ids_for.ensures ∙ c.if-not-has_ids_for.true) c.requires.seat c.requires.stands)

pub overflow_cast-change : goal.overflow_cast-change
overflow_cast-change c = let small : c.args.target.rows.table < 65536 = updating_small c.args.self.now c.args.session c.args.target c.args.value c.requires in omega arith

pub table-stages-requires : goal.table-stages-requires
table-stages-requires c =
    let f = updating_found c.args.self.now c.args.session c.args.target c.args.value (hits_of c.in-Ok.hits.items) c.in-Ok.ensures c.requires in
    subst (λ (h : Held). c.args.target.rows.table < length h.rows.staged) (sym c.self.view_is) (get-within c.args.self.now.rows.staged c.args.target.rows.table f.table f.at)

pub update_ops-requires-clause-there : goal.update_ops-requires-clause-there
update_ops-requires-clause-there c =
    let f = updating_found c.args.self.now c.args.session c.args.target c.args.value (hits_of c.in-Ok.hits.items) c.in-Ok.ensures c.requires in
    let here = some_inside c.table-stages.result.now.stages f.table (sym c.table-stages.ensures ∙ ap (λ (h : Held). slice_get h.rows.staged c.args.target.rows.table) c.self.view_is ∙ f.at) in
    subst (λ (fs : List Found). AreThere c.table-stages.result.now.stages (hits_of fs)) (sym c.deref.ensures.value) (subst (λ (s : Staged). AreThere s (hits_of c.in-Ok.hits.items)) (sym here) f.there)

pub returns-in_default-update_ops : goal.returns-in_default-update_ops
returns-in_default-update_ops c =
    lacks c.args.self.now c.args.self.now c.args.session (tasks.Update c.args.target c.args.value) c.no_memory-in_default-update_ops.result
    (λ (st : Statement) (a : IsAskedBy c.args.self.now.rows.tables c.args.session (tasks.Update c.args.target c.args.value) st). may_update c.args.self.now c.args.session st c.args.target c.args.value c.requires.seat c.requires.stands a)
    c.no_memory-in_default-update_ops.ensures (itself_same c.args.self.now)

pub finish-requires-clause-asked : goal.finish-requires-clause-asked
finish-requires-clause-asked c =
    let hs = hits_of c.in-Ok.hits.items in
    let made = c.in-Ok-update_ops.ensures ∙ ap (λ fs. updated_ops c.table-stages.result.now.stages c.args.target.rows.table c.self.inside.counts.next_id c.args.target.column c.args.value (hits_of fs)) c.deref.ensures.value in
    let many : c.len-2.result ≡ length hs = c.len-2.ensures ∙ c.in-Ok.hits.ok.0 ∙ sym (length-hits c.in-Ok.hits.items) in
    let all : c.len-3.result ≡ length hs = c.len-3.ensures ∙ c.in-Ok.hits.ok.0 ∙ sym (length-hits c.in-Ok.hits.items) in
    asked_work c.args.self.now c.args.session _ _ c.requires
    (updating_work c.args.self.now c.args.session c.args.target c.args.value hs c.in-Ok.ensures (the_view c.self.inside) c.table-stages.result.now.stages _ c.self.view_is c.table-stages.ensures refl (ap hits_of c.deref-2.ensures.value) made all refl many c.requires.seat c.requires.stands)

pub finish-requires-clause-ready : goal.finish-requires-clause-ready
finish-requires-clause-ready c =
    let hs = hits_of c.in-Ok.hits.items in
    let made = c.in-Ok-update_ops.ensures ∙ ap (λ fs. updated_ops c.table-stages.result.now.stages c.args.target.rows.table c.self.inside.counts.next_id c.args.target.column c.args.value (hits_of fs)) c.deref.ensures.value in
    let all : c.len-3.result ≡ length hs = c.len-3.ensures ∙ c.in-Ok.hits.ok.0 ∙ sym (length-hits c.in-Ok.hits.items) in
    let ids : has_ids_for c.args.self.now (length hs) ≡ true = ap (has_ids_for c.args.self.now) (sym (c.len.ensures ∙ c.in-Ok.hits.ok.0 ∙ sym (length-hits c.in-Ok.hits.items))) ∙ sym c.has_ids_for.ensures ∙ c.if-not-has_ids_for.false in
    updating_ready c.args.self.now c.args.session c.args.target c.args.value hs c.in-Ok.ensures (the_view c.self.inside) c.table-stages.result.now.stages _ c.self.view_is c.table-stages.ensures refl (ap hits_of c.deref-2.ensures.value) made all refl c.requires ids

pub returns : goal.returns
returns c =
    let hs = hits_of c.in-Ok.hits.items in
    let made = c.in-Ok-update_ops.ensures ∙ ap (λ fs. updated_ops c.table-stages.result.now.stages c.args.target.rows.table c.self.inside.counts.next_id c.args.target.column c.args.value (hits_of fs)) c.deref.ensures.value in
    let many : c.len-2.result ≡ length hs = c.len-2.ensures ∙ c.in-Ok.hits.ok.0 ∙ sym (length-hits c.in-Ok.hits.items) in
    let all : c.len-3.result ≡ length hs = c.len-3.ensures ∙ c.in-Ok.hits.ok.0 ∙ sym (length-hits c.in-Ok.hits.items) in
    executed c.args.self.now c.finish.new.self c.args.session _ _ c.finish.result
    (updating_work c.args.self.now c.args.session c.args.target c.args.value hs c.in-Ok.ensures (the_view c.self.inside) c.table-stages.result.now.stages _ c.self.view_is c.table-stages.ensures refl (ap hits_of c.deref-2.ensures.value) made all refl many c.requires.seat c.requires.stands) c.finish.ensures
