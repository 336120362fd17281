use Rattle.std.proofs.Common.{◌<◌, ◌≤◌, ◌≡◌, length, map, refl, ap, sym, ◌∙◌, arith}
use Rattle.ut_value.specs.declared.entry.Op.TheVariants as ops
use Rattle.ut_plain.specs.declared.statement.Statement.{Statement}
use Rattle.ut_names.specs.declared.bound.Task.TheVariants as tasks
use Rattle.ut_scan.specs.declared.place.Found.{Found}
use Rattle.ut_table.specs.Finds.{hits_of}
use Rattle.ut_change.proofs.MadeLemmas.{deletes_of, deletes-found, length-hits}
use Rattle.ut_store.specs.Executing.{IsAskedBy}
use Rattle.ut_store.proofs.StandsLemmas.{itself_same}
use Rattle.ut_store.proofs.AskedLemmas.{is_delete, may_delete}
use Rattle.ut_store.proofs.ExecutedLemmas.{asked_work, executed, lacks}
use Rattle.ut_store.proofs.AskedWorkLemmas.{deleting_small, deleting_few, deleting_ready, deleting_work}
use Rattle.ut_store.proofs.store.Store.delete.Goals as goal

pub selected-requires-clause-is : goal.selected-requires-clause-is
selected-requires-clause-is c =
    let d = is_delete c.args.self.now c.args.session c.requires.st c.args.rows c.requires.asked in record { name = d.name; asked = d.preds; is = d.rows_are }

pub overflow_cast-rows : goal.overflow_cast-rows
overflow_cast-rows c = let small : c.args.rows.table < 65536 = deleting_small c.args.self.now c.args.session c.args.rows c.requires in omega arith

pub returns-in_default : goal.returns-in_default
returns-in_default c =
    lacks c.args.self.now c.args.self.now c.args.session (tasks.Delete c.args.rows) c.no_memory.result (λ (st : Statement) (a : IsAskedBy c.args.self.now.rows.tables c.args.session (tasks.Delete c.args.rows) st). may_delete c.args.self.now c.args.session st c.args.rows c.requires.seat c.requires.stands a)
    c.no_memory.ensures (itself_same c.args.self.now)

pub returns-in_default-delete_ops : goal.returns-in_default-delete_ops
returns-in_default-delete_ops c =
    lacks c.args.self.now c.args.self.now c.args.session (tasks.Delete c.args.rows) c.no_memory-in_default-delete_ops.result (λ (st : Statement) (a : IsAskedBy c.args.self.now.rows.tables c.args.session (tasks.Delete c.args.rows) st). may_delete c.args.self.now c.args.session st c.args.rows c.requires.seat c.requires.stands a)
    c.no_memory-in_default-delete_ops.ensures (itself_same c.args.self.now)

pub overflow_cast-work : goal.overflow_cast-work
overflow_cast-work c =
    let few : length (hits_of c.in-Ok.hits.items) ≤ 2147483649 = deleting_few c.args.self.now c.args.session c.args.rows (hits_of c.in-Ok.hits.items) c.in-Ok.ensures c.requires in
    let count = length-hits c.in-Ok.hits.items in
    let len = c.in-Ok.hits.ok.0 in
    omega (arith, few, count, len, c.len.ensures)

pub finish-requires-clause-asked : goal.finish-requires-clause-asked
finish-requires-clause-asked c =
    let n = c.args.rows.table in
    let made : c.in-Ok-delete_ops.ops.items ≡ deletes_of n (hits_of c.in-Ok.hits.items) = c.in-Ok-delete_ops.ensures ∙ ap (map (λ (f : Found). ops.Delete n f.id)) c.deref.ensures.value ∙ deletes-found n c.in-Ok.hits.items in
    let many : c.len.result ≡ length (hits_of c.in-Ok.hits.items) = c.len.ensures ∙ c.in-Ok.hits.ok.0 ∙ sym (length-hits c.in-Ok.hits.items) in
    asked_work c.args.self.now c.args.session _ _ c.requires
    (deleting_work c.args.self.now c.args.session c.args.rows (hits_of c.in-Ok.hits.items) c.in-Ok.ensures _ refl (ap hits_of c.deref-2.ensures.value) made refl refl many c.requires.seat c.requires.stands)

pub finish-requires-clause-ready : goal.finish-requires-clause-ready
finish-requires-clause-ready c =
    let n = c.args.rows.table in
    let made : c.in-Ok-delete_ops.ops.items ≡ deletes_of n (hits_of c.in-Ok.hits.items) = c.in-Ok-delete_ops.ensures ∙ ap (map (λ (f : Found). ops.Delete n f.id)) c.deref.ensures.value ∙ deletes-found n c.in-Ok.hits.items in
    deleting_ready c.args.self.now c.args.session c.args.rows (hits_of c.in-Ok.hits.items) c.in-Ok.ensures _ refl (ap hits_of c.deref-2.ensures.value) made refl refl c.requires

pub returns : goal.returns
returns c =
    let n = c.args.rows.table in
    let made : c.in-Ok-delete_ops.ops.items ≡ deletes_of n (hits_of c.in-Ok.hits.items) = c.in-Ok-delete_ops.ensures ∙ ap (map (λ (f : Found). ops.Delete n f.id)) c.deref.ensures.value ∙ deletes-found n c.in-Ok.hits.items in
    let many : c.len.result ≡ length (hits_of c.in-Ok.hits.items) = c.len.ensures ∙ c.in-Ok.hits.ok.0 ∙ sym (length-hits c.in-Ok.hits.items) in
    executed c.args.self.now c.finish.new.self c.args.session _ _ c.finish.result
    (deleting_work c.args.self.now c.args.session c.args.rows (hits_of c.in-Ok.hits.items) c.in-Ok.ensures _ refl (ap hits_of c.deref-2.ensures.value) made refl refl many c.requires.seat c.requires.stands) c.finish.ensures
