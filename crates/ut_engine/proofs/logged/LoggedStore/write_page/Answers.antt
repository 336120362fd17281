use Rattle.std.proofs.Common.{ℕ, List, Some, refl, subst}
use Rattle.ut_outside.specs.Disk.{View, IsTold}
use Rattle.ut_pages.specs.Layout.{HasPage}
use Rattle.ut_durable.specs.Saving.{Saving, Planned}
use Rattle.ut_savepoint.specs.Writes.{planned_write}
use Rattle.ut_engine.specs.Logged.{Logged}
use Rattle.ut_engine.proofs.PagesLemmas.{files_settled, is_left, page_written}
use Rattle.ut_engine.proofs.logged.LoggedStore.write_page.Goals as goal

pub put_page-requires-clause-settled : goal.put_page-requires-clause-settled
put_page-requires-clause-settled g c = files_settled c.args.self.now _ c.requires.goes

pub returns-clause-written : goal.returns-clause-written
returns-clause-written g c =
    let v : View = g.D.Disk.view c.args.disk.now in
    let w : View = g.D.Disk.view c.put_page.new.disk in
    let s : Saving = c.in-Some.savepoint in
    let page : Planned = planned_write c.in-Some-next.write.now in
    let old : Logged = c.args.self.now in
    let new : Logged = record old { files = c.put_page.new.self; saving = Some c.wrote.new.self } in
    let here = subst (λ (l : List ℕ). IsTold v → HasPage page.n page.next l w.seen.pages) c.deref.ensures.value c.in_ok-put_page.ensures.written in
    page_written old new v w s c.wrote.new.self page c.put_page.new.self c.in-Some.is c.in-Some-next.ensures (is_left old.saving s c.in-Some.is c.requires.left) c.wrote.ensures c.in_ok-put_page.ensures.same refl
    c.in_ok-put_page.ensures.told c.in_ok-put_page.ensures.stays here c.in_ok-put_page.ensures.others
