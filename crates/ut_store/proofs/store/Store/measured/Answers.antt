use Rattle.std.proofs.Common.{◌≡◌, ◌∙◌, List, None, Some, sym, ap, subst}
use Rattle.ut_scan.specs.declared.place.Found.{Found}
use Rattle.ut_table.specs.Finds.{hits_of}
use Rattle.ut_change.specs.Writes.{AreThere}
use Rattle.ut_tables.specs.Finds as seen
use Rattle.ut_tables.specs.Rows.{HasTable}
use Rattle.ut_tables.specs.Works.{ops_in, places_of}
use Rattle.ut_store.specs.Held.{Held}
use Rattle.ut_store.specs.Hits.{first_taken_of}
use Rattle.ut_store.proofs.LimitLemmas.{late_full, late_taken}
use Rattle.ut_store.proofs.store.Store.measured.Goals as goal

pub returns-in_default-clause-err : goal.returns-in_default-clause-err
returns-in_default-clause-err c = late_full c.args.self.now c.args.session c.args.work.now.place (places_of c.args.work.now) (ops_in c.args.work.now.changes) c.in_default.ensures.none

pub first_taken-requires : goal.first_taken-requires
first_taken-requires c =
    subst (λ (h : Held). HasTable h.rows c.args.work.now.place (λ s. AreThere s (hits_of c.hits.result.now))) (sym c.self.view_is)
    (subst (λ (fs : List Found). HasTable c.args.self.now.rows c.args.work.now.place (λ s. AreThere s (hits_of fs))) (sym c.hits.ensures) c.requires.places)

pub returns-in-Some-first_taken-clause-err : goal.returns-in-Some-first_taken-clause-err
returns-in-Some-first_taken-clause-err c =
    let e = c.args.self.now in
    let n = c.args.work.now.place in
    let rows = ap (λ (h : Held). h.rows) c.self.view_is in
    let look = c.look-look.ensures in
    let taken : first_taken_of e c.args.session n (places_of c.args.work.now) ≡ Some c.in-Some-first_taken.id =
    (λ i. seen.first_taken_of (sym rows i) (sym look i).snapshot (sym look i).own n (hits_of (sym c.hits.ensures i))) ∙ sym c.in-Some-first_taken.ensures in
    late_taken e c.args.session n (places_of c.args.work.now) (ops_in c.args.work.now.changes) (Some c.in-Some-first_taken.id) c.in-Some.ensures.some taken

pub returns-in-None-clause-ok : goal.returns-in-None-clause-ok
returns-in-None-clause-ok c =
    let e = c.args.self.now in
    let n = c.args.work.now.place in
    let rows = ap (λ (h : Held). h.rows) c.self.view_is in
    let look = c.look-look.ensures in
    let taken : first_taken_of e c.args.session n (places_of c.args.work.now) ≡ None =
    (λ i. seen.first_taken_of (sym rows i) (sym look i).snapshot (sym look i).own n (hits_of (sym c.hits.ensures i))) ∙ sym c.in-None.ensures in
    late_taken e c.args.session n (places_of c.args.work.now) (ops_in c.args.work.now.changes) None c.in-Some.ensures.some taken
