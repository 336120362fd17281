use Rattle.std.proofs.Common.{◌∙◌, ℕ, [], Option, sym, ap, subst}
use Rattle.std.proofs.lemmas.Result.{IfOk-weaker}
use Rattle.ut_plain.specs.Tables.{place_of}
use Rattle.ut_look.specs.Look.{Sight}
use Rattle.ut_tables.specs.Finds.{CanScan, ListsSeen}
use Rattle.ut_tables.specs.Rows.{HasTable}
use Rattle.ut_store.specs.Held.{Held}
use Rattle.ut_store.specs.Reads.{looks_at, own_at}
use Rattle.ut_store.proofs.ListedLemmas.{all_look, lists_seen}
use Rattle.ut_store.proofs.store.Store.rows.Goals as goal

pub rows-requires : goal.rows-requires
rows-requires c = λ n at.
    let e = c.args.self.now in
    subst (λ (k : ℕ). HasTable c.self.inside.rows.rows n (CanScan c.self.inside.rows.rows.fates k c.look-look.result.snapshot.own [])) (sym (ap (λ (l : Sight). l.snapshot) c.look-look.ensures))
    (subst (λ (o : Option ℕ). HasTable c.self.inside.rows.rows n (CanScan c.self.inside.rows.rows.fates (looks_at e 0) o [])) (sym (ap (λ (l : Sight). l.own) c.look-look.ensures))
    (subst (λ (h : Held). HasTable h.rows n (CanScan h.rows.fates (looks_at e 0) (own_at e 0) [])) (sym c.self.view_is)
    (all_look e c.args.name.now n c.requires (ap (λ (h : Held). place_of h.rows.tables c.args.name.now) (sym c.self.view_is) ∙ at))))

pub returns : goal.returns
returns c =
    let e = c.args.self.now in
    IfOk-weaker c.rows.result _ _
    (λ rows l. lists_seen e c.args.name.now rows c.requires
    (subst (λ (h : Held). ListsSeen h.rows (looks_at e 0) (own_at e 0) c.args.name.now rows) c.self.view_is
    (subst (λ (o : Option ℕ). ListsSeen c.self.inside.rows.rows (looks_at e 0) o c.args.name.now rows) (ap (λ (l : Sight). l.own) c.look-look.ensures)
    (subst (λ (k : ℕ). ListsSeen c.self.inside.rows.rows k c.look-look.result.snapshot.own c.args.name.now rows) (ap (λ (l : Sight). l.snapshot) c.look-look.ensures) l))))
    c.rows.ensures
