use Rattle.std.proofs.Common.{◌≡◌, ◌<◌, false, refl, ap, sym, ◌∙◌, subst, length, slice_get}
use Rattle.std.specs.Option.{option_map}
use Rattle.ut_plain.specs.declared.stage.TableStages.{TableStages}
use Rattle.ut_staged.specs.Staged.{Staged}
use Rattle.ut_tables.specs.Rows.{Rows}
use Rattle.ut_engine.specs.Lent.{Lent}
use Rattle.ut_engine.specs.Tables.{IsL1Length}
use Rattle.ut_engine.proofs.TableLemmas.{mapped_some, staged_within, plain_length}
use Rattle.ut_engine.proofs.engine.Engine.l1_len.Goals as goal

pub unwrap-requires : goal.unwrap-requires
unwrap-requires g c =
    let e = c.self.inside.store.store in
    let runs = c.self.invariant (subst (λ (x : Lent g.row.D.Denot). x.store.down ≡ false) (sym c.self.view_is) c.requires.up) in
    let within = subst (λ (x : Lent g.row.D.Denot). c.args.place < length x.store.store.rows.tables) (sym c.self.view_is) c.requires.there in
    mapped_some (λ (s : Staged). length s.l1) e.rows.staged c.args.place c.l1_len.result (staged_within e runs.0 c.args.place runs.1.stands within) (c.l1_len.ensures ∙ ap (λ (r : Rows). option_map (λ (s : Staged). length s.l1) (slice_get r.staged c.args.place)) c.all_rows.ensures)

pub returns : goal.returns
returns g c =
    let is = sym (c.l1_len.ensures ∙ ap (λ (r : Rows). option_map (λ (s : Staged). length s.l1) (slice_get r.staged c.args.place)) c.all_rows.ensures) ∙ c.unwrap.ensures in
    subst (λ (x : Lent g.row.D.Denot). IsL1Length x.store.store c.args.place c.unwrap.result) c.self.view_is (record {
      held = is;
      plain = λ p stands. plain_length (λ (s : Staged). s.l1) (λ (t : TableStages). t.l1) (λ s. refl) c.self.inside.store.store p c.args.place c.unwrap.result stands is;
    })
