use Rattle.std.proofs.Common.{◌≡◌, ◌<◌, false, refl, ap, sym, ◌∙◌, subst, length, slice_get}
use Rattle.std.specs.Option.{option_map}
use Rattle.ut_plain.specs.declared.stage.TableStages.{TableStages}
use Rattle.ut_staged.specs.Staged.{Staged}
use Rattle.ut_tables.specs.Rows.{Rows}
use Rattle.ut_engine.specs.Lent.{Lent}
use Rattle.ut_engine.specs.Tables.{IsL2Length}
use Rattle.ut_engine.proofs.TableLemmas.{mapped_some, staged_within, plain_length}
use Rattle.ut_engine.proofs.engine.Engine.l2_len.Goals as goal

pub unwrap-requires : goal.unwrap-requires
unwrap-requires g c =
    let e = c.self.inside.store.store in
    let runs = c.self.invariant (subst (λ (x : Lent g.row.D.Denot). x.store.down ≡ false) (sym c.self.view_is) c.requires.up) in
    let within = subst (λ (x : Lent g.row.D.Denot). c.args.place < length x.store.store.rows.tables) (sym c.self.view_is) c.requires.there in
    mapped_some (λ (s : Staged). length s.l2) e.rows.staged c.args.place c.l2_len.result (staged_within e runs.0 c.args.place runs.1.stands within) (c.l2_len.ensures ∙ ap (λ (r : Rows). option_map (λ (s : Staged). length s.l2) (slice_get r.staged c.args.place)) c.all_rows.ensures)

pub returns : goal.returns
returns g c =
    let is = sym (c.l2_len.ensures ∙ ap (λ (r : Rows). option_map (λ (s : Staged). length s.l2) (slice_get r.staged c.args.place)) c.all_rows.ensures) ∙ c.unwrap.ensures in
    subst (λ (x : Lent g.row.D.Denot). IsL2Length x.store.store c.args.place c.unwrap.result) c.self.view_is (record {
      held = is;
      plain = λ p stands. plain_length (λ (s : Staged). s.l2) (λ (t : TableStages). t.l2) (λ s. refl) c.self.inside.store.store p c.args.place c.unwrap.result stands is;
    })
