use Rattle.std.proofs.Common.{◌≤◌, ℕ, refl, sym, subst}
use Rattle.std.proofs.lemmas.Result.{on_ok_weaker}
use Rattle.ut_tables.specs.contracts.rows.Rows.{the_view}
use Rattle.ut_tables.proofs.IndexLemmas.{kept_as, room_there}
use Rattle.ut_tables.proofs.rows.Rows.room.Goals as goal

pub returns-clause-ok : goal.returns-clause-ok
returns-clause-ok c =
    on_ok_weaker c.room.result
    (subst (λ (n : ℕ). c.args.inserts ≤ n) (sym (room_there (the_view c.self.inside) _ c.self.inside.stages.items c.args.place c.index_mut.result.now c.room.new.self c.self.view_is refl c.index_mut.ensures.value c.requires))) c.room.ensures.ok

pub returns-clause-rows : goal.returns-clause-rows
returns-clause-rows c = kept_as (the_view c.self.inside) _ c.self.inside.stages.items c.args.place c.index_mut.result.now c.room.new.self c.self.view_is refl c.index_mut.ensures.value c.room.ensures.stages
