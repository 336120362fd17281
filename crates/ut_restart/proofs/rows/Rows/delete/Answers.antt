use Rattle.std.proofs.Common.{◌≡◌, ap, refl, sym, ◌∙◌, Some, length, arith}
use Rattle.std.proofs.lemmas.Grind.{common_steps}
use Rattle.std.proofs.lemmas.List.{with_items_is}
use Rattle.std.specs.Option.{is_some}
use Rattle.ut_staged.specs.Tables.{place_at}
use Rattle.ut_restart.specs.Standing.{shown, buried_in}
use Rattle.ut_restart.specs.Rows.{position_in}
use Rattle.ut_restart.proofs.AppliedLemmas.{deleted}
use Rattle.ut_restart.proofs.rows.Rows.delete.Goals as goal

pub bury-requires : goal.bury-requires
bury-requires c =
    let known : position_in c.args.self.now.positions c.args.id ≡ Some c.in-Some.at = sym c.get.ensures.value ∙ sym c.copied.ensures ∙ c.in-Some.is in
    let f = c.requires.there c.args.id c.in-Some.at.table c.in-Some.at.place known in
    ap (λ ts. is_some (place_at (shown ts) c.in-Some.at.table c.in-Some.at.place)) c.deref_mut.ensures.value ∙ ap is_some f.1

pub returns-clause-ok : goal.returns-clause-ok
returns-clause-ok c =
    let known : position_in c.args.self.now.positions c.args.id ≡ Some c.in-Some.at = sym c.get.ensures.value ∙ sym c.copied.ensures ∙ c.in-Some.is in
    deleted c.args.tables.now c.args.self.now _ c.args.table c.args.id c.in-Some.at c.requires known c.if-at-table.false
    (ap shown (with_items_is c.args.self.now.stages c.bury.new.stages (omega (arith, c.bury.auto.stages, ap length c.deref_mut.ensures.value, c.args.self.now.stages.ok.0)))
    ∙ c.bury.ensures ∙ ap (λ ts. buried_in (shown ts) c.in-Some.at) c.deref_mut.ensures.value)
    (record { here = grind (arith, common_steps); others = λ q ne. grind (arith, common_steps) })
    refl refl
