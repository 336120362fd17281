use Rattle.std.proofs.Common.{◌≡◌, ℕ, Option, Some, sym, ◌∙◌, ap, subst}
use Rattle.ut_outside.specs.Disk.{View}
use Rattle.ut_pages.specs.declared.root.Root.{Root}
use Rattle.ut_durable.specs.Journals.{log_file}
use Rattle.ut_durable.specs.Saving.{Saving}
use Rattle.ut_engine.specs.Logged.{Logged}
use Rattle.ut_engine.specs.Saves.{SelectsRoot}
use Rattle.ut_engine.proofs.RootLemmas.{select_settled, selected_root, may_select_root}
use Rattle.ut_engine.proofs.logged.LoggedStore.select_root.Goals as goal

pub flip-requires : goal.flip-requires
flip-requires g c = record { settled = select_settled c.args.self.now _ c.requires }

pub returns-in_err-flip-clause-any_moment : goal.returns-in_err-flip-clause-any_moment
returns-in_err-flip-clause-any_moment g c =
    may_select_root c.args.self.now _ _ c.in-Some.savepoint c.into_reached.result.items (sym c.take.ensures.value ∙ c.in-Some.is) c.into_reached.ensures c.flip.ensures.any_moment

pub returns-clause-selected : goal.returns-clause-selected
returns-clause-selected g c =
    let v : View = g.D.Disk.view c.args.disk.now in
    let w : View = g.D.Disk.view c.flip.new.disk in
    let old : Logged = c.args.self.now in
    let entries : ℕ = c.root.result.now.length in
    subst (λ (o : Option Saving). (x : Saving) → old.saving ≡ Some x → SelectsRoot x old v entries (record old { files = c.flip.new.self; begins = c.log_file-begins.result; saving = o }) w) (sym c.take.ensures.after)
    (selected_root old v w c.in-Some.savepoint entries c.flip.new.self c.into_reached.result.items c.log_file-begins.result (sym c.take.ensures.value ∙ c.in-Some.is) (ap (λ (r : Root). r.length) c.root.ensures) c.into_reached.ensures
    (c.log_file-begins.ensures ∙ ap (λ (r : Root). log_file r.file) c.root-2.ensures) c.in_ok-flip.ensures.place c.in_ok-flip.ensures.flips)

pub returns-clause-any_moment : goal.returns-clause-any_moment
returns-clause-any_moment g c =
    may_select_root c.args.self.now _ _ c.in-Some.savepoint c.into_reached.result.items (sym c.take.ensures.value ∙ c.in-Some.is) c.into_reached.ensures c.flip.ensures.any_moment
