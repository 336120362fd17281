use Rattle.std.proofs.Common.{ℕ, List, sym, ◌∙◌, ap, subst}
use Rattle.ut_pages.specs.declared.slot.Slot.{Slot}
use Rattle.ut_pages.specs.Layout.{other}
use Rattle.ut_outside.specs.Disk.{View}
use Rattle.ut_durable.specs.Calls.{FilesHeld, Flips, MayFlip}
use Rattle.ut_durable.proofs.CallLemmas.{flips, may_flip}
use Rattle.ut_durable.proofs.durable.Durable.flip.Goals as goal

pub returns-in_err-flip-clause-any_moment : goal.returns-in_err-flip-clause-any_moment
returns-in_err-flip-clause-any_moment g c =
    let v0 : View = g.D.Disk.view c.args.disk.now in
    let v1 : View = g.D.Disk.view c.flip.new.disk in
    let f : FilesHeld = record { log = c.self.inside.redo.place; group = c.self.inside.redo.group; slot = c.self.inside.pages.slot; reached = c.self.inside.pages.reached } in
    subst (λ (h : FilesHeld). MayFlip c.args.reached.items h v0 v1) c.self.view_is (may_flip f v0 v1 c.flip.ensures.told c.args.reached.items c.flip.ensures.any_moment)

pub returns-clause-any_moment : goal.returns-clause-any_moment
returns-clause-any_moment g c =
    let v0 : View = g.D.Disk.view c.args.disk.now in
    let v1 : View = g.D.Disk.view c.flip.new.disk in
    let f : FilesHeld = record { log = c.self.inside.redo.place; group = c.self.inside.redo.group; slot = c.self.inside.pages.slot; reached = c.self.inside.pages.reached } in
    subst (λ (h : FilesHeld). MayFlip c.args.reached.items h v0 v1) c.self.view_is (may_flip f v0 v1 c.in_ok-flip.ensures.told c.args.reached.items c.in_ok-flip.ensures.any_moment)

pub returns-clause-place : goal.returns-clause-place
returns-clause-place g c =
    let v0 : View = g.D.Disk.view c.args.disk.now in
    let v1 : View = g.D.Disk.view c.flip.new.disk in
    let f : FilesHeld = record { log = c.self.inside.redo.place; group = c.self.inside.redo.group; slot = c.self.inside.pages.slot; reached = c.self.inside.pages.reached } in
    let now = c.flip.new.self in
    let here = ap (λ (s : Slot). record f { slot = s; reached = now.reached }) c.in_ok-flip.ensures.slot ∙ ap (λ (l : List ℕ). record f { slot = other f.slot; reached = l }) c.in_ok-flip.ensures.reached in
    here ∙ ap (λ (h : FilesHeld). record h { slot = other h.slot; reached = c.args.reached.items }) c.self.view_is

pub returns-clause-flips : goal.returns-clause-flips
returns-clause-flips g c =
    let v0 : View = g.D.Disk.view c.args.disk.now in
    let v1 : View = g.D.Disk.view c.flip.new.disk in
    let f : FilesHeld = record { log = c.self.inside.redo.place; group = c.self.inside.redo.group; slot = c.self.inside.pages.slot; reached = c.self.inside.pages.reached } in
    let now = c.flip.new.self in
    let here = ap (λ (s : Slot). record f { slot = s; reached = now.reached }) c.in_ok-flip.ensures.slot ∙ ap (λ (l : List ℕ). record f { slot = other f.slot; reached = l }) c.in_ok-flip.ensures.reached in
    subst (λ (h : FilesHeld). Flips c.args.reached.items h (record f { slot = now.slot; reached = now.reached }) v0 v1) c.self.view_is
    (subst (λ (h : FilesHeld). Flips c.args.reached.items f h v0 v1) (sym here) (flips f v0 v1 c.in_ok-flip.ensures.told c.args.reached.items c.in_ok-flip.ensures.selected))
