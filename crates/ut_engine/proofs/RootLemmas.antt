-- The calls by which the root of a savepoint is written and selected.
use Rattle.std.proofs.Common.{◌≡◌, ℕ, List, Option, None, Some, sym, ◌∙◌, ap, subst}
use Rattle.std.specs.Option.{option_map}
use Rattle.ut_outside.specs.declared.disk.Which.{Which}
use Rattle.ut_outside.specs.Disk.{View}
use Rattle.ut_pages.specs.declared.root.Root.{Root}
use Rattle.ut_pages.specs.Layout.{other}
use Rattle.ut_durable.specs.Calls.{FilesHeld, IsSettled, BecomesReady, Flips, MayFlip}
use Rattle.ut_durable.specs.Journals.{log_file}
use Rattle.ut_durable.specs.Saving.{Saving}
use Rattle.ut_durable.proofs.CallLemmas.{settled}
use Rattle.ut_engine.specs.Logged.{Logged}
use Rattle.ut_engine.specs.Saves.{with_root, Seals, MaySelect, SelectsRoot}

same_one : (s x : Saving) → Some s ≡ Some x → s ≡ x
same_one s x is = cc

-- ---- it is written

pub sealed_root : (old : Logged) (before after : View) (s t : Saving) (files : FilesHeld) (root : Root) → old.saving ≡ Some s → root ≡ s.root → t ≡ with_root s → files ≡ old.files → BecomesReady root old.files before after
    → Seals old before (record old { files = files; saving = Some t }) after
sealed_root old before after s t files root is of wrote kept ready = record {
  same = (λ i. record old { files = kept i; saving = Some (wrote i) }) ∙ ap (λ (o : Option Saving). record old { saving = option_map with_root o }) (sym is);
  ready = λ x at. subst (λ (r : Root). BecomesReady r old.files before after) (of ∙ ap (λ (y : Saving). y.root) (same_one s x (sym is ∙ at))) ready;
}

-- ---- it is selected

pub select_settled : (e : Logged) (disk : View) → MaySelect e disk → IsSettled e.files disk
select_settled e disk may = settled may.journal may.selected may.directory e.files disk may.stored.rests

pub selected_root : (old : Logged) (before after : View) (s : Saving) (entries : ℕ) (files : FilesHeld) (reached : List ℕ) (begins : Which) → old.saving ≡ Some s → entries ≡ s.root.length → reached ≡ s.reached → begins ≡ log_file s.root.file
    → files ≡ record old.files { slot = other old.files.slot; reached = reached } → Flips reached old.files files before after
    → (x : Saving) → old.saving ≡ Some x → SelectsRoot x old before entries (record old { files = files; begins = begins; saving = None }) after
selected_root old before after s entries files reached begins is many pages from moved flips x at =
    subst (λ (y : Saving). SelectsRoot y old before entries (record old { files = files; begins = begins; saving = None }) after) (same_one s x (sym is ∙ at)) (record {
      entries_of = many;
      same = λ i. record old { files = (moved ∙ ap (λ (l : List ℕ). record old.files { slot = other old.files.slot; reached = l }) pages) i; begins = from i; saving = None };
      flips = subst (λ (l : List ℕ). Flips l old.files files before after) pages flips;
    })

pub may_select_root : (old : Logged) (before after : View) (s : Saving) (reached : List ℕ) → old.saving ≡ Some s → reached ≡ s.reached → MayFlip reached old.files before after → (x : Saving) → old.saving ≡ Some x → MayFlip x.reached old.files before after
may_select_root old before after s reached is pages may x at =
    subst (λ (l : List ℕ). MayFlip l old.files before after) (pages ∙ ap (λ (y : Saving). y.reached) (same_one s x (sym is ∙ at))) may
