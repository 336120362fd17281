-- What is due to the merger, by the merge that is pending and by the table that was found.
use Rattle.std.proofs.Common.{ℕ, ◌≡◌, ◌+◌, Bool, true, false, cond, Option, None, Some, refl, ap, ◌∙◌, sym}
use Rattle.std.specs.Prelude.{is_some}
use Rattle.ut_outside.specs.Disk.{View}
use Rattle.ut_plain.specs.declared.statement.Statement.{Statement}
use Rattle.ut_plain.specs.declared.statement.Statement.TheVariants.{MergeL1, MergeBegin}
use Rattle.ut_plain.specs.Journal.{current}
use Rattle.ut_plain.specs.Plain.{Plain}
use Rattle.ut_store.specs.Stands.{StandsFor}
use Rattle.ut_engine.specs.Logged.{Logged}
use Rattle.ut_engine.specs.Runs.{Runs}
use Rattle.ut_crowd.specs.declared.merger.Ripe.{Ripe}
use Rattle.ut_crowd.specs.declared.merger.Ripe.TheVariants.{First, Second}
use Rattle.ut_crowd.specs.Asking.{first_full, second_full, kind_of_merge, merge_due, merge_of, table_at}
use Rattle.ut_crowd.specs.Keepers.{IsMergeDue, unless_waiting}
use Rattle.ut_crowd.specs.Ripe.{ripe_of}

-- the merge of a table that was found
abbrev merge_at : ℕ → Plain → Option Ripe → Option Statement
merge_at l1 p None = None
merge_at l1 p (Some (First place)) = Some (MergeL1 (table_at p place) l1)
merge_at l1 p (Some (Second place)) = Some (MergeBegin (table_at p place) (kind_of_merge ((current p.journal).merges + 1)))

merge_found : (l1 : ℕ) (p : Plain) (first second : Option ℕ) → merge_of l1 p first second ≡ merge_at l1 p (ripe_of first second)
merge_found l1 p (Some place) second = refl
merge_found l1 p None (Some place) = refl
merge_found l1 p None None = refl

none_waits : (w : Bool) → unless_waiting w None ≡ None
none_waits true = refl
none_waits false = refl

module _ (l1 : ℕ) (store : Logged) (disk : View) where
  due_if : (b : Bool) → is_some store.store.counts.pending ≡ b → (p : Plain) → Runs store disk p → merge_due l1 p ≡ cond b None (merge_of l1 p (first_full l1 p.stages) (second_full l1 p.stages))
  due_if b held p runs = ap (λ (x : Bool). cond x None (merge_of l1 p (first_full l1 p.stages) (second_full l1 p.stages))) (ap is_some (sym runs.stands.counts.pending) ∙ held)

  -- nothing, while one is pending
  pub nothing_due : (w : Bool) → is_some store.store.counts.pending ≡ true → IsMergeDue l1 w store disk None
  nothing_due w held p runs = ap (unless_waiting w) (due_if true held p runs) ∙ none_waits w

  module _ (ripe : Option Ripe) (free : is_some store.store.counts.pending ≡ false) (found : (p : Plain) → StandsFor store.store p → ripe ≡ ripe_of (first_full l1 p.stages) (second_full l1 p.stages)) where
    due_at : (o : Option Ripe) → ripe ≡ o → (p : Plain) → Runs store disk p → merge_due l1 p ≡ merge_at l1 p o
    due_at o is p runs = due_if false free p runs ∙ merge_found l1 p (first_full l1 p.stages) (second_full l1 p.stages) ∙ ap (merge_at l1 p) (sym (found p runs.stands) ∙ is)

    pub none_due : (w : Bool) → ripe ≡ None → IsMergeDue l1 w store disk None
    none_due w is p runs = ap (unless_waiting w) (due_at None is p runs) ∙ none_waits w

    pub first_due : (place : ℕ) → ripe ≡ Some (First place) → (p : Plain) → Runs store disk p → merge_due l1 p ≡ Some (MergeL1 (table_at p place) l1)
    first_due place is p runs = due_at (Some (First place)) is p runs

    pub second_due : (place : ℕ) → ripe ≡ Some (Second place) → (p : Plain) → Runs store disk p → merge_due l1 p ≡ Some (MergeBegin (table_at p place) (kind_of_merge (store.store.counts.merges + 1)))
    second_due place is p runs = due_at (Some (Second place)) is p runs ∙ ap (λ n. Some (MergeBegin (table_at p place) (kind_of_merge (n + 1)))) (sym runs.stands.counts.merges)

    -- a merge into main waits for a savepoint that waits
    pub second_held : (w : Bool) (place : ℕ) → ripe ≡ Some (Second place) → w ≡ true → IsMergeDue l1 w store disk None
    second_held w place is waits p runs = ap (λ (b : Bool). unless_waiting b (merge_due l1 p)) waits ∙ ap (unless_waiting true) (due_at (Some (Second place)) is p runs)
