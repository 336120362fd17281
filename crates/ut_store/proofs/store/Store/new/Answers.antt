use Rattle.std.proofs.Common.{◌≡◌, ℕ, [], map, refl, ◌∙◌, ap}
use Rattle.std.proofs.lemmas.Result.{IfOk-weaker}
use Rattle.ut_plain.specs.Capture.{Directory}
use Rattle.ut_plain.specs.Plain.{Plain, no_image, new_store}
use Rattle.ut_table.specs.Contents.{TableValue}
use Rattle.ut_tables.specs.declared.restored.Restored.{Restored}
use Rattle.ut_tables.specs.Rows.{restored}
use Rattle.ut_tables.specs.Standing.{Opens}
use Rattle.ut_store.specs.Stands.{StandsFor}
use Rattle.ut_store.proofs.RestoredLemmas.{opens_new}
use Rattle.ut_store.proofs.store.Store.new.Goals as goal

pub returns : goal.returns
returns c =
    let nothing : Restored = record { rows = c.in_ok-rows.rows; next_id = 1; commits = 0; merges = 0; entries = 0 } in
    let staged : map (λ (t : TableValue). t.stages) c.new-2.result.items ≡ [] = ap (map (λ (t : TableValue). t.stages)) c.new-2.ensures.items in
    let same : nothing.rows.rows ≡ restored [] [] = c.in_ok-rows.ensures ∙ (λ i. restored (c.new.ensures.items i) (staged i)) in
    IfOk-weaker c.restored-2.result (λ e. (p : Plain) → Opens nothing p → p.rows_limit ≡ c.args.rows_limit → StandsFor e p) (λ e. (image_pages : Directory → ℕ) → StandsFor e (new_store (no_image image_pages) c.args.rows_limit))
    (λ e each image_pages. each (new_store (no_image image_pages) c.args.rows_limit) (opens_new nothing image_pages c.args.rows_limit c.requires same refl refl refl refl) refl)
    c.restored-2.ensures
