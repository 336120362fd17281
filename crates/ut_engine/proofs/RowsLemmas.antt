-- There are rows of a table exactly where there is such a table.
use Rattle.std.proofs.Common.{◌≡◌, ℕ, List, Option, None, Some, is_some, refl, sym, ◌∙◌, ap}
use Rattle.std.specs.Option.{option_map}
use Rattle.ut_value.specs.declared.value.Row.{Row}
use Rattle.ut_plain.specs.declared.table.Table.{Table}
use Rattle.ut_plain.specs.Journal.{current}
use Rattle.ut_plain.specs.Names.{has_table}
use Rattle.ut_plain.specs.Tables.{place_of}
use Rattle.ut_store.specs.Held.{Held}
use Rattle.ut_store.specs.Listed.{Lists}
use Rattle.ut_store.specs.Standing.{Stands}

some_mapped : {X Y : Type 0} (f : X → Y) (o : Option X) → is_some (option_map f o) ≡ is_some o
some_mapped f None = refl
some_mapped f (Some x) = refl

pub listed_there : (e : Held) (name : List ℕ) (rows : Option (List Row)) → Stands e → Lists e name rows → is_some rows ≡ has_table e.rows.tables name
listed_there e name rows stands lists =
    let p = stands.plain in
    ap is_some (lists.each p stands.stands)
    ∙ some_mapped _ (place_of (current p.journal).tables name)
    ∙ ap (λ (ts : List Table). has_table ts name) (sym stands.stands.counts.tables)
