-- From which question a resolved one comes, and which rows it selects.
use Rattle.std.proofs.Common.{ℕ, ◌≡◌, List, [], Option, Some, refl, sym, ap, ◌∙◌}
use Rattle.ut_plain.specs.declared.table.Table.{Table}
use Rattle.ut_plain.specs.declared.statement.Pred.{Pred}
use Rattle.ut_plain.specs.declared.statement.Query.{Query}
use Rattle.ut_plain.specs.declared.statement.Query.TheVariants as queries
use Rattle.ut_names.specs.declared.resolved.Columns.{Columns}
use Rattle.ut_names.specs.declared.resolved.End.{End}
use Rattle.ut_names.specs.declared.resolved.Question.TheVariants as questions
use Rattle.ut_names.specs.declared.resolved.Selection.{Selection}
use Rattle.ut_plain.specs.Tables.{columns_in, place_of}
use Rattle.ut_names.specs.Resolved.{AreColumns, IsColumn, IsQuestion, IsSelection, best_of}
use Rattle.ut_query.specs.Tells.{IsAsked, IsSelected}

-- ---- a question resolved comes from one of its kind

pub of_select : (tables : List Table) (q : Query) (rows : Selection) (columns : Columns) → IsQuestion tables q (questions.Select rows columns)
    → (name : List ℕ) × (names : Option (List (List ℕ))) × (preds : List Pred) × (q ≡ queries.Select name names preds) × IsSelection tables name preds rows × AreColumns (columns_in tables name) names columns
of_select tables (queries.Select name names preds) rows columns h = (name, names, preds, refl, h.0, h.1)
of_select tables _ rows columns h = absurd h

pub of_count : (tables : List Table) (q : Query) (rows : Selection) → IsQuestion tables q (questions.Count rows) → (name : List ℕ) × (preds : List Pred) × (q ≡ queries.Count name preds) × IsSelection tables name preds rows
of_count tables (queries.Count name preds) rows h = (name, preds, refl, h)
of_count tables _ rows h = absurd h

pub of_sum : (tables : List Table) (q : Query) (rows : Selection) (place : ℕ) → IsQuestion tables q (questions.Sum rows place)
    → (name column : List ℕ) × (preds : List Pred) × (q ≡ queries.Sum name column preds) × IsSelection tables name preds rows × IsColumn tables name column place
of_sum tables (queries.Sum name column preds) rows place h = (name, column, preds, refl, h.0, h.1)
of_sum tables _ rows place h = absurd h

pub of_extreme : (tables : List Table) (q : Query) (rows : Selection) (place : ℕ) (end : End) → IsQuestion tables q (questions.Extreme rows place end)
    → (name column : List ℕ) × (preds : List Pred) × (q ≡ best_of end name column preds) × IsSelection tables name preds rows × IsColumn tables name column place
of_extreme tables (queries.Min name column preds) rows place end h = (name, column, preds, (λ i. best_of (sym h.0 i) name column preds), h.1, h.2)
of_extreme tables (queries.Max name column preds) rows place end h = (name, column, preds, (λ i. best_of (sym h.0 i) name column preds), h.1, h.2)
of_extreme tables _ rows place end h = absurd h

pub of_group : (tables : List Table) (q : Query) (rows : Selection) (k s : ℕ) → IsQuestion tables q (questions.Group rows k s)
    → (name key sum : List ℕ) × (preds : List Pred) × (q ≡ queries.Group name key sum preds) × IsSelection tables name preds rows × IsColumn tables name key k × IsColumn tables name sum s
of_group tables (queries.Group name key sum preds) rows k s h = (name, key, sum, preds, refl, h.0, h.1, h.2)
of_group tables _ rows k s h = absurd h

pub of_join : (tables : List Table) (q : Query) (l i r j : ℕ) → IsQuestion tables q (questions.Join l i r j)
    → (left c right d : List ℕ) × (q ≡ queries.Join left c right d) × (place_of tables left ≡ Some l) × IsColumn tables left c i × (place_of tables right ≡ Some r) × IsColumn tables right d j
of_join tables (queries.Join left c right d) l i r j h = (left, c, right, d, refl, h.0, h.1, h.2, h.3)
of_join tables _ l i r j h = absurd h

-- ---- a column of a selection

-- all rows of a table meet no comparison
pub all_are : (tables : List Table) (name : List ℕ) (rows : Selection) → place_of tables name ≡ Some rows.table → rows.preds.items ≡ [] → IsSelection tables name [] rows
all_are tables name rows at none = record { table = at; preds = record { known = refl; fit = refl; rules = record { each = refl }; are = none } }

-- ---- the selection of a question

pub selected_select : (tables : List Table) (rows : Selection) (columns : Columns) → IsAsked tables (questions.Select rows columns) → IsSelected tables rows
selected_select tables rows columns a = let f = of_select tables a.query rows columns a.resolves.is in record { name = f.0; asked = f.2; is = f.4 }

pub selected_sum : (tables : List Table) (rows : Selection) (place : ℕ) → IsAsked tables (questions.Sum rows place) → IsSelected tables rows
selected_sum tables rows place a = let f = of_sum tables a.query rows place a.resolves.is in record { name = f.0; asked = f.2; is = f.4 }

pub selected_extreme : (tables : List Table) (rows : Selection) (place : ℕ) (end : End) → IsAsked tables (questions.Extreme rows place end) → IsSelected tables rows
selected_extreme tables rows place end a = let f = of_extreme tables a.query rows place end a.resolves.is in record { name = f.0; asked = f.2; is = f.4 }

pub selected_group : (tables : List Table) (rows : Selection) (k s : ℕ) → IsAsked tables (questions.Group rows k s) → IsSelected tables rows
selected_group tables rows k s a = let f = of_group tables a.query rows k s a.resolves.is in record { name = f.0; asked = f.3; is = f.5 }

-- all rows of a table, for a join
pub selected_all : (tables : List Table) (name : List ℕ) (rows : Selection) → place_of tables name ≡ Some rows.table → rows.preds.items ≡ [] → IsSelected tables rows
selected_all tables name rows at none = record { name = name; asked = []; is = all_are tables name rows at none }

pub selected_left : (tables : List Table) (l i r j : ℕ) (rows : Selection) → IsAsked tables (questions.Join l i r j) → rows.table ≡ l → rows.preds.items ≡ [] → IsSelected tables rows
selected_left tables l i r j rows a at none = let f = of_join tables a.query l i r j a.resolves.is in selected_all tables f.0 rows (f.5 ∙ ap Some (sym at)) none

pub selected_right : (tables : List Table) (l i r j : ℕ) (rows : Selection) → IsAsked tables (questions.Join l i r j) → rows.table ≡ r → rows.preds.items ≡ [] → IsSelected tables rows
selected_right tables l i r j rows a at none = let f = of_join tables a.query l i r j a.resolves.is in selected_all tables f.2 rows (f.7 ∙ ap Some (sym at)) none
