-- What follows where a statement names tables that are there.
use Rattle.std.proofs.Common.{ℕ, ◌≡◌, Bool, true, false, List, length, Option, None, Some, refl, sym, ap, ◌∙◌, arith, unwrap_or, IsTrue, slice_get}
use Rattle.std.proofs.lemmas.List.{length-map}
use Rattle.ut_value.specs.Text.{same_bytes}
use Rattle.ut_value.specs.declared.value.Column.{Column}
use Rattle.ut_plain.specs.declared.table.Table.{Table}
use Rattle.ut_plain.specs.declared.statement.Statement.{Statement}
use Rattle.ut_plain.specs.declared.reply.Refusal.{Refusal}
use Rattle.ut_plain.specs.declared.reply.Refusal.TheVariants.{Name}
use Rattle.ut_plain.specs.Names.{names_known}
use Rattle.ut_plain.specs.Refusals.{unless, or_else}
use Rattle.ut_plain.specs.Plain.{Plain}
use Rattle.ut_plain.specs.View.{view}
use Rattle.ut_plain.specs.Tables.{place_of, place_in}
use Rattle.ut_plain.proofs.ListLemmas.{position_below}
use Rattle.ut_staged.proofs.ListLemmas.{get-there}
use Rattle.ut_store.specs.Held.{Held}
use Rattle.ut_store.specs.Stands.{StandsFor}
use Rattle.ut_store.specs.Standing.{Stands}
use Rattle.ut_store.specs.Early.{early_refusal}
use Rattle.ut_staged.specs.Staged.{Staged}

-- a statement that passes has names that are known
pub named : (e : Held) (session : ℕ) (st : Statement) → early_refusal e session st ≡ None → IsTrue (names_known e.rows.tables st)
named e session st h = by (names_known e.rows.tables st) _ h
  where
    by : (a : Bool) (r : Option Refusal) → or_else (unless a Name) r ≡ None → IsTrue a
    by true r h = refl
    by false r h = cc

-- each table has its stages
pub staged_count : (e : Held) → Stands e → length e.rows.staged ≡ length e.rows.tables
staged_count e st = sym (length-map e.rows.staged (λ (s : Staged). s.columns)) ∙ ap (λ (cs : List (List Column)). length cs) st.stands.rows.columns ∙ length-map e.rows.tables (λ (t : Table). t.columns)

-- the place of a name is the plain one
pub place-is : (e : Held) (session : ℕ) (name : List ℕ) (place : ℕ) → place_of e.rows.tables name ≡ Some place → (p : Plain) → StandsFor e p → place_in (view p session).tables name ≡ place
place-is e session name place is p s = ap (λ (ts : List Table). place_in ts name) (sym s.counts.tables) ∙ ap (λ (o : Option ℕ). unwrap_or o 0) is

-- the stages of a name's table
pub named_table : (e : Held) (name : List ℕ) (place : ℕ) → Stands e → place_of e.rows.tables name ≡ Some place → (s : Staged) × (slice_get e.rows.staged place ≡ Some s)
named_table e name place st is =
    let below = position_below (λ (table : Table). same_bytes table.name name) e.rows.tables place is in
    get-there e.rows.staged place (omega (arith, below, staged_count e st))
