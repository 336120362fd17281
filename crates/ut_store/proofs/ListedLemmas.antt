-- The rows that are listed are those of the journal.
use Rattle.std.proofs.Common.{ℕ, ◌<◌, ◌≡◌, Bool, true, cond, List, [], ◌∷◌, filter, length, map, Option, None, Some, refl, sym, ap, ◌∙◌, subst, arith, slice_get, unwrap_or}
use Rattle.std.proofs.lemmas.List.Elements.{All-nil}
use Rattle.std.specs.Option.{option_map}
use Rattle.std.specs.FinMap as finmap
use Rattle.ut_value.specs.declared.value.Row.{Row}
use Rattle.ut_plain.specs.declared.table.Table.{Table}
use Rattle.ut_plain.specs.declared.table.Stored.{Stored}
use Rattle.ut_plain.specs.declared.transaction.OpenTransaction.{OpenTransaction}
use Rattle.ut_plain.specs.Condition.{meets, found}
use Rattle.ut_plain.specs.Journal.{current}
use Rattle.ut_plain.specs.Plain.{Plain, seen_by}
use Rattle.ut_plain.specs.Rows.{table_rows}
use Rattle.ut_plain.specs.Tables.{place_of, place_in, columns_in}
use Rattle.ut_plain.specs.View.{view}
use Rattle.ut_scan.specs.declared.place.Found.{Found}
use Rattle.ut_exact.specs.Places.{StagedRow}
use Rattle.ut_exact.specs.Scan.{stored_in}
use Rattle.ut_staged.specs.Staged.{Staged, row_at}
use Rattle.ut_table.specs.Finds.{hits_of}
use Rattle.ut_store.specs.Held.{Held}
use Rattle.ut_store.specs.Reads.{looks_at, own_at}
use Rattle.ut_store.specs.Hits.{Hits, plain_rows}
use Rattle.ut_key.specs.declared.comparison.ColumnPred.{ColumnPred}
use Rattle.ut_store.specs.Changes.{CanLook}
use Rattle.ut_store.proofs.NamedLemmas.{named_table}
use Rattle.ut_store.proofs.SearchLemmas.{seen_once}
use Rattle.ut_tables.specs.Finds.{ListsSeen, row_of, row_in}
use Rattle.ut_store.specs.Listed.{listed, Lists}
use Rattle.ut_store.specs.Stands.{StandsFor}
use Rattle.ut_store.specs.Standing.{Stands}
use Rattle.ut_store.proofs.HitLemmas.{found-is}
use Rattle.ut_staged.specs.Tables.{place_at}
use Rattle.ut_staged.proofs.TableLemmas.{here}

-- ---- what is listed

rows_same : (e : Held) (n : ℕ) (s : Staged) (found : List Found) → slice_get e.rows.staged n ≡ Some s → map (row_in s) found ≡ map row_of (plain_rows e n (hits_of found))
rows_same e n s [] is = refl
rows_same e n s (f ∷ fs) is = (λ i. row_same (row_at s f.place) (place_at e.rows.staged n f.place) (sym (here e.rows.staged n s f.place is)) i ∷ rows_same e n s fs is i)
  where
    alike : (o : Option StagedRow) → row_of (f.id, stored_in 0 o) ≡ row_of (f.id, stored_in n o)
    alike None = refl
    alike (Some row) = refl

    row_same : (o q : Option StagedRow) → o ≡ q → row_of (f.id, stored_in 0 o) ≡ row_of (f.id, stored_in n q)
    row_same o q same = alike o ∙ ap (λ x. row_of (f.id, stored_in n x)) same

-- no comparison: all rows
all_pass : (test : ℕ × Stored → Bool) (rows : List (ℕ × Stored)) → ((e : ℕ × Stored) → test e ≡ true) → filter test rows ≡ rows
all_pass test [] h = refl
all_pass test (e ∷ es) h = (λ i. cond (h e i) (e ∷ filter test es) (filter test es)) ∙ ap (λ (xs : List (ℕ × Stored)). e ∷ xs) (all_pass test es h)

-- the look for all rows of a table
pub all_look : (e : Held) (name : List ℕ) (n : ℕ) → Stands e → place_of e.rows.tables name ≡ Some n → CanLook e 0 n []
all_look e name n st at =
    let t = named_table e name n st at in
    record { table = t.0; at = t.1; has = record { columns = All-nil (λ (p : ColumnPred). p.column < length t.0.columns); once = seen_once e st.plain 0 n t.0 st.stands t.1 } }

-- the place of a name, the other way
pub hits_named : (e : Held) (name : List ℕ) (n : ℕ) (found : List Found) → place_of e.rows.tables name ≡ Some n → Hits e 0 n (meets (columns_in e.rows.tables name) []) (hits_of found) → Hits e 0 (place_in e.rows.tables name) (meets (columns_in e.rows.tables name) []) (hits_of found)
hits_named e name n found at h = subst (λ (k : ℕ). Hits e 0 k (meets (columns_in e.rows.tables name) []) (hits_of found)) (sym (ap (λ (o : Option ℕ). unwrap_or o 0) at)) h

pub hits_in : (e : Held) (name : List ℕ) (n : ℕ) (found : List Found) → place_of e.rows.tables name ≡ Some n → Hits e 0 (place_in e.rows.tables name) (meets (columns_in e.rows.tables name) []) (hits_of found) → Hits e 0 n (meets (columns_in e.rows.tables name) []) (hits_of found)
hits_in e name n found at h = subst (λ (k : ℕ). Hits e 0 k (meets (columns_in e.rows.tables name) []) (hits_of found)) (ap (λ (o : Option ℕ). unwrap_or o 0) at) h

pub lists_some : (e : Held) (name : List ℕ) (n : ℕ) (s : Staged) (found : List Found) → Stands e → place_of e.rows.tables name ≡ Some n → slice_get e.rows.staged n ≡ Some s
    → Hits e 0 (place_in e.rows.tables name) (meets (columns_in e.rows.tables name) []) (hits_of found) → Lists e name (Some (map (row_in s) found))
lists_some e name n s rows st at is h = record { each = λ p stands. by p stands }
  where
    by : (p : Plain) → StandsFor e p → Some (map (row_in s) rows) ≡ listed (current p.journal) name
    by p stands =
        let tables : e.rows.tables ≡ (current p.journal).tables = stands.counts.tables in
        let placed : place_of (current p.journal).tables name ≡ Some n = ap (λ (ts : List Table). place_of ts name) (sym tables) ∙ at in
        let seen : (view p 0).rows ≡ finmap.entries (current p.journal).rows = ap (λ (t : Option OpenTransaction). finmap.entries (seen_by p.journal t)) stands.seats.nobody in
        let hits : Hits e 0 n (meets (columns_in (current p.journal).tables name) []) (hits_of rows) = subst (λ (ts : List Table). Hits e 0 n (meets (columns_in ts name) []) (hits_of rows)) tables (hits_in e name n rows at h) in
        let is_found = found-is e p 0 n name [] (hits_of rows) (omega arith) stands (ap (λ (o : Option ℕ). unwrap_or o 0) placed) hits in
        let all : found (view p 0).tables (view p 0).rows name [] ≡ table_rows n (finmap.entries (current p.journal).rows) =
        all_pass (λ (x : ℕ × Stored). meets (columns_in (current p.journal).tables name) [] x.1.values) (table_rows (place_in (current p.journal).tables name) (view p 0).rows) (λ x. refl)
        ∙ (λ i. table_rows (unwrap_or (placed i) 0) (seen i)) in
        (λ i. Some (rows_same e n s rows is i)) ∙ (λ i. Some (map row_of (sym is_found i))) ∙ (λ i. Some (map row_of (all i)))
        ∙ ap (option_map (λ (k : ℕ). map row_of (table_rows k (finmap.entries (current p.journal).rows)))) (sym placed)

pub lists_rows : (e : Held) (name : List ℕ) (n : ℕ) (s : Staged) (found : List Found) (rows : List Row) → Stands e → place_of e.rows.tables name ≡ Some n → slice_get e.rows.staged n ≡ Some s
    → Hits e 0 (place_in e.rows.tables name) (meets (columns_in e.rows.tables name) []) (hits_of found) → rows ≡ map (row_in s) found → Lists e name (Some rows)
lists_rows e name n s found rows st at is h are = subst (λ (x : List Row). Lists e name (Some x)) (sym are) (lists_some e name n s found st at is h)

-- what the rows list is what the journal has
pub lists_seen : (e : Held) (name : List ℕ) (rows : Option (List Row)) → Stands e → ListsSeen e.rows (looks_at e 0) (own_at e 0) name rows → Lists e name rows
lists_seen e name None st none = record { each = λ p s. sym (ap (option_map (λ (n : ℕ). map row_of (table_rows n (finmap.entries (current p.journal).rows)))) none) ∙ ap (λ (ts : List Table). option_map (λ (n : ℕ). map row_of (table_rows n (finmap.entries (current p.journal).rows))) (place_of ts name)) s.counts.tables }
lists_seen e name (Some rows) st l = lists_rows e name l.place l.table l.found rows st l.named l.at (hits_named e name l.place l.found l.named l.hits) l.rows_are
