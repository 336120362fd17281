-- The statements that change rows come to their changes.
use Rattle.std.proofs.Common.{◌≡◌, ℕ, ◌<◌, ◌≤◌, Bool, true, false, ◌&&◌, ◌||◌, nat_eq, nat_le, List, [], ◌∷◌, length, Option, None, refl, sym, ap, ◌∙◌, subst, arith, IsTrue, leb-true}
use Rattle.std.specs.Option.{option_map, is_some}
use Rattle.std.specs.FinMap as finmap
use Rattle.ut_value.specs.declared.value.Value.{Value}
use Rattle.ut_value.specs.declared.value.Column.{Column}
use Rattle.ut_value.specs.declared.entry.Op.{Op}
use Rattle.ut_value.specs.Spelling.{is_count, names_differ, are_columns}
use Rattle.ut_plain.specs.declared.table.Table.{Table}
use Rattle.ut_plain.specs.declared.table.Stored.{Stored}
use Rattle.ut_plain.specs.declared.statement.Pred.{Pred}
use Rattle.ut_plain.specs.declared.statement.Statement.{Statement}
use Rattle.ut_plain.specs.declared.statement.Statement.TheVariants.{Insert, Bulk, Update, Delete}
use Rattle.ut_plain.specs.declared.reply.Reply.{Reply}
use Rattle.ut_plain.specs.declared.reply.Refusal.{Refusal}
use Rattle.ut_plain.specs.declared.reply.Refusal.TheVariants as refusals
use Rattle.ut_plain.specs.Tables.{place_in, columns_in}
use Rattle.ut_plain.specs.Rows.{table_rows, inserts_of}
use Rattle.ut_plain.specs.Condition.{found, meets}
use Rattle.ut_plain.specs.Journal.{current}
use Rattle.ut_plain.specs.Plain.{Plain, seen, is_taken}
use Rattle.ut_plain.specs.View.{View, view}
use Rattle.ut_plain.specs.Names.{names_known}
use Rattle.ut_plain.specs.Made.{rows_of, inserts, updates, deletes_all, changed_value}
use Rattle.ut_plain.specs.Limits.{has_ids, has_entry_room, has_journal_room, has_ops_room}
use Rattle.ut_plain.specs.Refusals.{unless, or_else, first_taken}
use Rattle.ut_plain.specs.Step.{step}
use Rattle.ut_plain.proofs.BoolLemmas.{and_left}
use Rattle.ut_plain.proofs.StateLaws.{IsState-current}
use Rattle.ut_plain.proofs.TableLemmas.{there}
use Rattle.ut_plain.proofs.PassedLemmas.{IsTable, table_is}
use Rattle.ut_plain.proofs.MadeLemmas.{inserts_of-inserts, inserts_of-updates}
use Rattle.check_rows.specs.declared.known.Known.{Known}
use Rattle.check_oracle.specs.Store.{Gives, IsSight, Allowed, refuses, change_by, change_step}
use Rattle.check_rows.proofs.FilterLemmas.{length-filter_le}
use Rattle.check_oracle.proofs.StepLemmas.{makes_same, insert_makes, bulk_makes, update_makes, delete_makes, gives_change}

-- ---- what an allowed statement has passed

name_passed : (names : Bool) (rest : Option Refusal) → or_else (unless names refusals.Name) rest ≡ None → names ≡ true
name_passed true rest h = refl
name_passed false rest h = cc

pub names_passed : (p : Plain) (sight : Known) (session : ℕ) (st : Statement) → Allowed p sight session st → names_known (current p.journal).tables st ≡ true
names_passed p sight session st h = name_passed (names_known (current p.journal).tables st) _ h.clear

pub few_tables : (p : Plain) (sight : Known) (session : ℕ) (st : Statement) → Allowed p sight session st → length sight.tables.items ≤ 256
few_tables p sight session st h =
    let s = IsState-current p.journal h.plain.base h.plain.journal in
    let few : length (current p.journal).tables ≤ 256 = s.few in
    omega (arith, few, ap length h.sees.tables)

some_columns : (cs : List Column) → IsTrue (are_columns cs) → 0 < length cs
some_columns cs h = let one : 1 ≤ length cs = leb-true 1 (length cs) (and_left (nat_le 1 (length cs)) (nat_le (length cs) 64) (and_left (is_count 64 (length cs)) _ (and_left _ (names_differ cs) h))) in omega (arith, one)

-- a table that rows are loaded into has columns
pub bulk_width : (p : Plain) (sight : Known) (session : ℕ) (name : List ℕ) (values : List Value) (ts : List Table) (n : List ℕ) → Allowed p sight session (Bulk name values) → ts ≡ sight.tables.items → n ≡ name → 0 < length (columns_in ts n)
bulk_width p sight session name values ts n h t e =
    let is : IsTable (current p.journal).tables name = table_is p name h.plain (there (current p.journal).tables name (names_passed p sight session (Bulk name values) h)) in
    let some = some_columns (columns_in (current p.journal).tables name) is.columns in
    let same : columns_in ts n ≡ columns_in (current p.journal).tables name = ap (λ ts. columns_in ts n) (t ∙ h.sees.tables) ∙ ap (columns_in (current p.journal).tables) e in
    omega (arith, some, ap length same)

pub length-found : (ts : List Table) (rows : List (ℕ × Stored)) (name : List ℕ) (preds : List Pred) → length (found ts rows name preds) ≤ length rows
length-found ts rows name preds =
    let inner = length-filter_le (λ (e : ℕ × Stored). nat_eq e.1.table (place_in ts name)) rows in
    let outer = length-filter_le (λ (e : ℕ × Stored). meets (columns_in ts name) preds e.1.values) (table_rows (place_in ts name) rows) in
    omega (arith, inner, outer)

-- ---- ids that are wanting

no_room : (v : View) (os : List Op) → has_ids v (inserts_of os) ≡ false → has_ops_room v os ≡ false
no_room v [] h = cc
no_room v (op ∷ os) h = ap (λ b. b && has_entry_room v (op ∷ os) && (is_some v.own || has_journal_room v)) h

-- a change for which ids are wanting is refused
no_ids : (p : Plain) (session : ℕ) (bulk : Bool) (os : List Op) (rows : ℕ) (taken : Option ℕ) → has_ids (view p session) (inserts_of os) ≡ false → change_step p session bulk os rows taken ≡ refuses p refusals.Full
no_ids p session bulk os rows taken h = ap (λ b. change_by (or_else (unless b refusals.Full) (option_map refusals.Conflict taken)) p session bulk os rows) (no_room (view p session) os h)

gives_full : (p : Plain) (session : ℕ) (bulk : Bool) (os : List Op) (rows : ℕ) (taken : Option ℕ) (reply : Reply) (q : Plain) → has_ids (view p session) (inserts_of os) ≡ false → Gives (refuses p refusals.Full) reply q → Gives (change_step p session bulk os rows taken) reply q
gives_full p session bulk os rows taken reply q h g = subst (λ s. Gives s reply q) (sym (no_ids p session bulk os rows taken h)) g

-- ---- each statement

pub insert_gives : (p : Plain) (sight : Known) (session : ℕ) (name : List ℕ) (values : List Value) (ts : List Table) (n : List ℕ) (place : ℕ) (os : List Op) (reply : Reply) (q : Plain) → Allowed p sight session (Insert name values) → ts ≡ sight.tables.items → n ≡ name → place ≡ place_in ts n
    → os ≡ inserts place p.next_id (values ∷ []) → Gives (change_step p session false os 1 None) reply q → Gives (step p session (Insert name values)) reply q
insert_gives p sight session name values ts n place os reply q h t e at is g =
    let here : place ≡ place_in (current p.journal).tables name = at ∙ ap (λ ts. place_in ts n) (t ∙ h.sees.tables) ∙ ap (place_in (current p.journal).tables) e in
    let same : os ≡ inserts (place_in (current p.journal).tables name) p.next_id (values ∷ []) = is ∙ ap (λ place. inserts place p.next_id (values ∷ [])) here in
    gives_change p sight session (Insert name values) false os 1 None reply q h (makes_same p session (Insert name values) false _ os 1 1 None None same refl refl (insert_makes p session name values)) g

-- the rows that are loaded, in the words of the statement
rows_are : (p : Plain) (sight : Known) (session : ℕ) (name : List ℕ) (values : List Value) (ts : List Table) (n : List ℕ) → Allowed p sight session (Bulk name values) → ts ≡ sight.tables.items → n ≡ name → rows_of (length (columns_in ts n)) values ≡ rows_of (length (columns_in (current p.journal).tables name)) values
rows_are p sight session name values ts n h t e = ap (λ cs. rows_of (length cs) values) (ap (λ ts. columns_in ts n) (t ∙ h.sees.tables) ∙ ap (columns_in (current p.journal).tables) e)

pub bulk_gives : (p : Plain) (sight : Known) (session : ℕ) (name : List ℕ) (values : List Value) (ts : List Table) (n : List ℕ) (place rows : ℕ) (os : List Op) (reply : Reply) (q : Plain) → Allowed p sight session (Bulk name values) → ts ≡ sight.tables.items → n ≡ name → place ≡ place_in ts n
    → rows ≡ length (rows_of (length (columns_in ts n)) values) → os ≡ inserts place p.next_id (rows_of (length (columns_in ts n)) values) → Gives (change_step p session true os rows None) reply q → Gives (step p session (Bulk name values)) reply q
bulk_gives p sight session name values ts n place rows os reply q h t e at count is g =
    let here : place ≡ place_in (current p.journal).tables name = at ∙ ap (λ ts. place_in ts n) (t ∙ h.sees.tables) ∙ ap (place_in (current p.journal).tables) e in
    let cut = rows_are p sight session name values ts n h t e in
    let same : os ≡ inserts (place_in (current p.journal).tables name) p.next_id (rows_of (length (columns_in (current p.journal).tables name)) values) = is ∙ ap (λ place. inserts place p.next_id (rows_of (length (columns_in ts n)) values)) here ∙ ap (inserts (place_in (current p.journal).tables name) p.next_id) cut in
    let many : rows ≡ length (rows_of (length (columns_in (current p.journal).tables name)) values) = count ∙ ap length cut in
    gives_change p sight session (Bulk name values) true os rows None reply q h
    (makes_same p session (Bulk name values) true _ os _ rows None None same many refl (bulk_makes p session name values)) g

pub bulk_full : (p : Plain) (sight : Known) (session : ℕ) (name : List ℕ) (values : List Value) (ts : List Table) (n : List ℕ) (rows : ℕ) (reply : Reply) (q : Plain) → Allowed p sight session (Bulk name values) → ts ≡ sight.tables.items → n ≡ name
    → rows ≡ length (rows_of (length (columns_in ts n)) values) → has_ids (view p session) rows ≡ false → Gives (refuses p refusals.Full) reply q → Gives (step p session (Bulk name values)) reply q
bulk_full p sight session name values ts n rows reply q h t e count lacks g =
    let news = rows_of (length (columns_in ts n)) values in
    let os = inserts (place_in ts n) p.next_id news in
    let many : inserts_of os ≡ rows = inserts_of-inserts (place_in ts n) p.next_id news ∙ sym count in
    bulk_gives p sight session name values ts n (place_in ts n) rows os reply q h t e refl count refl (gives_full p session true os rows None reply q (ap (has_ids (view p session)) many ∙ lacks) g)

-- the rows that a statement finds, in the words of the statement
found_are : (p : Plain) (sight : Known) (session : ℕ) (name n : List ℕ) (preds ps : List Pred) (ts : List Table) (rows : List (ℕ × Stored)) → IsSight sight p session → ts ≡ sight.tables.items → rows ≡ sight.rows.items → n ≡ name → ps ≡ preds
    → found ts rows n ps ≡ found (current p.journal).tables (finmap.entries (seen p session)) name preds
found_are p sight session name n preds ps ts rows s t r e f =
    ap (λ ts. found ts rows n ps) (t ∙ s.tables) ∙ ap (λ rows. found (current p.journal).tables rows n ps) (r ∙ s.rows) ∙ ap (λ n. found (current p.journal).tables (finmap.entries (seen p session)) n ps) e ∙ ap (found (current p.journal).tables (finmap.entries (seen p session)) name) f

pub delete_gives : (p : Plain) (sight : Known) (session : ℕ) (name n : List ℕ) (preds ps : List Pred) (ts : List Table) (seen_now hits : List (ℕ × Stored)) (place rows : ℕ) (taken : Option ℕ) (os : List Op) (reply : Reply) (q : Plain) → Allowed p sight session (Delete name preds)
    → ts ≡ sight.tables.items → seen_now ≡ sight.rows.items → n ≡ name → ps ≡ preds → hits ≡ found ts seen_now n ps → place ≡ place_in ts n → rows ≡ length hits → taken ≡ first_taken (is_taken p session) hits → os ≡ deletes_all place hits
    → Gives (change_step p session false os rows taken) reply q → Gives (step p session (Delete name preds)) reply q
delete_gives p sight session name n preds ps ts seen_now hits place rows taken os reply q h t r e f found_is at count first is g =
    let all : hits ≡ found (current p.journal).tables (finmap.entries (seen p session)) name preds = found_is ∙ found_are p sight session name n preds ps ts seen_now h.sees t r e f in
    let here : place ≡ place_in (current p.journal).tables name = at ∙ ap (λ ts. place_in ts n) (t ∙ h.sees.tables) ∙ ap (place_in (current p.journal).tables) e in
    let same : os ≡ deletes_all (place_in (current p.journal).tables name) (found (current p.journal).tables (finmap.entries (seen p session)) name preds) = is ∙ ap (λ place. deletes_all place hits) here ∙ ap (deletes_all (place_in (current p.journal).tables name)) all in
    let many : rows ≡ length (found (current p.journal).tables (finmap.entries (seen p session)) name preds) = count ∙ ap length all in
    let one : taken ≡ first_taken (is_taken p session) (found (current p.journal).tables (finmap.entries (seen p session)) name preds) = first ∙ ap (first_taken (is_taken p session)) all in
    gives_change p sight session (Delete name preds) false os rows taken reply q h
    (makes_same p session (Delete name preds) false _ os _ rows _ taken same many one (delete_makes p session name preds)) g

pub update_gives : (p : Plain) (sight : Known) (session : ℕ) (name n column c : List ℕ) (value : Value) (preds ps : List Pred) (ts : List Table) (columns : List Column) (seen_now hits : List (ℕ × Stored)) (place rows : ℕ) (taken : Option ℕ) (os : List Op) (reply : Reply) (q : Plain) → Allowed p sight session (Update name column value preds)
    → ts ≡ sight.tables.items → seen_now ≡ sight.rows.items → n ≡ name → c ≡ column → ps ≡ preds → hits ≡ found ts seen_now n ps → place ≡ place_in ts n → columns ≡ columns_in ts n → rows ≡ length hits → taken ≡ first_taken (is_taken p session) hits
    → os ≡ updates place p.next_id (changed_value columns c value) hits → Gives (change_step p session false os rows taken) reply q → Gives (step p session (Update name column value preds)) reply q
update_gives p sight session name n column c value preds ps ts columns seen_now hits place rows taken os reply q h t r e d f found_is at widths count first is g =
    let all : hits ≡ found (current p.journal).tables (finmap.entries (seen p session)) name preds = found_is ∙ found_are p sight session name n preds ps ts seen_now h.sees t r e f in
    let here : place ≡ place_in (current p.journal).tables name = at ∙ ap (λ ts. place_in ts n) (t ∙ h.sees.tables) ∙ ap (place_in (current p.journal).tables) e in
    let width : columns ≡ columns_in (current p.journal).tables name = widths ∙ ap (λ ts. columns_in ts n) (t ∙ h.sees.tables) ∙ ap (columns_in (current p.journal).tables) e in
    let same : os ≡ updates (place_in (current p.journal).tables name) p.next_id (changed_value (columns_in (current p.journal).tables name) column value) (found (current p.journal).tables (finmap.entries (seen p session)) name preds) =
    is ∙ ap (λ place. updates place p.next_id (changed_value columns c value) hits) here ∙ ap (λ columns. updates (place_in (current p.journal).tables name) p.next_id (changed_value columns c value) hits) width
    ∙ ap (λ c. updates (place_in (current p.journal).tables name) p.next_id (changed_value (columns_in (current p.journal).tables name) c value) hits) d ∙ ap (updates (place_in (current p.journal).tables name) p.next_id (changed_value (columns_in (current p.journal).tables name) column value)) all in
    let many : rows ≡ length (found (current p.journal).tables (finmap.entries (seen p session)) name preds) = count ∙ ap length all in
    let one : taken ≡ first_taken (is_taken p session) (found (current p.journal).tables (finmap.entries (seen p session)) name preds) = first ∙ ap (first_taken (is_taken p session)) all in
    gives_change p sight session (Update name column value preds) false os rows taken reply q h
    (makes_same p session (Update name column value preds) false _ os _ rows _ taken same many one (update_makes p session name column value preds)) g

pub update_full : (p : Plain) (sight : Known) (session : ℕ) (name n column : List ℕ) (value : Value) (preds ps : List Pred) (ts : List Table) (seen_now hits : List (ℕ × Stored)) (rows : ℕ) (reply : Reply) (q : Plain) → Allowed p sight session (Update name column value preds)
    → ts ≡ sight.tables.items → seen_now ≡ sight.rows.items → n ≡ name → ps ≡ preds → hits ≡ found ts seen_now n ps → rows ≡ length hits → has_ids (view p session) rows ≡ false
    → Gives (refuses p refusals.Full) reply q → Gives (step p session (Update name column value preds)) reply q
update_full p sight session name n column value preds ps ts seen_now hits rows reply q h t r e f found_is count lacks g =
    let os = updates (place_in ts n) p.next_id (changed_value (columns_in ts n) column value) hits in
    let many : inserts_of os ≡ rows = inserts_of-updates (place_in ts n) p.next_id (changed_value (columns_in ts n) column value) hits ∙ sym count in
    update_gives p sight session name n column column value preds ps ts (columns_in ts n) seen_now hits (place_in ts n) rows (first_taken (is_taken p session) hits) os reply q h t r e refl f found_is refl refl count refl refl
    (gives_full p session false os rows (first_taken (is_taken p session) hits) reply q (ap (has_ids (view p session)) many ∙ lacks) g)
