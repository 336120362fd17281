-- Which rows somebody needs, told by the ids of rows that were worked out.
use Rattle.std.proofs.Common.{◌≡◌, ℕ, Bool, true, false, ◌||◌, nat_eq, List, [], ◌++◌, ◌<◌, length, get_or, map, Option, None, Some, refl, sym, ap, ◌∙◌}
use Rattle.std.proofs.lemmas.List.Folds.{list_any-append}
use Rattle.std.specs.Ordering.{nat_cmp}
use Rattle.std.specs.Cmp.{unsigned_tied}
use Rattle.std.specs.Option.{is_some, unwrap_or}
use Rattle.std.proofs.lemmas.Option.{slice_get_read}
use Rattle.std.specs.List.{list_any}
use Rattle.std.specs.FinMap as finmap
use Rattle.std.specs.FinMap.Entries.{is_some-find}
use Rattle.ut_value.specs.declared.entry.Op.{Op}
use Rattle.ut_plain.specs.declared.table.Stored.{Stored}
use Rattle.ut_plain.specs.declared.transaction.OpenTransaction.{OpenTransaction}
use Rattle.ut_plain.specs.Rows.{Rows, with_ops, ops_at}
use Rattle.ut_plain.specs.State.{State}
use Rattle.ut_plain.specs.Journal.{Journal, state_at}
use Rattle.ut_plain.specs.Merges.{open_needs}
use Rattle.ut_plain.specs.Plain.{Sessions, open_at}
use Rattle.ut_plain.proofs.RowLaws.{get-with_ops}
use Rattle.check_rows.specs.Listed.{listed_all}
use Rattle.check_rows.proofs.ListedLemmas.{entries-with_ops}
use Rattle.check_rows.proofs.KnownLemmas.{no_entries}

-- the ids of rows
abbrev pub ids_of : List (ℕ × Stored) → List ℕ
ids_of rows = map (λ e. e.0) rows

-- a row is there where its id is
pub there-entries : (rows : Rows) (id : ℕ) → list_any (nat_eq id) (ids_of (finmap.entries rows)) ≡ is_some (finmap.get rows id)
there-entries rows id = sym (ap is_some (finmap.get-entries rows id) ∙ is_some-find nat_cmp id (finmap.entries rows) ∙ (λ i. list_any (λ x. unsigned_tied id x i) (ids_of (finmap.entries rows))))

-- the rows that operations insert and don't delete
pub there-own : (os : List Op) (id : ℕ) → list_any (nat_eq id) (ids_of (listed_all [] os)) ≡ is_some (ops_at id os None)
there-own os id =
    let empty : Rows = finmap.empty in
    ap (λ rows. list_any (nat_eq id) (ids_of (listed_all rows os))) (sym no_entries) ∙ ap (λ rows. list_any (nat_eq id) (ids_of rows)) (sym (entries-with_ops empty os)) ∙ there-entries (with_ops empty os) id
    ∙ ap is_some (get-with_ops empty os id ∙ ap (ops_at id os) (finmap.get-empty {X = Stored} nat_cmp id))

or_or : (a b c : Bool) → ((a || b) || c) ≡ (a || (b || c))
or_or true b c = refl
or_or false b c = refl

or_false : (a : Bool) → (a || false) ≡ a
or_false true = refl
or_false false = refl

-- these are the ids of what is there
pub there_now : (s : State) (rows : List (ℕ × Stored)) (ids : List ℕ) → rows ≡ finmap.entries s.rows → ids ≡ ids_of rows → (id : ℕ) → list_any (nat_eq id) ids ≡ is_some (finmap.get s.rows id)
there_now s rows ids r i id = ap (list_any (nat_eq id)) i ∙ ap (λ rows. list_any (nat_eq id) (ids_of rows)) r ∙ there-entries s.rows id

-- the ids of what is there
pub needed-first : (s : State) (rows : List (ℕ × Stored)) (ids : List ℕ) → rows ≡ finmap.entries s.rows → ids ≡ ids_of rows → (id : ℕ) → list_any (nat_eq id) ids ≡ (is_some (finmap.get s.rows id) || false)
needed-first s rows ids r i id = there_now s rows ids r i id ∙ sym (or_false (is_some (finmap.get s.rows id)))

-- the transaction at a place that is there
pub open_read : (sessions : Sessions) (i : ℕ) (o : Option OpenTransaction) → i < length sessions → o ≡ get_or sessions i o → open_at sessions i ≡ o
open_read sessions i o h e = ap (λ x. unwrap_or x None) (slice_get_read sessions (length sessions) i o refl h e)

-- the ids of what an open transaction needs were added
pub needed-more : (j : Journal) (t : OpenTransaction) (old new : List ℕ) (then own : List (ℕ × Stored)) → then ≡ finmap.entries (state_at j t.snapshot).rows → own ≡ listed_all [] t.ops → new ≡ (old ++ ids_of then) ++ ids_of own
    → (id : ℕ) → list_any (nat_eq id) new ≡ (list_any (nat_eq id) old || open_needs j id (Some t))
needed-more j t old new then own th ow n id =
    let has = λ (ids : List ℕ). list_any (nat_eq id) ids in
    let a : has (ids_of then) ≡ is_some (finmap.get (state_at j t.snapshot).rows id) = ap (λ rows. has (ids_of rows)) th ∙ there-entries (state_at j t.snapshot).rows id in
    let b : has (ids_of own) ≡ is_some (ops_at id t.ops None) = ap (λ rows. has (ids_of rows)) ow ∙ there-own t.ops id in
    ap has n ∙ list_any-append (nat_eq id) (old ++ ids_of then) (ids_of own) ∙ ap (λ x. x || has (ids_of own)) (list_any-append (nat_eq id) old (ids_of then)) ∙ or_or (has old) (has (ids_of then)) (has (ids_of own)) ∙ (λ i. has old || (a i || b i))
