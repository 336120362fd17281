-- What a question is answered follows from the rows of the tables that it names.
use Rattle.std.proofs.Common.{◌≡◌, ℕ, Bool, true, false, ◌||◌, cond, nat_eq, List, [], ◌∷◌, length, map, filter, Option, None, Some, refl, sym, ap, ◌∙◌, unwrap_or}
use Rattle.std.proofs.lemmas.Bool.{eqb-true, eq-eqb}
use Rattle.std.specs.Option.{option_and_then}
use Rattle.ut_value.specs.declared.value.Column.{Column}
use Rattle.ut_plain.specs.declared.table.Table.{Table}
use Rattle.ut_plain.specs.declared.table.Stored.{Stored}
use Rattle.ut_plain.specs.declared.statement.Pred.{Pred}
use Rattle.ut_plain.specs.declared.statement.Query.{Query}
use Rattle.ut_plain.specs.declared.statement.Query.TheVariants.{Select, Count, Sum, Min, Max, Group, Join}
use Rattle.ut_plain.specs.declared.reply.Reply.TheVariants as replies
use Rattle.ut_plain.specs.Condition.{those, found}
use Rattle.ut_plain.specs.Names.{known, query_known}
use Rattle.ut_plain.specs.Query.{told, picked, column_values, total, best, groups, joined}
use Rattle.ut_plain.specs.Rows.{table_rows}
use Rattle.ut_plain.specs.Tables.{place_of, place_in, columns_at, columns_of, columns_in}
use Rattle.ut_plain.proofs.BoolLemmas.{and_left, and_right}
use Rattle.std.specs.Ordering.{is_lt, is_gt}
use Rattle.ut_shot.specs.Reads.{is_at, is_named, read_rows}

-- the rows of a table are among those of the tables that are read
table-read : (n : ℕ) (reads : ℕ → Bool) → reads n ≡ true → (rows : List (ℕ × Stored)) → table_rows n (filter (λ (e : ℕ × Stored). reads e.1.table) rows) ≡ table_rows n rows
table-read n reads is [] = refl
table-read n reads is (e ∷ rows) = by (nat_eq e.1.table n) (reads e.1.table) refl refl (table-read n reads is rows)
  where
    some : List (ℕ × Stored)
    some = filter (λ (x : ℕ × Stored). reads x.1.table) rows

    by : (a b : Bool) → nat_eq e.1.table n ≡ a → reads e.1.table ≡ b → table_rows n some ≡ table_rows n rows → table_rows n (cond b (e ∷ some) some) ≡ cond a (e ∷ table_rows n rows) (table_rows n rows)
    by true true here read rest = ap (λ c. cond c (e ∷ table_rows n some) (table_rows n some)) here ∙ ap (λ l. e ∷ l) rest
    by true false here unread rest = let same = ap reads (eqb-true e.1.table n here) ∙ is in let never : true ≡ false = sym same ∙ unread in absurd cc
    by false true here read rest = ap (λ c. cond c (e ∷ table_rows n some) (table_rows n some)) here ∙ rest
    by false false here unread rest = rest

pub found-read : (tables : List Table) (reads : ℕ → Bool) (rows : List (ℕ × Stored)) (name : List ℕ) (preds : List Pred) (n : ℕ) → place_of tables name ≡ Some n → reads n ≡ true
    → found tables (filter (λ (e : ℕ × Stored). reads e.1.table) rows) name preds ≡ found tables rows name preds
found-read tables reads rows name preds n at is =
    let place : place_in tables name ≡ n = ap (λ o. unwrap_or o 0) at in
    ap (those (columns_in tables name) preds) (table-read (place_in tables name) reads (ap reads place ∙ is) rows)

-- a table that is known stands somewhere
there : (tables : List Table) (name : List ℕ) (test : List Column → Bool) → known test (columns_of tables name) ≡ true → (n : ℕ) × (place_of tables name ≡ Some n)
there tables name test is = by (place_of tables name) refl
  where
    by : (o : Option ℕ) → place_of tables name ≡ o → (n : ℕ) × (place_of tables name ≡ Some n)
    by None e = let never : false ≡ true = sym (ap (λ (o : Option ℕ). known test (option_and_then (columns_at tables) o)) e) ∙ is in absurd cc
    by (Some n) e = (n, e)

named : (tables : List Table) (name : List ℕ) (n : ℕ) → place_of tables name ≡ Some n → is_named tables name n ≡ true
named tables name n at = ap (λ o. is_at o n) at ∙ eq-eqb n n refl

or_first : (a b : Bool) → a ≡ true → (a || b) ≡ true
or_first true b e = refl
or_first false b e = absurd cc

or_second : (a b : Bool) → b ≡ true → (a || b) ≡ true
or_second true b e = refl
or_second false b e = e

one : (tables : List Table) (rows : List (ℕ × Stored)) (name : List ℕ) (preds : List Pred) (test : List Column → Bool) → known test (columns_of tables name) ≡ true
    → found tables (filter (λ (e : ℕ × Stored). is_named tables name e.1.table) rows) name preds ≡ found tables rows name preds
one tables rows name preds test is = let at = there tables name test is in found-read tables (is_named tables name) rows name preds at.0 at.1 (named tables name at.0 at.1)

pub told-read : (tables : List Table) (rows : List (ℕ × Stored)) (query : Query) → query_known tables query ≡ true → told tables (read_rows tables query rows) query ≡ told tables rows query
told-read tables rows (Select name names preds) is = ap (λ (l : List (ℕ × Stored)). replies.Rows (map (λ (e : ℕ × Stored). picked (columns_in tables name) names e.1.values) l)) (one tables rows name preds _ is)
told-read tables rows (Count name preds) is = ap (λ (l : List (ℕ × Stored)). replies.Count (length l)) (one tables rows name preds _ is)
told-read tables rows (Sum name column preds) is = ap (λ (l : List (ℕ × Stored)). replies.Sum (total (column_values (columns_in tables name) column l))) (one tables rows name preds _ is)
told-read tables rows (Min name column preds) is = ap (λ (l : List (ℕ × Stored)). replies.Min (best is_lt (column_values (columns_in tables name) column l))) (one tables rows name preds _ is)
told-read tables rows (Max name column preds) is = ap (λ (l : List (ℕ × Stored)). replies.Max (best is_gt (column_values (columns_in tables name) column l))) (one tables rows name preds _ is)
told-read tables rows (Group name key sum preds) is = ap (λ (l : List (ℕ × Stored)). replies.Groups (groups (columns_in tables name) key sum l)) (one tables rows name preds _ is)
told-read tables rows (Join left c right d) is =
    let a = there tables left _ (and_left _ _ is) in
    let b = there tables right _ (and_right _ _ is) in
    let reads : ℕ → Bool = λ n. is_named tables left n || is_named tables right n in
    let lefts = found-read tables reads rows left [] a.0 a.1 (or_first (is_named tables left a.0) (is_named tables right a.0) (named tables left a.0 a.1)) in
    let rights = found-read tables reads rows right [] b.0 b.1 (or_second (is_named tables left b.0) (is_named tables right b.0) (named tables right b.0 b.1)) in
    λ i. replies.Rows (joined (columns_in tables left) c (lefts i) (columns_in tables right) d (rights i))
