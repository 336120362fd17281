-- A line of a session neither begins a merge nor ends one.
use Rattle.std.proofs.Common.{ℕ, ◌≡◌, Bool, true, false, cond, ◌&&◌, List, [], ◌∷◌, length, Option, None, Some, refl, arith}
use Rattle.std.proofs.lemmas.Grind.{common_steps}
use Rattle.std.specs.Prelude.{nat_eq, nat_le, nat_lt, codes, option_and_then}
use Rattle.std.specs.Option.{option_map}
use Rattle.ut_value.specs.Text.{same_bytes, is_name}
use Rattle.ut_value.specs.declared.value.Value.{Value}
use Rattle.ut_value.specs.declared.value.Column.{Column}
use Rattle.ut_plain.specs.declared.statement.Pred.{Pred}
use Rattle.ut_plain.specs.declared.statement.Query.TheVariants as queries
use Rattle.ut_plain.specs.declared.statement.Statement.{Statement}
use Rattle.ut_plain.specs.declared.statement.Statement.TheVariants as statements
use Rattle.ut_plain.specs.declared.statement.Parsed.{Parsed}
use Rattle.ut_plain.specs.declared.statement.Parsed.TheVariants.{Comment}
use Rattle.ut_script.specs.Words.{all_of, words_of}
use Rattle.ut_script.specs.Literals.{number_of, within, value_of, column_of}
use Rattle.ut_script.specs.Conditions.{conditions_of}
use Rattle.ut_script.specs.Statements.{create_with, create_of, values_of, rows_of, names_before, from_where, select_with, columns_of_all, columns_named, columns_asked, select_of, chosen_of, folded_of, group_of, join_of, update_with, update_of, query_of, alone, transaction_verb, table_statement_of, alone_or, session_statement_of, store_statement_of}
use Rattle.ut_script.specs.Grammar.{session_of, statement_of, said_by, line_with, line_of, parsed}
use Rattle.ut_script.proofs.SpelledLaws.{passes, if_passes}
use Rattle.ut_course.specs.Coming.{is_of_merge, asks_merge}

-- whether a statement is one of sessions
abbrev pub is_sessions : Statement → Bool
is_sessions st = cond (is_of_merge st) false true

map_any : {A : Type 0} (f : A → Statement) (o : Option A) → ((x : A) → is_sessions (f x) ≡ true) → passes is_sessions (option_map f o) ≡ true
map_any f None h = refl
map_any f (Some x) h = h x

then_any : {A : Type 0} (f : A → Option Statement) (o : Option A) → ((x : A) → passes is_sessions (f x) ≡ true) → passes is_sessions (option_and_then f o) ≡ true
then_any f None h = refl
then_any f (Some x) h = h x

created : (table : List ℕ) (columns : List Column) → passes is_sessions (create_with table columns) ≡ true
created table columns = if_passes is_sessions (nat_lt 0 (length columns) && nat_le (length columns) 64) (Some (statements.Create table columns)) None (λ h. refl) refl

create_passes : (words : List (List ℕ)) → passes is_sessions (create_of words) ≡ true
create_passes [] = refl
create_passes (table ∷ words) = if_passes is_sessions (is_name table) (option_and_then (create_with table) (all_of column_of words)) None (λ h. then_any (create_with table) (all_of column_of words) (created table)) refl

rows_pass : (put : List ℕ → List Value → Statement) → ((table : List ℕ) (vs : List Value) → is_sessions (put table vs) ≡ true) → (words : List (List ℕ)) → passes is_sessions (rows_of put words) ≡ true
rows_pass put each [] = refl
rows_pass put each (table ∷ words) = if_passes is_sessions (is_name table) (option_map (put table) (values_of words)) None (λ h. map_any (put table) (values_of words) (each table)) refl

selected : (table : List ℕ) (columns : List (List ℕ)) (preds : Option (List Pred)) → passes is_sessions (select_with table columns preds) ≡ true
selected table columns None = refl
selected table columns (Some preds) = if_passes is_sessions (nat_lt 0 (length columns)) (Some (statements.Ask (queries.Select table (Some columns) preds))) None (λ h. refl) refl

asked : (table : List ℕ) (words : List (List ℕ)) → passes is_sessions (columns_asked table words) ≡ true
asked table [] = refl
asked table (word ∷ words) =
    if_passes is_sessions (same_bytes word (codes "*")) (columns_of_all table words) (columns_named table (word ∷ words))
    (λ h. map_any (λ preds. statements.Ask (queries.Select table None preds)) (conditions_of words) (λ preds. refl))
    (then_any (λ columns. select_with table columns (conditions_of (from_where (word ∷ words)))) (names_before (word ∷ words)) (λ columns. selected table columns (conditions_of (from_where (word ∷ words)))))

select_passes : (words : List (List ℕ)) → passes is_sessions (select_of words) ≡ true
select_passes [] = refl
select_passes (table ∷ words) = if_passes is_sessions (is_name table) (columns_asked table words) None (λ h. asked table words) refl

chosen_passes : (say : List ℕ → List Pred → Statement) → ((table : List ℕ) (preds : List Pred) → is_sessions (say table preds) ≡ true) → (words : List (List ℕ)) → passes is_sessions (chosen_of say words) ≡ true
chosen_passes say each [] = refl
chosen_passes say each (table ∷ words) = if_passes is_sessions (is_name table) (option_map (say table) (conditions_of words)) None (λ h. map_any (say table) (conditions_of words) (each table)) refl

folded_passes : (say : List ℕ → List ℕ → List Pred → Statement) → ((table column : List ℕ) (preds : List Pred) → is_sessions (say table column preds) ≡ true) → (words : List (List ℕ)) → passes is_sessions (folded_of say words) ≡ true
folded_passes say each [] = refl
folded_passes say each (table ∷ []) = refl
folded_passes say each (table ∷ column ∷ words) = if_passes is_sessions (is_name table && is_name column) (option_map (say table column) (conditions_of words)) None (λ h. map_any (say table column) (conditions_of words) (each table column)) refl

group_passes : (words : List (List ℕ)) → passes is_sessions (group_of words) ≡ true
group_passes [] = refl
group_passes (a ∷ []) = refl
group_passes (a ∷ b ∷ []) = refl
group_passes (a ∷ b ∷ c ∷ []) = refl
group_passes (table ∷ key ∷ verb ∷ sum ∷ words) =
    if_passes is_sessions (is_name table && is_name key && same_bytes verb (codes "sum") && is_name sum) (option_map (λ preds. statements.Ask (queries.Group table key sum preds)) (conditions_of words)) None
    (λ h. map_any (λ preds. statements.Ask (queries.Group table key sum preds)) (conditions_of words) (λ preds. refl)) refl

join_passes : (words : List (List ℕ)) → passes is_sessions (join_of words) ≡ true
join_passes [] = refl
join_passes (a ∷ []) = refl
join_passes (a ∷ b ∷ []) = refl
join_passes (a ∷ b ∷ c ∷ []) = refl
join_passes (left ∷ c ∷ right ∷ d ∷ []) = if_passes is_sessions (is_name left && is_name c && is_name right && is_name d) (Some (statements.Ask (queries.Join left c right d))) None (λ h. refl) refl
join_passes (a ∷ b ∷ c ∷ d ∷ e ∷ words) = refl

updated : (table column : List ℕ) (value : Option Value) (preds : Option (List Pred)) → passes is_sessions (update_with table column value preds) ≡ true
updated table column None preds = refl
updated table column (Some v) preds = map_any (λ ps. statements.Update table column v ps) preds (λ ps. refl)

update_passes : (words : List (List ℕ)) → passes is_sessions (update_of words) ≡ true
update_passes [] = refl
update_passes (a ∷ []) = refl
update_passes (a ∷ b ∷ []) = refl
update_passes (a ∷ b ∷ c ∷ []) = refl
update_passes (table ∷ verb ∷ column ∷ value ∷ words) =
    if_passes is_sessions (is_name table && same_bytes verb (codes "set") && is_name column) (update_with table column (value_of value) (conditions_of words)) None (λ h. updated table column (value_of value) (conditions_of words)) refl

query_passes : (verb : List ℕ) (words : List (List ℕ)) → passes is_sessions (query_of verb words) ≡ true
query_passes verb words =
    if_passes is_sessions (same_bytes verb (codes "select")) (select_of words) _ (λ h. select_passes words)
    (if_passes is_sessions (same_bytes verb (codes "count")) (chosen_of (λ table preds. statements.Ask (queries.Count table preds)) words) _ (λ h. chosen_passes (λ table preds. statements.Ask (queries.Count table preds)) (λ table preds. refl) words)
    (if_passes is_sessions (same_bytes verb (codes "sum")) (folded_of (λ table column preds. statements.Ask (queries.Sum table column preds)) words) _ (λ h. folded_passes (λ table column preds. statements.Ask (queries.Sum table column preds)) (λ table column preds. refl) words)
    (if_passes is_sessions (same_bytes verb (codes "min")) (folded_of (λ table column preds. statements.Ask (queries.Min table column preds)) words) _ (λ h. folded_passes (λ table column preds. statements.Ask (queries.Min table column preds)) (λ table column preds. refl) words)
    (if_passes is_sessions (same_bytes verb (codes "max")) (folded_of (λ table column preds. statements.Ask (queries.Max table column preds)) words) _ (λ h. folded_passes (λ table column preds. statements.Ask (queries.Max table column preds)) (λ table column preds. refl) words)
    (if_passes is_sessions (same_bytes verb (codes "group")) (group_of words) _ (λ h. group_passes words)
    (if_passes is_sessions (same_bytes verb (codes "join")) (join_of words) None (λ h. join_passes words) refl))))))

table_passes : (verb : List ℕ) (words : List (List ℕ)) → passes is_sessions (table_statement_of verb words) ≡ true
table_passes verb words =
    if_passes is_sessions (same_bytes verb (codes "insert")) (rows_of statements.Insert words) _ (λ h. rows_pass statements.Insert (λ table vs. refl) words)
    (if_passes is_sessions (same_bytes verb (codes "bulk")) (rows_of statements.Bulk words) _ (λ h. rows_pass statements.Bulk (λ table vs. refl) words)
    (if_passes is_sessions (same_bytes verb (codes "update")) (update_of words) _ (λ h. update_passes words)
    (if_passes is_sessions (same_bytes verb (codes "delete")) (chosen_of statements.Delete words) _ (λ h. chosen_passes statements.Delete (λ table preds. refl) words)
    (if_passes is_sessions (same_bytes verb (codes "create")) (create_of words) (query_of verb words) (λ h. create_passes words) (query_passes verb words)))))

alone_passes : (st : Statement) (words : List (List ℕ)) → is_sessions st ≡ true → passes is_sessions (alone st words) ≡ true
alone_passes st [] h = h
alone_passes st (word ∷ words) h = refl

transaction_passes : (verb : List ℕ) → passes is_sessions (transaction_verb verb) ≡ true
transaction_passes verb =
    if_passes is_sessions (same_bytes verb (codes "begin")) (Some statements.Begin) _ (λ h. refl)
    (if_passes is_sessions (same_bytes verb (codes "commit")) (Some statements.Commit) _ (λ h. refl)
    (if_passes is_sessions (same_bytes verb (codes "abort")) (Some statements.Abort) None (λ h. refl) refl))

either_passes : (st : Option Statement) (words : List (List ℕ)) (other : Option Statement) → passes is_sessions st ≡ true → passes is_sessions other ≡ true → passes is_sessions (alone_or st words other) ≡ true
either_passes None words other h k = k
either_passes (Some st) words other h k = alone_passes st words h

session_passes : (words : List (List ℕ)) → passes is_sessions (session_statement_of words) ≡ true
session_passes [] = refl
session_passes (verb ∷ words) = either_passes (transaction_verb verb) words (table_statement_of verb words) (transaction_passes verb) (table_passes verb words)

statement_passes : (session : ℕ) (words : List (List ℕ)) → nat_le 1 session ≡ true → passes is_sessions (statement_of session words) ≡ true
statement_passes session words h = by (nat_eq session 0) refl
  where
    by : (b : Bool) → nat_eq session 0 ≡ b → passes is_sessions (cond b (store_statement_of words) (session_statement_of words)) ≡ true
    by true e = absurd (grind (arith, common_steps, e, h))
    by false e = session_passes words

-- ---- a line

no_merge : (st : Statement) → is_sessions st ≡ true → is_of_merge st ≡ false
no_merge st h = by (is_of_merge st) h
  where
    by : (b : Bool) → cond b false true ≡ true → b ≡ false
    by true h = cc
    by false h = refl

said_asks : (session : ℕ) (st : Option Statement) → passes is_sessions st ≡ true → asks_merge (said_by session st) ≡ false
said_asks session None h = refl
said_asks session (Some st) h = no_merge st h

within_least : (n : Option ℕ) → passes (nat_le 1) (within 1 16 n) ≡ true
within_least None = refl
within_least (Some n) = if_passes (nat_le 1) (nat_le 1 n && nat_le n 16) (Some n) None (λ h. left (nat_le 1 n) (nat_le n 16) h) refl
  where
    left : (a b : Bool) → (a && b) ≡ true → a ≡ true
    left true b h = refl
    left false b h = cc

with_asks : (session : Option ℕ) (words : List (List ℕ)) → passes (nat_le 1) session ≡ true → asks_merge (line_with session words) ≡ false
with_asks None words h = refl
with_asks (Some session) words h = said_asks session (statement_of session words) (statement_passes session words h)

words_ask : (words : List (List ℕ)) → asks_merge (line_of true words) ≡ false
words_ask [] = refl
words_ask (word ∷ words) = with_asks (session_of true word) words (within_least (number_of word))

sign_asks : (t : Bool) (line : Parsed) → asks_merge line ≡ false → asks_merge (cond t Comment line) ≡ false
sign_asks true line h = refl
sign_asks false line h = h

-- no line of a crowd asks for a merge
pub line_asks : (line : List ℕ) → asks_merge (parsed true line) ≡ false
line_asks [] = refl
line_asks (b ∷ bytes) = sign_asks (nat_eq b 35) (line_of true (words_of (b ∷ bytes))) (words_ask (words_of (b ∷ bytes)))
