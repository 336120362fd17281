-- Each statement that a line says is one that a line can spell.
use Rattle.std.proofs.Common.{ℕ, ◌≡◌, Bool, true, false, cond, ◌&&◌, List, [], ◌∷◌, length, take, drop, Option, None, Some, refl, arith, pos, negsuc}
use Rattle.std.proofs.lemmas.Grind.{common_steps}
use Rattle.std.specs.Prelude.{nat_eq, nat_le, nat_lt, codes, option_and_then}
use Rattle.std.specs.Option.{option_map}
use Rattle.std.specs.List.{list_all}
use Rattle.ut_value.specs.Text.{same_bytes, is_name}
use Rattle.ut_value.specs.KeyBytes.{is_value}
use Rattle.ut_value.specs.Spelling.{is_count, is_column}
use Rattle.ut_value.specs.declared.value.Value.{Value}
use Rattle.ut_value.specs.declared.value.Value.TheVariants as values
use Rattle.ut_value.specs.declared.value.Kind.{Kind}
use Rattle.ut_value.specs.declared.value.Column.{Column}
use Rattle.ut_plain.specs.declared.statement.Pred.{Pred}
use Rattle.ut_plain.specs.declared.statement.Query.TheVariants as queries
use Rattle.ut_plain.specs.declared.statement.Statement.{Statement}
use Rattle.ut_plain.specs.declared.statement.Statement.TheVariants as statements
use Rattle.ut_plain.specs.declared.statement.Parsed.{Parsed}
use Rattle.ut_plain.specs.declared.statement.Parsed.TheVariants.{Comment}
use Rattle.ut_plain.specs.Spelled.{are_some_values, are_preds, are_names, is_spelled}
use Rattle.ut_plain.specs.Laws.{is_spelled_line}
use Rattle.ut_key.specs.declared.comparison.Cmp.{Cmp}
use Rattle.ut_script.specs.Words.{all_of, words_of}
use Rattle.ut_script.specs.Literals.{number_of, within, value_of, column_of, column_with, kind_of, colon_at}
use Rattle.ut_script.specs.Conditions.{operator_of, comparison_of, comparison_with, onto_comparisons, comparisons_of, conditions_of}
use Rattle.ut_script.specs.Statements.{create_with, create_of, some_values, values_of, rows_of, is_where, names_before, from_where, select_with, columns_of_all, columns_named, columns_asked, select_of, chosen_of, folded_of, group_of, join_of, update_with, update_of, query_of, alone, transaction_verb, table_statement_of, alone_or, session_statement_of, count_of, merge_kind_of, merge_l1_of, merge_begin_of, save_step_of, save_of, merge_end_of, merge_of, shape_of, said_or, store_statement_of}
use Rattle.ut_script.specs.Grammar.{session_of, statement_of, said_by, line_with, line_of, parsed}
use Rattle.ut_script.specs.Spellings.{FitsValue}
use Rattle.ut_script.proofs.ValueLaws.{spells_values}

-- whether an answer passes a test, where there is one
abbrev pub passes : {A : Type 0} → (A → Bool) → Option A → Bool
passes test None = true
passes test (Some x) = test x

both : (a b : Bool) → a ≡ true → b ≡ true → (a && b) ≡ true
both true true h k = refl
both true false h k = cc
both false b h k = cc

left : (a b : Bool) → (a && b) ≡ true → a ≡ true
left true b h = refl
left false b h = cc

right : (a b : Bool) → (a && b) ≡ true → b ≡ true
right true b h = h
right false b h = cc

pub if_passes : {A : Type 0} (test : A → Bool) (t : Bool) (x y : Option A) → (t ≡ true → passes test x ≡ true) → passes test y ≡ true → passes test (cond t x y) ≡ true
if_passes test true x y h k = h refl
if_passes test false x y h k = k

pub map_passes : {A B : Type 0} (test : B → Bool) (ask : A → Bool) (f : A → B) (o : Option A) → ((x : A) → ask x ≡ true → test (f x) ≡ true) → passes ask o ≡ true → passes test (option_map f o) ≡ true
map_passes test ask f None h k = refl
map_passes test ask f (Some x) h k = h x k

then_passes : {A B : Type 0} (test : B → Bool) (ask : A → Bool) (f : A → Option B) (o : Option A) → ((x : A) → ask x ≡ true → passes test (f x) ≡ true) → passes ask o ≡ true → passes test (option_and_then f o) ≡ true
then_passes test ask f None h k = refl
then_passes test ask f (Some x) h k = h x k

all_passes : {A : Type 0} (ask : A → Bool) (read : List ℕ → Option A) → ((word : List ℕ) → passes ask (read word) ≡ true) → (words : List (List ℕ)) → passes (list_all ask) (all_of read words) ≡ true
all_passes ask read each [] = refl
all_passes ask read each (word ∷ words) =
    then_passes (list_all ask) ask (λ x. option_map (λ xs. x ∷ xs) (all_of read words)) (read word)
    (λ x h. map_passes (list_all ask) (list_all ask) (λ xs. x ∷ xs) (all_of read words) (λ xs k. both (ask x) (list_all ask xs) h k) (all_passes ask read each words)) (each word)

-- ---- words

fits_value : (v : Value) → FitsValue v → is_value v ≡ true
fits_value (values.Int (pos n)) h = grind (arith, common_steps, h)
fits_value (values.Int (negsuc n)) h = grind (arith, common_steps, h)
fits_value (values.Text text) h = h

by_value : (word : List ℕ) (o : Option Value) → value_of word ≡ o → passes is_value o ≡ true
by_value word None e = refl
by_value word (Some v) e = fits_value v (spells_values.spelled word v e).1

value_passes : (word : List ℕ) → passes is_value (value_of word) ≡ true
value_passes word = by_value word (value_of word) refl

with_kind : (name : List ℕ) (kind : Option Kind) → passes is_column (column_with name kind) ≡ true
with_kind name None = refl
with_kind name (Some kind) = if_passes is_column (is_name name) (Some (record { name = name; kind = kind })) None (λ h. h) refl

column_passes : (word : List ℕ) → passes is_column (column_of word) ≡ true
unfolding column_of
column_passes word = with_kind (take (colon_at word) word) (kind_of (drop (colon_at word) word))

with_operator : (column : List ℕ) (op : Option Cmp) (value : Option Value) → passes is_value value ≡ true → passes (λ (p : Pred). is_name p.column && is_value p.value) (comparison_with column op value) ≡ true
with_operator column None value h = refl
with_operator column (Some op) None h = refl
with_operator column (Some op) (Some v) h = if_passes (λ (p : Pred). is_name p.column && is_value p.value) (is_name column) (Some (record { column = column; op = op; value = v })) None (λ k. both (is_name column) (is_value v) k h) refl

comparison_passes : (column op value : List ℕ) → passes (λ (p : Pred). is_name p.column && is_value p.value) (comparison_of column op value) ≡ true
unfolding comparison_of
comparison_passes column op value = with_operator column (operator_of op) (value_of value) (value_passes value)

onto_passes : (pred : Option Pred) (preds : Option (List Pred)) → passes (λ (p : Pred). is_name p.column && is_value p.value) pred ≡ true → passes are_preds preds ≡ true → passes are_preds (onto_comparisons pred preds) ≡ true
onto_passes None preds h k = refl
onto_passes (Some p) None h k = refl
onto_passes (Some p) (Some ps) h k = both (is_name p.column && is_value p.value) (are_preds ps) h k

comparisons_pass : (words : List (List ℕ)) → passes are_preds (comparisons_of words) ≡ true
comparisons_pass [] = refl
comparisons_pass (a ∷ []) = refl
comparisons_pass (a ∷ b ∷ []) = refl
comparisons_pass (a ∷ b ∷ c ∷ []) = onto_passes (comparison_of a b c) (Some []) (comparison_passes a b c) refl
comparisons_pass (a ∷ b ∷ c ∷ joint ∷ words) =
    if_passes are_preds (same_bytes joint (codes "and")) (onto_comparisons (comparison_of a b c) (comparisons_of words)) None
    (λ h. onto_passes (comparison_of a b c) (comparisons_of words) (comparison_passes a b c) (comparisons_pass words)) refl

conditions_pass : (words : List (List ℕ)) → passes are_preds (conditions_of words) ≡ true
unfolding conditions_of
conditions_pass [] = refl
conditions_pass (word ∷ words) = if_passes are_preds (same_bytes word (codes "where")) (comparisons_of words) None (λ h. comparisons_pass words) refl

-- ---- statements of sessions

some_pass : (vs : List Value) → list_all is_value vs ≡ true → passes are_some_values (some_values vs) ≡ true
some_pass [] h = refl
some_pass (v ∷ vs) h = let one : nat_le 1 (length (v ∷ vs)) ≡ true = grind (arith, common_steps) in if_passes are_some_values (nat_lt 0 (length (v ∷ vs))) (Some (v ∷ vs)) None (λ e. both (nat_le 1 (length (v ∷ vs))) (list_all is_value (v ∷ vs)) one h) refl

values_pass : (words : List (List ℕ)) → passes are_some_values (values_of words) ≡ true
values_pass words = then_passes are_some_values (list_all is_value) some_values (all_of value_of words) some_pass (all_passes is_value value_of value_passes words)

rows_pass : (put : List ℕ → List Value → Statement) → ((table : List ℕ) (vs : List Value) → is_name table ≡ true → are_some_values vs ≡ true → is_spelled (put table vs) ≡ true) → (words : List (List ℕ)) → passes is_spelled (rows_of put words) ≡ true
rows_pass put each [] = refl
rows_pass put each (table ∷ words) =
    if_passes is_spelled (is_name table) (option_map (put table) (values_of words)) None
    (λ h. map_passes is_spelled are_some_values (put table) (values_of words) (λ vs k. each table vs h k) (values_pass words)) refl

created : (table : List ℕ) → is_name table ≡ true → (columns : List Column) → list_all is_column columns ≡ true → passes is_spelled (create_with table columns) ≡ true
created table h [] k = refl
created table h (c ∷ cs) k = if_passes is_spelled (nat_lt 0 (length (c ∷ cs)) && nat_le (length (c ∷ cs)) 64) (Some (statements.Create table (c ∷ cs))) None
    (λ few. let one : nat_le 1 (length (c ∷ cs)) ≡ true = grind (arith, common_steps) in
    both (is_name table && is_count 64 (length (c ∷ cs))) (list_all is_column (c ∷ cs)) (both (is_name table) (is_count 64 (length (c ∷ cs))) h (both (nat_le 1 (length (c ∷ cs))) (nat_le (length (c ∷ cs)) 64) one (right (nat_lt 0 (length (c ∷ cs))) (nat_le (length (c ∷ cs)) 64) few))) k) refl

create_passes : (words : List (List ℕ)) → passes is_spelled (create_of words) ≡ true
create_passes [] = refl
create_passes (table ∷ words) =
    if_passes is_spelled (is_name table) (option_and_then (create_with table) (all_of column_of words)) None
    (λ h. then_passes is_spelled (list_all is_column) (create_with table) (all_of column_of words) (created table h) (all_passes is_column column_of column_passes words)) refl

names_pass : (words : List (List ℕ)) → passes (list_all is_name) (names_before words) ≡ true
names_pass [] = refl
names_pass (word ∷ words) =
    if_passes (list_all is_name) (is_where word) (Some []) (cond (is_name word) (option_map (λ names. word ∷ names) (names_before words)) None) (λ h. refl)
    (if_passes (list_all is_name) (is_name word) (option_map (λ names. word ∷ names) (names_before words)) None
    (λ h. map_passes (list_all is_name) (list_all is_name) (λ names. word ∷ names) (names_before words) (λ names k. both (is_name word) (list_all is_name names) h k) (names_pass words)) refl)

selected : (table : List ℕ) → is_name table ≡ true → (columns : List (List ℕ)) → list_all is_name columns ≡ true → (preds : Option (List Pred)) → passes are_preds preds ≡ true → passes is_spelled (select_with table columns preds) ≡ true
selected table h columns k None l = refl
selected table h [] k (Some preds) l = refl
selected table h (c ∷ cs) k (Some preds) l =
    let one : nat_le 1 (length (c ∷ cs)) ≡ true = grind (arith, common_steps) in
    if_passes is_spelled (nat_lt 0 (length (c ∷ cs))) (Some (statements.Ask (queries.Select table (Some (c ∷ cs)) preds))) None
    (λ e. both (is_name table && are_names (Some (c ∷ cs))) (are_preds preds) (both (is_name table) (are_names (Some (c ∷ cs))) h (both (nat_le 1 (length (c ∷ cs))) (list_all is_name (c ∷ cs)) one k)) l) refl

asked : (table : List ℕ) → is_name table ≡ true → (words : List (List ℕ)) → passes is_spelled (columns_asked table words) ≡ true
asked table h [] = refl
asked table h (word ∷ words) =
    if_passes is_spelled (same_bytes word (codes "*")) (columns_of_all table words) (columns_named table (word ∷ words))
    (λ e. map_passes is_spelled are_preds (λ preds. statements.Ask (queries.Select table None preds)) (conditions_of words) (λ preds k. both (is_name table && true) (are_preds preds) (both (is_name table) true h refl) k) (conditions_pass words))
    (then_passes is_spelled (list_all is_name) (λ columns. select_with table columns (conditions_of (from_where (word ∷ words)))) (names_before (word ∷ words))
    (λ columns k. selected table h columns k (conditions_of (from_where (word ∷ words))) (conditions_pass (from_where (word ∷ words)))) (names_pass (word ∷ words)))

select_passes : (words : List (List ℕ)) → passes is_spelled (select_of words) ≡ true
select_passes [] = refl
select_passes (table ∷ words) = if_passes is_spelled (is_name table) (columns_asked table words) None (λ h. asked table h words) refl

chosen_passes : (say : List ℕ → List Pred → Statement) → ((table : List ℕ) (preds : List Pred) → is_name table ≡ true → are_preds preds ≡ true → is_spelled (say table preds) ≡ true) → (words : List (List ℕ)) → passes is_spelled (chosen_of say words) ≡ true
chosen_passes say each [] = refl
chosen_passes say each (table ∷ words) =
    if_passes is_spelled (is_name table) (option_map (say table) (conditions_of words)) None
    (λ h. map_passes is_spelled are_preds (say table) (conditions_of words) (λ preds k. each table preds h k) (conditions_pass words)) refl

folded_passes : (say : List ℕ → List ℕ → List Pred → Statement) → ((table column : List ℕ) (preds : List Pred) → (is_name table && is_name column) ≡ true → are_preds preds ≡ true → is_spelled (say table column preds) ≡ true) → (words : List (List ℕ)) → passes is_spelled (folded_of say words) ≡ true
folded_passes say each [] = refl
folded_passes say each (table ∷ []) = refl
folded_passes say each (table ∷ column ∷ words) =
    if_passes is_spelled (is_name table && is_name column) (option_map (say table column) (conditions_of words)) None
    (λ h. map_passes is_spelled are_preds (say table column) (conditions_of words) (λ preds k. each table column preds h k) (conditions_pass words)) refl

group_passes : (words : List (List ℕ)) → passes is_spelled (group_of words) ≡ true
group_passes [] = refl
group_passes (a ∷ []) = refl
group_passes (a ∷ b ∷ []) = refl
group_passes (a ∷ b ∷ c ∷ []) = refl
group_passes (table ∷ key ∷ verb ∷ sum ∷ words) =
    if_passes is_spelled (is_name table && is_name key && same_bytes verb (codes "sum") && is_name sum) (option_map (λ preds. statements.Ask (queries.Group table key sum preds)) (conditions_of words)) None
    (λ h. map_passes is_spelled are_preds (λ preds. statements.Ask (queries.Group table key sum preds)) (conditions_of words) (λ preds k.
    let pair = is_name table && is_name key in
    let front = left (pair && same_bytes verb (codes "sum")) (is_name sum) h in
    both (pair && is_name sum) (are_preds preds) (both pair (is_name sum) (left pair (same_bytes verb (codes "sum")) front) (right (pair && same_bytes verb (codes "sum")) (is_name sum) h)) k) (conditions_pass words)) refl

join_passes : (words : List (List ℕ)) → passes is_spelled (join_of words) ≡ true
join_passes [] = refl
join_passes (a ∷ []) = refl
join_passes (a ∷ b ∷ []) = refl
join_passes (a ∷ b ∷ c ∷ []) = refl
join_passes (left ∷ c ∷ right ∷ d ∷ []) = if_passes is_spelled (is_name left && is_name c && is_name right && is_name d) (Some (statements.Ask (queries.Join left c right d))) None (λ h. h) refl
join_passes (a ∷ b ∷ c ∷ d ∷ e ∷ words) = refl

updated : (table column : List ℕ) → (is_name table && is_name column) ≡ true → (value : Option Value) (preds : Option (List Pred)) → passes is_value value ≡ true → passes are_preds preds ≡ true → passes is_spelled (update_with table column value preds) ≡ true
updated table column h None preds k l = refl
updated table column h (Some v) None k l = refl
updated table column h (Some v) (Some ps) k l = both (is_name table && is_name column && is_value v) (are_preds ps) (both (is_name table && is_name column) (is_value v) h k) l

update_passes : (words : List (List ℕ)) → passes is_spelled (update_of words) ≡ true
update_passes [] = refl
update_passes (a ∷ []) = refl
update_passes (a ∷ b ∷ []) = refl
update_passes (a ∷ b ∷ c ∷ []) = refl
update_passes (table ∷ verb ∷ column ∷ value ∷ words) =
    if_passes is_spelled (is_name table && same_bytes verb (codes "set") && is_name column) (update_with table column (value_of value) (conditions_of words)) None
    (λ h.
    let front = left (is_name table && same_bytes verb (codes "set")) (is_name column) h in
    updated table column (both (is_name table) (is_name column) (left (is_name table) (same_bytes verb (codes "set")) front) (right (is_name table && same_bytes verb (codes "set")) (is_name column) h)) (value_of value) (conditions_of words) (value_passes value) (conditions_pass words)) refl

query_passes : (verb : List ℕ) (words : List (List ℕ)) → passes is_spelled (query_of verb words) ≡ true
query_passes verb words =
    if_passes is_spelled (same_bytes verb (codes "select")) (select_of words) _ (λ h. select_passes words)
    (if_passes is_spelled (same_bytes verb (codes "count")) (chosen_of (λ table preds. statements.Ask (queries.Count table preds)) words) _ (λ h. chosen_passes (λ table preds. statements.Ask (queries.Count table preds)) (λ table preds k l. both (is_name table) (are_preds preds) k l) words)
    (if_passes is_spelled (same_bytes verb (codes "sum")) (folded_of (λ table column preds. statements.Ask (queries.Sum table column preds)) words) _ (λ h. folded_passes (λ table column preds. statements.Ask (queries.Sum table column preds)) (λ table column preds k l. both (is_name table && is_name column) (are_preds preds) k l) words)
    (if_passes is_spelled (same_bytes verb (codes "min")) (folded_of (λ table column preds. statements.Ask (queries.Min table column preds)) words) _ (λ h. folded_passes (λ table column preds. statements.Ask (queries.Min table column preds)) (λ table column preds k l. both (is_name table && is_name column) (are_preds preds) k l) words)
    (if_passes is_spelled (same_bytes verb (codes "max")) (folded_of (λ table column preds. statements.Ask (queries.Max table column preds)) words) _ (λ h. folded_passes (λ table column preds. statements.Ask (queries.Max table column preds)) (λ table column preds k l. both (is_name table && is_name column) (are_preds preds) k l) words)
    (if_passes is_spelled (same_bytes verb (codes "group")) (group_of words) _ (λ h. group_passes words)
    (if_passes is_spelled (same_bytes verb (codes "join")) (join_of words) None (λ h. join_passes words) refl))))))

table_passes : (verb : List ℕ) (words : List (List ℕ)) → passes is_spelled (table_statement_of verb words) ≡ true
table_passes verb words =
    if_passes is_spelled (same_bytes verb (codes "insert")) (rows_of statements.Insert words) _ (λ h. rows_pass statements.Insert (λ table vs k l. both (is_name table) (are_some_values vs) k l) words)
    (if_passes is_spelled (same_bytes verb (codes "bulk")) (rows_of statements.Bulk words) _ (λ h. rows_pass statements.Bulk (λ table vs k l. both (is_name table) (are_some_values vs) k l) words)
    (if_passes is_spelled (same_bytes verb (codes "update")) (update_of words) _ (λ h. update_passes words)
    (if_passes is_spelled (same_bytes verb (codes "delete")) (chosen_of statements.Delete words) _ (λ h. chosen_passes statements.Delete (λ table preds k l. both (is_name table) (are_preds preds) k l) words)
    (if_passes is_spelled (same_bytes verb (codes "create")) (create_of words) (query_of verb words) (λ h. create_passes words) (query_passes verb words)))))

alone_passes : (st : Statement) (words : List (List ℕ)) → is_spelled st ≡ true → passes is_spelled (alone st words) ≡ true
alone_passes st [] h = h
alone_passes st (word ∷ words) h = refl

transaction_passes : (verb : List ℕ) → passes is_spelled (transaction_verb verb) ≡ true
transaction_passes verb =
    if_passes is_spelled (same_bytes verb (codes "begin")) (Some statements.Begin) _ (λ h. refl)
    (if_passes is_spelled (same_bytes verb (codes "commit")) (Some statements.Commit) _ (λ h. refl)
    (if_passes is_spelled (same_bytes verb (codes "abort")) (Some statements.Abort) None (λ h. refl) refl))

either_passes : (st : Option Statement) (words : List (List ℕ)) (other : Option Statement) → passes is_spelled st ≡ true → passes is_spelled other ≡ true → passes is_spelled (alone_or st words other) ≡ true
either_passes None words other h k = k
either_passes (Some st) words other h k = alone_passes st words h

session_passes : (words : List (List ℕ)) → passes is_spelled (session_statement_of words) ≡ true
session_passes [] = refl
session_passes (verb ∷ words) = either_passes (transaction_verb verb) words (table_statement_of verb words) (transaction_passes verb) (table_passes verb words)

-- ---- statements of the store

within_passes : (least most : ℕ) (n : Option ℕ) → passes (λ m. nat_le least m && nat_le m most) (within least most n) ≡ true
within_passes least most None = refl
within_passes least most (Some n) = if_passes (λ m. nat_le least m && nat_le m most) (nat_le least n && nat_le n most) (Some n) None (λ h. h) refl

merge_l1_passes : (words : List (List ℕ)) → passes is_spelled (merge_l1_of words) ≡ true
merge_l1_passes [] = refl
merge_l1_passes (a ∷ []) = refl
merge_l1_passes (table ∷ n ∷ []) =
    if_passes is_spelled (is_name table) (option_map (statements.MergeL1 table) (count_of n)) None
    (λ h. map_passes is_spelled (λ m. nat_le 1 m && nat_le m 1048576) (statements.MergeL1 table) (count_of n) (λ m k. both (is_name table) (is_count 1048576 m) h k) (within_passes 1 1048576 (number_of n))) refl
merge_l1_passes (a ∷ b ∷ c ∷ words) = refl

begin_passes : (words : List (List ℕ)) → passes is_spelled (merge_begin_of words) ≡ true
begin_passes [] = refl
begin_passes (a ∷ []) = refl
begin_passes (table ∷ kind ∷ []) =
    if_passes is_spelled (is_name table) (option_map (statements.MergeBegin table) (merge_kind_of kind)) None
    (λ h. map_passes is_spelled (λ k. true) (statements.MergeBegin table) (merge_kind_of kind) (λ k l. h) (any_passes (merge_kind_of kind))) refl
  where
    any_passes : {A : Type 0} (o : Option A) → passes (λ x. true) o ≡ true
    any_passes None = refl
    any_passes (Some x) = refl
begin_passes (a ∷ b ∷ c ∷ words) = refl

step_passes : (words : List (List ℕ)) → passes is_spelled (save_step_of words) ≡ true
step_passes [] = refl
step_passes (n ∷ []) = map_passes is_spelled (λ m. nat_le 1 m && nat_le m 1048576) statements.SaveStep (count_of n) (λ m k. k) (within_passes 1 1048576 (number_of n))
step_passes (a ∷ b ∷ words) = refl

save_passes : (words : List (List ℕ)) → passes is_spelled (save_of words) ≡ true
save_passes [] = refl
save_passes (verb ∷ words) =
    if_passes is_spelled (same_bytes verb (codes "begin")) (alone statements.SaveBegin words) _ (λ h. alone_passes statements.SaveBegin words refl)
    (if_passes is_spelled (same_bytes verb (codes "step")) (save_step_of words) _ (λ h. step_passes words)
    (if_passes is_spelled (same_bytes verb (codes "seal")) (alone statements.SaveSeal words) _ (λ h. alone_passes statements.SaveSeal words refl)
    (if_passes is_spelled (same_bytes verb (codes "flip")) (alone statements.SaveFlip words) _ (λ h. alone_passes statements.SaveFlip words refl)
    (if_passes is_spelled (same_bytes verb (codes "drop")) (alone statements.SaveDrop words) None (λ h. alone_passes statements.SaveDrop words refl) refl))))

end_passes : (words : List (List ℕ)) → passes is_spelled (merge_end_of words) ≡ true
end_passes [] = refl
end_passes (verb ∷ words) = if_passes is_spelled (same_bytes verb (codes "end")) (alone statements.MergeEnd words) None (λ h. alone_passes statements.MergeEnd words refl) refl

merge_passes : (words : List (List ℕ)) → passes is_spelled (merge_of words) ≡ true
merge_passes [] = refl
merge_passes (verb ∷ words) =
    if_passes is_spelled (same_bytes verb (codes "l1")) (merge_l1_of words) _ (λ h. merge_l1_passes words)
    (if_passes is_spelled (same_bytes verb (codes "begin")) (merge_begin_of words) None (λ h. begin_passes words) refl)

shape_passes : (words : List (List ℕ)) → passes is_spelled (shape_of words) ≡ true
shape_passes [] = refl
shape_passes (table ∷ []) = if_passes is_spelled (is_name table) (Some (statements.Shape table)) None (λ h. h) refl
shape_passes (a ∷ b ∷ words) = refl

or_passes : (st other : Option Statement) → passes is_spelled st ≡ true → passes is_spelled other ≡ true → passes is_spelled (said_or st other) ≡ true
or_passes None other h k = k
or_passes (Some st) other h k = h

store_passes : (words : List (List ℕ)) → passes is_spelled (store_statement_of words) ≡ true
store_passes [] = refl
store_passes (verb ∷ words) =
    if_passes is_spelled (same_bytes verb (codes "save")) (save_of words) _ (λ h. save_passes words)
    (if_passes is_spelled (same_bytes verb (codes "merge")) (said_or (merge_end_of words) (merge_of words)) _ (λ h. or_passes (merge_end_of words) (merge_of words) (end_passes words) (merge_passes words))
    (if_passes is_spelled (same_bytes verb (codes "shape")) (shape_of words) None (λ h. shape_passes words) refl))

-- ---- lines

statement_passes : (session : ℕ) (words : List (List ℕ)) → passes is_spelled (statement_of session words) ≡ true
statement_passes session words = if_passes is_spelled (nat_eq session 0) (store_statement_of words) (session_statement_of words) (λ h. store_passes words) (session_passes words)

said_spelled : (session : ℕ) (st : Option Statement) → passes is_spelled st ≡ true → is_spelled_line (said_by session st) ≡ true
said_spelled session None h = refl
said_spelled session (Some st) h = h

with_spelled : (session : Option ℕ) (words : List (List ℕ)) → is_spelled_line (line_with session words) ≡ true
with_spelled None words = refl
with_spelled (Some session) words = said_spelled session (statement_of session words) (statement_passes session words)

line_spelled : (crowd : Bool) (words : List (List ℕ)) → is_spelled_line (line_of crowd words) ≡ true
line_spelled crowd [] = refl
line_spelled crowd (session ∷ words) = with_spelled (session_of crowd session) words

if_spelled : (t : Bool) (x y : Parsed) → is_spelled_line x ≡ true → is_spelled_line y ≡ true → is_spelled_line (cond t x y) ≡ true
if_spelled true x y h k = h
if_spelled false x y h k = k

pub lines_spelled : (crowd : Bool) (line : List ℕ) → is_spelled_line (parsed crowd line) ≡ true
lines_spelled crowd [] = refl
lines_spelled crowd (b ∷ bytes) = if_spelled (nat_eq b 35) Comment (line_of crowd (words_of (b ∷ bytes))) refl (line_spelled crowd (words_of (b ∷ bytes)))
