-- The statements that name a table are none of those that take no memory.
use Rattle.std.proofs.Common.{ℕ, ◌≡◌, Bool, true, false, cond, ◌&&◌, List, [], ◌∷◌, length, Option, None, Some, Result, Ok, Err, refl}
use Rattle.std.specs.Prelude.{is_some, option_and_then, nat_lt, nat_le, codes}
use Rattle.std.specs.Option.{option_map}
use Rattle.ut_value.specs.Text.{is_name, same_bytes}
use Rattle.ut_value.specs.declared.value.Value.{Value}
use Rattle.ut_plain.specs.declared.statement.Pred.{Pred}
use Rattle.ut_plain.specs.declared.statement.Query.TheVariants as queries
use Rattle.ut_plain.specs.declared.statement.Statement.{Statement}
use Rattle.ut_plain.specs.declared.statement.Statement.TheVariants as statements
use Rattle.ut_script.specs.Words.{all_of}
use Rattle.ut_script.specs.Literals.{column_of, value_of}
use Rattle.ut_script.specs.Conditions.{conditions_of}
use Rattle.ut_script.specs.Statements as grammar
use Rattle.ut_script.specs.Statements.{is_bare, needs_memory, Reads, ReadsStatement}
use Rattle.ut_script.specs.Grammar.{said_by, MayLackMemory}

-- if there is a statement, it needs memory
abbrev pub Named : Option Statement → Type 0
Named o = is_some o ≡ true → needs_memory o ≡ true

named_none : Named None
named_none h = cc

named_cond : (t : Bool) (a b : Option Statement) → Named a → Named b → Named (cond t a b)
named_cond true a b f g = f
named_cond false a b f g = g

named_some : (st : Statement) → is_bare st ≡ false → Named (Some st)
named_some st h k = rw h refl

named_mapped : {A : Type 0} (say : A → Statement) (o : Option A) → ((x : A) → is_bare (say x) ≡ false) → Named (option_map say o)
named_mapped say None h k = cc
named_mapped say (Some x) h k = named_some (say x) (h x) refl

named_then : {A : Type 0} (say : A → Option Statement) (o : Option A) → ((x : A) → Named (say x)) → Named (option_and_then say o)
named_then say None h k = cc
named_then say (Some x) h k = h x k

create_named : (words : List (List ℕ)) → Named (grammar.create_of words)
create_named [] = named_none
create_named (table ∷ words) =
    named_cond (is_name table) _ _
    (named_then (grammar.create_with table) (all_of column_of words) (λ columns. named_cond (nat_lt 0 (length columns) && nat_le (length columns) 64) _ _ (named_some (statements.Create table columns) refl) named_none))
    named_none

rows_named : (put : List ℕ → List Value → Statement) → ((table : List ℕ) (values : List Value) → is_bare (put table values) ≡ false) → (words : List (List ℕ)) → Named (grammar.rows_of put words)
rows_named put h [] = named_none
rows_named put h (table ∷ words) = named_cond (is_name table) _ _ (named_mapped (put table) (grammar.values_of words) (h table)) named_none

chosen_named : (say : List ℕ → List Pred → Statement) → ((table : List ℕ) (preds : List Pred) → is_bare (say table preds) ≡ false) → (words : List (List ℕ)) → Named (grammar.chosen_of say words)
chosen_named say h [] = named_none
chosen_named say h (table ∷ words) = named_cond (is_name table) _ _ (named_mapped (say table) (conditions_of words) (h table)) named_none

folded_named : (say : List ℕ → List ℕ → List Pred → Statement) → ((table column : List ℕ) (preds : List Pred) → is_bare (say table column preds) ≡ false) → (words : List (List ℕ)) → Named (grammar.folded_of say words)
folded_named say h [] = named_none
folded_named say h (table ∷ []) = named_none
folded_named say h (table ∷ column ∷ words) = named_cond (is_name table && is_name column) _ _ (named_mapped (say table column) (conditions_of words) (h table column)) named_none

group_named : (words : List (List ℕ)) → Named (grammar.group_of words)
group_named [] = named_none
group_named (a ∷ []) = named_none
group_named (a ∷ b ∷ []) = named_none
group_named (a ∷ b ∷ c ∷ []) = named_none
group_named (a ∷ b ∷ c ∷ d ∷ words) = named_cond (is_name a && is_name b && same_bytes c (codes "sum") && is_name d) _ _ (named_mapped (λ preds. statements.Ask (queries.Group a b d preds)) (conditions_of words) (λ preds. refl)) named_none

join_named : (words : List (List ℕ)) → Named (grammar.join_of words)
join_named [] = named_none
join_named (a ∷ []) = named_none
join_named (a ∷ b ∷ []) = named_none
join_named (a ∷ b ∷ c ∷ []) = named_none
join_named (a ∷ b ∷ c ∷ d ∷ []) = named_cond (is_name a && is_name b && is_name c && is_name d) _ _ (named_some (statements.Ask (queries.Join a b c d)) refl) named_none
join_named (a ∷ b ∷ c ∷ d ∷ e ∷ words) = named_none

update_with_named : (table column : List ℕ) (value : Option Value) (preds : Option (List Pred)) → Named (grammar.update_with table column value preds)
update_with_named table column None preds = named_none
update_with_named table column (Some value) preds = named_mapped (λ ps. statements.Update table column value ps) preds (λ ps. refl)

update_named : (words : List (List ℕ)) → Named (grammar.update_of words)
update_named [] = named_none
update_named (a ∷ []) = named_none
update_named (a ∷ b ∷ []) = named_none
update_named (a ∷ b ∷ c ∷ []) = named_none
update_named (a ∷ b ∷ c ∷ d ∷ words) = named_cond (is_name a && same_bytes b (codes "set") && is_name c) _ _ (update_with_named a c (value_of d) (conditions_of words)) named_none

select_with_named : (table : List ℕ) (columns : List (List ℕ)) (preds : Option (List Pred)) → Named (grammar.select_with table columns preds)
select_with_named table columns None = named_none
select_with_named table columns (Some preds) = named_cond (nat_lt 0 (length columns)) _ _ (named_some (statements.Ask (queries.Select table (Some columns) preds)) refl) named_none

asked_named : (table : List ℕ) (words : List (List ℕ)) → Named (grammar.columns_asked table words)
asked_named table [] = named_none
asked_named table (word ∷ words) =
    named_cond (same_bytes word (codes "*")) _ _ (named_mapped (λ preds. statements.Ask (queries.Select table None preds)) (conditions_of words) (λ preds. refl))
    (named_then (λ columns. grammar.select_with table columns (conditions_of (grammar.from_where (word ∷ words)))) (grammar.names_before (word ∷ words)) (λ columns. select_with_named table columns (conditions_of (grammar.from_where (word ∷ words)))))

select_named : (words : List (List ℕ)) → Named (grammar.select_of words)
select_named [] = named_none
select_named (table ∷ words) = named_cond (is_name table) _ _ (asked_named table words) named_none

query_named : (verb : List ℕ) (words : List (List ℕ)) → Named (grammar.query_of verb words)
query_named verb words =
    named_cond (same_bytes verb (codes "select")) _ _ (select_named words)
    (named_cond (same_bytes verb (codes "count")) _ _ (chosen_named (λ table preds. statements.Ask (queries.Count table preds)) (λ t p. refl) words)
    (named_cond (same_bytes verb (codes "sum")) _ _ (folded_named (λ table column preds. statements.Ask (queries.Sum table column preds)) (λ t c p. refl) words)
    (named_cond (same_bytes verb (codes "min")) _ _ (folded_named (λ table column preds. statements.Ask (queries.Min table column preds)) (λ t c p. refl) words)
    (named_cond (same_bytes verb (codes "max")) _ _ (folded_named (λ table column preds. statements.Ask (queries.Max table column preds)) (λ t c p. refl) words)
    (named_cond (same_bytes verb (codes "group")) _ _ (group_named words)
    (named_cond (same_bytes verb (codes "join")) _ _ (join_named words) named_none))))))

table_statement_named : (verb : List ℕ) (words : List (List ℕ)) → Named (grammar.table_statement_of verb words)
table_statement_named verb words =
    named_cond (same_bytes verb (codes "insert")) _ _ (rows_named statements.Insert (λ t v. refl) words)
    (named_cond (same_bytes verb (codes "bulk")) _ _ (rows_named statements.Bulk (λ t v. refl) words)
    (named_cond (same_bytes verb (codes "update")) _ _ (update_named words)
    (named_cond (same_bytes verb (codes "delete")) _ _ (chosen_named statements.Delete (λ t p. refl) words)
    (named_cond (same_bytes verb (codes "create")) _ _ (create_named words) (query_named verb words)))))

merge_l1_named : (words : List (List ℕ)) → Named (grammar.merge_l1_of words)
merge_l1_named [] = named_none
merge_l1_named (a ∷ []) = named_none
merge_l1_named (a ∷ b ∷ []) = named_cond (is_name a) _ _ (named_mapped (statements.MergeL1 a) (grammar.count_of b) (λ n. refl)) named_none
merge_l1_named (a ∷ b ∷ c ∷ words) = named_none

merge_begin_named : (words : List (List ℕ)) → Named (grammar.merge_begin_of words)
merge_begin_named [] = named_none
merge_begin_named (a ∷ []) = named_none
merge_begin_named (a ∷ b ∷ []) = named_cond (is_name a) _ _ (named_mapped (statements.MergeBegin a) (grammar.merge_kind_of b) (λ k. refl)) named_none
merge_begin_named (a ∷ b ∷ c ∷ words) = named_none

merge_named : (words : List (List ℕ)) → Named (grammar.merge_of words)
merge_named [] = named_none
merge_named (verb ∷ words) = named_cond (same_bytes verb (codes "l1")) _ _ (merge_l1_named words) (named_cond (same_bytes verb (codes "begin")) _ _ (merge_begin_named words) named_none)

stated : {E : Type 0} (r : Result (Option Statement) E) (o : Option Statement) → Named o → Reads r o → ReadsStatement r o
stated (Ok read) o named h = h
stated (Err e) o named h = named h

-- a reader of a statement that names a table takes no memory for any other
pub stated-table : {E : Type 0} (r : Result (Option Statement) E) (verb : List ℕ) (words : List (List ℕ)) → Reads r (grammar.table_statement_of verb words) → ReadsStatement r (grammar.table_statement_of verb words)
stated-table r verb words h = stated r (grammar.table_statement_of verb words) (table_statement_named verb words) h

pub stated-merge : {E : Type 0} (r : Result (Option Statement) E) (words : List (List ℕ)) → Reads r (grammar.merge_of words) → ReadsStatement r (grammar.merge_of words)
stated-merge r words h = stated r (grammar.merge_of words) (merge_named words) h

-- a line of a session may lack memory where its statement needs it
pub lacks_memory : (session : ℕ) (o : Option Statement) → needs_memory o ≡ true → MayLackMemory session (said_by session o)
lacks_memory session None h = cc
lacks_memory session (Some st) h = (refl, h)
