-- Where the grammar says a statement, and what that statement names.
use Rattle.std.proofs.Common.{ℕ, ◌≡◌, Bool, true, false, cond, ◌&&◌, List, [], ◌∷◌, length, Option, None, Some, refl, ap, ◌∙◌, sym}
use Rattle.std.proofs.Common.{◌+◌, ◌≤◌, ◌++◌, append_assoc, arith}
use Rattle.std.proofs.lemmas.List.{length-append}
use Rattle.std.specs.Prelude.{is_some, unwrap_or}
use Rattle.std.specs.Option.{option_map}
use Rattle.ut_value.specs.Text.{is_name}
use Rattle.ut_value.specs.declared.value.Value.{Value}
use Rattle.ut_plain.specs.declared.statement.Pred.{Pred}
use Rattle.ut_plain.specs.declared.statement.Statement.{Statement}
use Rattle.ut_plain.specs.declared.statement.Statement.TheVariants as saids
use Rattle.ut_script.specs.Conditions.{conditions_of}
use Rattle.ut_script.specs.Statements.{is_chosen, chosen_of, is_folded, folded_of, update_with, is_where, names_before, is_named_word, count_of, merge_kind_of, merge_l1_of, merge_begin_of}
use Rattle.ut_script.specs.Literals.{name_of}

pub is_some-mapped : {A B : Type 0} (f : A → B) (o : Option A) → is_some (option_map f o) ≡ is_some o
is_some-mapped f None = refl
is_some-mapped f (Some x) = refl

pub is_some-update : (table column : List ℕ) (value : Option Value) (preds : Option (List Pred)) → is_some value ≡ true → is_some preds ≡ true → is_some (update_with table column value preds) ≡ true
is_some-update table column None preds h k = cc
is_some-update table column (Some v) None h k = cc
is_some-update table column (Some v) (Some ps) h k = refl

pub update-none : (table column : List ℕ) (value : Option Value) (preds : Option (List Pred)) → is_some preds ≡ false → update_with table column value preds ≡ None
update-none table column None preds h = refl
update-none table column (Some v) None h = refl
update-none table column (Some v) (Some ps) h = cc

pub update-no_value : (table column : List ℕ) (value : Option Value) (preds : Option (List Pred)) → is_some value ≡ false → update_with table column value preds ≡ None
update-no_value table column None preds h = refl
update-no_value table column (Some v) preds h = cc

pub is_none : {A : Type 0} (o : Option A) → is_some o ≡ false → o ≡ None
is_none None h = refl
is_none (Some x) h = cc

pub not_folded : (say : List ℕ → List ℕ → List Pred → Statement) (words : List (List ℕ)) → is_folded words ≡ false → folded_of say words ≡ None
not_folded say [] h = refl
not_folded say (a ∷ []) h = refl
not_folded say (a ∷ b ∷ words) h = by_test (is_name a && is_name b) (conditions_of words) h
  where
    by_test : (t : Bool) (o : Option (List Pred)) → (t && is_some o) ≡ false → cond t (option_map (say a b) o) None ≡ None
    by_test false o h = refl
    by_test true None h = refl
    by_test true (Some ps) h = cc

pub not_chosen : (say : List ℕ → List Pred → Statement) (words : List (List ℕ)) → is_chosen words ≡ false → chosen_of say words ≡ None
not_chosen say [] h = refl
not_chosen say (a ∷ words) h = by_test (is_name a) (conditions_of words) h
  where
    by_test : (t : Bool) (o : Option (List Pred)) → (t && is_some o) ≡ false → cond t (option_map (say a) o) None ≡ None
    by_test false o h = refl
    by_test true None h = refl
    by_test true (Some ps) h = cc

pub not_named-l1 : (words : List (List ℕ)) → is_named_word words ≡ false → merge_l1_of words ≡ None
not_named-l1 [] h = refl
not_named-l1 (table ∷ []) h = refl
not_named-l1 (table ∷ n ∷ []) h = ap (λ (t : Bool). cond t (option_map (λ k. saids.MergeL1 table k) (count_of n)) None) h
not_named-l1 (table ∷ n ∷ word ∷ words) h = refl

pub not_named-begin : (words : List (List ℕ)) → is_named_word words ≡ false → merge_begin_of words ≡ None
not_named-begin [] h = refl
not_named-begin (table ∷ []) h = refl
not_named-begin (table ∷ kind ∷ []) h = ap (λ (t : Bool). cond t (option_map (λ k. saids.MergeBegin table k) (merge_kind_of kind)) None) h
not_named-begin (table ∷ kind ∷ word ∷ words) h = refl

moved : (front : List (List ℕ)) (v : List ℕ) (o : Option (List (List ℕ))) → option_map (λ vs. (front ++ v ∷ []) ++ vs) o ≡ option_map (λ vs. front ++ vs) (option_map (λ vs. v ∷ vs) o)
moved front v None = refl
moved front v (Some vs) = ap (λ l. Some l) (append_assoc front (v ∷ []) vs)

-- the names of words that begin with a name
before_name : (word : List ℕ) (words : List (List ℕ)) → is_where word ≡ false → is_name word ≡ true → names_before (word ∷ words) ≡ option_map (λ names. word ∷ names) (names_before words)
before_name word words h k =
    ap (λ (t : Bool). cond t (Some []) (cond (is_name word) (option_map (λ names. word ∷ names) (names_before words)) None)) h
    ∙ ap (λ (t : Bool). cond t (option_map (λ names. word ∷ names) (names_before words)) None) k

is_named : (t : Bool) (word name : List ℕ) → cond t (Some word) None ≡ Some name → t ≡ true
is_named true word name h = refl
is_named false word name h = cc

is_its_name : (t : Bool) (word name : List ℕ) → cond t (Some word) None ≡ Some name → word ≡ name
is_its_name true word name h = ap (λ (o : Option (List ℕ)). unwrap_or o word) h
is_its_name false word name h = cc

-- one more name
pub names-next : (front : List (List ℕ)) (word name : List ℕ) (words : List (List ℕ)) → is_where word ≡ false → name_of word ≡ Some name
    → option_map (λ vs. (front ++ name ∷ []) ++ vs) (names_before words) ≡ option_map (λ vs. front ++ vs) (names_before (word ∷ words))
names-next front word name words h k =
    moved front name (names_before words)
    ∙ ap (λ (n : List ℕ). option_map (λ vs. front ++ vs) (option_map (λ names. n ∷ names) (names_before words))) (sym (is_its_name (is_name word) word name k))
    ∙ ap (λ (o : Option (List (List ℕ))). option_map (λ vs. front ++ vs) o) (sym (before_name word words h (is_named (is_name word) word name k)))

room_by : (front : List (List ℕ)) (name : List ℕ) (o : Option (List (List ℕ))) (count : ℕ) → option_map length (option_map (λ vs. (front ++ name ∷ []) ++ vs) o) ≡ Some count → length front + 1 ≤ count
room_by front name None count h = cc
room_by front name (Some vs) count h = let e : length ((front ++ name ∷ []) ++ vs) ≡ count = cc in omega (arith, length-append (front ++ name ∷ []) vs, length-append front (name ∷ []), e)

-- there is room for one more
pub names-room : (front : List (List ℕ)) (word name : List ℕ) (words : List (List ℕ)) (whole : Option (List (List ℕ))) (count : ℕ) → option_map length whole ≡ Some count → is_where word ≡ false → name_of word ≡ Some name
    → option_map (λ vs. front ++ vs) (names_before (word ∷ words)) ≡ whole → length front + 1 ≤ count
names-room front word name words whole count h w k e =
    room_by front name (names_before words) count (ap (λ (o : Option (List (List ℕ))). option_map length o) (names-next front word name words w k ∙ e) ∙ h)

pub ruleset statements = (is_some-mapped, is_some-update, update-none, update-no_value, is_none, not_chosen, not_folded, not_named-l1, not_named-begin)
