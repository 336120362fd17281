-- One more word of a list of words that each spell something.
use Rattle.std.proofs.Common.{ℕ, suc, ◌≡◌, ◌+◌, ◌≤◌, Bool, true, false, List, [], ◌∷◌, ◌++◌, length, Option, None, Some, refl, ap, ◌∙◌, sym, append_assoc, arith}
use Rattle.std.proofs.lemmas.List.{length-append}
use Rattle.std.specs.Prelude.{is_some, option_and_then}
use Rattle.std.specs.Option.{option_map}
use Rattle.std.proofs.Common.{cond, take, drop}
use Rattle.ut_value.specs.Text.{is_name}
use Rattle.ut_value.specs.declared.value.Kind.{Kind}
use Rattle.ut_value.specs.declared.value.Column.{Column}
use Rattle.ut_script.specs.Words.{all_of}
use Rattle.ut_script.specs.Literals.{name_of, kind_of, colon_at, column_of, column_with}

stopped : {A B : Type 0} (n : ℕ) (x : Option A) (f : A → Option (List B)) → is_some x ≡ false → option_map (λ m. n + m) (option_map length (option_and_then f x)) ≡ None
stopped n None f h = refl
stopped n (Some x) f h = cc

moved : {A : Type 0} (front : List A) (v : A) (o : Option (List A)) → option_map (λ vs. (front ++ v ∷ []) ++ vs) o ≡ option_map (λ vs. front ++ vs) (option_map (λ vs. v ∷ vs) o)
moved front v None = refl
moved front v (Some vs) = ap (λ l. Some l) (append_assoc front (v ∷ []) vs)

first_some : {A : Type 0} (front : List A) (x : Option A) (f : A → Option (List A)) → is_some (option_map (λ vs. front ++ vs) (option_and_then f x)) ≡ true → is_some x ≡ true
first_some front None f h = cc
first_some front (Some x) f h = refl

is_some-mapped : {A B : Type 0} (f : A → B) (o : Option A) → is_some (option_map f o) ≡ is_some o
is_some-mapped f None = refl
is_some-mapped f (Some x) = refl

room_by : {A : Type 0} (front : List A) (x : Option A) (xs : Option (List A)) (count : ℕ) → option_map length (option_map (λ vs. front ++ vs) (option_and_then (λ y. option_map (λ ys. y ∷ ys) xs) x)) ≡ Some count → length front + 1 ≤ count
room_by front None xs count h = cc
room_by front (Some x) None count h = cc
room_by front (Some x) (Some xs) count h = let e : length (front ++ x ∷ xs) ≡ count = cc in omega (arith, length-append front (x ∷ xs), e)

named : (t : Bool) (front name : List ℕ) (kind : Kind) → cond t (Some front) None ≡ Some name → let R = λ (n : List ℕ). (let c : Column = record { name = n; kind = kind } in c) in cond t (Some (R front)) None ≡ Some (R name)
named true front name kind h = ap (λ (o : Option (List ℕ)). option_map (λ n. (let c : Column = record { name = n; kind = kind } in c)) o) h
named false front name kind h = cc

-- a column, by its name and its kind
pub column_of-is : (word front back name : List ℕ) (kind : Kind) → front ≡ take (colon_at word) word → back ≡ drop (colon_at word) word → name_of front ≡ Some name → kind_of back ≡ Some kind
    → column_of word ≡ Some (record { name = name; kind = kind })
unfolding column_of
column_of-is word front back name kind e f h k =
    ap (λ (n : List ℕ). column_with n (kind_of (drop (colon_at word) word))) (sym e)
    ∙ ap (λ (b : List ℕ). column_with front (kind_of b)) (sym f)
    ∙ ap (λ (o : Option Kind). column_with front o) k
    ∙ named (is_name front) front name kind h
