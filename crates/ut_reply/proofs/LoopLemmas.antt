-- A step of a loop over items: what is put of each, and what each takes.
use Rattle.std.proofs.Common.{ℕ, ◌≡◌, ◌+◌, ◌<◌, ◌≤◌, ◌^◌, ◌++◌, ◌∷◌, [], List, Option, None, length, map, drop, take, get_or, SomeIff, sym, ap, subst, ◌∙◌, arith}
use Rattle.std.proofs.lemmas.List.{append_assoc, drop_more, take_more, map-append}
use Rattle.std.proofs.lemmas.List.Concat.{flat_map-cons}
use Rattle.std.proofs.lemmas.List.Sums.{sum_by-cons}
use Rattle.std.specs.Prelude.{flat_map, sum_by}
use Rattle.ut_value.specs.declared.value.Value.{Value}
use Rattle.ut_reply.specs.Columns.{Led, led, led_columns}

-- the item and those behind it
pub item_read : {A : Type 0} (xs : List A) (i : ℕ) (x : A) → i < length xs → x ≡ get_or xs i x → drop i xs ≡ x ∷ drop (i + 1) xs
item_read xs i x below is = drop_more xs i x below ∙ ap (λ y. y ∷ drop (i + 1) xs) (sym is)

-- what it takes, and what those behind it take
pub item_sum : {A : Type 0} (g : A → ℕ) (xs : List A) (i : ℕ) (x : A) → drop i xs ≡ x ∷ drop (i + 1) xs → sum_by g (drop i xs) ≡ g x + sum_by g (drop (i + 1) xs)
item_sum g xs i x read = ap (λ them. sum_by g them) read ∙ sum_by-cons g x (drop (i + 1) xs)

-- its text comes behind those so far
pub item_comes : {A : Type 0} (f : A → List ℕ) (xs : List A) (i : ℕ) (x : A) (whole out after : List ℕ) → drop i xs ≡ x ∷ drop (i + 1) xs
    → out ++ flat_map f (drop i xs) ≡ whole → after ≡ out ++ f x → after ++ flat_map f (drop (i + 1) xs) ≡ whole
item_comes f xs i x whole out after read so_far put =
    let rest = flat_map f (drop (i + 1) xs) in
    ap (λ them. them ++ rest) put
    ∙ append_assoc out (f x) rest
    ∙ ap (λ them. out ++ them) (sym (ap (λ them. flat_map f them) read ∙ flat_map-cons f x (drop (i + 1) xs)))
    ∙ so_far

-- there is room for it
pub has_room : (before all capacity out item left rest now : ℕ) → before + all ≤ capacity → capacity ≤ now → out + left ≤ before + all → left ≡ item + rest → out + item ≤ now
has_room before all capacity out item left rest now given kept so_far step = omega arith

-- and then for those behind it
pub takes_room : (all out item left rest after : ℕ) → out + left ≤ all → left ≡ item + rest → after ≤ out + item → after + rest ≤ all
takes_room all out item left rest after so_far step put = omega arith

-- a byte may be left over
pub one_spare : (out item line after : ℕ) → after ≤ out + item → item ≡ line → after ≤ out + (line + 1)
one_spare out item line after put is = omega arith

-- there is no less room
pub no_less : (before out after : ℕ) → before ≤ out → out ≤ after → before ≤ after
no_less before out after first second = omega arith

-- a sum with the next item
pub sum_more : (so_far more item left rest all now : ℕ) → more ≡ item → so_far + left ≡ all → left ≡ item + rest → now ≡ so_far + more → now + rest ≡ all
sum_more so_far more item left rest all now is sum step next = omega arith

-- a sum that is too large with the next item
pub sum_over : (result : Option ℕ) (so_far more item left rest all : ℕ) → result ≡ None → (so_far + more < 2 ^ 64 → ⊥) → more ≡ item → so_far + left ≡ all → left ≡ item + rest
    → SomeIff result (all < 2 ^ 64) all
sum_over result so_far more item left rest all none over is sum step =
    let least : so_far + more ≤ all = omega arith in
    subst (λ (it : Option ℕ). SomeIff it (all < 2 ^ 64) all) (sym none) (λ fits. over (omega (arith, fits, least)))

-- one more of what is made of each
pub made_more : {A B : Type 0} (f : A → B) (xs : List A) (i : ℕ) (x : A) → i < length xs → x ≡ get_or xs i x → map f (take i xs) ++ (f x ∷ []) ≡ map f (take (i + 1) xs)
made_more f xs i x below is =
    ap (λ y. map f (take i xs) ++ (f y ∷ [])) is ∙ sym (ap (λ them. map f them) (take_more xs i x below) ∙ map-append f (take i xs) (get_or xs i x ∷ []))

-- one more column
pub led_more : (first : List Value) (more : List (List Value)) (i : ℕ) (cells : List Value) (columns after : List Led) (made : Led) → i < length more → cells ≡ get_or more i cells
    → columns ≡ led_columns (first ∷ take i more) → made ≡ led 32 cells → after ≡ columns ++ (made ∷ []) → after ≡ led_columns (first ∷ take (i + 1) more)
led_more first more i cells columns after made below is so_far led_is put =
    put
    ∙ ap (λ them. them ++ (made ∷ [])) so_far
    ∙ ap (λ one. led_columns (first ∷ take i more) ++ (one ∷ [])) led_is
    ∙ ap (λ them. led 10 first ∷ them) (made_more (led 32) more i cells below is)
