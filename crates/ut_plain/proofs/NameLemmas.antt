-- Names of tables: a table whose name no other has.
use Rattle.std.proofs.Common.{◌≡◌, ℕ, ◌+◌, Bool, true, false, not, ◌&&◌, ◌||◌, cond, List, [], ◌∷◌, ◌++◌, length, Option, None, Some, refl, sym, ◌∙◌, ap, arith, IsTrue, nat_eq, nat_lt}
use Rattle.std.specs.Option.{is_some, is_none}
use Rattle.std.specs.List.{position, position_or_len}
use Rattle.std.proofs.lemmas.Bool.Decides.{nat_tests}
use Rattle.ut_value.specs.Text.{same_bytes}
use Rattle.ut_plain.specs.declared.table.Table.{Table}
use Rattle.ut_plain.specs.Tables.{place_of, has_table, tables_differ}
use Rattle.ut_plain.proofs.BoolLemmas.{and_left, and_right, and_both}

eqb_swap : (x y : ℕ) → nat_eq x y ≡ nat_eq y x
eqb_swap x y = grind (arith, nat_tests)

same_bytes_swap : (xs ys : List ℕ) → same_bytes xs ys ≡ same_bytes ys xs
same_bytes_swap [] [] = refl
same_bytes_swap [] (y ∷ ys) = refl
same_bytes_swap (x ∷ xs) [] = refl
same_bytes_swap (x ∷ xs) (y ∷ ys) = λ i. eqb_swap x y i && same_bytes_swap xs ys i

any_parts : (a b : Bool) → (a || b) ≡ false → (a ≡ false) × (b ≡ false)
any_parts true b is = cc
any_parts false b is = (refl, is)

none_some : {X : Type 0} (o : Option X) → IsTrue (is_none o) → is_some o ≡ false
none_some None none = refl
none_some (Some x) none = cc

-- whether one is found in a list: whether it is the first, or found behind it
module _ {X : Type 0} (test : X → Bool) where
  is_found : (xs : List X) → is_some (position test xs) ≡ nat_lt (position_or_len test xs) (length xs)
  is_found xs = by (nat_lt (position_or_len test xs) (length xs))
    where
      by : (b : Bool) → is_some (cond b (Some (position_or_len test xs)) None) ≡ b
      by true = refl
      by false = refl

  found-cons : (x : X) (xs : List X) → is_some (position test (x ∷ xs)) ≡ (test x || is_some (position test xs))
  found-cons x xs = is_found (x ∷ xs) ∙ by (test x) ∙ ap (λ (b : Bool). test x || b) (sym (is_found xs))
    where
      by : (b : Bool) → nat_lt (cond (not b) (1 + position_or_len test xs) 0) (length (x ∷ xs)) ≡ (b || nat_lt (position_or_len test xs) (length xs))
      by true = grind (arith, nat_tests)
      by false = grind (arith, nat_tests)

-- a table has a name where it is the first's, or one's behind it
pub has_table-cons : (t : Table) (ts : List Table) (name : List ℕ) → has_table (t ∷ ts) name ≡ (same_bytes t.name name || has_table ts name)
has_table-cons t ts name = found-cons (λ (u : Table). same_bytes u.name name) t ts

has_none : (t : Table) (ts : List Table) (name : List ℕ) → has_table (t ∷ ts) name ≡ false → (same_bytes t.name name ≡ false) × (has_table ts name ≡ false)
has_none t ts name none = any_parts (same_bytes t.name name) (has_table ts name) (sym (has_table-cons t ts name) ∙ none)

has_push : (us : List Table) (t : Table) (name : List ℕ) → has_table us name ≡ false → same_bytes t.name name ≡ false → has_table (us ++ t ∷ []) name ≡ false
has_push [] t name none other = has_table-cons t [] name ∙ (λ i. other i || false)
has_push (u ∷ us) t name none other =
    let parts = has_none u us name none in has_table-cons u (us ++ t ∷ []) name ∙ (λ i. parts.0 i || has_push us t name parts.1 other i)

not_not : (b : Bool) → not b ≡ true → b ≡ false
not_not true is = sym is
not_not false is = refl

differ_push : (us : List Table) (t : Table) → IsTrue (tables_differ us) → has_table us t.name ≡ false → IsTrue (tables_differ (us ++ t ∷ []))
differ_push [] t differ none = refl
differ_push (u ∷ us) t differ none =
    let parts = has_none u us t.name none in
    let first : has_table us u.name ≡ false = not_not (has_table us u.name) (and_left (not (has_table us u.name)) (tables_differ us) differ) in
    let more : has_table (us ++ t ∷ []) u.name ≡ false = has_push us t u.name first (same_bytes_swap t.name u.name ∙ parts.0) in
    and_both (not (has_table (us ++ t ∷ []) u.name)) (tables_differ (us ++ t ∷ [])) (ap not more) (differ_push us t (and_right (not (has_table us u.name)) (tables_differ us) differ) parts.1)

-- one more table, whose name no other has
pub tables_differ-more : (tables : List Table) (t : Table) → IsTrue (tables_differ tables) → IsTrue (is_none (place_of tables t.name)) → IsTrue (tables_differ (tables ++ t ∷ []))
tables_differ-more tables t differ none = differ_push tables t differ (none_some (place_of tables t.name) none)
