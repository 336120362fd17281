-- The line that a book has of a statement of the store is read as that statement.
use Rattle.std.proofs.Common.{ℕ, ◌≡◌, ◌<◌, ◌≤◌, ◌^◌, Bool, true, false, cond, not, ◌&&◌, List, [], ◌∷◌, ◌++◌, length, Option, None, Some, Result, Ok, Err, refl, ap, ◌∙◌, sym, arith, rules, append_assoc}
use Rattle.std.proofs.lemmas.Grind.{common_steps}
use Rattle.std.proofs.lemmas.Str.Parse.{IsNumeralModel, numerals_by_fold}
use Rattle.std.proofs.lemmas.Fmt.{digits_decimal, decimal_nonempty}
use Rattle.std.specs.Prelude.{nat_eq, nat_le, codes, decimal, filter, IsTrue, OnOk}
use Rattle.std.specs.List.{list_all}
use Rattle.std.specs.Option.{option_map}
use Rattle.ut_value.specs.declared.entry.MergeKind.{MergeKind}
use Rattle.ut_value.specs.declared.entry.MergeKind.TheVariants.{Classic, Resort, Partial, Extend}
use Rattle.ut_value.specs.Text.{is_name, is_name_byte, is_digit, starts_with_letter, is_reserved}
use Rattle.ut_plain.specs.declared.statement.Statement.{Statement}
use Rattle.ut_plain.specs.declared.statement.Statement.TheVariants as statements
use Rattle.ut_plain.specs.declared.statement.Parsed.TheVariants.{Good}
use Rattle.ut_plain.specs.Spelled.{is_spelled}
use Rattle.ut_store.specs.Standing.{is_of_store}
use Rattle.ut_script.specs.Words.{pieces_of, onto_piece, has_bytes}
use Rattle.ut_script.specs.Literals.{number_from, within}
use Rattle.ut_script.specs.Statements.{count_of, merge_kind_of}
use Rattle.ut_script.specs.Grammar.{line_of, parsed, said_by}
use Rattle.ut_script.proofs.NumberLaws.{number_of-decimal}
use Rattle.ut_crowd.specs.declared.book.Asked.TheVariants.{Store}
use Rattle.ut_crowd.specs.Texts.{asked_text, kind_text}

-- ---- words without spaces and quotes

is_plain : ℕ → Bool
is_plain b = not (nat_eq b 32) && not (nat_eq b 39)

both : (a b : Bool) → (a && b) ≡ true → (a ≡ true) × (b ≡ true)
both true b h = (refl, h)
both false b h = cc

neither : (s t : Bool) → (not s && not t) ≡ true → (s ≡ false) × (t ≡ false)
neither false false h = (refl, refl)
neither false true h = cc
neither true t h = cc

piece_more : (b : ℕ) (bytes : List ℕ) → is_plain b ≡ true → pieces_of false (b ∷ bytes) ≡ onto_piece b (pieces_of false bytes)
unfolding is_plain
piece_more b bytes h =
    let n = neither (nat_eq b 32) (nat_eq b 39) h in
    ap (λ (t : Bool). cond (t && true) ([] ∷ pieces_of false bytes) (onto_piece b (pieces_of (cond (nat_eq b 39) true false) bytes))) n.0
    ∙ ap (λ (t : Bool). onto_piece b (pieces_of (cond t true false) bytes)) n.1

pieces_front : (word rest : List ℕ) → list_all is_plain word ≡ true → pieces_of false (word ++ 32 ∷ rest) ≡ word ∷ pieces_of false rest
pieces_front [] rest h = refl
pieces_front (b ∷ word) rest h =
    let k = both (is_plain b) (list_all is_plain word) h in piece_more b (word ++ 32 ∷ rest) k.0 ∙ ap (onto_piece b) (pieces_front word rest k.1)

pieces_last : (word : List ℕ) → list_all is_plain word ≡ true → pieces_of false word ≡ word ∷ []
pieces_last [] h = refl
pieces_last (b ∷ word) h =
    let k = both (is_plain b) (list_all is_plain word) h in
    piece_more b word k.0 ∙ ap (onto_piece b) (pieces_last word k.1)

plain_by : (p : ℕ → Bool) → p 32 ≡ false → p 39 ≡ false → (b : ℕ) → p b ≡ true → is_plain b ≡ true
unfolding is_plain
plain_by p space quote b h = by (nat_eq b 32) (nat_eq b 39) refl refl
  where
    by : (s t : Bool) → nat_eq b 32 ≡ s → nat_eq b 39 ≡ t → (not s && not t) ≡ true
    by false false e f = refl
    by false true e f = let is : b ≡ 39 = grind (arith, common_steps, f) in let no : true ≡ false = sym h ∙ ap p is ∙ quote in cc
    by true t e f = let is : b ≡ 32 = grind (arith, common_steps, e) in let no : true ≡ false = sym h ∙ ap p is ∙ space in cc

all_plain : (p : ℕ → Bool) → p 32 ≡ false → p 39 ≡ false → (word : List ℕ) → list_all p word ≡ true → list_all is_plain word ≡ true
all_plain p space quote [] h = refl
all_plain p space quote (b ∷ word) h =
    let k = both (p b) (list_all p word) h in
    ap (λ (t : Bool). t && list_all is_plain word) (plain_by p space quote b k.0) ∙ all_plain p space quote word k.1

-- ---- names, numbers and kinds

-- a word that is parted from others by spaces
record IsWord (word : List ℕ) : Type 0 where
  pub plain : list_all is_plain word ≡ true
  pub some : has_bytes word ≡ true

some_letter : (word : List ℕ) → starts_with_letter word ≡ true → has_bytes word ≡ true
some_letter [] h = cc
some_letter (b ∷ word) h = refl

name_word : (name : List ℕ) → is_name name ≡ true → IsWord name
name_word name h =
    let a = both (starts_with_letter name && list_all is_name_byte name && nat_le (length name) 32) (not (is_reserved name)) h in
    let b = both (starts_with_letter name && list_all is_name_byte name) (nat_le (length name) 32) a.0 in
    let d = both (starts_with_letter name) (list_all is_name_byte name) b.0 in
    record { plain = all_plain is_name_byte refl refl name d.1; some = some_letter name d.0 }

own : IsNumeralModel (λ ds. list_all is_digit ds ≡ true) (number_from 0)
own = numerals_by_fold _ (search rules) number_from (search rules)

some_digit : (word : List ℕ) → 0 < length word → has_bytes word ≡ true
some_digit [] h = absurd (omega (arith, h))
some_digit (b ∷ word) h = refl

number_word : (n : ℕ) → n < 2 ^ 64 → IsWord (decimal n)
number_word n h = record { plain = all_plain is_digit refl refl (decimal n) (digits_decimal own n h); some = some_digit (decimal n) (decimal_nonempty n h) }

record IsCount (n : ℕ) : Type 0 where
  pub within : (nat_le 1 n && nat_le n 1048576) ≡ true
  pub few : n ≤ 1048576

counted : (n : ℕ) → (nat_le 1 n && nat_le n 1048576) ≡ true → IsCount n
counted n h = record { within = h; few = grind (arith, common_steps, h) }

count_read : (n : ℕ) → IsCount n → count_of (decimal n) ≡ Some n
count_read n c =
    let few = c.few in
    ap (within 1 1048576) (number_of-decimal n (omega (arith, few))) ∙ ap (λ (t : Bool). cond t (Some n) None) c.within

kind_word : (kind : MergeKind) → IsWord (kind_text kind)
unfolding is_plain
kind_word Classic = record { plain = refl; some = refl }
kind_word Resort = record { plain = refl; some = refl }
kind_word Partial = record { plain = refl; some = refl }
kind_word Extend = record { plain = refl; some = refl }

kind_read : (kind : MergeKind) → merge_kind_of (kind_text kind) ≡ Some kind
kind_read Classic = refl
kind_read Resort = refl
kind_read Partial = refl
kind_read Extend = refl

-- ---- lines

one_word : (a : List ℕ) → IsWord a → filter has_bytes (pieces_of false a) ≡ a ∷ []
one_word a w = ap (filter has_bytes) (pieces_last a w.plain) ∙ ap (λ (t : Bool). cond t (a ∷ []) []) w.some

two_words : (a b : List ℕ) → IsWord a → IsWord b → filter has_bytes (pieces_of false (a ++ 32 ∷ b)) ≡ a ∷ b ∷ []
two_words a b w x =
    ap (filter has_bytes) (pieces_front a b w.plain)
    ∙ ap (λ (t : Bool). cond t (a ∷ filter has_bytes (pieces_of false b)) (filter has_bytes (pieces_of false b))) w.some
    ∙ ap (λ (rest : List (List ℕ)). a ∷ rest) (one_word b x)

l1_read : (table : List ℕ) (n : ℕ) → is_name table ≡ true → IsCount n → parsed false (asked_text (Store (statements.MergeL1 table n))) ≡ Good 0 (statements.MergeL1 table n)
l1_read table n h c =
    let few = c.few in
    ap (λ (words : List (List ℕ)). line_of false (codes "0" ∷ codes "merge" ∷ codes "l1" ∷ words)) (two_words table (decimal n) (name_word table h) (number_word n (omega (arith, few))))
    ∙ ap (λ (t : Bool). said_by 0 (cond t (option_map (statements.MergeL1 table) (count_of (decimal n))) None)) h
    ∙ ap (λ (o : Option ℕ). said_by 0 (option_map (statements.MergeL1 table) o)) (count_read n c)

begin_read : (table : List ℕ) (kind : MergeKind) → is_name table ≡ true → parsed false (asked_text (Store (statements.MergeBegin table kind))) ≡ Good 0 (statements.MergeBegin table kind)
begin_read table kind h =
    ap (λ (words : List (List ℕ)). line_of false (codes "0" ∷ codes "merge" ∷ codes "begin" ∷ words)) (two_words table (kind_text kind) (name_word table h) (kind_word kind))
    ∙ ap (λ (t : Bool). said_by 0 (cond t (option_map (statements.MergeBegin table) (merge_kind_of (kind_text kind))) None)) h
    ∙ ap (λ (o : Option MergeKind). said_by 0 (option_map (statements.MergeBegin table) o)) (kind_read kind)

step_read : (n : ℕ) → IsCount n → parsed false (asked_text (Store (statements.SaveStep n))) ≡ Good 0 (statements.SaveStep n)
step_read n c =
    let few = c.few in
    ap (λ (words : List (List ℕ)). line_of false (codes "0" ∷ codes "save" ∷ codes "step" ∷ words)) (one_word (decimal n) (number_word n (omega (arith, few))))
    ∙ ap (λ (o : Option ℕ). said_by 0 (option_map statements.SaveStep o)) (count_read n c)

shape_read : (table : List ℕ) → is_name table ≡ true → parsed false (asked_text (Store (statements.Shape table))) ≡ Good 0 (statements.Shape table)
shape_read table h =
    ap (λ (words : List (List ℕ)). line_of false (codes "0" ∷ codes "shape" ∷ words)) (one_word table (name_word table h))
    ∙ ap (λ (t : Bool). said_by 0 (cond t (Some (statements.Shape table)) None)) h

-- what is printed of a statement of the store is read as that statement of session 0
pub store_line_read : (st : Statement) → IsTrue (is_of_store st) → IsTrue (is_spelled st) → parsed false (asked_text (Store st)) ≡ Good 0 st
store_line_read (statements.Create name columns) of spelled = cc
store_line_read (statements.Insert name values) of spelled = cc
store_line_read (statements.Bulk name values) of spelled = cc
store_line_read (statements.Ask query) of spelled = cc
store_line_read (statements.Update name column value preds) of spelled = cc
store_line_read (statements.Delete name preds) of spelled = cc
store_line_read statements.Begin of spelled = cc
store_line_read statements.Commit of spelled = cc
store_line_read statements.Abort of spelled = cc
store_line_read (statements.MergeL1 table n) of spelled = let k = both (is_name table) (nat_le 1 n && nat_le n 1048576) spelled in l1_read table n k.0 (counted n k.1)
store_line_read (statements.MergeBegin table kind) of spelled = begin_read table kind spelled
store_line_read statements.MergeEnd of spelled = refl
store_line_read statements.SaveBegin of spelled = refl
store_line_read (statements.SaveStep n) of spelled = step_read n (counted n spelled)
store_line_read statements.SaveSeal of spelled = refl
store_line_read statements.SaveFlip of spelled = refl
store_line_read statements.SaveDrop of spelled = refl
store_line_read (statements.Shape table) of spelled = shape_read table spelled

-- a text that was put in two parts
pub two_parts : {T E : Type 0} (r : Result T E) (new mid out a b whole : List ℕ) → OnOk r (new ≡ mid ++ b) → mid ≡ out ++ a → whole ≡ a ++ b → OnOk r (new ≡ out ++ whole)
two_parts (Ok x) new mid out a b whole e f w = e ∙ ap (λ (l : List ℕ). l ++ b) f ∙ append_assoc out a b ∙ ap (λ (l : List ℕ). out ++ l) (sym w)
two_parts (Err x) new mid out a b whole e f w = tt
