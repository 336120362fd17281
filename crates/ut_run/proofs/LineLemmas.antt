-- What a line says has a session that there is, and a statement that suits it.
use Rattle.std.proofs.Common.{ℕ, suc, zero, ◌≡◌, ◌<◌, Bool, true, false, cond, ◌&&◌, List, [], ◌∷◌, Option, None, Some, refl, arith}
use Rattle.std.proofs.lemmas.Grind.{common_steps}
use Rattle.std.specs.Prelude.{nat_eq, nat_le, codes}
use Rattle.std.specs.Option.{option_map}
use Rattle.ut_value.specs.Text.{same_bytes, is_name}
use Rattle.ut_plain.specs.declared.statement.Statement.{Statement}
use Rattle.ut_plain.specs.declared.statement.Statement.TheVariants as statements
use Rattle.ut_plain.specs.declared.statement.Parsed.{Parsed}
use Rattle.ut_plain.specs.declared.statement.Parsed.TheVariants.{Comment}
use Rattle.ut_plain.specs.Laws.{is_spelled_line}
use Rattle.ut_store.specs.Standing.{is_of_store, suits_session}
use Rattle.ut_script.specs.Words.{words_of}
use Rattle.ut_script.specs.Literals.{number_of, within}
use Rattle.ut_script.specs.Statements.{alone, count_of, merge_kind_of, merge_l1_of, merge_begin_of, save_step_of, save_of, merge_end_of, merge_of, shape_of, said_or, store_statement_of}
use Rattle.ut_script.specs.Grammar.{session_of, statement_of, said_by, line_with, line_of, parsed}
use Rattle.ut_script.proofs.SpelledLaws.{passes, if_passes, map_passes, lines_spelled}
use Rattle.ut_run.specs.Saying.{IsKnown}

any_passes : {A : Type 0} (o : Option A) → passes (λ (x : A). true) o ≡ true
any_passes None = refl
any_passes (Some x) = refl

alone_passes : (st : Statement) (words : List (List ℕ)) → is_of_store st ≡ true → passes is_of_store (alone st words) ≡ true
alone_passes st [] h = h
alone_passes st (word ∷ words) h = refl

merge_l1_passes : (words : List (List ℕ)) → passes is_of_store (merge_l1_of words) ≡ true
merge_l1_passes [] = refl
merge_l1_passes (a ∷ []) = refl
merge_l1_passes (table ∷ n ∷ []) = if_passes is_of_store (is_name table) (option_map (statements.MergeL1 table) (count_of n)) None (λ h. map_passes is_of_store (λ m. true) (statements.MergeL1 table) (count_of n) (λ m k. refl) (any_passes (count_of n))) refl
merge_l1_passes (a ∷ b ∷ c ∷ words) = refl

begin_passes : (words : List (List ℕ)) → passes is_of_store (merge_begin_of words) ≡ true
begin_passes [] = refl
begin_passes (a ∷ []) = refl
begin_passes (table ∷ kind ∷ []) = if_passes is_of_store (is_name table) (option_map (statements.MergeBegin table) (merge_kind_of kind)) None (λ h. map_passes is_of_store (λ k. true) (statements.MergeBegin table) (merge_kind_of kind) (λ k l. refl) (any_passes (merge_kind_of kind))) refl
begin_passes (a ∷ b ∷ c ∷ words) = refl

step_passes : (words : List (List ℕ)) → passes is_of_store (save_step_of words) ≡ true
step_passes [] = refl
step_passes (n ∷ []) = map_passes is_of_store (λ m. true) statements.SaveStep (count_of n) (λ m k. refl) (any_passes (count_of n))
step_passes (a ∷ b ∷ words) = refl

save_passes : (words : List (List ℕ)) → passes is_of_store (save_of words) ≡ true
save_passes [] = refl
save_passes (verb ∷ words) =
    if_passes is_of_store (same_bytes verb (codes "begin")) (alone statements.SaveBegin words) _ (λ h. alone_passes statements.SaveBegin words refl)
    (if_passes is_of_store (same_bytes verb (codes "step")) (save_step_of words) _ (λ h. step_passes words)
    (if_passes is_of_store (same_bytes verb (codes "seal")) (alone statements.SaveSeal words) _ (λ h. alone_passes statements.SaveSeal words refl)
    (if_passes is_of_store (same_bytes verb (codes "flip")) (alone statements.SaveFlip words) _ (λ h. alone_passes statements.SaveFlip words refl)
    (if_passes is_of_store (same_bytes verb (codes "drop")) (alone statements.SaveDrop words) None (λ h. alone_passes statements.SaveDrop words refl) refl))))

end_passes : (words : List (List ℕ)) → passes is_of_store (merge_end_of words) ≡ true
end_passes [] = refl
end_passes (verb ∷ words) = if_passes is_of_store (same_bytes verb (codes "end")) (alone statements.MergeEnd words) None (λ h. alone_passes statements.MergeEnd words refl) refl

merge_passes : (words : List (List ℕ)) → passes is_of_store (merge_of words) ≡ true
merge_passes [] = refl
merge_passes (verb ∷ words) =
    if_passes is_of_store (same_bytes verb (codes "l1")) (merge_l1_of words) _ (λ h. merge_l1_passes words)
    (if_passes is_of_store (same_bytes verb (codes "begin")) (merge_begin_of words) None (λ h. begin_passes words) refl)

shape_passes : (words : List (List ℕ)) → passes is_of_store (shape_of words) ≡ true
shape_passes [] = refl
shape_passes (table ∷ []) = if_passes is_of_store (is_name table) (Some (statements.Shape table)) None (λ h. refl) refl
shape_passes (a ∷ b ∷ words) = refl

or_passes : (st other : Option Statement) → passes is_of_store st ≡ true → passes is_of_store other ≡ true → passes is_of_store (said_or st other) ≡ true
or_passes None other h k = k
or_passes (Some st) other h k = h

store_passes : (words : List (List ℕ)) → passes is_of_store (store_statement_of words) ≡ true
store_passes [] = refl
store_passes (verb ∷ words) =
    if_passes is_of_store (same_bytes verb (codes "save")) (save_of words) _ (λ h. save_passes words)
    (if_passes is_of_store (same_bytes verb (codes "merge")) (said_or (merge_end_of words) (merge_of words)) _ (λ h. or_passes (merge_end_of words) (merge_of words) (end_passes words) (merge_passes words))
    (if_passes is_of_store (same_bytes verb (codes "shape")) (shape_of words) None (λ h. shape_passes words) refl))

suits_any : (n : ℕ) (o : Option Statement) → passes (suits_session (suc n)) o ≡ true
suits_any n None = refl
suits_any n (Some st) = refl

statement_suits : (session : ℕ) (words : List (List ℕ)) → passes (suits_session session) (statement_of session words) ≡ true
statement_suits zero words = store_passes words
statement_suits (suc n) words = suits_any n (statement_of (suc n) words)

few : (n : ℕ) → (nat_le 0 n && nat_le n 16) ≡ true → n < 17
few n h = grind (arith, common_steps, h)

known_by : (session : ℕ) → session < 17 → (st : Option Statement) → passes (suits_session session) st ≡ true → is_spelled_line (said_by session st) ≡ true → IsKnown (said_by session st)
known_by session small None h k = tt
known_by session small (Some st) h k = (small, h, k)

by_session : (session : Option ℕ) (words : List (List ℕ)) → passes (λ n. nat_le 0 n && nat_le n 16) session ≡ true → is_spelled_line (line_with session words) ≡ true → IsKnown (line_with session words)
by_session None words h k = tt
by_session (Some session) words h k = known_by session (few session h) (statement_of session words) (statement_suits session words) k

within_passes : (least most : ℕ) (n : Option ℕ) → passes (λ m. nat_le least m && nat_le m most) (within least most n) ≡ true
within_passes least most None = refl
within_passes least most (Some n) = if_passes (λ m. nat_le least m && nat_le m most) (nat_le least n && nat_le n most) (Some n) None (λ h. h) refl

by_words : (words : List (List ℕ)) → is_spelled_line (line_of false words) ≡ true → IsKnown (line_of false words)
by_words [] h = tt
by_words (word ∷ words) h = by_session (session_of false word) words (within_passes 0 16 (number_of word)) h

by_sign : (t : Bool) (line : Parsed) → (is_spelled_line line ≡ true → IsKnown line) → is_spelled_line (cond t Comment line) ≡ true → IsKnown (cond t Comment line)
by_sign true line h k = tt
by_sign false line h k = h k

-- what a line says is known
pub line_known : (line : List ℕ) → IsKnown (parsed false line)
line_known [] = tt
line_known (b ∷ bytes) = by_sign (nat_eq b 35) (line_of false (words_of (b ∷ bytes))) (by_words (words_of (b ∷ bytes))) (lines_spelled false (b ∷ bytes))
