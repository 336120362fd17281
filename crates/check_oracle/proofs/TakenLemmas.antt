-- What other sessions delete, and the first row that was taken.
use Rattle.std.proofs.Common.{◌≡◌, ℕ, zero, suc, ◌+◌, ◌<◌, Bool, true, false, cond, ◌||◌, List, [], ◌∷◌, length, take, drop, get_or, Some, refl, sym, ap, ◌∙◌, arith}
use Rattle.std.proofs.lemmas.List.{at_drop_more}
use Rattle.std.specs.List.{list_any, find}
use Rattle.std.specs.Option.{option_map}
use Rattle.ut_plain.specs.declared.table.Stored.{Stored}
use Rattle.ut_plain.specs.Plain.{Sessions, open_deletes, others}
use Rattle.ut_plain.specs.Refusals.{first_taken}

or_assoc : (a b c : Bool) → (a || (b || c)) ≡ ((a || b) || c)
or_assoc true b c = refl
or_assoc false b c = refl

pub list_any-others : (id : ℕ) (sessions : Sessions) (i : ℕ) → i < length sessions → list_any (open_deletes id) (others sessions i) ≡ (list_any (open_deletes id) (take i sessions) || list_any (open_deletes id) (drop (suc i) sessions))
list_any-others id [] i h = absurd (omega arith)
list_any-others id (x ∷ xs) zero h = refl
list_any-others id (x ∷ xs) (suc i) h = ap (λ b. open_deletes id x || b) (list_any-others id xs i (omega arith)) ∙ or_assoc (open_deletes id x) (list_any (open_deletes id) (take i xs)) (list_any (open_deletes id) (drop (suc i) xs))

others_by : (id : ℕ) (sessions : Sessions) (i : ℕ) (before behind : Bool) → i < length sessions → before ≡ list_any (open_deletes id) (take i sessions) → behind ≡ list_any (open_deletes id) (drop (i + 1) sessions) → (before || behind) ≡ list_any (open_deletes id) (others sessions i)
others_by id sessions i before behind h b d =
    let next : i + 1 ≡ suc i = omega arith in
    ap (λ x. x || behind) b ∙ ap (λ x. list_any (open_deletes id) (take i sessions) || x) (d ∙ ap (λ n. list_any (open_deletes id) (drop n sessions)) next) ∙ sym (list_any-others id sessions i h)

pub before_deletes : (id : ℕ) (sessions : Sessions) (i : ℕ) (before behind : Bool) → i < length sessions → before ≡ list_any (open_deletes id) (take i sessions) → behind ≡ list_any (open_deletes id) (drop (i + 1) sessions) → before ≡ true → before ≡ list_any (open_deletes id) (others sessions i)
before_deletes id sessions i before behind h b d is = is ∙ sym (ap (λ x. x || behind) is) ∙ others_by id sessions i before behind h b d

pub none_before : (id : ℕ) (sessions : Sessions) (i : ℕ) (before behind : Bool) → i < length sessions → before ≡ list_any (open_deletes id) (take i sessions) → behind ≡ list_any (open_deletes id) (drop (i + 1) sessions) → before ≡ false → behind ≡ list_any (open_deletes id) (others sessions i)
none_before id sessions i before behind h b d is = sym (ap (λ x. x || behind) is) ∙ others_by id sessions i before behind h b d

hit : (taken : ℕ → Bool) (e : ℕ × Stored) (es : List (ℕ × Stored)) → taken e.0 ≡ true → first_taken taken (e ∷ es) ≡ Some e.0
hit taken e es h = ap (λ b. option_map (λ (x : ℕ × Stored). x.0) (cond b (Some e) (find (λ (x : ℕ × Stored). taken x.0) es))) h

miss : (taken : ℕ → Bool) (e : ℕ × Stored) (es : List (ℕ × Stored)) → taken e.0 ≡ false → first_taken taken (e ∷ es) ≡ first_taken taken es
miss taken e es h = ap (λ b. option_map (λ (x : ℕ × Stored). x.0) (cond b (Some e) (find (λ (x : ℕ × Stored). taken x.0) es))) h

next_one : (taken : ℕ → Bool) (rows : List (ℕ × Stored)) (i : ℕ) (e : ℕ × Stored) → i < length rows → e ≡ get_or rows i e → first_taken taken (drop i rows) ≡ first_taken taken (e ∷ drop (i + 1) rows)
next_one taken rows i e h k = at_drop_more (first_taken taken) rows i e h ∙ ap (λ x. first_taken taken (x ∷ drop (i + 1) rows)) (sym k)

-- the next row was taken, or not
pub first_hit : (taken : ℕ → Bool) (rows : List (ℕ × Stored)) (i : ℕ) (e : ℕ × Stored) → i < length rows → e ≡ get_or rows i e → taken e.0 ≡ true → first_taken taken (drop i rows) ≡ Some e.0
first_hit taken rows i e h k is = next_one taken rows i e h k ∙ hit taken e (drop (i + 1) rows) is

pub first_miss : (taken : ℕ → Bool) (rows : List (ℕ × Stored)) (i : ℕ) (e : ℕ × Stored) → i < length rows → e ≡ get_or rows i e → taken e.0 ≡ false → first_taken taken (drop i rows) ≡ first_taken taken (drop (i + 1) rows)
first_miss taken rows i e h k is = next_one taken rows i e h k ∙ miss taken e (drop (i + 1) rows) is
