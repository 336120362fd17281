-- Which keys stand in an own dictionary, and that it may stand behind the earlier ones.
use Rattle.std.proofs.Common.{◌≡◌, inl, inr, ℕ, suc, ◌≤◌, Bool, true, false, not, cond, List, [], ◌∷◌, ◌++◌, length, refl, sym, ◌∙◌, ap, arith, true≢false}
use Rattle.std.specs.declared.cmp.Ordering.{Ordering}
use Rattle.std.specs.declared.cmp.Ordering.TheVariants.{Less, Equal, Greater}
use Rattle.ut_key.specs.Keys.{key_cmp, IsAscending}
use Rattle.ut_own.specs.Own.{placed, insert_key, union, holds, news, own_dict, In}
use Rattle.ut_own.proofs.MemberLemmas.{in-union, union-in}
use Rattle.ut_own.proofs.UnionLemmas.{Ascends-union}
use Rattle.ut_prefix.specs.Chain.{end_to_end, LacksAll}
use Rattle.ut_main.proofs.KeyLemmas.{in-holds, holds-in, contains-in, in-left, in-right, ascending-from}

-- ---- new keys

news-held : (earlier cells : List (List ℕ)) (key : List ℕ) → In key (news earlier cells) → In key cells × (holds earlier key ≡ false)
news-held earlier [] key h = absurd h
news-held earlier (x ∷ cells) key h = by (holds earlier x) refl h (news-held earlier cells key)
  where
    by : (b : Bool) → holds earlier x ≡ b → In key (cond (not b) (x ∷ news earlier cells) (news earlier cells)) → (In key (news earlier cells) → In key cells × (holds earlier key ≡ false)) → In key (x ∷ cells) × (holds earlier key ≡ false)
    by true e g more = let r = more g in (inr r.0, r.1)
    by false e (inl at) more = (inl at, ap (holds earlier) at ∙ e)
    by false e (inr there) more = let r = more there in (inr r.0, r.1)

news-in : (earlier cells : List (List ℕ)) (key : List ℕ) → In key cells → holds earlier key ≡ false → In key (news earlier cells)
news-in earlier [] key h none = absurd h
news-in earlier (x ∷ cells) key h none = by (holds earlier x) refl h (λ g. news-in earlier cells key g none)
  where
    by : (b : Bool) → holds earlier x ≡ b → In key (x ∷ cells) → (In key cells → In key (news earlier cells)) → In key (cond (not b) (x ∷ news earlier cells) (news earlier cells))
    by true e (inl at) more = absurd (true≢false (sym e ∙ ap (holds earlier) (sym at) ∙ none))
    by true e (inr there) more = more there
    by false e (inl at) more = inl at
    by false e (inr there) more = inr (more there)

-- ---- the own dictionary

-- a key of it is a cell that no earlier dictionary holds
pub own-held : (earlier cells : List (List ℕ)) (key : List ℕ) → In key (own_dict earlier cells) → In key cells × (holds earlier key ≡ false)
own-held earlier cells key h = elim (in-union key (news earlier cells) [] h) [ inl new ↦ news-held earlier cells key new | inr none ↦ absurd none ]

-- each cell stands in an earlier dictionary or in it
pub cell-known : (earlier cells : List (List ℕ)) (key : List ℕ) → In key cells → In key (earlier ++ own_dict earlier cells)
cell-known earlier cells key h = by (holds earlier key) refl
  where
    by : (b : Bool) → holds earlier key ≡ b → In key (earlier ++ own_dict earlier cells)
    by true e = in-left key earlier (own_dict earlier cells) (holds-in earlier key e)
    by false e = in-right key earlier (own_dict earlier cells) (union-in key (news earlier cells) [] (inl (news-in earlier cells key h e)))

pub own-apart : (earlier cells : List (List ℕ)) (key : List ℕ) → In key earlier → In key (own_dict earlier cells) → ⊥
own-apart earlier cells key h there = true≢false (sym (in-holds earlier key h) ∙ (own-held earlier cells key there).1)

pub own-lacks : (chain : List (List (List ℕ))) (cells : List (List ℕ)) → LacksAll chain (own_dict (end_to_end chain) cells)
own-lacks chain cells key there held = own-apart (end_to_end chain) cells key (contains-in (end_to_end chain) key held) (contains-in (own_dict (end_to_end chain) cells) key there)

pub own-ascending : (earlier cells : List (List ℕ)) → IsAscending (own_dict earlier cells)
own-ascending earlier cells = ascending-from (own_dict earlier cells) (Ascends-union (news earlier cells) [] tt)

-- ---- its length

placed-length : (o : Ordering) (key first : List ℕ) (rest inserted : List (List ℕ)) → length inserted ≤ suc (length rest) → length (placed o key first rest inserted) ≤ suc (suc (length rest))
placed-length Less key first rest inserted h = omega arith
placed-length Equal key first rest inserted h = omega arith
placed-length Greater key first rest inserted h = omega (arith, h)

insert-length : (key : List ℕ) (keys : List (List ℕ)) → length (insert_key key keys) ≤ suc (length keys)
insert-length key [] = omega arith
insert-length key (k ∷ keys) = placed-length (key_cmp key k) key k keys (insert_key key keys) (insert-length key keys)

union-length : (xs : List (List ℕ)) → length (union xs []) ≤ length xs
union-length [] = omega arith
union-length (x ∷ xs) = let more = union-length xs in let one = insert-length x (union xs []) in omega (arith, more, one)

news-length : (earlier cells : List (List ℕ)) → length (news earlier cells) ≤ length cells
news-length earlier [] = omega arith
news-length earlier (x ∷ cells) = by (holds earlier x) (news-length earlier cells)
  where
    by : (b : Bool) → length (news earlier cells) ≤ length cells → length (cond (not b) (x ∷ news earlier cells) (news earlier cells)) ≤ suc (length cells)
    by true h = omega (arith, h)
    by false h = omega (arith, h)

-- it has at most as many keys as there are cells
pub own-length : (earlier cells : List (List ℕ)) → length (own_dict earlier cells) ≤ length cells
own-length earlier cells = let a = union-length (news earlier cells) in let b = news-length earlier cells in omega (arith, a, b)
