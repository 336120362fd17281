-- How many keys an own dictionary has that no other stands before: each different key of the cells once.
use Rattle.std.proofs.Common.{◌≡◌, ℕ, suc, Bool, true, false, cond, ◌||◌, List, [], ◌∷◌, length, refl, sym, ◌∙◌, ap}
use Rattle.std.specs.Ordering.{is_eq}
use Rattle.std.specs.declared.cmp.Ordering.{Ordering}
use Rattle.std.specs.declared.cmp.Ordering.TheVariants.{Less, Equal, Greater}
use Rattle.std.proofs.lemmas.Cmp.{nat_list_cmp_total}
use Rattle.ut_key.specs.Keys.{key_cmp}
use Rattle.ut_own.specs.Own.{Ascends, Below, holds, insert_key, news, own_dict, placed, union}
use Rattle.ut_own.proofs.UnionLemmas.{Ascends-union}
use Rattle.ut_own.proofs.MemberLemmas.{key_same}

below-through : (key first : List ℕ) (keys : List (List ℕ)) → key_cmp key first ≡ Less → Below first keys → Below key keys
below-through key first [] e b = tt
below-through key first (k ∷ keys) e b = (nat_list_cmp_total.trans key first k e b.0, below-through key first keys e b.1)

-- a key below all of these isn't held
below-lacks : (key : List ℕ) (keys : List (List ℕ)) → Below key keys → holds keys key ≡ false
below-lacks key [] b = refl
below-lacks key (k ∷ keys) b = ap (λ o. is_eq o || holds keys key) b.0 ∙ below-lacks key keys b.1

insert-count : (key : List ℕ) (keys : List (List ℕ)) → Ascends keys → length (insert_key key keys) ≡ cond (holds keys key) (length keys) (suc (length keys))
insert-count key [] up = refl
insert-count key (first ∷ rest) up = by (key_cmp key first) refl (insert-count key rest up.1)
  where
    more : (b : Bool) (n : ℕ) → suc (cond b n (suc n)) ≡ cond b (suc n) (suc (suc n))
    more true n = refl
    more false n = refl

    by : (o : Ordering) → key_cmp key first ≡ o → length (insert_key key rest) ≡ cond (holds rest key) (length rest) (suc (length rest))
        → length (placed o key first rest (insert_key key rest)) ≡ cond (is_eq o || holds rest key) (suc (length rest)) (suc (suc (length rest)))
    by Less e h = ap (λ b. cond b (suc (length rest)) (suc (suc (length rest)))) (sym (below-lacks key rest (below-through key first rest e up.0)))
    by Equal e h = refl
    by Greater e h = ap suc h ∙ more (holds rest key) (length rest)

or_twice : (a b : Bool) → (a || b) ≡ (a || (a || b))
or_twice true b = refl
or_twice false b = refl

or_turned : (a b c : Bool) → (a || (b || c)) ≡ (b || (a || c))
or_turned true true c = refl
or_turned true false c = refl
or_turned false b c = refl

holds-insert : (key x : List ℕ) (keys : List (List ℕ)) → holds (insert_key x keys) key ≡ (is_eq (key_cmp key x) || holds keys key)
holds-insert key x [] = refl
holds-insert key x (first ∷ rest) = by (key_cmp x first) refl (holds-insert key x rest)
  where
    by : (o : Ordering) → key_cmp x first ≡ o → holds (insert_key x rest) key ≡ (is_eq (key_cmp key x) || holds rest key)
        → holds (placed o x first rest (insert_key x rest)) key ≡ (is_eq (key_cmp key x) || (is_eq (key_cmp key first) || holds rest key))
    by Less e h = refl
    by Equal e h =
        or_twice (is_eq (key_cmp key first)) (holds rest key)
        ∙ ap (λ k. is_eq (key_cmp key k) || (is_eq (key_cmp key first) || holds rest key)) (sym (key_same x first e))
    by Greater e h = ap (λ b. is_eq (key_cmp key first) || b) h ∙ or_turned (is_eq (key_cmp key first)) (is_eq (key_cmp key x)) (holds rest key)

holds-union : (key : List ℕ) (keys : List (List ℕ)) → holds (union keys []) key ≡ holds keys key
holds-union key [] = refl
holds-union key (k ∷ keys) = holds-insert key k (union keys []) ∙ ap (λ b. is_eq (key_cmp key k) || b) (holds-union key keys)

news-all : (keys : List (List ℕ)) → news [] keys ≡ keys
news-all [] = refl
news-all (key ∷ keys) = ap (λ l. key ∷ l) (news-all keys)

-- a count that passes over each key that occurs behind it
module _ (count : List (List ℕ) → ℕ) (none : count [] ≡ 0) (more : (key : List ℕ) (keys : List (List ℕ)) → count (key ∷ keys) ≡ cond (holds keys key) (count keys) (suc (count keys))) where
  count-union : (keys : List (List ℕ)) → count keys ≡ length (union keys [])
  count-union [] = none
  count-union (key ∷ keys) =
      more key keys
      ∙ ap (λ n. cond (holds keys key) n (suc n)) (count-union keys)
      ∙ ap (λ b. cond b (length (union keys [])) (suc (length (union keys [])))) (sym (holds-union key keys))
      ∙ sym (insert-count key (union keys []) (Ascends-union keys [] tt))

  pub count-own : (cells : List (List ℕ)) → count cells ≡ length (own_dict [] cells)
  count-own cells = count-union cells ∙ ap (λ l. length (union l [])) (sym (news-all cells))
