-- An own dictionary, a union of keys put in one by one, has the new keys of the cells, each once, ascending.
use Rattle.std.proofs.Common.{◌≡◌, inl, inr, ℕ, zero, suc, ◌<◌, Bool, true, false, not, cond, ◌||◌, Contains, List, [], ◌∷◌, length, get_or, refl, sym, ap, ◌∙◌, arith, true≢false}
use Rattle.std.specs.Ordering.{is_eq}
use Rattle.std.specs.declared.cmp.Ordering.{Ordering}
use Rattle.std.specs.declared.cmp.Ordering.TheVariants.{Less, Equal, Greater}
use Rattle.std.proofs.lemmas.Bool.{or_cases, or_right, false_from_ne_true}
use Rattle.std.proofs.lemmas.Cmp.{nat_list_cmp_total, tied_itself}
use Rattle.ut_key.specs.Keys.{key_cmp}
use Rattle.ut_own.specs.Own.{own_dict, news, holds, union, In}
use Rattle.ut_own.proofs.MemberLemmas.{in-union, union-in, key_same, own_dict-is}
use Rattle.ut_own.proofs.CountLemmas.{count-own}
use Rattle.ut_own.proofs.UnionLemmas.{Ascends-union, Ascends-at, IsAscending-from}
use Rattle.ut_plain.specs.Merges.{distinct}
use Rattle.ut_meaning.specs.Keys.{CountsKeys, IsOnlyOwnDict, OwnDictHasNewKeys}

-- ---- elements

contains_in : (key : List ℕ) (keys : List (List ℕ)) → In key keys → Contains keys key
contains_in key [] h = absurd h
contains_in key (k ∷ keys) (inl same) = (0, omega arith, sym same)
contains_in key (k ∷ keys) (inr there) = let r = contains_in key keys there in (suc r.0, omega (arith, r.1), r.2)

in_contains : (key : List ℕ) (keys : List (List ℕ)) → Contains keys key → In key keys
in_contains key [] h = absurd (omega (arith, h.1))
in_contains key (k ∷ keys) h = by h.0 h.1 h.2 (in_contains key keys)
  where
    by : (n : ℕ) → n < length (k ∷ keys) → get_or (k ∷ keys) n key ≡ key → (Contains keys key → In key keys) → In key (k ∷ keys)
    by zero lt at more = inl (sym at)
    by (suc n) lt at more = inr (more (n, omega (arith, lt), at))

equal : (o : Ordering) → is_eq o ≡ true → o ≡ Equal
equal Less h = absurd (true≢false (sym h))
equal Equal h = refl
equal Greater h = absurd (true≢false (sym h))

in-holds : (keys : List (List ℕ)) (key : List ℕ) → holds keys key ≡ true → In key keys
in-holds [] key h = absurd (true≢false (sym h))
in-holds (k ∷ keys) key h = elim (or_cases (is_eq (key_cmp key k)) (holds keys key) h) [
  | inl here ↦ inl (key_same key k (equal (key_cmp key k) here))
  | inr there ↦ inr (in-holds keys key there)
]

holds-in : (keys : List (List ℕ)) (key : List ℕ) → In key keys → holds keys key ≡ true
holds-in [] key h = absurd h
holds-in (k ∷ keys) key (inl at) = ap (λ b. b || holds keys key) (ap (λ x. is_eq (key_cmp key x)) (sym at) ∙ ap is_eq (tied_itself nat_list_cmp_total key))
holds-in (k ∷ keys) key (inr there) = or_right (is_eq (key_cmp key k)) (holds keys key) (holds-in keys key there)

news-at : (earlier cells : List (List ℕ)) (k : List ℕ) → In k (news earlier cells) → In k cells × (holds earlier k ≡ false)
news-at earlier [] k h = absurd h
news-at earlier (x ∷ cells) k h = by (holds earlier x) refl h (news-at earlier cells k)
  where
    by : (b : Bool) → holds earlier x ≡ b → In k (cond (not b) (x ∷ news earlier cells) (news earlier cells)) → (In k (news earlier cells) → In k cells × (holds earlier k ≡ false)) → In k (x ∷ cells) × (holds earlier k ≡ false)
    by true e g more = let r = more g in (inr r.0, r.1)
    by false e (inl at) more = (inl at, ap (holds earlier) at ∙ e)
    by false e (inr there) more = let r = more there in (inr r.0, r.1)

news-in : (earlier cells : List (List ℕ)) (k : List ℕ) → In k cells → holds earlier k ≡ false → In k (news earlier cells)
news-in earlier [] k h none = absurd h
news-in earlier (x ∷ cells) k h none = by (holds earlier x) refl h (λ g. news-in earlier cells k g none)
  where
    by : (b : Bool) → holds earlier x ≡ b → In k (x ∷ cells) → (In k cells → In k (news earlier cells)) → In k (cond (not b) (x ∷ news earlier cells) (news earlier cells))
    by true e (inl at) more = absurd (true≢false (sym e ∙ ap (holds earlier) (sym at) ∙ none))
    by true e (inr there) more = more there
    by false e (inl at) more = inl at
    by false e (inr there) more = inr (more there)

-- ---- the own dictionary

own-in : (earlier cells : List (List ℕ)) (k : List ℕ) → In k (own_dict earlier cells) → In k (news earlier cells)
own-in earlier cells k h = elim (in-union k (news earlier cells) [] h) [ inl a ↦ a | inr b ↦ absurd b ]

lacks : (earlier : List (List ℕ)) (key : List ℕ) → (Contains earlier key → ⊥) → holds earlier key ≡ false
lacks earlier key none = false_from_ne_true (holds earlier key) (λ e. none (contains_in key earlier (in-holds earlier key e)))

pub own-new : OwnDictHasNewKeys
own-new earlier cells = record {
  ascending = IsAscending-from (own_dict earlier cells) (Ascends-union (news earlier cells) [] tt);
  all = λ key at none. contains_in key (own_dict earlier cells)
      (union-in key (news earlier cells) [] (inl (news-in earlier cells key (in_contains key cells at) (lacks earlier key none))));
  only = λ key at. contains_in key cells (news-at earlier cells key (own-in earlier cells key (in_contains key (own_dict earlier cells) at))).0;
  new = λ key at old. true≢false (sym (holds-in earlier key (in_contains key earlier old)) ∙ (news-at earlier cells key (own-in earlier cells key (in_contains key (own_dict earlier cells) at))).1);
}

pub own-only : IsOnlyOwnDict
own-only earlier cells dict h =
    own_dict-is dict earlier cells (Ascends-at dict h.ascending)
    (λ k at. news-in earlier cells k (in_contains k cells (h.only k (contains_in k dict at))) (lacks earlier k (h.new k (contains_in k dict at))))
    (λ k at. let n = news-at earlier cells k at in
    in_contains k dict (h.all k (contains_in k cells n.0) (λ old. true≢false (sym (holds-in earlier k (in_contains k earlier old)) ∙ n.1))))

-- ---- how many

pub counts-keys : CountsKeys
counts-keys keys dict h = count-own distinct refl (λ key keys. refl) keys ∙ ap length (sym (own-only [] keys dict h))
