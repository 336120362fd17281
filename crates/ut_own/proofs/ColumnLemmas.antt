-- A column of a build: keys laid out as those that stay and then the others, codes into them, and flags for the others that are used.
use Rattle.std.proofs.Common.{◌≡◌, inl, inr, ℕ, zero, suc, ◌+◌, ◌-◌, ◌<◌, ◌≤◌, List, [], ◌∷◌, ◌++◌, length, get_or, refl, sym, ◌∙◌, ap, subst, arith, Bool, true, false, not, ◌&&◌, ◌||◌, cond, nat_eq, true≢false}
use Rattle.std.proofs.lemmas.Bool.{eqb-true, eq-eqb, or_cases, and_parts, and_from, cases_lt, not-true}
use Rattle.std.proofs.lemmas.Cmp.{nat_list_cmp_total, tied_itself}
use Rattle.std.proofs.lemmas.List.{get_or_append_left, get_or-append_right}
use Rattle.std.specs.Ordering.{is_eq}
use Rattle.std.specs.List.{list_any}
use Rattle.ut_key.specs.Keys.{key_cmp}
use Rattle.ut_own.specs.Own.{used, holds, news, own_dict, cells_of, In, Ascends}
use Rattle.ut_own.proofs.MemberLemmas.{own_dict-is}

-- ---- members

used_at : (keys : List (List ℕ)) (flags : List Bool) (k : List ℕ) → In k (used keys flags) → (i : ℕ) × (i < length keys) × (get_or flags i false ≡ true) × (k ≡ get_or keys i [])
used_at [] flags k h = absurd h
used_at (x ∷ keys) [] k h = absurd h
used_at (x ∷ keys) (true ∷ flags) k (inl h) = (0, omega arith, refl, h)
used_at (x ∷ keys) (true ∷ flags) k (inr h) = let r = used_at keys flags k h in (suc r.0, omega (arith, r.1), r.2, r.3)
used_at (x ∷ keys) (false ∷ flags) k h = let r = used_at keys flags k h in (suc r.0, omega (arith, r.1), r.2, r.3)

used_in : (keys : List (List ℕ)) (flags : List Bool) (i : ℕ) → i < length keys → get_or flags i false ≡ true → In (get_or keys i []) (used keys flags)
used_in [] flags i lt h = absurd (omega (arith, lt))
used_in (x ∷ keys) [] i lt h = absurd (true≢false (sym h))
used_in (x ∷ keys) (true ∷ flags) zero lt h = inl refl
used_in (x ∷ keys) (true ∷ flags) (suc i) lt h = inr (used_in keys flags i (omega (arith, lt)) h)
used_in (x ∷ keys) (false ∷ flags) zero lt h = absurd (true≢false (sym h))
used_in (x ∷ keys) (false ∷ flags) (suc i) lt h = used_in keys flags i (omega (arith, lt)) h

cell_at : (keys : List (List ℕ)) (codes : List ℕ) (k : List ℕ) → In k (cells_of keys codes) → (c : ℕ) × (list_any (nat_eq c) codes ≡ true) × (k ≡ get_or keys c [])
cell_at keys [] k h = absurd h
cell_at keys (c ∷ codes) k (inl h) = (c, ap (λ b. b || list_any (nat_eq c) codes) (eq-eqb c c refl), h)
cell_at keys (c ∷ codes) k (inr h) = let r = cell_at keys codes k h in (r.0, or_right (nat_eq r.0 c) (list_any (nat_eq r.0) codes) r.1, r.2)
  where
    or_right : (a b : Bool) → b ≡ true → (a || b) ≡ true
    or_right true b e = refl
    or_right false b e = e

cell_in : (keys : List (List ℕ)) (codes : List ℕ) (c : ℕ) → list_any (nat_eq c) codes ≡ true → In (get_or keys c []) (cells_of keys codes)
cell_in keys [] c h = absurd (true≢false (sym h))
cell_in keys (d ∷ codes) c h = elim (or_cases (nat_eq c d) (list_any (nat_eq c) codes) h) [
  | inl here ↦ inl (ap (λ n. get_or keys n []) (eqb-true c d here))
  | inr there ↦ inr (cell_in keys codes c there)
]

news_at : (earlier cells : List (List ℕ)) (k : List ℕ) → In k (news earlier cells) → In k cells × (holds earlier k ≡ false)
news_at earlier [] k h = absurd h
news_at earlier (x ∷ cells) k h = by (holds earlier x) refl h (news_at earlier cells k)
  where
    by : (b : Bool) → holds earlier x ≡ b → In k (cond (not b) (x ∷ news earlier cells) (news earlier cells)) → (In k (news earlier cells) → In k cells × (holds earlier k ≡ false)) → In k (x ∷ cells) × (holds earlier k ≡ false)
    by true e g more = let r = more g in (inr r.0, r.1)
    by false e (inl at) more = (inl at, ap (holds earlier) at ∙ e)
    by false e (inr there) more = let r = more there in (inr r.0, r.1)

news_in : (earlier cells : List (List ℕ)) (k : List ℕ) → In k cells → holds earlier k ≡ false → In k (news earlier cells)
news_in earlier [] k h none = absurd h
news_in earlier (x ∷ cells) k h none = by (holds earlier x) refl h (λ g. news_in earlier cells k g none)
  where
    by : (b : Bool) → holds earlier x ≡ b → In k (x ∷ cells) → (In k cells → In k (news earlier cells)) → In k (cond (not b) (x ∷ news earlier cells) (news earlier cells))
    by true e (inl at) more = absurd (true≢false (sym e ∙ ap (holds earlier) (sym at) ∙ none))
    by true e (inr there) more = more there
    by false e (inl at) more = inl at
    by false e (inr there) more = inr (more there)

holds_at : (keys : List (List ℕ)) (c : ℕ) → c < length keys → holds keys (get_or keys c []) ≡ true
holds_at [] c h = absurd (omega (arith, h))
holds_at (x ∷ keys) zero h = ap (λ o. is_eq o || holds keys x) (tied_itself nat_list_cmp_total x)
holds_at (x ∷ keys) (suc c) h = or_right (is_eq (key_cmp (get_or keys c []) x)) (holds keys (get_or keys c [])) (holds_at keys c (omega (arith, h)))
  where
    or_right : (a b : Bool) → b ≡ true → (a || b) ≡ true
    or_right true b e = refl
    or_right false b e = e

-- ---- the used of the others are the new keys

module _ (stay others : List (List ℕ)) (codes : List ℕ) (flags : List Bool) (within : (c : ℕ) → list_any (nat_eq c) codes ≡ true → c < length stay + length others)
    (marked : (i : ℕ) → i < length others → get_or flags i false ≡ (list_any (nat_eq (length stay + i)) codes && not (holds stay (get_or others i [])))) where
  behind : (i : ℕ) → get_or (stay ++ others) (length stay + i) [] ≡ get_or others i []
  behind i = let e : length stay + i - length stay ≡ i = omega arith in get_or-append_right stay others (length stay) (length stay + i) [] refl (omega arith) ∙ ap (λ n. get_or others n []) e

  to : (k : List ℕ) → In k (used others flags) → In k (news stay (cells_of (stay ++ others) codes))
  to k h =
      let u = used_at others flags k h in
      let both = and_parts (list_any (nat_eq (length stay + u.0)) codes) (not (holds stay (get_or others u.0 []))) (sym (marked u.0 u.1) ∙ u.2) in
      news_in stay (cells_of (stay ++ others) codes) k
      (subst (λ (x : List ℕ). In x (cells_of (stay ++ others) codes)) (behind u.0 ∙ sym u.3) (cell_in (stay ++ others) codes (length stay + u.0) both.0))
      (ap (holds stay) u.3 ∙ not-true (holds stay (get_or others u.0 [])) both.1)

  from : (k : List ℕ) → In k (news stay (cells_of (stay ++ others) codes)) → In k (used others flags)
  from k h =
      let n = news_at stay (cells_of (stay ++ others) codes) k h in
      let c = cell_at (stay ++ others) codes k n.0 in
      elim (cases_lt c.0 (length stay)) [
        | inl lt ↦ absurd (true≢false (sym (holds_at stay c.0 lt) ∙ ap (holds stay) (sym (get_or_append_left stay others [] c.0 lt) ∙ sym c.2) ∙ n.1))
        | inr ge ↦ other c.0 ge c.1 c.2 n.1
      ]
    where
      other : (c : ℕ) → length stay ≤ c → list_any (nat_eq c) codes ≡ true → k ≡ get_or (stay ++ others) c [] → holds stay k ≡ false → In k (used others flags)
      other c ge at is none =
          let i = c - length stay in
          let e : length stay + (c - length stay) ≡ c = omega (arith, ge) in
          let lt : c - length stay < length others = omega (arith, within c at, ge) in
          let key : k ≡ get_or others (c - length stay) [] = is ∙ ap (λ n. get_or (stay ++ others) n []) (sym e) ∙ behind (c - length stay) in
          let flag : get_or flags (c - length stay) false ≡ true =
          marked (c - length stay) lt ∙ and_from (list_any (nat_eq (length stay + (c - length stay))) codes) (not (holds stay (get_or others (c - length stay) []))) (ap (λ n. list_any (nat_eq n) codes) e ∙ at) (ap not (ap (holds stay) (sym key) ∙ none)) in
          subst (λ (x : List ℕ). In x (used others flags)) (sym key) (used_in others flags (c - length stay) lt flag)

  -- So a list that ascends and holds just the used of the others is the own dictionary of the column.
  pub column_own : (dict : List (List ℕ)) → Ascends dict → ((k : List ℕ) → In k dict → In k (used others flags)) → ((k : List ℕ) → In k (used others flags) → In k dict) → dict ≡ own_dict stay (cells_of (stay ++ others) codes)
  column_own dict up in_used used_there = own_dict-is dict stay (cells_of (stay ++ others) codes) up (λ k h. to k (in_used k h)) (λ k h. used_there k (from k h))
