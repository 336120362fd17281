-- The places of a stage that pass a test, and what is found there.
use Rattle.std.proofs.Common.{◌≡◌, ◌≢◌, ◌⊎◌, inl, inr, ℕ, zero, suc, ◌+◌, ◌<◌, ◌≤◌, Bool, true, false, cond, List, [], ◌∷◌, ◌++◌, map, filter, nat_eq, refl, sym, ◌∙◌, ap, subst, arith}
use Rattle.std.specs.List.{range_with_len}
use Rattle.std.proofs.lemmas.Bool.{eqb-true, cases_eq}
use Rattle.std.proofs.lemmas.List.Sums.{sum_by-append, sum_by-cons}
use Rattle.ut_scan.specs.declared.place.Found.{Found}
use Rattle.ut_table.proofs.OrderLemmas.{In, count_id, none-of-id, some-of-id}

pub In-append : (g : Found) (xs ys : List Found) → In g (xs ++ ys) → In g xs ⊎ In g ys
In-append g [] ys h = inr h
In-append g (x ∷ xs) ys (inl e) = inl (inl e)
In-append g (x ∷ xs) ys (inr h) = elim (In-append g xs ys h) [ inl a ↦ inl (inr a) | inr b ↦ inr b ]

pub In-left : (g : Found) (xs ys : List Found) → In g xs → In g (xs ++ ys)
In-left g [] ys h = absurd h
In-left g (x ∷ xs) ys (inl e) = inl e
In-left g (x ∷ xs) ys (inr h) = inr (In-left g xs ys h)

pub In-right : (g : Found) (xs ys : List Found) → In g ys → In g (xs ++ ys)
In-right g [] ys h = h
In-right g (x ∷ xs) ys h = inr (In-right g xs ys h)

-- two lists that share no id have each once together, where each list has
pub count_id-append : (id : ℕ) (xs ys : List Found) → count_id id xs ≤ 1 → count_id id ys ≤ 1 → ((f g : Found) → In f xs → In g ys → f.id ≢ g.id) → count_id id (xs ++ ys) ≤ 1
count_id-append id xs ys a b differ = elim (cases_eq (count_id id xs) 0) [
  | inl none ↦ omega (arith, none, b, sum_by-append (λ (f : Found). cond (nat_eq f.id id) 1 0) xs ys)
  | inr some ↦
      let f = some-of-id id xs (omega (arith, some)) in
      let none : count_id id ys ≡ 0 = none-of-id id ys (λ g h same. differ f.0 g f.1 h (f.2 ∙ sym same)) in
      omega (arith, none, a, sum_by-append (λ (f : Found). cond (nat_eq f.id id) 1 0) xs ys)
]

module _ (f : ℕ → Found) (t : ℕ → Bool) where
  abbrev pub part : ℕ → ℕ → List Found
  part a m = map f (filter t (range_with_len a m))

  pub In-part : (g : Found) (a m : ℕ) → In g (part a m) → (i : ℕ) × (a ≤ i) × (i < a + m) × (t i ≡ true) × (g ≡ f i)
  In-part g a zero h = absurd h
  In-part g a (suc m) h = by (λ k. let r = In-part g (a + 1) m k in (r.0, omega (arith, r.1), omega (arith, r.2), r.3, r.4)) (t a) refl h
    where
      by : (In g (part (a + 1) m) → (i : ℕ) × (a ≤ i) × (i < a + suc m) × (t i ≡ true) × (g ≡ f i)) → (b : Bool) → t a ≡ b → In g (map f (cond b (a ∷ filter t (range_with_len (a + 1) m)) (filter t (range_with_len (a + 1) m)))) → (i : ℕ) × (a ≤ i) × (i < a + suc m) × (t i ≡ true) × (g ≡ f i)
      by later true e (inl is) = (a, omega arith, omega arith, e, is)
      by later true e (inr h) = later h
      by later false e h = later h

  pub part-In : (i a m : ℕ) → a ≤ i → i < a + m → t i ≡ true → In (f i) (part a m)
  part-In i a zero le lt e = absurd (omega (arith, le, lt))
  part-In i a (suc m) le lt e = elim (cases_eq i a) [
    | inl same ↦
        let first : In (f i) (map f (a ∷ filter t (range_with_len (a + 1) m))) = inl (ap f same) in
        subst (λ b. In (f i) (map f (cond b (a ∷ filter t (range_with_len (a + 1) m)) (filter t (range_with_len (a + 1) m))))) (sym (ap t (sym same) ∙ e)) first
    | inr other ↦ behind (t a) (part-In i (a + 1) m (omega (arith, le, other)) (omega (arith, lt)) e)
  ]
    where
      behind : (b : Bool) → In (f i) (part (a + 1) m) → In (f i) (map f (cond b (a ∷ filter t (range_with_len (a + 1) m)) (filter t (range_with_len (a + 1) m))))
      behind true h = inr h
      behind false h = h

  pub part-once : (n : ℕ) → ((i j : ℕ) → i < n → j < n → t i ≡ true → t j ≡ true → (f i).id ≡ (f j).id → i ≡ j) → (id a m : ℕ) → a + m ≤ n → count_id id (part a m) ≤ 1
  part-once n one id a zero le = omega arith
  part-once n one id a (suc m) le = by (part-once n one id (a + 1) m (omega (arith, le))) (t a) refl
    where
      none : t a ≡ true → (f a).id ≡ id → count_id id (part (a + 1) m) ≡ 0
      none e is = none-of-id id (part (a + 1) m) (λ g h same.
          let r = In-part g (a + 1) m h in
          let equal : r.0 ≡ a = one r.0 a (omega (arith, r.2, le)) (omega (arith, le)) r.3 e (ap (λ (x : Found). x.id) (sym r.4) ∙ same ∙ sym is) in
          absurd (omega (arith, equal, r.1)))

      more : count_id id (part (a + 1) m) ≤ 1 → t a ≡ true → (b : Bool) → nat_eq (f a).id id ≡ b → count_id id (f a ∷ part (a + 1) m) ≤ 1
      more rest e true is =
          let one_more : count_id id (f a ∷ part (a + 1) m) ≡ 1 + count_id id (part (a + 1) m) = sum_by-cons (λ (g : Found). cond (nat_eq g.id id) 1 0) (f a) (part (a + 1) m) ∙ (λ i. cond (is i) 1 0 + count_id id (part (a + 1) m)) in
          omega (arith, one_more, none e (eqb-true (f a).id id is))
      more rest e false is =
          let same : count_id id (f a ∷ part (a + 1) m) ≡ 0 + count_id id (part (a + 1) m) = sum_by-cons (λ (g : Found). cond (nat_eq g.id id) 1 0) (f a) (part (a + 1) m) ∙ (λ i. cond (is i) 1 0 + count_id id (part (a + 1) m)) in
          omega (arith, same, rest)

      by : count_id id (part (a + 1) m) ≤ 1 → (b : Bool) → t a ≡ b → count_id id (map f (cond b (a ∷ filter t (range_with_len (a + 1) m)) (filter t (range_with_len (a + 1) m)))) ≤ 1
      by rest true e = more rest e (nat_eq (f a).id id) refl
      by rest false e = rest
