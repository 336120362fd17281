-- Passes that are joined into one.
use Rattle.std.proofs.Common.{◌≡◌, ◌⊎◌, inl, inr, ℕ, zero, suc, ◌+◌, ◌<◌, List, [], ◌∷◌, ◌++◌, length, get_or, replicate, sym, refl, ap, ◌∙◌, subst, ⊎_elim, arith, length-append, eqb}
use Rattle.std.specs.Prelude.{Option, Some, None, All}
use mathlib.Core.Option.{some, some-injective, some-ne-none}
use mathlib.Core.List.{IsPrefix}
use lib.ListN.{get_elem?}
use Rattle.atomic_table.specs.Seated.{TableId}
use Rattle.atomic_table.specs.declared.shared.Seat.{Seat}
use Rattle.ut_gate.specs.declared.view.View.{View}
use Rattle.ut_gate.specs.declared.view.Home.{Home}
use Rattle.ut_gate.specs.Counts.{total, one_if, times}
use Rattle.ut_gate.specs.Tells.{joined, longer}
use Rattle.ut_gate.specs.Steps.{IsLast}
use Rattle.ut_gate.specs.Passes.{Carried, carried, fresh, IsAway, Gathered, Apart}
use Rattle.ut_gate.proofs.Sums.{total_append}

module _ {A : Type 0} where
  pub mid_at : (xs : List A) (p : A) (ys : List A) (d : A) → get_or (xs ++ p ∷ ys) (length xs) d ≡ p
  mid_at [] p ys d = refl
  mid_at (x ∷ xs) p ys d = mid_at xs p ys d

  pub all_mid : (P : A → Type 0) (l xs : List A) (p : A) (ys : List A) → l ≡ xs ++ p ∷ ys → All P l → P p
  all_mid P l xs p ys e h = let g : All P (xs ++ p ∷ ys) = subst (All P) e h in subst P (mid_at xs p ys p) (g (length xs) p (omega (arith, length-append xs (p ∷ ys))))

  pub at_or : (l : List A) (k : ℕ) (d : A) → k < length l → get_elem? l k ≡ some (get_or l k d)
  at_or [] k d h = absurd (omega arith)
  at_or (x ∷ xs) zero d h = refl
  at_or (x ∷ xs) (suc k) d h = at_or xs k d (omega arith)

  pub nil_of : (l : List A) → length l ≡ 0 → l ≡ []
  nil_of [] h = refl
  nil_of (x ∷ xs) h = absurd (omega arith)

  pub replicate_more : (n : ℕ) (x : A) → replicate n x ++ x ∷ [] ≡ replicate (suc n) x
  replicate_more zero x = refl
  replicate_more (suc n) x = ap (λ (l : List A). x ∷ l) (replicate_more n x)

  pub end_there : (l : List A) (a b : A) → get_elem? (l ++ a ∷ b ∷ []) (length l) ≡ some a
  end_there [] a b = refl
  end_there (x ∷ xs) a b = end_there xs a b

  pub end_next : (l : List A) (a b : A) → get_elem? (l ++ a ∷ b ∷ []) (suc (length l)) ≡ some b
  end_next [] a b = refl
  end_next (x ∷ xs) a b = end_next xs a b

  pub still_there : (l m : List A) (k : ℕ) (a : A) → get_elem? l k ≡ some a → get_elem? (l ++ m) k ≡ some a
  still_there [] m k a e = absurd (some-ne-none a (sym e))
  still_there (x ∷ xs) m zero a e = e
  still_there (x ∷ xs) m (suc k) a e = still_there xs m k a e

module _ (X J S : Type 0) where
  pub fresh_is : (seat : Seat (Home S) (View X J)) (gate : TableId) → seat.table_id ≡ gate → seat.me.0.seen ≡ [] → seat.me.0.own ≡ [] → carried seat None ≡ fresh gate
  fresh_is seat gate e f h = λ i. record { gate = e i; seen = f i; own = h i; job = None }

  alone : (p : Carried X J) (seat : Seat (Home S) (View X J)) (job : Option J) → carried seat job ≡ p → (i : ℕ) (q : Carried X J) → get_elem? (p ∷ []) i ≡ some q → (q.seen ≡ seat.me.0.seen) ⊎ ((k : ℕ) × (get_elem? seat.me.0.told k ≡ some q.seen))
  alone p seat job is zero q e = inl (ap (λ (z : Carried X J). z.seen) (sym (some-injective p q e)) ∙ ap (λ (z : Carried X J). z.seen) (sym is))
  alone p seat job is (suc i) q e = absurd (some-ne-none q (sym e))

  pub gathers_first : (p : Carried X J) (seat : Seat (Home S) (View X J)) (job : Option J) → carried seat job ≡ p → IsAway seat job → Gathered (p ∷ []) seat.me.0
  gathers_first p seat job is away = record { seen = alone p seat job is; own = λ n. let e : times n p.own ≡ times n seat.me.0.own = ap (λ (q : Carried X J). times n q.own) (sym is) in omega arith; away = away.0 }

  more : (taken : List (Carried X J)) (v w : View X J) (p : Carried X J) → ((i : ℕ) (q : Carried X J) → get_elem? taken i ≡ some q → (q.seen ≡ v.seen) ⊎ ((k : ℕ) × (get_elem? v.told k ≡ some q.seen))) → p.seen ≡ w.seen
      → (i : ℕ) (q : Carried X J) → get_elem? (p ∷ taken) i ≡ some q → (q.seen ≡ longer v.seen w.seen) ⊎ ((k : ℕ) × (get_elem? (v.told ++ v.seen ∷ w.seen ∷ []) k ≡ some q.seen))
  more taken v w p h is zero q e = inr (suc (length v.told), end_next v.told v.seen w.seen ∙ ap (λ (z : List X). some z) (sym is ∙ ap (λ (z : Carried X J). z.seen) (some-injective p q e)))
  more taken v w p h is (suc i) q e = ⊎_elim (λ (a : q.seen ≡ v.seen). inr (length v.told, end_there v.told v.seen w.seen ∙ ap (λ (z : List X). some z) (sym a)))
      (λ (a : (k : ℕ) × (get_elem? v.told k ≡ some q.seen)). inr (a.0, still_there v.told (v.seen ∷ w.seen ∷ []) a.0 q.seen a.1)) (h i q e)

  pub gathers_more : (taken : List (Carried X J)) (v u : View X J) (p : Carried X J) (seat : Seat (Home S) (View X J)) (job : Option J) → Gathered taken v → carried seat job ≡ p → u ≡ joined v seat.me.0 → Gathered (p ∷ taken) u
  gathers_more taken v u p seat job h is u_is = subst (Gathered (p ∷ taken)) (sym u_is) record {
    seen = more taken v seat.me.0 p h.seen (ap (λ (z : Carried X J). z.seen) (sym is));
    own = λ n. let e : times n p.own ≡ times n seat.me.0.own = ap (λ (q : Carried X J). times n q.own) (sym is) in
        let f : times n (v.own ++ seat.me.0.own) ≡ times n v.own + times n seat.me.0.own = total_append (λ x. one_if (eqb x n)) v.own seat.me.0.own in let o = h.own n in omega arith;
    away = h.away;
  }

  module _ (book : S → List X) (good : S → Type 0) where
    pub closes_seen : (passes taken : List (Carried X J)) (v : View X J) (y : S) → passes ≡ taken → Gathered taken v → IsLast book good v y → All (λ (p : Carried X J). IsPrefix p.seen (book y)) passes
    closes_seen passes taken v y is h last =
        let seen_at : (p : Carried X J) → (p.seen ≡ v.seen) ⊎ ((k : ℕ) × (get_elem? v.told k ≡ some p.seen)) → IsPrefix p.seen (book y) =
        λ p way. ⊎_elim (λ (e : p.seen ≡ v.seen). subst (λ (l : List X). IsPrefix l (book y)) (sym e) last.seen)
        (λ (e : (k : ℕ) × (get_elem? v.told k ≡ some p.seen)). last.told p.seen e.0 e.1) way in
        let there : All (λ (p : Carried X J). IsPrefix p.seen (book y)) taken = λ k d less. seen_at (get_or taken k d) (h.seen k (get_or taken k d) (at_or taken k d less)) in
        subst (All (λ (p : Carried X J). IsPrefix p.seen (book y))) (sym is) there

    pub closes_apart : (passes taken : List (Carried X J)) (v : View X J) (y : S) → passes ≡ taken → Gathered taken v → IsLast book good v y → Apart passes
    closes_apart passes taken v y is h last n = let o = h.own n in let a = last.apart n in let e = ap (λ (l : List (Carried X J)). total (λ (p : Carried X J). times n p.own) l) is in omega arith
