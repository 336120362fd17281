-- Laws on runs and the codes that they stand for.
use Rattle.std.proofs.Common.{◌≡◌, ℕ, zero, suc, ◌+◌, ◌<◌, eqb, false, inl, inr, List, [], ◌∷◌, ◌++◌, length, take, get_or, refl, sym, ◌∙◌, ap, subst, arith, append_assoc}
use Rattle.std.proofs.lemmas.Bool.{eqb-false, ne_eqb}
use Rattle.std.proofs.lemmas.Bool.Decides.{eqb_tells}
use Rattle.ut_bits.specs.Bits.{AllBelow}
use Rattle.ut_bits.proofs.BitLemmas.{AllBelow-append}
use Rattle.ut_rle.specs.Runs.{copies, expanded, with_code, runs_of, is_first_code, is_last_code, AreRuns}

-- two tests of one equation
pub eqb-sym : (a b : ℕ) → eqb a b ≡ false → eqb b a ≡ false
eqb-sym a b h = ne_eqb b a (λ e. eqb-false a b h (sym e))

pub length-copies : (n c : ℕ) → length (copies n c) ≡ n
length-copies zero c = refl
length-copies (suc n) c = ap suc (length-copies n c)

pub copies-more : (n c : ℕ) → copies n c ++ c ∷ [] ≡ copies (n + 1) c
copies-more zero c = refl
copies-more (suc n) c = let e : suc n + 1 ≡ suc (n + 1) = omega arith in rw e (ap (λ (l : List ℕ). c ∷ l) (copies-more n c))

pub get_or-copies : (n c i : ℕ) → i < n → get_or (copies n c) i 0 ≡ c
get_or-copies zero c i h = absurd (omega arith)
get_or-copies (suc n) c zero h = refl
get_or-copies (suc n) c (suc i) h = get_or-copies n c i (omega arith)

pub expanded-append : (rs ss : List (ℕ × ℕ)) → expanded (rs ++ ss) ≡ expanded rs ++ expanded ss
expanded-append [] ss = refl
expanded-append (r ∷ rs) ss = rw (expanded-append rs ss) (sym (append_assoc (copies r.1 r.0) (expanded rs) (expanded ss)))

pub expanded-push : (rs : List (ℕ × ℕ)) (c n : ℕ) → expanded (rs ++ (c, n) ∷ []) ≡ expanded rs ++ copies n c
expanded-push rs c n = expanded-append rs ((c, n) ∷ []) ∙ ap (λ (l : List ℕ). expanded rs ++ l) (nil (copies n c))
  where
    nil : (xs : List ℕ) → xs ++ [] ≡ xs
    nil [] = refl
    nil (x ∷ xs) = ap (λ (l : List ℕ). x ∷ l) (nil xs)

-- one more run behind
pub AreRuns-push : (limit : ℕ) (rs : List (ℕ × ℕ)) (c n : ℕ) → AreRuns limit rs → is_last_code rs c ≡ false → c < limit → 0 < n → AreRuns limit (rs ++ (c, n) ∷ [])
AreRuns-push limit [] c n h last below pos = (below, pos, refl, tt)
AreRuns-push limit (r ∷ []) c n h last below pos = (h.0, h.1, eqb-sym r.0 c last, (below, pos, refl, tt))
AreRuns-push limit (r ∷ s ∷ rs) c n h last below pos = (h.0, h.1, h.2, AreRuns-push limit (s ∷ rs) c n h.3 last below pos)

pub is_last_code-push : (rs : List (ℕ × ℕ)) (c n d : ℕ) → is_last_code (rs ++ (c, n) ∷ []) d ≡ eqb c d
is_last_code-push [] c n d = refl
is_last_code-push (r ∷ []) c n d = refl
is_last_code-push (r ∷ s ∷ rs) c n d = is_last_code-push (s ∷ rs) c n d

-- what holds of the run at a place
pub AreRuns-at : (limit : ℕ) (rs : List (ℕ × ℕ)) (k : ℕ) → AreRuns limit rs → k < length rs → ((get_or rs k (0, 0)).0 < limit) × (0 < (get_or rs k (0, 0)).1)
AreRuns-at limit [] k h below = absurd (omega arith)
AreRuns-at limit (r ∷ rs) zero h below = (h.0, h.1)
AreRuns-at limit (r ∷ rs) (suc k) h below = AreRuns-at limit rs k h.3 (omega arith)

pub is_last_code-take : (limit : ℕ) (rs : List (ℕ × ℕ)) (k : ℕ) → AreRuns limit rs → k < length rs → is_last_code (take k rs) (get_or rs k (0, 0)).0 ≡ false
is_last_code-take limit [] k h below = absurd (omega arith)
is_last_code-take limit (r ∷ rs) zero h below = refl
is_last_code-take limit (r ∷ []) (suc k) h below = absurd (omega arith)
is_last_code-take limit (r ∷ s ∷ rs) (suc zero) h below = eqb-sym s.0 r.0 h.2
is_last_code-take limit (r ∷ s ∷ rs) (suc (suc k)) h below = is_last_code-take limit (s ∷ rs) (suc k) h.3 (omega arith)

with_code-same : (c n : ℕ) (rs : List (ℕ × ℕ)) → with_code c ((c, n) ∷ rs) ≡ (c, n + 1) ∷ rs
with_code-same c n rs = elim (eqb_tells c c) [ inl e ↦ rw e.0 refl | inr e ↦ absurd (e.1 refl) ]

with_code-new : (c : ℕ) (rs : List (ℕ × ℕ)) → is_first_code rs c ≡ false → with_code c rs ≡ (c, 1) ∷ rs
with_code-new c [] h = refl
with_code-new c (r ∷ rs) h = rw h refl

-- a run in front of codes that begin otherwise
runs_of-copies : (n c : ℕ) (xs : List ℕ) → is_first_code (runs_of xs) c ≡ false → runs_of (copies (suc n) c ++ xs) ≡ (c, suc n) ∷ runs_of xs
runs_of-copies zero c xs h = with_code-new c (runs_of xs) h
runs_of-copies (suc n) c xs h =
    let e : suc n + 1 ≡ suc (suc n) = omega arith in
    ap (λ rs. with_code c rs) (runs_of-copies n c xs h) ∙ with_code-same c (suc n) (runs_of xs) ∙ ap (λ (k : ℕ). (c, k) ∷ runs_of xs) e

runs_of-copies_pos : (n c : ℕ) (xs : List ℕ) → 0 < n → is_first_code (runs_of xs) c ≡ false → runs_of (copies n c ++ xs) ≡ (c, n) ∷ runs_of xs
runs_of-copies_pos zero c xs pos h = absurd (omega arith)
runs_of-copies_pos (suc n) c xs pos h = runs_of-copies n c xs h

-- runs are the runs of the codes that they stand for
pub runs_of-expanded : (limit : ℕ) (rs : List (ℕ × ℕ)) → AreRuns limit rs → runs_of (expanded rs) ≡ rs
runs_of-expanded limit [] h = refl
runs_of-expanded limit (r ∷ rs) h =
    let rest : runs_of (expanded rs) ≡ rs = runs_of-expanded limit rs h.3 in runs_of-copies_pos r.1 r.0 (expanded rs) h.1 (rw rest h.2) ∙ ap (λ ss. (r.0, r.1) ∷ ss) rest

expanded-with_code : (c : ℕ) (rs : List (ℕ × ℕ)) → expanded (with_code c rs) ≡ c ∷ expanded rs
expanded-with_code c [] = refl
expanded-with_code c (r ∷ rs) = elim (eqb_tells r.0 c) [ inl e ↦ rw e.0 (let k : r.1 + 1 ≡ suc r.1 = omega arith in rw (k, e.1) refl) | inr e ↦ rw e.0 refl ]

-- the runs of codes stand for these codes
pub expanded-runs_of : (codes : List ℕ) → expanded (runs_of codes) ≡ codes
expanded-runs_of [] = refl
expanded-runs_of (c ∷ cs) = expanded-with_code c (runs_of cs) ∙ ap (λ (l : List ℕ). c ∷ l) (expanded-runs_of cs)

AreRuns-with_code : (limit c : ℕ) (rs : List (ℕ × ℕ)) → c < limit → AreRuns limit rs → AreRuns limit (with_code c rs)
AreRuns-with_code limit c [] below h = (below, omega arith, refl, tt)
AreRuns-with_code limit c (r ∷ rs) below h =
    elim (eqb_tells r.0 c) [ inl e ↦ rw e.0 (below, omega arith, subst (λ (d : ℕ). is_first_code rs d ≡ false) e.1 h.2, h.3) | inr e ↦ rw e.0 (below, omega arith, e.0, h) ]

pub AreRuns-runs_of : (limit : ℕ) (codes : List ℕ) → AllBelow limit codes → AreRuns limit (runs_of codes)
AreRuns-runs_of limit [] h = tt
AreRuns-runs_of limit (c ∷ cs) h = AreRuns-with_code limit c (runs_of cs) h.0 (AreRuns-runs_of limit cs h.1)

pub AllBelow-copies : (limit n c : ℕ) → c < limit → AllBelow limit (copies n c)
AllBelow-copies limit zero c h = tt
AllBelow-copies limit (suc n) c h = (h, AllBelow-copies limit n c h)

pub AllBelow-expanded : (limit : ℕ) (rs : List (ℕ × ℕ)) → AreRuns limit rs → AllBelow limit (expanded rs)
AllBelow-expanded limit [] h = tt
AllBelow-expanded limit (r ∷ rs) h = AllBelow-append limit (copies r.1 r.0) (expanded rs) (AllBelow-copies limit r.1 r.0 h.0) (AllBelow-expanded limit rs h.3)
