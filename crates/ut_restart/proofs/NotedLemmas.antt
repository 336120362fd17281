-- Positions that are noted one after the other.
use Rattle.std.proofs.Common.{◌≡◌, ◌≢◌, ◌⊎◌, inl, inr, ℕ, ◌+◌, ◌≤◌, Bool, cond, List, [], ◌∷◌, ◌++◌, length, map, Some, refl, sym, ◌∙◌, ap, subst, arith, eq-eqb, length-append}
use Rattle.std.specs.List.{AllByRecursion}
use Rattle.std.proofs.lemmas.Bool.{cases_eq, ne_eqb}
use Rattle.ut_plain.specs.Capture.{AreDistinct}
use Rattle.ut_restart.specs.declared.rows.Position.{Position}
use Rattle.ut_restart.specs.declared.rows.Rows.{Rows}
use Rattle.ut_restart.specs.Rows.{Positions, position_in}
use Rattle.ut_restart.specs.Noted.{Note, with_note, with_notes, HasNoted, Noted}

-- ---- what a list of notes says

abbrev pub keys : List Note → List ℕ
keys es = map (λ (e : Note). e.0) es

-- a note is one of these
abbrev pub Among : List Note → ℕ → Position → Type 0
Among [] id at = ⊥
Among (e ∷ es) id at = ((e.0 ≡ id) × (e.1 ≡ at)) ⊎ Among es id at

pub among_left : (xs ys : List Note) (id : ℕ) (at : Position) → Among xs id at → Among (xs ++ ys) id at
among_left [] ys id at a = absurd a
among_left (x ∷ xs) ys id at (inl here) = inl here
among_left (x ∷ xs) ys id at (inr rest) = inr (among_left xs ys id at rest)

pub among_right : (xs ys : List Note) (id : ℕ) (at : Position) → Among ys id at → Among (xs ++ ys) id at
among_right [] ys id at a = a
among_right (x ∷ xs) ys id at a = inr (among_right xs ys id at a)

pub among_cases : (xs ys : List Note) (id : ℕ) (at : Position) → Among (xs ++ ys) id at → Among xs id at ⊎ Among ys id at
among_cases [] ys id at a = inr a
among_cases (x ∷ xs) ys id at (inl here) = inl (inl here)
among_cases (x ∷ xs) ys id at (inr rest) = elim (among_cases xs ys id at rest) [ inl left ↦ inl (inr left) | inr right ↦ inr right ]

here_is : (f : Positions) (e : Note) (q : ℕ) → q ≡ e.0 → with_note f e q ≡ Some e.1
here_is f e q same = ap (λ (b : Bool). cond b (Some e.1) (f q)) (eq-eqb q e.0 same)

other_is : (f : Positions) (e : Note) (q : ℕ) → q ≢ e.0 → with_note f e q ≡ f q
other_is f e q differ = ap (λ (b : Bool). cond b (Some e.1) (f q)) (ne_eqb q e.0 differ)

-- an id that none of them has
notes-none : (f : Positions) (es : List Note) (q : ℕ) → AllByRecursion (λ (id : ℕ). id ≢ q) (keys es) → with_notes f es q ≡ f q
notes-none f [] q none = refl
notes-none f (e ∷ es) q none = notes-none (with_note f e) es q none.1 ∙ other_is f e q (λ same. none.0 (sym same))

pub notes-there : (f : Positions) (es : List Note) (q : ℕ) (at : Position) → with_notes f es q ≡ Some at → (f q ≡ Some at) ⊎ Among es q at
notes-there f [] q at is = inl is
notes-there f (e ∷ es) q at is = elim (notes-there (with_note f e) es q at is) [
  | inl here ↦ elim (cases_eq q e.0) [
    | inl same ↦ inr (inl (sym same, some_same e.1 at (sym (here_is f e q same) ∙ here)))
    | inr differ ↦ inl (sym (other_is f e q differ) ∙ here)
  ]
  | inr rest ↦ inr (inr rest)
]
  where
    some_same : (a b : Position) → Some a ≡ Some b → a ≡ b
    some_same a b e = cc

pub notes-among : (f : Positions) (es : List Note) (q : ℕ) (at : Position) → AreDistinct (keys es) → Among es q at → with_notes f es q ≡ Some at
notes-among f [] q at own a = absurd a
notes-among f (e ∷ es) q at own (inl here) = notes-none (with_note f e) es q (subst (λ (k : ℕ). AllByRecursion (λ (id : ℕ). id ≢ k) (keys es)) here.0 own.0) ∙ here_is f e q (sym here.0) ∙ ap (λ (a : Position). Some a) here.1
notes-among f (e ∷ es) q at own (inr rest) = notes-among (with_note f e) es q at own.1 rest

-- ---- one after the other

notes-append : (f : Positions) (es fs : List Note) → with_notes f (es ++ fs) ≡ with_notes (with_notes f es) fs
notes-append f [] fs = refl
notes-append f (e ∷ es) fs = notes-append (with_note f e) es fs

pub noted-refl : (a : Rows) → Noted a [] a
noted-refl a = record { positions = λ q. refl; load = omega arith; stages = refl; next = refl }

pub noted-one : (a b : Rows) (id : ℕ) (at : Position) → HasNoted a id at b → Noted a ((id, at) ∷ []) b
noted-one a b id at h = record {
  positions = λ q. elim (cases_eq q id) [
    | inl same ↦ ap (position_in b.positions) same ∙ h.set.here ∙ sym (here_is (position_in a.positions) (id, at) q same)
    | inr differ ↦ h.set.others q differ ∙ sym (other_is (position_in a.positions) (id, at) q differ)
  ];
  load = omega (arith, h.load);
  stages = h.stages;
  next = h.next;
}

pub noted-then : (a b c : Rows) (es fs : List Note) → Noted a es b → Noted b fs c → Noted a (es ++ fs) c
noted-then a b c es fs first second = record {
  positions = λ q. second.positions q ∙ (λ i. with_notes (λ p. first.positions p i) fs q) ∙ ap (λ (f : Positions). f q) (sym (notes-append (position_in a.positions) es fs));
  load = omega (arith, first.load, second.load, length-append es fs);
  stages = second.stages ∙ first.stages;
  next = second.next ∙ first.next;
}

-- Of all notes these are to come.
pub record Noting (first : Rows) (all : List Note) (now : Rows) (rest : List Note) : Type 0 where
  pub done : (t : Rows) → Noted now rest t → Noted first all t
  pub room : now.load + length rest ≡ first.load + length all

pub noting-first : (a : Rows) (all rest : List Note) → all ≡ rest → Noting a all a rest
noting-first a all rest same = record { done = λ t n. subst (λ (es : List Note). Noted a es t) (sym same) n; room = ap (λ (es : List Note). a.load + length es) (sym same) }

pub noting-then : (a b c : Rows) (all es fs rest : List Note) → Noting a all b rest → rest ≡ es ++ fs → Noted b es c → Noting a all c fs
noting-then a b c all es fs rest n same more = record {
  done = λ t last. n.done t (subst (λ (xs : List Note). Noted b xs t) (sym same) (noted-then b c t es fs more last));
  room = omega (arith, n.room, more.load, length-append es fs, ap (λ (xs : List Note). length xs) same);
}

-- the notes that come next have room
pub noting-room : (a b : Rows) (all es fs rest : List Note) → Noting a all b rest → rest ≡ es ++ fs → a.load + length all ≤ 2147483648 → b.load + length es ≤ 2147483648
noting-room a b all es fs rest n same few = omega (arith, n.room, few, length-append es fs, ap (λ (xs : List Note). length xs) same)

pub noting-last : (a b : Rows) (all rest : List Note) → Noting a all b rest → rest ≡ [] → Noted a all b
noting-last a b all rest n none = n.done b (subst (λ (es : List Note). Noted b es b) (sym none) (noted-refl b))
