-- Laws on the code that stands most often.
use Rattle.std.proofs.Common.{◌≡◌, ℕ, ◌+◌, ◌-◌, ◌<◌, ◌≤◌, eqb, min, true, false, inl, inr, ◌⊎◌, List, [], ◌∷◌, length, take, get_or, refl, sym, ◌∙◌, ap, subst, arith}
use Rattle.std.proofs.lemmas.Bool.{cases_lt, lt-ltb, le-ltb, ne_eqb}
use Rattle.std.proofs.lemmas.Bool.Decides.{eqb_tells}
use Rattle.std.proofs.lemmas.List.Sums.{count_by_more_no, count_by_more_yes, count_by-le-length}
use Rattle.std.proofs.lemmas.List.{length-take-le}
use Rattle.ut_bits.specs.Bits.{AllBelow}
use Rattle.ut_sparse.specs.Frequent.{count_of, more_frequent, most_frequent_of, most_frequent, IsMostFrequent}

-- one code more
pub count_of-same : (codes : List ℕ) (i : ℕ) → i < length codes → count_of (get_or codes i 0) (take (i + 1) codes) ≡ count_of (get_or codes i 0) (take i codes) + 1
count_of-same codes i h = count_by_more_yes (λ d. eqb d (get_or codes i 0)) codes i 0 h (itself (get_or codes i 0))
  where
    itself : (n : ℕ) → eqb n n ≡ true
    itself n = elim (eqb_tells n n) [ inl e ↦ e.0 | inr e ↦ absurd (e.1 refl) ]

pub count_of-other : (codes : List ℕ) (i d : ℕ) → i < length codes → (get_or codes i 0 ≡ d → ⊥) → count_of d (take (i + 1) codes) ≡ count_of d (take i codes)
count_of-other codes i d h differ = count_by_more_no (λ e. eqb e d) codes i 0 h (ne_eqb (get_or codes i 0) d differ)

pub count_of-le : (d i : ℕ) (codes : List ℕ) → i ≤ length codes → count_of d (take i codes) ≤ i
count_of-le d i codes h = omega (arith, count_by-le-length (λ e. eqb e d) (take i codes), length-take-le i codes h)

-- a code that is not below the limit stands nowhere
pub count_of-none : (limit d : ℕ) (codes : List ℕ) → AllBelow limit codes → limit ≤ d → count_of d codes ≡ 0
count_of-none limit d [] h le = refl
count_of-none limit d (c ∷ cs) h le =
    let rest = count_of-none limit d cs h.1 le in
    let other : eqb c d ≡ false = ne_eqb c d (λ e. omega (arith, e, h.0)) in
    rw other (omega (arith, rest))

-- a stands more often than b, or as often and is not greater
IsBefore : List ℕ → ℕ → ℕ → Type 0
IsBefore all a b = (count_of b all ≤ count_of a all) × (count_of b all ≡ count_of a all → a ≤ b)

before-trans : (all : List ℕ) (a b c : ℕ) → IsBefore all a b → IsBefore all b c → IsBefore all a c
unfolding IsBefore
before-trans all a b c h k = (omega (arith, h.0, k.0), λ e. omega (arith, h.1 (omega (arith, h.0, k.0, e)), k.1 (omega (arith, h.0, k.0, e))))

before-refl : (all : List ℕ) (a : ℕ) → IsBefore all a a
unfolding IsBefore
before-refl all a = (omega arith, λ e. omega arith)

either : (all : List ℕ) (a b m : ℕ) → count_of a all ≡ count_of b all → ((m ≡ a) × (a ≤ b)) ⊎ ((m ≡ b) × (b ≤ a)) → IsBefore all m a × IsBefore all m b
unfolding IsBefore
either all a b m tie (inl e) = subst (λ (n : ℕ). ((count_of a all ≤ count_of n all) × (count_of a all ≡ count_of n all → n ≤ a)) × ((count_of b all ≤ count_of n all) × (count_of b all ≡ count_of n all → n ≤ b))) (sym e.0) ((omega arith, λ _. omega arith), (omega (arith, tie), λ _. e.1))
either all a b m tie (inr e) = subst (λ (n : ℕ). ((count_of a all ≤ count_of n all) × (count_of a all ≡ count_of n all → n ≤ a)) × ((count_of b all ≤ count_of n all) × (count_of b all ≡ count_of n all → n ≤ b))) (sym e.0) ((omega (arith, tie), λ _. e.1), (omega arith, λ _. omega arith))

min-either : (a b : ℕ) → ((min a b ≡ a) × (a ≤ b)) ⊎ ((min a b ≡ b) × (b ≤ a))
min-either a b = elim (cases_lt a b) [ inl less ↦ inl (omega arith, omega arith) | inr more ↦ inr (omega arith, omega arith) ]

more_frequent-both : (all : List ℕ) (a b : ℕ) → IsBefore all (more_frequent all a b) a × IsBefore all (more_frequent all a b) b
unfolding IsBefore
more_frequent-both all a b =
    elim (cases_lt (count_of a all) (count_of b all)) [
      | inl less ↦ rw (lt-ltb (count_of a all) (count_of b all) less) ((omega (arith, less), λ e. absurd (omega (arith, less, e))), (omega arith, λ e. omega arith))
      | inr more ↦
          rw (le-ltb (count_of a all) (count_of b all) more)
          (elim (cases_lt (count_of b all) (count_of a all)) [
            | inl less ↦ rw (lt-ltb (count_of b all) (count_of a all) less) ((omega arith, λ e. omega arith), (omega (arith, less), λ e. absurd (omega (arith, less, e))))
            | inr tie ↦ rw (le-ltb (count_of b all) (count_of a all) tie) (either all a b (min a b) (omega (arith, more, tie)) (min-either a b))
          ])
    ]

most_frequent_of-zero : (all xs : List ℕ) → IsBefore all (most_frequent_of all xs) 0
most_frequent_of-zero all [] = before-refl all 0
most_frequent_of-zero all (x ∷ xs) = before-trans all _ _ 0 (more_frequent-both all x (most_frequent_of all xs)).1 (most_frequent_of-zero all xs)

most_frequent_of-each : (all xs : List ℕ) (d : ℕ) → 0 < count_of d xs → IsBefore all (most_frequent_of all xs) d
most_frequent_of-each all [] d h = absurd (omega arith)
most_frequent_of-each all (x ∷ xs) d h =
    let both = more_frequent-both all x (most_frequent_of all xs) in
    elim (eqb_tells x d) [
      | inl e ↦ subst (λ (n : ℕ). IsBefore all (most_frequent_of all (x ∷ xs)) n) e.1 both.0
      | inr e ↦ before-trans all _ _ d both.1 (most_frequent_of-each all xs d (less x xs d e.0 h))
    ]
  where
    less : (x : ℕ) (xs : List ℕ) (d : ℕ) → eqb x d ≡ false → 0 < count_of d (x ∷ xs) → 0 < count_of d xs
    less x xs d e h = let k = rw e at h in omega (arith, k)

-- the definition gives a code that is most frequent
pub most_frequent-is : (codes : List ℕ) → IsMostFrequent codes (most_frequent codes)
unfolding most_frequent IsBefore
most_frequent-is codes = λ d.
    elim (cases_lt 0 (count_of d codes)) [
      | inl some ↦ most_frequent_of-each codes codes d some
      | inr none ↦
          let base = most_frequent_of-zero codes codes in
          (omega (arith, none), λ e. omega (arith, base.1 (omega (arith, base.0, none, e)), none))
    ]

-- there is but one
pub most_frequent-unique : (codes : List ℕ) (a b : ℕ) → IsMostFrequent codes a → IsMostFrequent codes b → a ≡ b
most_frequent-unique codes a b h k =
    let one = h b in
    let two = k a in
    omega (arith, one.1 (omega (arith, one.0, two.0)), two.1 (omega (arith, one.0, two.0)))

pub is-most_frequent : (codes : List ℕ) (c : ℕ) → IsMostFrequent codes c → c ≡ most_frequent codes
is-most_frequent codes c h = most_frequent-unique codes c (most_frequent codes) h (most_frequent-is codes)

-- the best so far, by counts that one more code changes from f to g
pub record IsBest (f : ℕ → ℕ) (code count : ℕ) : Type 0 where
  pub counted : count ≡ f code
  pub most : (d : ℕ) → (f d ≤ count) × (f d ≡ count → code ≤ d)

pub best-grows : (f g : ℕ → ℕ) (x n code count : ℕ) → n ≡ g x → ((d : ℕ) → (x ≡ d → ⊥) → g d ≡ f d) → IsBest f code count → count < n → IsBest g x n
best-grows f g x n code count e same best more = record {
  counted = e;
  most = λ d. elim (eqb_tells x d) [
    | inl k ↦ (omega (arith, e, ap g k.1), λ _. omega (arith, k.1))
    | inr k ↦ (omega (arith, same d k.1, (best.most d).0, more), λ t. absurd (omega (arith, same d k.1, (best.most d).0, more, t)))
  ];
}

pub best-stays : (f g : ℕ → ℕ) (x n code count : ℕ) → n ≡ g x → g x ≡ f x + 1 → ((d : ℕ) → (x ≡ d → ⊥) → g d ≡ f d) → code ≤ x → IsBest f code count → n ≤ count → IsBest g code count
best-stays f g x n code count e more same before best le = record {
  counted = best.counted ∙ sym (same code (λ k. omega (arith, e, more, best.counted, le, ap f k)));
  most = λ d. elim (eqb_tells x d) [
    | inl k ↦ (omega (arith, e, le, ap g k.1), λ _. omega (arith, k.1, before))
    | inr k ↦ (omega (arith, same d k.1, (best.most d).0), λ t. (best.most d).1 (omega (arith, same d k.1, t)))
  ];
}

-- the longest run and the last run among the first codes of an ascending list
pub record IsLongest (sorted : List ℕ) (i code count last size : ℕ) : Type 0 where
  pub best : IsBest (λ d. count_of d (take i sorted)) code count
  pub run : size ≡ count_of last (take i sorted)
  pub rest : (d : ℕ) → last < d → count_of d (take i sorted) ≡ 0
  pub before : code ≤ last
  pub here : 0 < i → last ≡ get_or sorted (i - 1) 0
  pub none : i ≡ 0 → last ≡ 0

pub longest-next : (sorted : List ℕ) (i code count last size code' count' last' size' : ℕ) → ((k : ℕ) → k + 1 < length sorted → get_or sorted k 0 ≤ get_or sorted (k + 1) 0) → i < length sorted
    → IsLongest sorted i code count last size → last' ≡ get_or sorted i 0 → (last ≡ get_or sorted i 0 → size' ≡ size + 1) → ((last ≡ get_or sorted i 0 → ⊥) → size' ≡ 1)
    → (size' ≤ count → (code' ≡ code) × (count' ≡ count)) → (count < size' → (code' ≡ last') × (count' ≡ size')) → IsLongest sorted (i + 1) code' count' last' size'
longest-next sorted i code count last size code' count' last' size' up h inv e same other stays grows =
    let rises : last ≤ get_or sorted i 0 =
    elim (cases_lt 0 i) [
      | inl some ↦
          let back : i - 1 + 1 ≡ i = omega arith in
          let step : get_or sorted (i - 1) 0 ≤ get_or sorted i 0 = subst (λ (k : ℕ). get_or sorted (i - 1) 0 ≤ get_or sorted k 0) back (up (i - 1) (omega arith)) in
          omega (arith, inv.here some, step)
      | inr nothing ↦ omega (arith, inv.none (omega arith))
    ] in
    let more = count_of-same sorted i h in
    let others = λ (d : ℕ). count_of-other sorted i d h in
    let size-is : size' ≡ count_of (get_or sorted i 0) (take (i + 1) sorted) =
    elim (eqb_tells last (get_or sorted i 0)) [
      | inl k ↦ omega (arith, same k.1, more, inv.run, ap (λ (d : ℕ). count_of d (take i sorted)) k.1)
      | inr k ↦ omega (arith, other k.1, more, inv.rest (get_or sorted i 0) (omega (arith, rises, k.1)))
    ] in
    let best' : IsBest (λ d. count_of d (take (i + 1) sorted)) code' count' =
    elim (cases_lt count size') [
      | inl larger ↦
          let is = grows larger in
          subst (λ (n : ℕ). IsBest (λ d. count_of d (take (i + 1) sorted)) n count') (sym (is.0 ∙ e)) (subst (λ (n : ℕ). IsBest (λ d. count_of d (take (i + 1) sorted)) (get_or sorted i 0) n) (sym is.1)
          (best-grows (λ d. count_of d (take i sorted)) (λ d. count_of d (take (i + 1) sorted)) (get_or sorted i 0) size' code count size-is others inv.best larger))
      | inr smaller ↦
          let is = stays smaller in
          subst (λ (n : ℕ). IsBest (λ d. count_of d (take (i + 1) sorted)) n count') (sym is.0) (subst (λ (n : ℕ). IsBest (λ d. count_of d (take (i + 1) sorted)) code n) (sym is.1)
          (best-stays (λ d. count_of d (take i sorted)) (λ d. count_of d (take (i + 1) sorted)) (get_or sorted i 0) size' code count size-is more others (omega (arith, inv.before, rises)) inv.best smaller))
    ] in
    record {
      best = best';
      run = size-is ∙ ap (λ (d : ℕ). count_of d (take (i + 1) sorted)) (sym e);
      rest = λ d far. count_of-other sorted i d h (λ k. omega (arith, k, e, far)) ∙ inv.rest d (omega (arith, rises, e, far));
      before = elim (cases_lt count size') [ inl larger ↦ omega (arith, (grows larger).0) | inr smaller ↦ omega (arith, (stays smaller).0, inv.before, rises, e) ];
      here = λ _. e ∙ ap (λ (k : ℕ). get_or sorted k 0) (omega arith);
      none = λ k. absurd (omega (arith, k));
    }

-- the first of the greatest counts is of the code that stands most often
pub table-most : (limit : ℕ) (codes counts : List ℕ) (best : ℕ) → AllBelow limit codes → length counts ≡ limit → ((d : ℕ) → d < limit → get_or counts d 0 ≡ count_of d codes)
    → best < length counts → ((d : ℕ) → d < length counts → get_or counts d 0 ≤ get_or counts best 0) → ((d : ℕ) → d < length counts → get_or counts d 0 ≡ get_or counts best 0 → best ≤ d)
    → IsMostFrequent codes best
table-most limit codes counts best h size is within greatest first = λ d.
    let top = is best (omega arith) in
    elim (cases_lt d limit) [
      | inl below ↦
          let here = is d below in
          (omega (arith, here, top, greatest d (omega arith)), λ e. first d (omega arith) (omega (arith, here, top, e)))
      | inr above ↦ (omega (arith, count_of-none limit d codes h above), λ e. omega arith)
    ]

-- a list in another order
pub most-permuted : (codes others : List ℕ) (c : ℕ) → ((d : ℕ) → count_of d others ≡ count_of d codes) → IsMostFrequent others c → IsMostFrequent codes c
most-permuted codes others c same h = λ d. (omega (arith, same d, same c, (h d).0), λ e. (h d).1 (omega (arith, same d, same c, e)))
