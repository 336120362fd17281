-- One page more.
use Rattle.std.proofs.Common.{◌≡◌, inl, inr, ℕ, ◌≤◌, min, List, [], ◌∷◌, ◌++◌, length, take, drop, get_or, zero, suc, Option, None, Some, refl, sym, ◌∙◌, ap, subst, arith, append_assoc}
use Rattle.std.specs.Prelude.{IfSome, MatchOption, is_some, slice_get, ltb}
use Rattle.std.proofs.lemmas.Option.{slice_get-get_or}
use Rattle.std.specs.Option.{option_map}
use Rattle.std.proofs.lemmas.List.{take_all, drop_all}
use Rattle.std.proofs.lemmas.Bool.{cases_lt, ltb-true, ltb-false}
use Rattle.ut_durable.specs.Saving.{Planned}
use Rattle.ut_durable.specs.Plans.{plan, Fills, first_of}
use Rattle.ut_savepoint.specs.declared.cut.PageWrite.{PageWrite}
use Rattle.ut_savepoint.specs.Writes.{planned_in, planned_write}

pub planned_push : (writes : List PageWrite) (write : PageWrite) → planned_in (writes ++ write ∷ []) ≡ planned_in writes ++ planned_write write ∷ []
planned_push [] write = refl
planned_push (l ∷ writes) write = ap (λ (ps : List Planned). planned_write l ∷ ps) (planned_push writes write)

-- what was cut and what is left are the whole
pub record CutSoFar (old out : List Planned) (pages bytes left rest : List ℕ) : Type 0 where
  pub whole : out ++ plan left rest ≡ old ++ plan pages bytes
  pub fills : Fills left rest

pub length-planned : (writes : List PageWrite) → length (planned_in writes) ≡ length writes
length-planned [] = refl
length-planned (l ∷ writes) = omega (arith, length-planned writes)

pub planned_at : (writes : List PageWrite) (i : ℕ) → slice_get (planned_in writes) i ≡ option_map planned_write (slice_get writes i)
planned_at [] i = refl
planned_at (l ∷ writes) zero = refl
planned_at (l ∷ writes) (suc i) = planned_at writes i

-- the one at a place
pub next_is : {A : Type 0} (o : Option A) (value : A → PageWrite) (writes : List PageWrite) (i : ℕ) → is_some o ≡ ltb i (length writes) → IfSome o (λ x. value x ≡ get_or writes i (value x))
    → MatchOption o (length (planned_in writes) ≤ i) (λ x. slice_get (planned_in writes) i ≡ Some (planned_write (value x)))
next_is None value writes i there found = let over = ltb-false i (length writes) (sym there) in omega (arith, over, length-planned writes)
next_is (Some x) value writes i there found = planned_at writes i ∙ ap (option_map planned_write) (slice_get-get_or writes i (value x) (ltb-true i (length writes) (sym there)) ∙ ap Some (sym found))

-- the bytes behind a page
drop_least : (n : ℕ) (xs : List ℕ) → drop (min (length xs) n) xs ≡ drop n xs
drop_least n xs = elim (cases_lt (length xs) n) [
  | inl lt ↦ let is : min (length xs) n ≡ length xs = omega (arith, lt) in ap (λ (k : ℕ). drop k xs) is ∙ drop_all (length xs) xs (omega arith) ∙ sym (drop_all n xs (omega (arith, lt)))
  | inr le ↦ let is : min (length xs) n ≡ n = omega (arith, le) in ap (λ (k : ℕ). drop k xs) is
]

take_least : (n : ℕ) (xs : List ℕ) → take (min (length xs) n) xs ≡ take n xs
take_least n xs = elim (cases_lt (length xs) n) [
  | inl lt ↦ let is : min (length xs) n ≡ length xs = omega (arith, lt) in ap (λ (k : ℕ). take k xs) is ∙ take_all (length xs) xs (omega arith) ∙ sym (take_all n xs (omega (arith, lt)))
  | inr le ↦ let is : min (length xs) n ≡ n = omega (arith, le) in ap (λ (k : ℕ). take k xs) is
]

pub cut_more : (old : List Planned) (out : List PageWrite) (write : PageWrite) (pages bytes left rest : List ℕ) (len : ℕ) → CutSoFar old (planned_in out) pages bytes left rest → 1 ≤ length left → len ≡ min (length rest) 4090
    → write.page ≡ get_or left 0 0 → write.next ≡ first_of (drop 1 left) → write.bytes.items ≡ take len rest → CutSoFar old (planned_in (out ++ write ∷ [])) pages bytes (drop 1 left) (drop len rest)
cut_more old out write pages bytes [] rest len so_far some is page next payload = absurd (omega arith)
cut_more old out write pages bytes (n ∷ left) rest len so_far some is page next payload =
    let behind : drop len rest ≡ drop 4090 rest = ap (λ (k : ℕ). drop k rest) is ∙ drop_least 4090 rest in
    let front : write.bytes.items ≡ take 4090 rest = payload ∙ ap (λ (k : ℕ). take k rest) is ∙ take_least 4090 rest in
    let one : planned_write write ≡ record { n = n; next = first_of left; payload = take 4090 rest } = (λ i. record { n = page i; next = next i; payload = front i }) in
    record {
      whole = ap (λ (l : List Planned). l ++ plan left (drop len rest)) (planned_push out write) ∙ append_assoc (planned_in out) (planned_write write ∷ []) (plan left (drop len rest))
          ∙ ap (λ (p : Planned). planned_in out ++ p ∷ plan left (drop len rest)) one ∙ ap (λ (l : List ℕ). planned_in out ++ record { n = n; next = first_of left; payload = take 4090 rest } ∷ plan left l) behind ∙ so_far.whole;
      fills = subst (Fills left) (sym behind) so_far.fills.1;
    }
