-- Laws on runs kept by their ends.
use Rattle.std.proofs.Common.{◌≡◌, ℕ, zero, suc, ◌+◌, ◌-◌, ◌<◌, ◌≤◌, eqb, Bool, false, List, [], ◌∷◌, ◌++◌, length, take, get_or, refl, sym, ◌∙◌, ap, subst, arith, append_assoc, add-one, length-append, map, Some, slice_get, nat_lt, true, replicate, append-nil, inl, inr}
use Rattle.std.proofs.Math.Seq.{take-suc}
use Rattle.std.proofs.lemmas.List.{take_all, get_or-map, get_or_append_left, get_or-append_right}
use Rattle.std.proofs.lemmas.Bool.{cases_lt, lt-ltb, le-ltb}
use Rattle.std.specs.List.{list_all, range_with_len}
use Rattle.ut_bits.specs.Bits.{AllBelow}
use Rattle.ut_bits.specs.Places.{places_from}
use Rattle.ut_bits.specs.Words.{word_bytes}
use Rattle.ut_bits.proofs.BitLemmas.{AllBelow-append}
use Rattle.ut_bits.proofs.PlacesLemmas.{places_from-both}
use Rattle.ut_rle.specs.declared.run.Run.{Run}
use Rattle.ut_rle.specs.Runs.{copies, expanded, entries_of, is_last_code, AreRuns}
use Rattle.ut_rle.specs.Ends.{lengths_from, end_from, Ascend}
use Rattle.ut_rle.proofs.RunsLemmas.{length-copies, get_or-copies, copies-more, expanded-push, AreRuns-push, is_last_code-push, AllBelow-copies}

-- what is read past the last run
abbrev pub no_run : Run
no_run = record { code = 0; end = 0 }

pub lengths_from-push : (at : ℕ) (rs : List Run) (r : Run) → lengths_from at (rs ++ r ∷ []) ≡ lengths_from at rs ++ (r.code, r.end - end_from at rs) ∷ []
lengths_from-push at [] r = refl
lengths_from-push at (s ∷ rs) r = ap (λ l. (s.code, s.end - at) ∷ l) (lengths_from-push s.end rs r)

pub end_from-push : (at : ℕ) (rs : List Run) (r : Run) → end_from at (rs ++ r ∷ []) ≡ r.end
end_from-push at [] r = refl
end_from-push at (s ∷ rs) r = end_from-push s.end rs r

pub length-lengths_from : (at : ℕ) (rs : List Run) → length (lengths_from at rs) ≡ length rs
length-lengths_from at [] = refl
length-lengths_from at (r ∷ rs) = ap suc (length-lengths_from r.end rs)

-- how many codes the runs stand for
pub length-expanded : (limit at : ℕ) (rs : List Run) → AreRuns limit (lengths_from at rs) → at + length (expanded (lengths_from at rs)) ≡ end_from at rs
length-expanded limit at [] h = omega arith
length-expanded limit at (r ∷ rs) h =
    let rest = length-expanded limit r.end rs h.3 in
    omega (arith, h.1, rest, length-append (copies (r.end - at) r.code) (expanded (lengths_from r.end rs)), length-copies (r.end - at) r.code)

-- a run that ends here is written behind the others
pub write-run : (limit : ℕ) (rs after : List Run) (r : Run) (codes : List ℕ) → after ≡ rs ++ r ∷ [] → end_from 0 rs < r.end
    → expanded (lengths_from 0 rs) ++ copies (r.end - end_from 0 rs) r.code ≡ codes → AreRuns limit (lengths_from 0 rs) → is_last_code (lengths_from 0 rs) r.code ≡ false → r.code < limit
    → (end_from 0 after ≡ r.end) × (expanded (lengths_from 0 after) ≡ codes) × AreRuns limit (lengths_from 0 after) × ((d : ℕ) → is_last_code (lengths_from 0 after) d ≡ eqb r.code d)
write-run limit rs after r codes e begun is runs other below =
    let lengths : lengths_from 0 after ≡ lengths_from 0 rs ++ (r.code, r.end - end_from 0 rs) ∷ [] = ap (λ l. lengths_from 0 l) e ∙ lengths_from-push 0 rs r in (
      ap (λ l. end_from 0 l) e ∙ end_from-push 0 rs r,
      ap (λ l. expanded l) lengths ∙ expanded-push (lengths_from 0 rs) r.code (r.end - end_from 0 rs) ∙ is,
      subst (λ l. AreRuns limit l) (sym lengths) (AreRuns-push limit (lengths_from 0 rs) r.code (r.end - end_from 0 rs) runs other below (omega arith)),
      λ d. ap (λ l. is_last_code l d) lengths ∙ is_last_code-push (lengths_from 0 rs) r.code (r.end - end_from 0 rs) d,
    )

take-more : (codes : List ℕ) (i : ℕ) → i < length codes → take (i + 1) codes ≡ take i codes ++ get_or codes i 0 ∷ []
take-more codes i h = ap (λ (k : ℕ). take k codes) (add-one i) ∙ take-suc codes i 0 h

-- one more code of the current run
pub run-goes_on : (xs codes : List ℕ) (i at c : ℕ) → at < i → i < length codes → get_or codes i 0 ≡ c → xs ++ copies (i - at) c ≡ take i codes
    → xs ++ copies (i + 1 - at) c ≡ take (i + 1) codes
run-goes_on xs codes i at c begun h e is =
    let n : i + 1 - at ≡ i - at + 1 = omega arith in
    ap (λ (k : ℕ). xs ++ copies k c) n ∙ ap (λ (l : List ℕ). xs ++ l) (sym (copies-more (i - at) c)) ∙ sym (append_assoc xs (copies (i - at) c) (c ∷ []))
    ∙ ap (λ (l : List ℕ). l ++ c ∷ []) is ∙ ap (λ (d : ℕ). take i codes ++ d ∷ []) (sym e) ∙ sym (take-more codes i h)

-- the first code of the next run
pub run-begins : (xs codes : List ℕ) (i at : ℕ) → at ≡ i → i < length codes → xs ≡ take i codes → xs ++ copies (i + 1 - at) (get_or codes i 0) ≡ take (i + 1) codes
run-begins xs codes i at e h is =
    let n : i + 1 - at ≡ 1 = omega arith in
    ap (λ (k : ℕ). xs ++ copies k (get_or codes i 0)) n ∙ ap (λ (l : List ℕ). l ++ get_or codes i 0 ∷ []) is ∙ sym (take-more codes i h)

-- runs that are proper end one behind the other
pub Ascend-AreRuns : (limit at : ℕ) (rs : List Run) → AreRuns limit (lengths_from at rs) → Ascend at rs
Ascend-AreRuns limit at [] h = tt
Ascend-AreRuns limit at (r ∷ rs) h = (omega (arith, h.1), Ascend-AreRuns limit r.end rs h.3)

pub Ascend-at : (at : ℕ) (rs : List Run) (k : ℕ) (d : Run) → Ascend at rs → k < length rs → end_from at (take k rs) < (get_or rs k d).end
Ascend-at at [] k d h below = absurd (omega arith)
Ascend-at at (r ∷ rs) zero d h below = h.0
Ascend-at at (r ∷ rs) (suc k) d h below = Ascend-at r.end rs k d h.1 (omega arith)

take_run-more : (rs : List Run) (k : ℕ) (d : Run) → k < length rs → take (k + 1) rs ≡ take k rs ++ get_or rs k d ∷ []
take_run-more rs k d h = ap (λ (n : ℕ). take n rs) (add-one k) ∙ take-suc rs k d h

-- one more run
pub lengths_from-take : (at : ℕ) (rs : List Run) (k : ℕ) (d : Run) → k < length rs
    → lengths_from at (take (k + 1) rs) ≡ lengths_from at (take k rs) ++ ((get_or rs k d).code, (get_or rs k d).end - end_from at (take k rs)) ∷ []
lengths_from-take at rs k d h = ap (λ l. lengths_from at l) (take_run-more rs k d h) ∙ lengths_from-push at (take k rs) (get_or rs k d)

pub end_from-take : (at : ℕ) (rs : List Run) (k : ℕ) (d : Run) → k < length rs → end_from at (take (k + 1) rs) ≡ (get_or rs k d).end
end_from-take at rs k d h = ap (λ l. end_from at l) (take_run-more rs k d h) ∙ end_from-push at (take k rs) (get_or rs k d)

pub expanded-take : (at : ℕ) (rs : List Run) (k : ℕ) (d : Run) → k < length rs
    → expanded (lengths_from at (take (k + 1) rs)) ≡ expanded (lengths_from at (take k rs)) ++ copies ((get_or rs k d).end - end_from at (take k rs)) (get_or rs k d).code
expanded-take at rs k d h = ap (λ l. expanded l) (lengths_from-take at rs k d h) ∙ expanded-push (lengths_from at (take k rs)) (get_or rs k d).code ((get_or rs k d).end - end_from at (take k rs))

pub length-expanded_ascending : (at : ℕ) (rs : List Run) → Ascend at rs → at + length (expanded (lengths_from at rs)) ≡ end_from at rs
length-expanded_ascending at [] h = omega arith
length-expanded_ascending at (r ∷ rs) h =
    let rest = length-expanded_ascending r.end rs h.1 in
    omega (arith, h.0, rest, length-append (copies (r.end - at) r.code) (expanded (lengths_from r.end rs)), length-copies (r.end - at) r.code)

pub Ascend-take : (at : ℕ) (rs : List Run) (k : ℕ) → Ascend at rs → Ascend at (take k rs)
Ascend-take at rs zero h = tt
Ascend-take at [] (suc k) h = tt
Ascend-take at (r ∷ rs) (suc k) h = (h.0, Ascend-take r.end rs k h.1)

-- the code of a row of the run that holds it
pub get_or-expanded : (at : ℕ) (rs : List Run) (k i : ℕ) (d : Run) → Ascend at rs → k < length rs → end_from at (take k rs) ≤ at + i → at + i < (get_or rs k d).end
    → get_or (expanded (lengths_from at rs)) i 0 ≡ (get_or rs k d).code
get_or-expanded at [] k i d h below from to = absurd (omega arith)
get_or-expanded at (r ∷ rs) zero i d h below from to =
    get_or_append_left (copies (r.end - at) r.code) (expanded (lengths_from r.end rs)) 0 i (omega (arith, length-copies (r.end - at) r.code))
    ∙ get_or-copies (r.end - at) r.code i (omega arith)
get_or-expanded at (r ∷ rs) (suc k) i d h below from to =
    let low : r.end ≤ end_from r.end (take k rs) = end_from-le r.end (take k rs) (Ascend-take r.end rs k h.1) in
    let place : r.end + (i - (r.end - at)) ≡ at + i = omega (arith, low, from, h.0) in
    get_or-append_right (copies (r.end - at) r.code) (expanded (lengths_from r.end rs)) (r.end - at) i 0 (length-copies (r.end - at) r.code) (omega (arith, low, from, h.0))
    ∙ get_or-expanded r.end rs k (i - (r.end - at)) d h.1 (omega arith) (omega (arith, place, from)) (omega (arith, place, to))
  where
    end_from-le : (at : ℕ) (rs : List Run) → Ascend at rs → at ≤ end_from at rs
    end_from-le at [] h = omega arith
    end_from-le at (r ∷ rs) h = omega (arith, h.0, end_from-le r.end rs h.1)

-- the end of the run at a place
pub get_or-ends : (rs : List Run) (k : ℕ) (d : Run) → k < length rs → get_or (map (λ r. r.end) rs) k 0 ≡ (get_or rs k d).end
get_or-ends rs k d h = get_or-map (λ r. r.end) rs k d 0 h

pub end_from-before : (at : ℕ) (rs : List Run) (k : ℕ) (d : Run) → suc k < length rs → end_from at (take (suc k) rs) ≡ (get_or rs k d).end
end_from-before at rs k d h = ap (λ (n : ℕ). end_from at (take n rs)) (sym (add-one k)) ∙ end_from-take at rs k d (omega arith)

-- the last run's code
pub is_last_code-lengths : (at : ℕ) (rs : List Run) (r : Run) (c : ℕ) → Some r ≡ slice_get rs (length rs - 1) → eqb r.code c ≡ is_last_code (lengths_from at rs) c
is_last_code-lengths at [] r c e = cc
is_last_code-lengths at (s ∷ []) r c e = let same : r ≡ s = cc in ap (λ (t : Run). eqb t.code c) same
is_last_code-lengths at (s ∷ t ∷ rs) r c e =
    let long : length (s ∷ t ∷ rs) - 1 ≡ suc (length rs) = omega arith in
    let short : length (t ∷ rs) - 1 ≡ length rs = omega arith in
    is_last_code-lengths s.end (t ∷ rs) r c (e ∙ ap (λ (n : ℕ). slice_get (s ∷ t ∷ rs) n) long ∙ ap (λ (n : ℕ). slice_get (t ∷ rs) n) (sym short))

pub end_from-last : (at : ℕ) (rs : List Run) → 0 < length rs → end_from at rs ≡ get_or (map (λ r. r.end) rs) (length rs - 1) 0
end_from-last at [] h = absurd (omega arith)
end_from-last at (r ∷ []) h = refl
end_from-last at (r ∷ s ∷ rs) h =
    let long : length (r ∷ s ∷ rs) - 1 ≡ suc (length rs) = omega arith in
    let short : length (s ∷ rs) - 1 ≡ length rs = omega arith in
    end_from-last r.end (s ∷ rs) (omega arith) ∙ ap (λ (n : ℕ). get_or (map (λ t. t.end) (s ∷ rs)) n 0) short ∙ sym (ap (λ (n : ℕ). get_or (map (λ t. t.end) (r ∷ s ∷ rs)) n 0) long)

pub some-run : (rs : List Run) (i : ℕ) → i < end_from 0 rs → 0 < length rs
some-run [] i h = absurd (omega arith)
some-run (r ∷ rs) i h = omega arith

-- the code of a row by the ends around it
pub code-at : (rs : List Run) (k i : ℕ) (d : Run) → Ascend 0 rs → k < length rs → (0 < k → get_or (map (λ r. r.end) rs) (k - 1) 0 ≤ i) → i < get_or (map (λ r. r.end) rs) k 0
    → get_or (expanded (lengths_from 0 rs)) i 0 ≡ (get_or rs k d).code
code-at rs zero i d h within before holds = get_or-expanded 0 rs 0 i d h within (omega arith) (omega (arith, holds, get_or-ends rs 0 d within))
code-at rs (suc k) i d h within before holds =
    let one : suc k - 1 ≡ k = omega arith in
    let low : get_or (map (λ r. r.end) rs) k 0 ≤ i = subst (λ (n : ℕ). get_or (map (λ r. r.end) rs) n 0 ≤ i) one (before (omega arith)) in
    get_or-expanded 0 rs (suc k) i d h within (omega (arith, low, end_from-before 0 rs k d within, get_or-ends rs k d (omega arith))) (omega (arith, holds, get_or-ends rs (suc k) d within))

-- a list that was filled up with copies
pub resized : (xs ys : List ℕ) (count old n c : ℕ) → ys ≡ take count xs ++ replicate (count - old) c → old ≡ length xs → count ≡ length xs + n → ys ≡ xs ++ copies n c
resized xs ys count old n c e f g =
    let more : count - old ≡ n = omega arith in
    e ∙ ap (λ (l : List ℕ). l ++ replicate (count - old) c) (take_all count xs (omega arith)) ∙ ap (λ (k : ℕ). xs ++ replicate k c) more ∙ ap (λ (l : List ℕ). xs ++ l) (same n c)
  where
    same : (n c : ℕ) → replicate n c ≡ copies n c
    same zero c = refl
    same (suc n) c = ap (λ (l : List ℕ). c ∷ l) (same n c)

pub entries_of-append : (rs : List (ℕ × ℕ)) (c n : ℕ) → entries_of (rs ++ (c, n) ∷ []) ≡ entries_of rs ++ (word_bytes c ++ word_bytes n)
entries_of-append [] c n = append-nil (word_bytes c ++ word_bytes n)
entries_of-append (r ∷ rs) c n = ap (λ (l : List ℕ). (word_bytes r.0 ++ word_bytes r.1) ++ l) (entries_of-append rs c n) ∙ sym (append_assoc (word_bytes r.0 ++ word_bytes r.1) (entries_of rs) (word_bytes c ++ word_bytes n))

pub entries_of-take : (rs : List Run) (k : ℕ) (d : Run) → k < length rs
    → entries_of (lengths_from 0 (take (k + 1) rs)) ≡ entries_of (lengths_from 0 (take k rs)) ++ (word_bytes (get_or rs k d).code ++ word_bytes ((get_or rs k d).end - end_from 0 (take k rs)))
entries_of-take rs k d h = ap (λ l. entries_of l) (lengths_from-take 0 rs k d h) ∙ entries_of-append (lengths_from 0 (take k rs)) _ _

places_from-copies : (test : ℕ → Bool) (at n c : ℕ) → test c ≡ true → places_from test at (copies n c) ≡ range_with_len at n
places_from-copies test at zero c h = refl
places_from-copies test at (suc n) c h = rw h (ap (λ (l : List ℕ). at ∷ l) (places_from-copies test (at + 1) n c h))

no-places_from-copies : (test : ℕ → Bool) (at n c : ℕ) → test c ≡ false → places_from test at (copies n c) ≡ []
no-places_from-copies test at zero c h = refl
no-places_from-copies test at (suc n) c h = rw h (no-places_from-copies test (at + 1) n c h)

places-take : (test : ℕ → Bool) (rs : List Run) (k : ℕ) (d : Run) → Ascend 0 rs → k < length rs
    → places_from test 0 (expanded (lengths_from 0 (take (k + 1) rs)))
    ≡ places_from test 0 (expanded (lengths_from 0 (take k rs))) ++ places_from test (end_from 0 (take k rs)) (copies ((get_or rs k d).end - end_from 0 (take k rs)) (get_or rs k d).code)
places-take test rs k d h below =
    ap (λ l. places_from test 0 l) (expanded-take 0 rs k d below)
    ∙ places_from-both test 0 (expanded (lengths_from 0 (take k rs))) (copies ((get_or rs k d).end - end_from 0 (take k rs)) (get_or rs k d).code)
    ∙ ap (λ (n : ℕ). places_from test 0 (expanded (lengths_from 0 (take k rs))) ++ places_from test n (copies ((get_or rs k d).end - end_from 0 (take k rs)) (get_or rs k d).code)) (length-expanded_ascending 0 (take k rs) (Ascend-take 0 rs k h))

-- the places of one more run
pub places-hit : (test : ℕ → Bool) (rs : List Run) (k : ℕ) (d : Run) → Ascend 0 rs → k < length rs → test (get_or rs k d).code ≡ true
    → places_from test 0 (expanded (lengths_from 0 (take (k + 1) rs))) ≡ places_from test 0 (expanded (lengths_from 0 (take k rs))) ++ range_with_len (end_from 0 (take k rs)) ((get_or rs k d).end - end_from 0 (take k rs))
places-hit test rs k d h below hit = places-take test rs k d h below ∙ ap (λ (l : List ℕ). places_from test 0 (expanded (lengths_from 0 (take k rs))) ++ l) (places_from-copies test _ _ _ hit)

pub places-miss : (test : ℕ → Bool) (rs : List Run) (k : ℕ) (d : Run) → Ascend 0 rs → k < length rs → test (get_or rs k d).code ≡ false
    → places_from test 0 (expanded (lengths_from 0 (take (k + 1) rs))) ≡ places_from test 0 (expanded (lengths_from 0 (take k rs)))
places-miss test rs k d h below miss =
    places-take test rs k d h below ∙ ap (λ (l : List ℕ). places_from test 0 (expanded (lengths_from 0 (take k rs))) ++ l) (no-places_from-copies test _ _ _ miss) ∙ append-nil _

-- whether all codes of runs are below a limit
pub below-codes : (limit other at : ℕ) (rs : List Run) → AreRuns limit (lengths_from at rs)
    → (list_all (λ r. nat_lt r.code other) rs ≡ true → AllBelow other (expanded (lengths_from at rs))) × (AllBelow other (expanded (lengths_from at rs)) → list_all (λ r. nat_lt r.code other) rs ≡ true)
below-codes limit other at [] h = (λ _. tt, λ _. refl)
below-codes limit other at (r ∷ rs) h =
    let rest = below-codes limit other r.end rs h.3 in
    elim (cases_lt r.code other) [
      | inl small ↦
          let test : nat_lt r.code other ≡ true = lt-ltb r.code other small in (
            λ all. AllBelow-append other (copies (r.end - at) r.code) (expanded (lengths_from r.end rs)) (AllBelow-copies other (r.end - at) r.code small) (rest.0 (rw test at all)),
            λ all. rw test (rest.1 (AllBelow-behind other (copies (r.end - at) r.code) (expanded (lengths_from r.end rs)) all)),
          )
      | inr large ↦
          let test : nat_lt r.code other ≡ false = le-ltb r.code other large in (
            λ all. absurd (let no : false ≡ true = rw test at all in cc),
            λ all. absurd (omega (arith, large, first other (r.end - at) r.code (expanded (lengths_from r.end rs)) h.1 all)),
          )
    ]
  where
    AllBelow-behind : (n : ℕ) (xs ys : List ℕ) → AllBelow n (xs ++ ys) → AllBelow n ys
    AllBelow-behind n [] ys h = h
    AllBelow-behind n (x ∷ xs) ys h = AllBelow-behind n xs ys h.1

    first : (limit n c : ℕ) (ys : List ℕ) → 0 < n → AllBelow limit (copies n c ++ ys) → c < limit
    first limit zero c ys pos h = absurd (omega arith)
    first limit (suc n) c ys pos h = h.0

-- no run ends behind the last one
end-behind : (at : ℕ) (rs : List Run) → Ascend at rs → at ≤ end_from at rs
end-behind at [] h = omega arith
end-behind at (r ∷ rs) h = omega (arith, h.0, end-behind r.end rs h.1)

pub end-within : (at : ℕ) (rs : List Run) (k : ℕ) (d : Run) → Ascend at rs → k < length rs → (get_or rs k d).end ≤ end_from at rs
end-within at [] k d h within = absurd (omega (arith, within))
end-within at (r ∷ rs) zero d h within = end-behind r.end rs h.1
end-within at (r ∷ rs) (suc k) d h within = end-within r.end rs k d h.1 (omega (arith, within))
