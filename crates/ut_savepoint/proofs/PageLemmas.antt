-- Bytes on pages: how many they take, and chains on pages one behind the other.
use Rattle.std.proofs.Common.{◌≡◌, ℕ, zero, suc, ◌+◌, ◌≤◌, List, [], ◌∷◌, ◌++◌, length, map, take, drop, refl, sym, ◌∙◌, ap, arith, append_assoc, length-append}
use Rattle.std.specs.List.{AllByRecursion}
use Rattle.std.proofs.lemmas.List.{length-take, length-drop, map-append, take-append-drop, drop-drop}
use Rattle.std.proofs.lemmas.List.Sums.{sum_by-cons}
use Rattle.ut_durable.specs.Bytes.{pages_for}
use Rattle.ut_durable.specs.Saving.{Planned}
use Rattle.ut_durable.specs.Plans.{Draft, IsDraft, Ascend, Fills, plan, planned_of, reached_of}
use Rattle.ut_savepoint.specs.Planning.{pages_of, drafts_of}

no_bytes : (bytes : List ℕ) → length bytes ≡ 0 → bytes ≡ []
no_bytes [] is = refl
no_bytes (b ∷ bytes) is = absurd (omega (arith, is))

-- as many pages as bytes take are filled
pub fills_pages : (pages bytes : List ℕ) → length pages ≡ pages_for (length bytes) → Fills pages bytes
fills_pages [] bytes is = no_bytes bytes (omega (arith, is))
fills_pages (n ∷ pages) bytes is = (omega (arith, is), fills_pages pages (drop 4090 bytes) (omega (arith, is, length-drop 4090 bytes)))

-- ---- ascending pages

pub ascend_take : (from : ℕ) (pages : List ℕ) (n : ℕ) → Ascend from pages → Ascend from (take n pages)
ascend_take from [] zero up = tt
ascend_take from [] (suc n) up = tt
ascend_take from (p ∷ pages) zero up = tt
ascend_take from (p ∷ pages) (suc n) up = (up.0, ascend_take (p + 1) pages n up.1)

ascend_weaker : (from more : ℕ) (pages : List ℕ) → more ≤ from → Ascend from pages → Ascend more pages
ascend_weaker from more [] le up = tt
ascend_weaker from more (p ∷ pages) le up = (omega (arith, le, up.0), up.1)

pub ascend_drop : (from : ℕ) (pages : List ℕ) (n : ℕ) → Ascend from pages → Ascend from (drop n pages)
ascend_drop from [] zero up = tt
ascend_drop from [] (suc n) up = tt
ascend_drop from (p ∷ pages) zero up = up
ascend_drop from (p ∷ pages) (suc n) up = ascend_weaker (p + 1) from (drop n pages) (omega (arith, up.0)) (ascend_drop (p + 1) pages n up.1)

-- ---- the chains of parts

pub drafts_are : (pages : List ℕ) (parts : List (List ℕ)) → pages_of parts ≤ length pages → Ascend 3 pages → AllByRecursion IsDraft (drafts_of pages parts)
drafts_are pages [] few up = tt
drafts_are pages (bytes ∷ parts) few up =
    let n : ℕ = pages_for (length bytes) in
    let all = sum_by-cons (λ (b : List ℕ). pages_for (length b)) bytes parts in (
      record { fills = fills_pages (take n pages) bytes (omega (arith, length-take n pages, few, all)); ascend = ascend_take 3 pages n up },
      drafts_are (drop n pages) parts (omega (arith, length-drop n pages, few, all)) (ascend_drop 3 pages n up),
    )

-- they stand on the first pages
pub drafts_reach : (pages : List ℕ) (parts : List (List ℕ)) → reached_of (drafts_of pages parts) ++ drop (pages_of parts) pages ≡ pages
drafts_reach pages [] = refl
drafts_reach pages (bytes ∷ parts) =
    let n : ℕ = pages_for (length bytes) in
    let all : pages_of (bytes ∷ parts) ≡ n + pages_of parts = sum_by-cons (λ (b : List ℕ). pages_for (length b)) bytes parts in
    let behind : drop (pages_of (bytes ∷ parts)) pages ≡ drop (pages_of parts) (drop n pages) = ap (λ (k : ℕ). drop k pages) all ∙ drop_twice n (pages_of parts) pages in
    append_assoc (take n pages) (reached_of (drafts_of (drop n pages) parts)) (drop (pages_of (bytes ∷ parts)) pages)
    ∙ ap (λ (l : List ℕ). take n pages ++ (reached_of (drafts_of (drop n pages) parts) ++ l)) behind
    ∙ ap (λ (l : List ℕ). take n pages ++ l) (drafts_reach (drop n pages) parts) ∙ take-append-drop n pages
  where
    drop_twice : (a b : ℕ) (xs : List ℕ) → drop (a + b) xs ≡ drop b (drop a xs)
    drop_twice a b xs = sym (drop-drop b a xs)

-- parts behind others stand on the pages behind theirs
pub drafts_both : (pages : List ℕ) (parts more : List (List ℕ)) → drafts_of pages (parts ++ more) ≡ drafts_of pages parts ++ drafts_of (drop (pages_of parts) pages) more
drafts_both pages [] more = refl
drafts_both pages (bytes ∷ parts) more =
    let n : ℕ = pages_for (length bytes) in
    let all : n + pages_of parts ≡ pages_of (bytes ∷ parts) = sym (sum_by-cons (λ (b : List ℕ). pages_for (length b)) bytes parts) in
    let behind : drop (pages_of parts) (drop n pages) ≡ drop (pages_of (bytes ∷ parts)) pages = drop-drop (pages_of parts) n pages ∙ ap (λ (k : ℕ). drop k pages) all in
    ap (λ (l : List Draft). record { pages = take n pages; bytes = bytes } ∷ l) (drafts_both (drop n pages) parts more ∙ ap (λ (l : List ℕ). drafts_of (drop n pages) parts ++ drafts_of l more) behind)

-- ---- how many pages are planned

pub plan_long : (pages bytes : List ℕ) → length (plan pages bytes) ≡ length pages
plan_long [] bytes = refl
plan_long (n ∷ pages) bytes = ap suc (plan_long pages (drop 4090 bytes))

pub planned_long : (cs : List Draft) → length (planned_of cs) ≡ length (reached_of cs)
planned_long [] = refl
planned_long (c ∷ cs) = omega (arith, planned_long cs, plan_long c.pages c.bytes, length-append (plan c.pages c.bytes) (planned_of cs), length-append c.pages (reached_of cs))

-- ---- and which

abbrev number : Planned → ℕ
number p = p.n

plan_numbers : (pages bytes : List ℕ) → map number (plan pages bytes) ≡ pages
plan_numbers [] bytes = refl
plan_numbers (n ∷ pages) bytes = ap (λ (l : List ℕ). n ∷ l) (plan_numbers pages (drop 4090 bytes))

planned_numbers : (cs : List Draft) → map number (planned_of cs) ≡ reached_of cs
planned_numbers [] = refl
planned_numbers (c ∷ cs) = map-append number (plan c.pages c.bytes) (planned_of cs) ∙ (λ i. plan_numbers c.pages c.bytes i ++ planned_numbers cs i)

-- those of the parts, and then those of the directory
pub all_numbers : (parts : List Draft) (own : Draft) → map number (planned_of parts ++ plan own.pages own.bytes) ≡ reached_of parts ++ own.pages
all_numbers parts own = map-append number (planned_of parts) (plan own.pages own.bytes) ∙ (λ i. planned_numbers parts i ++ plan_numbers own.pages own.bytes i)
