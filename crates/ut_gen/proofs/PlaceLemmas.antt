-- Which line stands at which place of the script.
use Rattle.std.proofs.Common.{◌≡◌, ℕ, zero, suc, ◌+◌, ◌-◌, ◌*◌, ◌<◌, ◌≤◌, List, [], ◌∷◌, ◌++◌, length, map, Some, None, refl, sym, ◌∙◌, ap, append_assoc, arith, length-append}
use Rattle.std.specs.Prelude.{codes}
use Rattle.std.specs.List.{slice_get, range_with_len}
use Rattle.std.proofs.lemmas.List.FromFn.{length-map-range_with_len, get_or-map-range_with_len}
use Rattle.std.proofs.lemmas.Option.{slice_get-get_or, slice_get_past, slice_get_within}
use Rattle.ut_gen.specs.Draws.{advanced}
use Rattle.ut_gen.specs.Rows.{bulk_line, insert_line, update_line}
use Rattle.ut_gen.specs.Script.{opening, begins, ends, saves, moves, asks, bulks, inserts, updates, script}
use Rattle.ut_gen.specs.Lines.{drawn}

-- ---- lists behind lists

within : {X : Type 0} (xs ys : List X) (i : ℕ) (x : X) → slice_get xs i ≡ Some x → slice_get (xs ++ ys) i ≡ Some x
within [] ys i x e = cc
within (y ∷ xs) ys zero x e = e
within (y ∷ xs) ys (suc i) x e = within xs ys i x e

behind : {X : Type 0} (xs ys : List X) (j : ℕ) → slice_get (xs ++ ys) (length xs + j) ≡ slice_get ys j
behind [] ys j = let e : zero + j ≡ j = omega arith in ap (slice_get ys) e
behind (x ∷ xs) ys j =
    let e : length (x ∷ xs) + j ≡ suc (length xs + j) = omega arith
    in ap (slice_get ((x ∷ xs) ++ ys)) e ∙ behind xs ys j

past : {X : Type 0} (xs ys : List X) (n i j : ℕ) → length xs ≡ n → i ≡ n + j → slice_get (xs ++ ys) i ≡ slice_get ys j
past xs ys n i j l e = let f : i ≡ length xs + j = omega arith in ap (slice_get (xs ++ ys)) f ∙ behind xs ys j

counted : {X : Type 0} (f : ℕ → X) (n k : ℕ) → k < n → slice_get (map f (range_with_len 0 n)) k ≡ Some (f k)
counted f n k h =
    let l : k < length (map f (range_with_len 0 n)) = omega (arith, length-map-range_with_len f 0 n)
    in slice_get-get_or (map f (range_with_len 0 n)) k (f k) l
    ∙ ap Some (get_or-map-range_with_len f 0 n k k (f k) h (omega arith))

-- ---- the parts of the script

abbrev pub first_merge : List (List ℕ)
first_merge = begins (codes "classic") ++ ends ++ saves

abbrev pub partial : List (List ℕ)
partial = moves ++ begins (codes "partial")

abbrev pub closing : List (List ℕ)
closing = ends ++ moves ++ begins (codes "partial") ++ ends ++ saves ++ begins (codes "resort") ++ ends ++ asks

regrouped : {X : Type 0} (o b c e s i m j p u r a : List X) → o ++ b ++ c ++ e ++ s ++ i ++ m ++ j ++ m ++ p ++ u ++ e ++ m ++ p ++ e ++ s ++ r ++ e ++ a ≡ o ++ (b ++ ((c ++ e ++ s) ++ (i ++ (m ++ (j ++ ((m ++ p) ++ (u ++ (e ++ m ++ p ++ e ++ s ++ r ++ e ++ a))))))))
regrouped o b c e s i m j p u r a = simp append_assoc

-- ---- the script behind each part

abbrev from_updates : ℕ → ℕ → List (List ℕ)
from_updates seed size = updates seed (220 * size) (3 * size) ++ closing

abbrev from_partial : ℕ → ℕ → List (List ℕ)
from_partial seed size = partial ++ from_updates seed size

abbrev from_more : ℕ → ℕ → List (List ℕ)
from_more seed size = inserts seed (210 * size) (10 * size) ++ from_partial seed size

abbrev from_moved : ℕ → ℕ → List (List ℕ)
from_moved seed size = moves ++ from_more seed size

abbrev from_inserts : ℕ → ℕ → List (List ℕ)
from_inserts seed size = inserts seed (200 * size) (10 * size) ++ from_moved seed size

abbrev from_merge : ℕ → ℕ → List (List ℕ)
from_merge seed size = first_merge ++ from_inserts seed size

abbrev from_bulks : ℕ → ℕ → List (List ℕ)
from_bulks seed size = bulks seed size ++ from_merge seed size

whole : (seed size : ℕ) → script seed size ≡ opening ++ from_bulks seed size
unfolding script
whole seed size =
    regrouped opening (bulks seed size) (begins (codes "classic")) ends saves (inserts seed (200 * size) (10 * size)) moves (inserts seed (210 * size) (10 * size)) (begins (codes "partial")) (updates seed (220 * size) (3 * size)) (begins (codes "resort")) asks

at_bulks : (seed size i j : ℕ) → i ≡ 3 + j → slice_get (script seed size) i ≡ slice_get (from_bulks seed size) j
at_bulks seed size i j e = ap (λ l. slice_get l i) (whole seed size) ∙ past opening (from_bulks seed size) 3 i j refl e

at_merge : (seed size i j : ℕ) → i ≡ 3 + size + j → slice_get (script seed size) i ≡ slice_get (from_merge seed size) j
at_merge seed size i j e =
    at_bulks seed size i (size + j) (omega arith)
    ∙ past (bulks seed size) (from_merge seed size) size (size + j) j (length-map-range_with_len (λ k. bulk_line (advanced seed (6 * (200 * k))) (200 * k)) 0 size) refl

at_inserts : (seed size i j : ℕ) → i ≡ 9 + size + j → slice_get (script seed size) i ≡ slice_get (from_inserts seed size) j
at_inserts seed size i j e =
    at_merge seed size i (6 + j) (omega arith) ∙ past first_merge (from_inserts seed size) 6 (6 + j) j refl refl

inserted : (seed r n : ℕ) → length (inserts seed r n) ≡ n
inserted seed r n = length-map-range_with_len (λ k. insert_line (advanced seed (6 * (r + k))) (r + k)) 0 n

at_moved : (seed size i j : ℕ) → i ≡ 9 + 11 * size + j → slice_get (script seed size) i ≡ slice_get (from_moved seed size) j
at_moved seed size i j e = at_inserts seed size i (10 * size + j) (omega arith)
    ∙ past (inserts seed (200 * size) (10 * size)) (from_moved seed size) (10 * size) (10 * size + j) j (inserted seed (200 * size) (10 * size)) refl

at_more : (seed size i j : ℕ) → i ≡ 10 + 11 * size + j → slice_get (script seed size) i ≡ slice_get (from_more seed size) j
at_more seed size i j e = at_moved seed size i (1 + j) (omega arith) ∙ past moves (from_more seed size) 1 (1 + j) j refl refl

at_partial : (seed size i j : ℕ) → i ≡ 10 + 21 * size + j → slice_get (script seed size) i ≡ slice_get (from_partial seed size) j
at_partial seed size i j e =
    at_more seed size i (10 * size + j) (omega arith)
    ∙ past (inserts seed (210 * size) (10 * size)) (from_partial seed size) (10 * size) (10 * size + j) j (inserted seed (210 * size) (10 * size)) refl

at_updates : (seed size i j : ℕ) → i ≡ 12 + 21 * size + j → slice_get (script seed size) i ≡ slice_get (from_updates seed size) j
at_updates seed size i j e =
    at_partial seed size i (2 + j) (omega arith) ∙ past partial (from_updates seed size) 2 (2 + j) j refl refl

at_closing : (seed size i j : ℕ) → i ≡ 12 + 24 * size + j → slice_get (script seed size) i ≡ slice_get closing j
at_closing seed size i j e =
    at_updates seed size i (3 * size + j) (omega arith)
    ∙ past (updates seed (220 * size) (3 * size)) closing (3 * size) (3 * size + j) j (length-map-range_with_len (λ k. update_line (advanced seed (6 * (220 * size) + 2 * k)) (220 * size)) 0 (3 * size)) refl

-- ---- each line

pub opening-at : (seed size i : ℕ) (text : List ℕ) → slice_get opening i ≡ Some text → slice_get (script seed size) i ≡ Some text
opening-at seed size i text e =
    ap (λ l. slice_get l i) (whole seed size) ∙ within opening (from_bulks seed size) i text e

pub bulk-at : (seed size i j r : ℕ) → i ≡ 3 + j → j < size → r ≡ 200 * j → slice_get (script seed size) i ≡ Some (bulk_line (advanced seed (drawn size i)) r)
bulk-at seed size i j r e h q =
    let d : drawn size i ≡ 6 * (200 * j) = omega arith
    in at_bulks seed size i j e
    ∙ within (bulks seed size) (from_merge seed size) j _ (counted (λ k. bulk_line (advanced seed (6 * (200 * k))) (200 * k)) size j h)
    ∙ ap (λ n. Some (bulk_line (advanced seed n) (200 * j))) (sym d)
    ∙ ap (λ n. Some (bulk_line (advanced seed (drawn size i)) n)) (sym q)

pub first_merge-at : (seed size i j : ℕ) (text : List ℕ) → i ≡ 3 + size + j → slice_get first_merge j ≡ Some text → slice_get (script seed size) i ≡ Some text
first_merge-at seed size i j text e f = at_merge seed size i j e ∙ within first_merge (from_inserts seed size) j text f

insert-at : (seed r n j d s : ℕ) (rest : List (List ℕ)) → j < n → d ≡ 6 * (r + j) → s ≡ r + j → slice_get (inserts seed r n ++ rest) j ≡ Some (insert_line (advanced seed d) s)
insert-at seed r n j d s rest h e q =
    within (inserts seed r n) rest j _ (counted (λ k. insert_line (advanced seed (6 * (r + k))) (r + k)) n j h)
    ∙ ap (λ n. Some (insert_line (advanced seed n) (r + j))) (sym e)
    ∙ ap (λ n. Some (insert_line (advanced seed d) n)) (sym q)

pub first_insert-at : (seed size i j r : ℕ) → i ≡ 9 + size + j → j < 10 * size → r ≡ 200 * size + j → slice_get (script seed size) i ≡ Some (insert_line (advanced seed (drawn size i)) r)
first_insert-at seed size i j r e h q =
    at_inserts seed size i j e
    ∙ insert-at seed (200 * size) (10 * size) j (drawn size i) r (from_moved seed size) h (omega arith) q

pub move-at : (seed size i : ℕ) (text : List ℕ) → i ≡ 9 + 11 * size → moves ≡ text ∷ [] → slice_get (script seed size) i ≡ Some text
move-at seed size i text e f =
    at_moved seed size i 0 (omega arith) ∙ ap (λ l. slice_get (l ++ from_more seed size) 0) f

pub second_insert-at : (seed size i j r : ℕ) → i ≡ 10 + 11 * size + j → j < 10 * size → r ≡ 210 * size + j → slice_get (script seed size) i ≡ Some (insert_line (advanced seed (drawn size i)) r)
second_insert-at seed size i j r e h q =
    at_more seed size i j e
    ∙ insert-at seed (210 * size) (10 * size) j (drawn size i) r (from_partial seed size) h (omega arith) q

pub partial-at : (seed size i j : ℕ) (text : List ℕ) → i ≡ 10 + 21 * size + j → slice_get partial j ≡ Some text → slice_get (script seed size) i ≡ Some text
partial-at seed size i j text e f = at_partial seed size i j e ∙ within partial (from_updates seed size) j text f

pub update-at : (seed size i j r : ℕ) → i ≡ 12 + 21 * size + j → j < 3 * size → r ≡ 220 * size → slice_get (script seed size) i ≡ Some (update_line (advanced seed (drawn size i)) r)
update-at seed size i j r e h q =
    let d : drawn size i ≡ 6 * (220 * size) + 2 * j = omega arith
    in at_updates seed size i j e
    ∙ within (updates seed (220 * size) (3 * size)) closing j _ (counted (λ k. update_line (advanced seed (6 * (220 * size) + 2 * k)) (220 * size)) (3 * size) j h)
    ∙ ap (λ n. Some (update_line (advanced seed n) (220 * size))) (sym d)
    ∙ ap (λ n. Some (update_line (advanced seed (drawn size i)) n)) (sym q)

pub closing-at : (seed size i j : ℕ) (text : List ℕ) → i ≡ 12 + 24 * size + j → slice_get closing j ≡ Some text → slice_get (script seed size) i ≡ Some text
closing-at seed size i j text e f = at_closing seed size i j e ∙ f

pub none-at : (seed size i : ℕ) → 26 + 24 * size ≤ i → slice_get (script seed size) i ≡ None
none-at seed size i h =
    let e : i ≡ 12 + 24 * size + (i - (12 + 24 * size)) = omega arith
    in let l : length closing ≤ i - (12 + 24 * size) = omega arith
    in at_closing seed size i (i - (12 + 24 * size)) e ∙ slice_get_past closing (i - (12 + 24 * size)) l

-- the lines are 24 for each of the size, and 26
pub script-length : (seed size : ℕ) → length (script seed size) ≡ 24 * size + 26
script-length seed size =
    let b : length (bulks seed size) ≡ size =
    length-map-range_with_len (λ k. bulk_line (advanced seed (6 * (200 * k))) (200 * k)) 0 size
    in let u : length (updates seed (220 * size) (3 * size)) ≡ 3 * size =
    length-map-range_with_len (λ k. update_line (advanced seed (6 * (220 * size) + 2 * k)) (220 * size)) 0 (3 * size)
    in let i : length (inserts seed (200 * size) (10 * size)) ≡ 10 * size = inserted seed (200 * size) (10 * size)
    in let m : length (inserts seed (210 * size) (10 * size)) ≡ 10 * size = inserted seed (210 * size) (10 * size)
    in ap length (whole seed size) ∙ simp length-append (omega arith)

-- a place with a line is one of the lines
pub line-within : (seed size i : ℕ) (line : List ℕ) → slice_get (script seed size) i ≡ Some line → i < 24 * size + 26
line-within seed size i line e =
    omega (arith, slice_get_within (script seed size) i line e, script-length seed size)
