-- The codes of a column at old places.
use Rattle.std.proofs.Common.{◌≡◌, inl, inr, ℕ, ◌+◌, ◌-◌, ◌<◌, ◌≤◌, List, [], ◌∷◌, ◌++◌, length, map, take, get_or, All, sym, ◌∙◌, ap, subst, arith}
use Rattle.std.proofs.lemmas.Bool.{cases_lt}
use Rattle.std.proofs.lemmas.List.{get_or-map, get_or_append_left, get_or_at, length-map, length-append, map-append, take_more}
use Rattle.ut_bits.specs.Bits.{AllBelow}
use Rattle.ut_bits.proofs.BitLemmas.{AllBelow-at}
use Rattle.ut_own.specs.Own.{cells_of, own_dict}
use Rattle.ut_prefix.specs.Chain.{end_to_end}
use Rattle.ut_l2.specs.KeyRows.{KeyRow, cells_at, key_at, no_row}
use Rattle.ut_main.specs.Columns.{Chain, vector_of}
use Rattle.ut_main.specs.Parts.{MainValue, PartValue, dicts_behind, first_parts}
use Rattle.ut_main.proofs.MainLemmas.{length-dicts_behind}
use Rattle.ut_merge.specs.declared.old.Old.{Old}
use Rattle.ut_merge.specs.declared.old.Old.TheVariants.{Part, Closed}
use Rattle.ut_merge.specs.Jobs.{JobValue, row_of, stay_of, IsJob}
use Rattle.ut_merge.specs.Places.{IsOld}
use Rattle.ut_merge.specs.Columns.{chain_in, closed_keys, laid_keys, main_before, rebuilt_keys, staying_keys, AreCoded, ArePartCodes, AreSources}
use Rattle.ut_merge.proofs.LayoutLemmas.{closed-coded, keys-few, laid-parts}

-- ---- codes of cells

module _ (keys cells : List (List ℕ)) (codes : List ℕ) (h : AreCoded keys cells codes) where
  pub coded-size : length codes ≡ length cells
  coded-size = sym (length-map codes (λ c. get_or keys c [])) ∙ ap (λ (l : List (List ℕ)). length l) h.cells_are

  pub coded-below : (i : ℕ) → i < length cells → get_or codes i 0 < length keys
  coded-below i lt = AllBelow-at (length keys) codes i h.below (omega (arith, lt, coded-size))

  pub coded-key : (i : ℕ) → i < length cells → get_or keys (get_or codes i 0) [] ≡ get_or cells i []
  coded-key i lt = sym (get_or-map (λ c. get_or keys c []) codes i 0 [] (omega (arith, lt, coded-size))) ∙ ap (λ (l : List (List ℕ)). get_or l i []) h.cells_are

AllBelow-push : (n c : ℕ) (codes : List ℕ) → AllBelow n codes → c < n → AllBelow n (codes ++ c ∷ [])
AllBelow-push n c [] low lt = (lt, tt)
AllBelow-push n c (d ∷ codes) low lt = (low.0, AllBelow-push n c codes low.1 lt)

-- one code more
pub coded-push : (keys cells : List (List ℕ)) (codes : List ℕ) (c : ℕ) (cell : List ℕ) → AreCoded keys cells codes → c < length keys → get_or keys c [] ≡ cell → AreCoded keys (cells ++ cell ∷ []) (codes ++ c ∷ [])
coded-push keys cells codes c cell h lt at = record {
  below = AllBelow-push (length keys) c codes h.below lt;
  cells_are = map-append (λ x. get_or keys x []) codes (c ∷ []) ∙ (λ i. h.cells_are i ++ at i ∷ []);
}

pub gather-more : (job : JobValue) (column : ℕ) (olds : List Old) (i : ℕ) (codes new : List ℕ) (old : Old) (code : ℕ) → i < length olds → old ≡ get_or olds i old → AreCoded (laid_keys job column) (cells_at column (map (row_of job) (take i olds))) codes
    → code < length (laid_keys job column) → get_or (laid_keys job column) code [] ≡ key_at column (row_of job old) → new ≡ codes ++ code ∷ []
    → AreCoded (laid_keys job column) (cells_at column (map (row_of job) (take (i + 1) olds))) new
gather-more job column olds i codes new old code lt at h low key e =
    let one : cells_at column (map (row_of job) (take (i + 1) olds)) ≡ cells_at column (map (row_of job) (take i olds)) ++ key_at column (row_of job old) ∷ [] =
    ap (λ (l : List Old). cells_at column (map (row_of job) l)) (take_more olds i old lt ∙ ap (λ (o : Old). take i olds ++ o ∷ []) (sym at))
    ∙ ap (λ (l : List KeyRow). cells_at column l) (map-append (row_of job) (take i olds) (old ∷ []))
    ∙ map-append (key_at column) (map (row_of job) (take i olds)) (row_of job old ∷ []) in
    subst (λ (cells : List (List ℕ)). AreCoded (laid_keys job column) cells new) (sym one)
    (subst (λ (l : List ℕ). AreCoded (laid_keys job column) (cells_at column (map (row_of job) (take i olds)) ++ key_at column (row_of job old) ∷ []) l) (sym e)
    (coded-push (laid_keys job column) (cells_at column (map (row_of job) (take i olds))) codes code (key_at column (row_of job old)) h low key))

-- ---- the code at an old place

-- a code within the lists that stands for the key of a row
pub record IsCodeAt (job : JobValue) (column : ℕ) (codes : List ℕ) (i shift : ℕ) (row : KeyRow) : Type 0 where
  pub within : i < length codes
  pub low : shift + get_or codes i 0 < length (laid_keys job column)
  pub key : get_or (laid_keys job column) (shift + get_or codes i 0) [] ≡ key_at column row

module _ (job : JobValue) (column stay : ℕ) (parts : List (List ℕ)) (closed : List ℕ) (first : ℕ) (h : AreSources job column stay parts closed first) where
  pub part-within : (p i : ℕ) → IsOld job (Part p i) → p - stay < length parts
  part-within p i is = let count = h.parts_coded.count in let stays = h.stays in omega (arith, count, stays, is.0, is.1)

  pub part-code : (p i : ℕ) → IsOld job (Part p i) → IsCodeAt job column (get_or parts (p - stay) []) i 0 (row_of job (Part p i))
  part-code p i is =
      let rows = get_or job.parts p [] in
      let list = get_or parts (p - stay_of job) [] in
      let coded = h.parts_coded.coded p is.0 is.1 in
      let same : get_or parts (p - stay_of job) [] ≡ get_or parts (p - stay) [] = ap (λ n. get_or parts (p - n) []) (sym h.stays) in
      let size = length-map rows (key_at column) in
      let lt : i < length (cells_at column (get_or job.parts p [])) = omega (arith, size, is.2) in
      let long = coded-size (laid_keys job column) (cells_at column rows) list coded in
      let zero_more : get_or (get_or parts (p - stay_of job) []) i 0 ≡ 0 + get_or (get_or parts (p - stay_of job) []) i 0 = omega arith in
      subst (λ (l : List ℕ). IsCodeAt job column l i 0 (row_of job (Part p i))) same record {
        within = omega (arith, lt, long);
        low = subst (λ n. n < length (laid_keys job column)) zero_more (coded-below (laid_keys job column) (cells_at column rows) list coded i lt);
        key = ap (λ n. get_or (laid_keys job column) n []) (sym zero_more) ∙ coded-key (laid_keys job column) (cells_at column rows) list coded i lt ∙ get_or-map (key_at column) rows i no_row [] is.2;
      }

  pub close-code : (i : ℕ) → i < length job.closed → IsCodeAt job column closed i first (row_of job (Closed i))
  close-code i is =
      let list = map (λ code. first + code) closed in
      let size = length-map job.closed (key_at column) in
      let lt : i < length (cells_at column job.closed) = omega (arith, size, is) in
      let long = coded-size (laid_keys job column) (cells_at column job.closed) list h.closed_coded in
      let short = length-map closed (λ code. first + code) in
      let inside : i < length closed = omega (arith, lt, long, short) in
      let at : get_or (map (λ code. first + code) closed) i 0 ≡ first + get_or closed i 0 = get_or-map (λ code. first + code) closed i 0 0 inside in
      record {
        within = inside;
        low = subst (λ n. n < length (laid_keys job column)) at (coded-below (laid_keys job column) (cells_at column job.closed) list h.closed_coded i lt);
        key = ap (λ n. get_or (laid_keys job column) n []) (sym at) ∙ coded-key (laid_keys job column) (cells_at column job.closed) list h.closed_coded i lt ∙ get_or-map (key_at column) job.closed i no_row [] is;
      }

-- the codes of all lists
pub sources-are : (job : JobValue) (column stay : ℕ) (parts : List (List ℕ)) (closed : List ℕ) (first : ℕ) → column < job.width → stay_of job ≤ length job.parts → IsJob job → stay ≡ stay_of job → ArePartCodes job column (length job.parts) parts
    → first ≡ length (end_to_end (get_or (dicts_behind (main_before job)) column [])) → All (λ c. c < length (closed_keys job column)) closed → cells_of (closed_keys job column) closed ≡ cells_at column job.closed → AreSources job column stay parts closed first
sources-are job column stay parts closed first wide stays is e coded at low same = record {
  stays = e;
  parts_coded = coded;
  closed_coded = closed-coded job column wide first closed at low same;
  few =
      let few = keys-few job column wide stays is in
      let laid = ap (λ (l : List (List ℕ)). length l) (laid-parts job column wide stays) in
      let both = length-append (staying_keys job column) (rebuilt_keys job column (length job.parts) ++ closed_keys job column) in
      let more = length-append (rebuilt_keys job column (length job.parts)) (closed_keys job column) in
      omega (arith, few, laid, both, more);
}

-- ---- a part of main

module _ (job : JobValue) (column p : ℕ) (main : MainValue) (part : PartValue) (e : main ≡ main_before job) (before : part.before ≡ dicts_behind (first_parts p main)) (rows : part.rows ≡ get_or main.parts p []) where
  pub part-wide : length part.before ≡ job.width
  part-wide = ap (λ (l : List Chain). length l) before ∙ length-dicts_behind (first_parts p main) ∙ ap (λ (m : MainValue). m.width) e

  pub part-rows-are : part.rows ≡ get_or job.parts p []
  part-rows-are = rows ∙ ap (λ (m : MainValue). get_or m.parts p []) e

  part-chain : get_or part.before column [] ≡ chain_in job column p
  part-chain = ap (λ (l : List Chain). get_or l column []) (before ∙ ap (λ (m : MainValue). dicts_behind (first_parts p m)) e)

  pub part-vector : vector_of (get_or part.before column []) (cells_at column part.rows) ≡ vector_of (chain_in job column p) (cells_at column (get_or job.parts p []))
  part-vector = λ i. vector_of (part-chain i) (cells_at column (part-rows-are i))

  pub part-dict : own_dict (end_to_end (get_or part.before column [])) (cells_at column part.rows) ≡ own_dict (end_to_end (chain_in job column p)) (cells_at column (get_or job.parts p []))
  part-dict = λ i. own_dict (end_to_end (part-chain i)) (cells_at column (part-rows-are i))

-- ---- one part more

pub part-codes-more : (job : JobValue) (column n : ℕ) (parts new : List (List ℕ)) (codes : List ℕ) → stay_of job ≤ n → ArePartCodes job column n parts → AreCoded (laid_keys job column) (cells_at column (get_or job.parts n [])) codes → new ≡ parts ++ codes ∷ []
    → ArePartCodes job column (n + 1) new
part-codes-more job column n parts new codes le h coded e = record {
  count = let count = h.count in omega (arith, ap (λ (l : List (List ℕ)). length l) e, length-append parts (codes ∷ []), count, le);
  coded = λ p from lt. elim (cases_lt p n) [
    | inl before ↦
        let count = h.count in
        subst (λ (l : List ℕ). AreCoded (laid_keys job column) (cells_at column (get_or job.parts p [])) l)
        (sym (ap (λ (l : List (List ℕ)). get_or l (p - stay_of job) []) e ∙ get_or_append_left parts (codes ∷ []) [] (p - stay_of job) (omega (arith, count, before, from)))) (h.coded p from before)
    | inr here ↦
        let count = h.count in
        let same : n ≡ p = omega (arith, here, lt) in
        let at : length parts ≡ p - stay_of job = omega (arith, count, same) in
        subst (λ (l : List ℕ). AreCoded (laid_keys job column) (cells_at column (get_or job.parts p [])) l)
        (sym (ap (λ (l : List (List ℕ)). get_or l (p - stay_of job) []) e ∙ get_or_at parts codes [] [] (p - stay_of job) at))
        (subst (λ m. AreCoded (laid_keys job column) (cells_at column (get_or job.parts m [])) codes) same coded)
  ];
}
