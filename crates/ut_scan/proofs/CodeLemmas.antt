-- The codes of a part's rows: the keys that they stand for among all keys of main.
use Rattle.std.proofs.Common.{◌≡◌, ℕ, zero, suc, ◌+◌, ◌-◌, ◌<◌, ◌≤◌, Bool, true, false, not, ◌&&◌, ◌||◌, List, [], ◌∷◌, ◌++◌, length, take, drop, get_or, All, refl, sym, ◌∙◌, ap, subst, arith}
use borrow.Author.Tests.{lt-ltb}
use Rattle.std.proofs.lemmas.List.{append_assoc, append-nil, length-append, length-map, get_or-map, get_or_append_left, take_at, take_all}
use Rattle.std.proofs.lemmas.List.Elements.{All-push, All-head, All-tail}
use Rattle.std.proofs.lemmas.List.Folds.{list_all-append, list_all_more}
use Rattle.std.proofs.lemmas.List.Sorted.{All-permutation, length_permutation, list_any-IsPermutation}
use Rattle.std.proofs.lemmas.List.Sums.{sum_by_more, sum_by-take-le}
use Rattle.std.specs.Arc.{arc_value}
use Rattle.std.specs.List.{list_all, list_any}
use Rattle.std.specs.declared.sync.Arc.{Arc}
use Rattle.std.specs.List.Sorted.{IsPermutation}
use Rattle.ut_key.specs.Keys.{meets}
use Rattle.ut_bits.specs.Places.{is_in}
use Rattle.ut_l2.specs.KeyRows.{cells_at, key_at, no_row}
use Rattle.ut_own.specs.Own.{own_dict, In}
use Rattle.ut_prefix.specs.Chain.{chain_steps, end_to_end}
use Rattle.ut_prefix.proofs.ChainLemmas.{end_to_end-push}
use Rattle.ut_main.specs.Columns.{Chain, chain_of, place_of}
use Rattle.ut_main.specs.Parts.{MainValue, PartValue, dicts_behind, first_parts, part_chain}
use Rattle.ut_main.proofs.KeyLemmas.{at-place, in-at}
use Rattle.ut_main.proofs.OwnLemmas.{cell-known}
use Rattle.ut_main.proofs.MainLemmas.{dicts-next, first-all, length-dicts_behind}
use Rattle.ut_scan.specs.declared.coded.CodedPred.{CodedPred}
use Rattle.ut_key.specs.declared.comparison.ColumnPred.{ColumnPred}
use Rattle.ut_scan.specs.Finds.{passes}
use Rattle.ut_scan.specs.Coded.{keys_in, IsCoded, AreCoded, code_at, is_held}
use Rattle.ut_scan.specs.StageRows.{scan_steps}

-- ---- the keys of all dictionaries

-- the keys of a column in the first parts, so many
abbrev pub keys_first : MainValue → ℕ → ℕ → List (List ℕ)
keys_first main j n = end_to_end (get_or (dicts_behind (first_parts n main)) j [])

-- they are the first of those in more parts
keys-more : (main : MainValue) (j n k : ℕ) → j < main.width → n + k ≤ length main.parts → (rest : List (List ℕ)) × (keys_first main j (n + k) ≡ keys_first main j n ++ rest)
keys-more main j n zero wide le = let e : n + 0 ≡ n = omega arith in ([], ap (keys_first main j) e ∙ sym (append-nil (keys_first main j n)))
keys-more main j n (suc k) wide le =
    let r = keys-more main j n k wide (omega (arith, le)) in
    let e : n + suc k ≡ n + k + 1 = omega arith in
    let chain = get_or (dicts_behind (first_parts (n + k) main)) j [] in
    let own = own_dict (end_to_end chain) (cells_at j (get_or main.parts (n + k) [])) in (
      r.0 ++ own,
      ap (keys_first main j) e
          ∙ ap (λ (c : Chain). end_to_end c) (dicts-next main (n + k) j (omega (arith, le)) wide)
          ∙ end_to_end-push chain own
          ∙ ap (λ (l : List (List ℕ)). l ++ own) r.1
          ∙ append_assoc (keys_first main j n) r.0 own,
    )

-- the keys of a column of a part
abbrev pub part_keys : PartValue → ℕ → List (List ℕ)
part_keys part j = end_to_end (chain_of (get_or part.before j []) (cells_at j part.rows))

-- part p of main
pub record IsPartOf (main : MainValue) (p : ℕ) (part : PartValue) : Type 0 where
  pub there : p < length main.parts
  pub rows : part.rows ≡ get_or main.parts p []
  pub before : part.before ≡ dicts_behind (first_parts p main)

-- a part that main shares
pub part-of : {Z : Type 0} (main : MainValue) (p : ℕ) (arc : Arc PartValue Z) (part : PartValue) → p < length main.parts → part ≡ arc_value arc → (arc_value arc).rows ≡ get_or main.parts p [] → (arc_value arc).before ≡ dicts_behind (first_parts p main)
    → IsPartOf main p part
part-of main p arc part there is rows before = record {
  there = there;
  rows = ap (λ (x : PartValue). x.rows) is ∙ rows;
  before = ap (λ (x : PartValue). x.before) is ∙ before;
}

-- a part's keys are the first of all keys of main
pub keys-first : (main : MainValue) (p : ℕ) (part : PartValue) (j : ℕ) → IsPartOf main p part → j < main.width → (rest : List (List ℕ)) × (keys_in main j ≡ part_keys part j ++ rest)
keys-first main p part j h wide =
    let k = length main.parts - (p + 1) in
    let all : p + 1 + (length main.parts - (p + 1)) ≡ length main.parts = omega (arith, h.there) in
    let r = keys-more main j (p + 1) k wide (omega (arith, all)) in
    let here : keys_first main j (p + 1) ≡ part_keys part j =
    ap (λ (c : Chain). end_to_end c) (dicts-next main p j h.there wide)
    ∙ sym (λ i. end_to_end (chain_of (get_or (h.before i) j []) (cells_at j (h.rows i)))) in (
      r.0,
      ap (λ (m : MainValue). keys_in m j) (sym (first-all main (length main.parts) (omega arith)))
          ∙ ap (keys_first main j) (sym all) ∙ r.1 ∙ ap (λ (l : List (List ℕ)). l ++ r.0) here,
    )

-- the dictionaries of the last part are those of main
pub last-chain : (main : MainValue) (p : ℕ) (part : PartValue) (j : ℕ) → IsPartOf main p part → p + 1 ≡ length main.parts → j < main.width → part_chain j part ≡ get_or (dicts_behind main) j []
last-chain main p part j h last wide =
    (λ i. chain_of (get_or (h.before i) j []) (cells_at j (h.rows i)))
    ∙ sym (dicts-next main p j h.there wide)
    ∙ ap (λ (m : MainValue). get_or (dicts_behind m) j []) (first-all main (p + 1) (omega (arith, last)))

-- a part has main's columns
pub part-width : (main : MainValue) (p : ℕ) (part : PartValue) → IsPartOf main p part → length part.before ≡ main.width
part-width main p part h = ap length h.before ∙ length-dicts_behind (first_parts p main)

-- ---- the code of a row

-- there is such a code, and it stands for the row's key
pub code-known : (part : PartValue) (j i : ℕ) → i < length part.rows → (code_at part i j < length (part_keys part j)) × (get_or (part_keys part j) (code_at part i j) [] ≡ key_at j (get_or part.rows i no_row))
code-known part j i lt =
    let before = get_or part.before j [] in
    let cells = cells_at j part.rows in
    let keys = part_keys part j in
    let within : i < length (cells_at j part.rows) = omega (arith, lt, length-map part.rows (key_at j)) in
    let known = cell-known (end_to_end before) cells (get_or cells i []) (in-at cells i within) in
    let at = at-place keys (get_or cells i []) (subst (λ (l : List (List ℕ)). In (get_or cells i []) l) (sym (end_to_end-push before (own_dict (end_to_end before) cells))) known) in
    let code : place_of keys (get_or cells i []) ≡ code_at part i j = sym (get_or-map (place_of keys) cells i [] 0 within) in
    let key : get_or cells i [] ≡ key_at j (get_or part.rows i no_row) = get_or-map (key_at j) part.rows i no_row [] lt in
    (subst (λ n. n < length keys) code at.0, ap (λ n. get_or keys n []) (sym code) ∙ at.1 ∙ key)

-- the same among all keys of main
pub code-main : (main : MainValue) (p : ℕ) (part : PartValue) (j i : ℕ) → IsPartOf main p part → j < main.width → i < length part.rows
    → (code_at part i j < length (keys_in main j)) × (get_or (keys_in main j) (code_at part i j) [] ≡ key_at j (get_or part.rows i no_row))
code-main main p part j i h wide lt =
    let r = keys-first main p part j h wide in
    let known = code-known part j i lt in
    let size = ap length r.1 in
    let both = length-append (part_keys part j) r.0 in (
      omega (arith, known.0, size, both),
      ap (λ (l : List (List ℕ)). get_or l (code_at part i j) []) r.1
          ∙ get_or_append_left (part_keys part j) r.0 [] (code_at part i j) known.0 ∙ known.1,
    )

-- ---- comparisons by codes

list_all-same : {X : Type 0} (t u : X → Bool) (xs : List X) → All (λ x. t x ≡ u x) xs → list_all t xs ≡ list_all u xs
list_all-same t u [] h = refl
list_all-same t u (x ∷ xs) h = (λ i. All-head (λ y. t y ≡ u y) x xs h i && list_all-same t u xs (All-tail (λ y. t y ≡ u y) x xs h) i)

-- a row of a part meets comparisons where its codes stand in their ranges
pub held-passes : (main : MainValue) (preds : List ColumnPred) (coded : List CodedPred) (p : ℕ) (part : PartValue) (i : ℕ) → AreCoded main preds coded → All (λ q. q.column < main.width) preds
    → IsPartOf main p part → i < length part.rows → is_held coded part i ≡ passes preds (get_or part.rows i no_row)
held-passes main preds coded p part i h columns at lt =
    h.exact (code_at part i) (λ j wide. (code-main main p part j i at wide lt).0)
    ∙ list_all-same (λ (q : ColumnPred). meets q.op q.key (get_or (keys_in main q.column) (code_at part i q.column) [])) (λ (q : ColumnPred). meets q.op q.key (key_at q.column (get_or part.rows i no_row))) preds
    (λ k d there. let q = get_or preds k d in ap (meets q.op q.key) (code-main main p part q.column i at (columns k d there) lt).1)

-- one comparison more
pub coded-more : (main : MainValue) (preds : List ColumnPred) (coded : List CodedPred) (n : ℕ) (pred : ColumnPred) (c : CodedPred) → AreCoded main (take n preds) coded → n < length preds → pred ≡ get_or preds n pred
    → pred.column < main.width → IsCoded (keys_in main pred.column) pred c → AreCoded main (take (n + 1) preds) (coded ++ c ∷ [])
coded-more main preds coded n pred c h lt at wide is = record {
  columns = All-push (λ (q : CodedPred). q.column < main.width) coded c h.columns (subst (λ m. m < main.width) (sym is.column) wide);
  exact = λ code there.
      let held = λ (q : CodedPred). is_in q.ranges.items (code q.column) in
      let met = λ (q : ColumnPred). meets q.op q.key (get_or (keys_in main q.column) (code q.column) []) in
      let one : held c ≡ met pred =
      ap (λ m. is_in c.ranges.items (code m)) is.column ∙ is.exact (code pred.column) ∙ ap (λ b. b && met pred) (lt-ltb (code pred.column) (length (keys_in main pred.column)) (there pred.column wide)) in
      list_all-append held coded (c ∷ [])
      ∙ (λ i. h.exact code there i && (one i && true))
      ∙ ap (λ b. list_all met (take n preds) && b) (and-true (met pred))
      ∙ ap (λ (q : ColumnPred). list_all met (take n preds) && met q) at
      ∙ sym (list_all_more met preds n pred lt);
}
  where
    and-true : (b : Bool) → (b && true) ≡ b
    and-true true = refl
    and-true false = refl

any-of : {X : Type 0} (t : X → Bool) (xs : List X) → list_all t xs ≡ not (list_any (λ x. not (t x)) xs)
any-of t [] = refl
any-of t (x ∷ xs) = by (t x) (any-of t xs)
  where
    by : (b : Bool) → list_all t xs ≡ not (list_any (λ y. not (t y)) xs) → (b && list_all t xs) ≡ not (not b || list_any (λ y. not (t y)) xs)
    by true e = e
    by false e = refl

-- their order doesn't matter
coded-permuted : (main : MainValue) (preds : List ColumnPred) (old new : List CodedPred) → IsPermutation old new → AreCoded main preds old → AreCoded main preds new
coded-permuted main preds old new same h = record {
  columns = All-permutation (λ (q : CodedPred). q.column < main.width) old new same h.columns;
  exact = λ code there.
      let held = λ (q : CodedPred). is_in q.ranges.items (code q.column) in
      any-of held new ∙ ap not (sym (list_any-IsPermutation (λ q. not (held q)) old new same)) ∙ sym (any-of held old) ∙ h.exact code there;
}

-- what a sort in place of a list leaves
pub coded-sorted : (main : MainValue) (preds : List ColumnPred) (n len : ℕ) (old slice new : List CodedPred) → AreCoded main (take n preds) old → length preds ≤ n → slice ≡ old → IsPermutation slice new → length old ≡ len
    → AreCoded main preds (take len (new ++ drop (length new) old))
coded-sorted main preds n len old slice new h le is same size =
    let count : length new ≡ len = length_permutation slice new same ∙ ap length is ∙ size in
    subst (AreCoded main preds) (sym (take_at new (drop (length new) old) len count))
    (coded-permuted main preds slice new same (subst (AreCoded main preds) (sym is) (subst (λ l. AreCoded main l old) (take_all n preds le) h)))

-- ---- steps

-- the steps of a comparison
abbrev cost_of : MainValue → ColumnPred → ℕ
cost_of main q = chain_steps (get_or (dicts_behind main) q.column [])

module _ (main : MainValue) (preds : List ColumnPred) (n : ℕ) (pred : ColumnPred) (old now new : ℕ) (lt : n < length preds) (at : pred ≡ get_or preds n pred)
    (so_far : now ≤ old + scan_steps main (take n preds)) (one : new ≤ now + chain_steps (get_or (dicts_behind main) pred.column [])) where
  -- one comparison more
  pub cost-more : new ≤ old + scan_steps main (take (n + 1) preds)
  cost-more =
      let more = sum_by_more (cost_of main) preds n pred lt in
      let this = ap (cost_of main) at in
      omega (arith, more, this, so_far, one)

  -- is within all of them
  pub cost-within : new ≤ old + scan_steps main preds
  cost-within = let all = sum_by-take-le (cost_of main) preds (n + 1) in omega (arith, cost-more, all)
