-- The dictionaries behind main's parts.
use Rattle.std.proofs.Common.{◌≡◌, ℕ, zero, suc, ◌+◌, ◌-◌, ◌<◌, ◌≤◌, ◌^◌, List, [], ◌∷◌, ◌++◌, length, map, take, get_or, replicate, refl, sym, ◌∙◌, ap, subst, arith}
use Rattle.std.proofs.lemmas.List.{length-append, length-map, get_or-map, get_or-replicate, length-replicate, length-take-le, get_or-take, take_all, take-take, take-map}
use Rattle.std.proofs.Math.Seq.{take-append_seam}
use Rattle.std.proofs.lemmas.List.Sums.{sum_by_more, sum_by_more_le, sum_by-take-le}
use Rattle.std.specs.Arc.{arc_value}
use Rattle.std.specs.List.{sum_by}
use Rattle.std.specs.declared.sync.Arc.{Arc}
use Rattle.ut_codes.specs.Reached.{Reached}
use Rattle.ut_l2.specs.KeyRows.{KeyRow, cells_at, key_at}
use Rattle.ut_own.specs.Own.{own_dict, cells_of}
use Rattle.ut_prefix.specs.Chain.{end_to_end}
use Rattle.ut_prefix.proofs.ChainLemmas.{end_to_end-push}
use Rattle.ut_main.specs.Columns.{Chain, chain_of, earlier, AreDistinct, StandsBehind, IsColumn}
use Rattle.ut_main.specs.Parts.{PartValue, MainValue, IsMain, main_value, with_own, dicts_of, dicts_behind, first_parts, rows_in, no_part, part_chain, shared_parts}
use Rattle.ut_main.proofs.KeyLemmas.{distinct-append, distinct-ascending}
use Rattle.ut_main.proofs.OwnLemmas.{own-apart, own-ascending, own-length}

-- ---- the dictionaries of all columns

pub length-with_own : (j : ℕ) (dicts : List Chain) (rows : List KeyRow) → length (with_own j dicts rows) ≡ length dicts
length-with_own j [] rows = refl
length-with_own j (chain ∷ dicts) rows = ap suc (length-with_own (suc j) dicts rows)

length-dicts_of : (dicts : List Chain) (parts : List (List KeyRow)) → length (dicts_of dicts parts) ≡ length dicts
length-dicts_of dicts [] = refl
length-dicts_of dicts (rows ∷ parts) = length-dicts_of (with_own 0 dicts rows) parts ∙ length-with_own 0 dicts rows

pub length-dicts_behind : (main : MainValue) → length (dicts_behind main) ≡ main.width
length-dicts_behind main = length-dicts_of (replicate main.width []) main.parts ∙ length-replicate main.width []

pub get-with_own : (k j : ℕ) (dicts : List Chain) (rows : List KeyRow) → j < length dicts → get_or (with_own k dicts rows) j [] ≡ chain_of (get_or dicts j []) (cells_at (j + k) rows)
get-with_own k j [] rows lt = absurd (omega (arith, lt))
get-with_own k zero (chain ∷ dicts) rows lt = let e : k ≡ 0 + k = omega arith in ap (λ n. chain_of chain (cells_at n rows)) e
get-with_own k (suc j) (chain ∷ dicts) rows lt =
    let e : j + suc k ≡ suc j + k = omega arith in
    get-with_own (suc k) j dicts rows (omega (arith, lt)) ∙ ap (λ n. chain_of (get_or dicts j []) (cells_at n rows)) e

dicts_of-more : (dicts : List Chain) (parts : List (List KeyRow)) (p : ℕ) → p < length parts → dicts_of dicts (take (suc p) parts) ≡ with_own 0 (dicts_of dicts (take p parts)) (get_or parts p [])
dicts_of-more dicts [] p lt = absurd (omega (arith, lt))
dicts_of-more dicts (rows ∷ parts) zero lt = refl
dicts_of-more dicts (rows ∷ parts) (suc p) lt = dicts_of-more (with_own 0 dicts rows) parts p (omega (arith, lt))

-- a column's dictionaries with one part more
pub dicts-next : (main : MainValue) (p j : ℕ) → p < length main.parts → j < main.width
    → get_or (dicts_behind (first_parts (p + 1) main)) j [] ≡ chain_of (get_or (dicts_behind (first_parts p main)) j []) (cells_at j (get_or main.parts p []))
dicts-next main p j lt wide =
    let one : p + 1 ≡ suc p = omega arith in
    let zero_more : j + 0 ≡ j = omega arith in
    let size = length-dicts_behind (first_parts p main) in
    ap (λ n. get_or (dicts_behind (first_parts n main)) j []) one
    ∙ ap (λ (l : List Chain). get_or l j []) (dicts_of-more (replicate main.width []) main.parts p lt)
    ∙ get-with_own 0 j (dicts_behind (first_parts p main)) (get_or main.parts p []) (omega (arith, wide, size))
    ∙ ap (λ n. chain_of (get_or (dicts_behind (first_parts p main)) j []) (cells_at n (get_or main.parts p []))) zero_more

-- ---- a part of main

module _ (width : ℕ) (parts : List PartValue) (h : IsMain width parts) (main : MainValue) (view : main_value width parts ≡ main) (p : ℕ) (lt : p < length main.parts) (part : PartValue) (at : part ≡ get_or parts p no_part) where
  within : p < length parts
  within = omega (arith, lt, ap (λ (m : MainValue). length m.parts) view, length-map parts (λ (x : PartValue). x.rows))

  pub main-rows : part.rows ≡ get_or main.parts p []
  main-rows = ap (λ (x : PartValue). x.rows) at ∙ sym (get_or-map (λ (x : PartValue). x.rows) parts p no_part [] within) ∙ ap (λ (m : MainValue). get_or m.parts p []) view

  pub main-before : part.before ≡ dicts_behind (first_parts p main)
  main-before = ap (λ (x : PartValue). x.before) at ∙ h.behind p within ∙ ap (λ (m : MainValue). dicts_behind (first_parts p m)) view

  pub main-wide : length part.before ≡ main.width
  main-wide = ap length main-before ∙ length-dicts_behind (first_parts p main)

  pub main-chain : (j : ℕ) → j < main.width → part_chain j part ≡ get_or (dicts_behind (first_parts (p + 1) main)) j []
  main-chain j wide = (λ i. chain_of (get_or (main-before i) j []) (cells_at j (main-rows i))) ∙ sym (dicts-next main p j lt wide)

  -- the part's own dictionary, told by the chain that it stands behind
  pub main-own : (j : ℕ) (chain : Chain) → chain ≡ get_or (dicts_behind (first_parts p main)) j []
      → own_dict (end_to_end (get_or part.before j [])) (cells_at j part.rows) ≡ own_dict (end_to_end chain) (cells_at j (get_or main.parts p []))
  main-own j chain e =
      (λ i. own_dict (end_to_end (get_or (main-before i) j [])) (cells_at j (main-rows i)))
      ∙ ap (λ (c : Chain). own_dict (end_to_end c) (cells_at j (get_or main.parts p []))) (sym e)

-- ---- the dictionaries of one column

-- the dictionaries of a column in the first parts, so many
pub record AreDicts (main : MainValue) (j n : ℕ) (chain : Chain) : Type 0 where
  pub is : chain ≡ get_or (dicts_behind (first_parts n main)) j []
  pub distinct : AreDistinct (end_to_end chain)
  pub few : length (end_to_end chain) ≤ rows_in (first_parts n main)

pub dicts-none : (main : MainValue) (j : ℕ) (chain : Chain) → j < main.width → chain ≡ [] → AreDicts main j 0 chain
dicts-none main j chain wide none = record {
  is = none ∙ sym (get_or-replicate main.width j [] [] wide);
  distinct = subst (λ (c : Chain). AreDistinct (end_to_end c)) (sym none) (λ a b lt within. absurd (omega (arith, within)));
  few = omega (arith, ap (λ (c : Chain). length (end_to_end c)) none);
}

length-cells : (j : ℕ) (rows : List KeyRow) → length (cells_at j rows) ≡ length rows
length-cells j rows = length-map rows (key_at j)

-- keys behind a chain, with the own dictionary of cells behind it
pub distinct-own : (chain : Chain) (cells : List (List ℕ)) → AreDistinct (end_to_end chain) → AreDistinct (end_to_end (chain_of chain cells))
distinct-own chain cells h =
    subst AreDistinct (sym (end_to_end-push chain (own_dict (end_to_end chain) cells)))
    (distinct-append (end_to_end chain) (own_dict (end_to_end chain) cells) h (distinct-ascending (own_dict (end_to_end chain) cells) (own-ascending (end_to_end chain) cells)) (own-apart (end_to_end chain) cells))

pub length-chain_of : (chain : Chain) (cells : List (List ℕ)) → length (end_to_end (chain_of chain cells)) ≤ length (end_to_end chain) + length cells
length-chain_of chain cells =
    let size = ap length (end_to_end-push chain (own_dict (end_to_end chain) cells)) in
    let both = length-append (end_to_end chain) (own_dict (end_to_end chain) cells) in
    let few = own-length (end_to_end chain) cells in
    omega (arith, size, both, few)

module _ (main : MainValue) (j n : ℕ) (chain : Chain) (wide : j < main.width) (lt : n < length main.parts) (h : AreDicts main j n chain) where
  more-rows : rows_in (first_parts (n + 1) main) ≡ rows_in (first_parts n main) + length (get_or main.parts n [])
  more-rows = sum_by_more length main.parts n [] lt

  pub dicts-few : rows_in main ≤ 2147483647 → length (end_to_end chain) + length (own_dict (end_to_end chain) (cells_at j (get_or main.parts n []))) < 2 ^ 31
  dicts-few all =
      let sum = sum_by_more_le length main.parts n [] lt in
      let own = own-length (end_to_end chain) (cells_at j (get_or main.parts n [])) in
      let size = length-cells j (get_or main.parts n []) in
      let few = h.few in
      let top : 2 ^ 31 ≡ 2147483648 = refl in
      omega (arith, sum, own, size, few, all, top)

  pub dicts-more : (new : Chain) → new ≡ chain_of chain (cells_at j (get_or main.parts n [])) → AreDicts main j (n + 1) new
  dicts-more new e = record {
    is = e ∙ ap (λ (c : Chain). chain_of c (cells_at j (get_or main.parts n []))) h.is ∙ sym (dicts-next main n j lt wide);
    distinct = subst (λ (c : Chain). AreDistinct (end_to_end c)) (sym e) (distinct-own chain (cells_at j (get_or main.parts n [])) h.distinct);
    few =
        let size = ap (λ (c : Chain). length (end_to_end c)) e in
        let sum = length-chain_of chain (cells_at j (get_or main.parts n [])) in
        let rows = length-cells j (get_or main.parts n []) in
        let few = h.few in
        omega (arith, size, sum, rows, few, more-rows);
  }

pub first-all : (main : MainValue) (n : ℕ) → length main.parts ≤ n → first_parts n main ≡ main
first-all main n le = λ i. record { width = main.width; parts = take_all n main.parts le i }

-- ---- a new column

earlier-push : (chain : Chain) (dict : List (List ℕ)) → earlier (chain ++ dict ∷ []) ≡ chain
earlier-push chain dict =
    let size : length (chain ++ dict ∷ []) - 1 ≡ length chain = omega (arith, length-append chain (dict ∷ [])) in
    ap (λ n. take n (chain ++ dict ∷ [])) size ∙ take-append_seam chain (dict ∷ [])

pub column-made : (before : Chain) (dict : List (List ℕ)) (v : Reached) (new : Chain) → AreDistinct (end_to_end before) → StandsBehind before dict v → new ≡ before ++ dict ∷ [] → (earlier new ≡ before) × IsColumn dict new v
column-made before dict v new distinct h e =
    let front : earlier new ≡ before = ap earlier e ∙ earlier-push before dict in (
      front,
      record {
        last = e ∙ ap (λ (c : Chain). c ++ dict ∷ []) (sym front);
        distinct =
            subst (λ (c : Chain). AreDistinct (end_to_end c)) (sym (e ∙ ap (λ (d : List (List ℕ)). before ++ d ∷ []) h.own))
            (distinct-own before (cells_of (end_to_end (before ++ dict ∷ [])) v.codes) distinct);
        behind = subst (λ (c : Chain). StandsBehind c dict v) (sym front) h;
      },
    )

-- ---- shared parts

pub shared-at : {Z : Type 0} (arcs : List (Arc PartValue Z)) (i : ℕ) (item : Arc PartValue Z) (part : PartValue) → i < length arcs → item ≡ get_or arcs i item → part ≡ arc_value item → part ≡ get_or (shared_parts arcs) i no_part
shared-at arcs i item part lt at is = is ∙ ap (λ a. arc_value a) at ∙ sym (get_or-map (λ a. arc_value a) arcs i item no_part lt)

pub length-shared : {Z : Type 0} (arcs : List (Arc PartValue Z)) (width : ℕ) (main : MainValue) → main_value width (shared_parts arcs) ≡ main → length main.parts ≡ length arcs
length-shared arcs width main view = sym (ap (λ (m : MainValue). length m.parts) view) ∙ length-map (shared_parts arcs) (λ (x : PartValue). x.rows) ∙ length-map arcs (λ a. arc_value a)

-- a part of main stands at a place among the parts
pub record IsPart (main : MainValue) (parts : List PartValue) (n : ℕ) (part : PartValue) : Type 0 where
  pub within : n < length main.parts
  pub at : part ≡ get_or parts n no_part

-- the part that a walk over shared parts has come to
pub part-met : {Z : Type 0} (arcs slice : List (Arc PartValue Z)) (width n : ℕ) (main : MainValue) (item : Arc PartValue Z) (part : PartValue) → slice ≡ arcs → main_value width (shared_parts arcs) ≡ main → n < length slice
    → item ≡ get_or slice n item → part ≡ arc_value item → IsPart main (shared_parts arcs) n part
part-met arcs slice width n main item part same view lt stands is =
    let within : n < length arcs = omega (arith, lt, ap length same) in
    record {
      within = omega (arith, within, length-shared arcs width main view);
      at = shared-at arcs n item part within (stands ∙ ap (λ l. get_or l n item) same) is;
    }

-- the first of shared parts, copied one by one
pub first-copied : {Z : Type 0} (arcs slice : List (Arc PartValue Z)) (n i : ℕ) (new : List PartValue) → slice ≡ arcs → new ≡ take i (shared_parts (take n slice)) → length (take n slice) ≤ i → new ≡ take n (shared_parts arcs)
first-copied arcs slice n i new same e le =
    e ∙ take_all i (shared_parts (take n slice)) (omega (arith, le, length-map (take n slice) (λ a. arc_value a))) ∙ sym (take-map (λ a. arc_value a) n slice) ∙ ap (λ l. take n (shared_parts l)) same

-- the first parts of main are main
pub main-first : (width : ℕ) (parts new : List PartValue) (n : ℕ) → IsMain width parts → n ≤ length parts → new ≡ take n parts → IsMain width new
main-first width parts new n h le e = subst (IsMain width) (sym e) (record {
  few = let few = h.few in omega (arith, few, length-take-le n parts le);
  rows =
      let all = h.rows in
      let some = sum_by-take-le length (map (λ (x : PartValue). x.rows) parts) n in
      let same = ap (λ (l : List (List KeyRow)). sum_by length l) (take-map (λ (x : PartValue). x.rows) n parts) in
      omega (arith, all, some, same);
  behind = λ p lt.
      let size = length-take-le n parts le in
      let low : p < n = omega (arith, lt, size) in
      let within : p < length parts = omega (arith, low, le) in
      let rows : take p (map (λ (x : PartValue). x.rows) (take n parts)) ≡ take p (map (λ (x : PartValue). x.rows) parts) =
      ap (take p) (sym (take-map (λ (x : PartValue). x.rows) n parts)) ∙ take-take p n (map (λ (x : PartValue). x.rows) parts) (omega (arith, low)) in
      ap (λ (x : PartValue). x.before) (get_or-take n parts p no_part low) ∙ h.behind p within ∙ ap (λ (l : List (List KeyRow)). dicts_of (replicate width []) l) (sym rows);
})

pub main-first_value : (width : ℕ) (parts new : List PartValue) (main : MainValue) (n : ℕ) → main_value width parts ≡ main → new ≡ take n parts → main_value width new ≡ first_parts n main
main-first_value width parts new main n view e =
    (λ i. main_value width (e i)) ∙ ap (λ (l : List (List KeyRow)). (let m : MainValue = record { width = width; parts = l } in m)) (sym (take-map (λ (x : PartValue). x.rows) n parts)) ∙ ap (λ (m : MainValue). first_parts n m) view

-- ---- the dictionaries of any main

all-dicts : (main : MainValue) (j n : ℕ) → j < main.width → n ≤ length main.parts → AreDicts main j n (get_or (dicts_behind (first_parts n main)) j [])
all-dicts main j zero wide le = dicts-none main j (get_or (dicts_behind (first_parts 0 main)) j []) wide (get_or-replicate main.width j [] [] wide)
all-dicts main j (suc n) wide le =
    let one : n + 1 ≡ suc n = omega arith in
    let before = all-dicts main j n wide (omega (arith, le)) in
    subst (λ m. AreDicts main j m (get_or (dicts_behind (first_parts m main)) j [])) one
    (dicts-more main j n (get_or (dicts_behind (first_parts n main)) j []) wide (omega (arith, le)) before (get_or (dicts_behind (first_parts (n + 1) main)) j []) (dicts-next main n j (omega (arith, le)) wide))

-- a column's dictionaries have at most as many keys as there are rows
pub dicts-low : (main : MainValue) (j : ℕ) → j < main.width → length (end_to_end (get_or (dicts_behind main) j [])) ≤ rows_in main
dicts-low main j wide =
    subst (λ m. length (end_to_end (get_or (dicts_behind m) j [])) ≤ rows_in m) (first-all main (length main.parts) (omega arith)) (all-dicts main j (length main.parts) wide (omega arith)).few
