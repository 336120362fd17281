-- The keys of a column before a merge: dictionary behind dictionary, and behind them those of the closed stage.
use Rattle.std.proofs.Common.{◌≡◌, ℕ, zero, suc, ◌+◌, ◌-◌, ◌<◌, ◌≤◌, List, [], ◌∷◌, ◌++◌, length, map, drop, get_or, All, refl, sym, ◌∙◌, ap, subst, arith, append-nil}
use Rattle.std.proofs.lemmas.List.{append_assoc, length-append, length-map, get_or-replicate, get_or_append_left, get_or-append-add, drop_at, drop-append-le}
use Rattle.std.proofs.lemmas.List.Elements.{All-head, All-tail}
use Rattle.std.proofs.lemmas.List.Sums.{sum_by-take-le}
use Rattle.ut_bits.specs.Bits.{AllBelow}
use Rattle.ut_own.specs.Own.{own_dict, cells_of, In}
use Rattle.ut_unsorted.specs.FirstSeen.{first_seen}
use Rattle.ut_unsorted.proofs.FirstSeenLemmas.{length-fold}
use Rattle.ut_prefix.specs.Chain.{end_to_end}
use Rattle.ut_prefix.proofs.ChainLemmas.{end_to_end-push}
use Rattle.ut_l2.specs.KeyRows.{cells_at, key_at}
use Rattle.ut_main.specs.Columns.{Chain, vector_of, AreDistinct}
use Rattle.ut_main.specs.Parts.{MainValue, dicts_behind, first_parts, rows_in}
use Rattle.ut_main.proofs.KeyLemmas.{cells-places, places-below}
use Rattle.ut_main.proofs.OwnLemmas.{cell-known}
use Rattle.ut_main.proofs.MainLemmas.{AreDicts, dicts-more, dicts-next, dicts-none, first-all}
use Rattle.ut_merge.specs.Jobs.{JobValue, stay_of, IsJob}
use Rattle.ut_merge.specs.Columns.{chain_in, closed_keys, laid_keys, main_before, rebuilt_keys, staying_keys, AreCoded}

-- ---- codes among more keys

AllBelow-more : (n m : ℕ) (codes : List ℕ) → n ≤ m → AllBelow n codes → AllBelow m codes
AllBelow-more n m [] le low = tt
AllBelow-more n m (c ∷ codes) le low = (omega (arith, le, low.0), AllBelow-more n m codes le low.1)

cells_of-more : (keys more : List (List ℕ)) (codes : List ℕ) → AllBelow (length keys) codes → cells_of (keys ++ more) codes ≡ cells_of keys codes
cells_of-more keys more [] low = refl
cells_of-more keys more (c ∷ codes) low = λ i. get_or_append_left keys more [] c low.0 i ∷ cells_of-more keys more codes low.1 i

coded-more : (keys more cells : List (List ℕ)) (codes : List ℕ) → AreCoded keys cells codes → AreCoded (keys ++ more) cells codes
coded-more keys more cells codes h = record {
  below = AllBelow-more (length keys) (length (keys ++ more)) codes (omega (arith, length-append keys more)) h.below;
  cells_are = cells_of-more keys more codes h.below ∙ h.cells_are;
}

-- codes that count from behind other keys
coded-behind : (front keys : List (List ℕ)) (codes : List ℕ) → All (λ c. c < length keys) codes → AreCoded (front ++ keys) (cells_of keys codes) (map (λ c. length front + c) codes)
coded-behind front keys [] low = record { below = tt; cells_are = refl }
coded-behind front keys (c ∷ codes) low =
    let rest = coded-behind front keys codes (All-tail (λ c. c < length keys) c codes low) in
    let here : c < length keys = All-head (λ c. c < length keys) c codes low in
    record {
      below = (omega (arith, here, length-append front keys), rest.below);
      cells_are = λ i. get_or-append-add front keys c [] i ∷ rest.cells_are i;
    }

pub length-first_seen : (cells : List (List ℕ)) → length (first_seen cells) ≤ length cells
length-first_seen cells = omega (arith, length-fold [] cells)

-- ---- the dictionaries of a column

module _ (job : JobValue) (column : ℕ) (wide : column < job.width) where
  all-dicts : (n : ℕ) → n ≤ length job.parts → AreDicts (main_before job) column n (chain_in job column n)
  all-dicts zero le = dicts-none (main_before job) column (chain_in job column 0) wide (get_or-replicate job.width column [] [] wide)
  all-dicts (suc n) le =
      let one : n + 1 ≡ suc n = omega arith in
      subst (λ m. AreDicts (main_before job) column m (chain_in job column m)) one
      (dicts-more (main_before job) column n (chain_in job column n) wide (omega arith) (all-dicts n (omega arith)) (chain_in job column (n + 1)) (dicts-next (main_before job) n column (omega arith) wide))

  pub keys-next : (p : ℕ) → p < length job.parts → end_to_end (chain_in job column (p + 1)) ≡ end_to_end (chain_in job column p) ++ own_dict (end_to_end (chain_in job column p)) (cells_at column (get_or job.parts p []))
  keys-next p lt =
      ap (λ (c : Chain). end_to_end c) (dicts-next (main_before job) p column lt wide)
      ∙ end_to_end-push (chain_in job column p) (own_dict (end_to_end (chain_in job column p)) (cells_at column (get_or job.parts p [])))

  -- the keys of more parts begin with those of fewer
  keys-more : (n k : ℕ) → n + k ≤ length job.parts → (rest : List (List ℕ)) × (end_to_end (chain_in job column (n + k)) ≡ end_to_end (chain_in job column n) ++ rest)
  keys-more n zero le =
      let e : n + 0 ≡ n = omega arith in
      ([], ap (λ m. end_to_end (chain_in job column m)) e ∙ sym (append-nil (end_to_end (chain_in job column n))))
  keys-more n (suc k) le =
      let e : n + suc k ≡ n + k + 1 = omega arith in
      let r = keys-more n k (omega arith) in
      let own = own_dict (end_to_end (chain_in job column (n + k))) (cells_at column (get_or job.parts (n + k) [])) in (
        r.0 ++ own_dict (end_to_end (chain_in job column (n + k))) (cells_at column (get_or job.parts (n + k) [])),
        ap (λ m. end_to_end (chain_in job column m)) e ∙ keys-next (n + k) (omega arith) ∙ ap (λ l. l ++ own) r.1 ∙ append_assoc (end_to_end (chain_in job column n)) r.0 own,
      )

  abbrev all_keys : List (List ℕ)
  all_keys = end_to_end (chain_in job column (length job.parts))

  pub chain-all : chain_in job column (length job.parts) ≡ get_or (dicts_behind (main_before job)) column []
  chain-all = ap (λ (m : MainValue). get_or (dicts_behind m) column []) (first-all (main_before job) (length job.parts) (omega arith))

  laid-all : laid_keys job column ≡ all_keys ++ closed_keys job column
  laid-all = ap (λ (c : Chain). end_to_end c ++ closed_keys job column) (sym chain-all)

  all-split : (n : ℕ) → n ≤ length job.parts → (rest : List (List ℕ)) × (all_keys ≡ end_to_end (chain_in job column n) ++ rest)
  all-split n le =
      let k = length job.parts - n in
      let e : n + (length job.parts - n) ≡ length job.parts = omega arith in
      let r = keys-more n (length job.parts - n) (omega arith) in
      (r.0, ap (λ m. end_to_end (chain_in job column m)) (sym e) ∙ r.1)

  -- the codes of a part are codes among all keys
  pub part-coded : (p : ℕ) → p < length job.parts → AreCoded (laid_keys job column) (cells_at column (get_or job.parts p [])) (vector_of (chain_in job column p) (cells_at column (get_or job.parts p []))).codes
  part-coded p lt =
      let cells = cells_at column (get_or job.parts p []) in
      let keys = end_to_end (chain_in job column p) in
      let mine = end_to_end (chain_in job column p ++ own_dict keys cells ∷ []) in
      let known : (key : List ℕ) → In key (cells_at column (get_or job.parts p [])) → In key (end_to_end (chain_in job column p ++ own_dict (end_to_end (chain_in job column p)) (cells_at column (get_or job.parts p [])) ∷ [])) =
      λ key there. subst (λ (l : List (List ℕ)). In key l) (sym (end_to_end-push (chain_in job column p) (own_dict keys cells))) (cell-known keys cells key there) in
      let rest = all-split (p + 1) (omega arith) in
      let next : end_to_end (chain_in job column (p + 1)) ≡ end_to_end (chain_in job column p ++ own_dict (end_to_end (chain_in job column p)) (cells_at column (get_or job.parts p [])) ∷ []) =
      ap (λ (c : Chain). end_to_end c) (dicts-next (main_before job) p column lt wide) in
      let whole : laid_keys job column ≡ end_to_end (chain_in job column p ++ own_dict (end_to_end (chain_in job column p)) (cells_at column (get_or job.parts p [])) ∷ []) ++ (rest.0 ++ closed_keys job column) = laid-all ∙ ap (λ l. l ++ closed_keys job column) (rest.1 ∙ ap (λ l. l ++ rest.0) next) ∙ append_assoc mine rest.0 (closed_keys job column) in
      subst (λ (l : List (List ℕ)). AreCoded l cells (vector_of (chain_in job column p) cells).codes) (sym whole)
      (coded-more mine (rest.0 ++ closed_keys job column) cells (vector_of (chain_in job column p) cells).codes
      record { below = places-below mine cells known; cells_are = cells-places mine cells known })

  -- and so are those of the closed stage, behind the keys of main
  pub closed-coded : (first : ℕ) (codes : List ℕ) → first ≡ length (end_to_end (get_or (dicts_behind (main_before job)) column [])) → All (λ c. c < length (closed_keys job column)) codes → cells_of (closed_keys job column) codes ≡ cells_at column job.closed
      → AreCoded (laid_keys job column) (cells_at column job.closed) (map (λ code. first + code) codes)
  closed-coded first codes at low same =
      let front = end_to_end (get_or (dicts_behind (main_before job)) column []) in
      subst (λ n. AreCoded (laid_keys job column) (cells_at column job.closed) (map (λ code. n + code) codes)) (sym at)
      (subst (λ (cells : List (List ℕ)). AreCoded (laid_keys job column) cells (map (λ code. length front + code) codes)) same (coded-behind front (closed_keys job column) codes low))

  -- ---- keys that stay, and the others

  module _ (stays : stay_of job ≤ length job.parts) where
    all-parts : all_keys ≡ staying_keys job column ++ rebuilt_keys job column (length job.parts)
    all-parts =
        let r = all-split (stay_of job) stays in
        r.1 ∙ ap (λ l. staying_keys job column ++ l) (sym (ap (drop (length (staying_keys job column))) r.1 ∙ drop_at (staying_keys job column) r.0 (length (staying_keys job column)) refl))

    pub laid-parts : laid_keys job column ≡ staying_keys job column ++ (rebuilt_keys job column (length job.parts) ++ closed_keys job column)
    laid-parts =
        laid-all ∙ ap (λ l. l ++ closed_keys job column) all-parts
        ∙ append_assoc (staying_keys job column) (rebuilt_keys job column (length job.parts)) (closed_keys job column)

    pub parts-distinct : AreDistinct (staying_keys job column ++ rebuilt_keys job column (length job.parts))
    parts-distinct = subst AreDistinct all-parts (all-dicts (length job.parts) (omega arith)).distinct

    pub staying-few : length (staying_keys job column) ≤ rows_in (first_parts (stay_of job) (main_before job))
    staying-few = (all-dicts (stay_of job) stays).few

    pub rebuilt-next : (p : ℕ) → stay_of job ≤ p → p < length job.parts → rebuilt_keys job column (p + 1) ≡ rebuilt_keys job column p ++ own_dict (end_to_end (chain_in job column p)) (cells_at column (get_or job.parts p []))
    rebuilt-next p le lt =
        let k = p - stay_of job in
        let e : stay_of job + (p - stay_of job) ≡ p = omega arith in
        let r = keys-more (stay_of job) (p - stay_of job) (omega arith) in
        let size = ap (λ (l : List (List ℕ)). length l) (ap (λ m. end_to_end (chain_in job column m)) (sym e) ∙ r.1) in
        ap (drop (length (staying_keys job column))) (keys-next p lt)
        ∙ drop-append-le (length (staying_keys job column)) (end_to_end (chain_in job column p)) (own_dict (end_to_end (chain_in job column p)) (cells_at column (get_or job.parts p [])))
        (omega (arith, size, length-append (staying_keys job column) r.0))

    -- there are no more keys than rows
    pub keys-few : IsJob job → length (staying_keys job column) + (length (rebuilt_keys job column (length job.parts)) + length (closed_keys job column)) ≤ 2147483647
    keys-few is =
        let dicts = (all-dicts (length job.parts) (omega arith)).few in
        let rows = sum_by-take-le length job.parts (length job.parts) in
        let split = ap (λ (l : List (List ℕ)). length l) all-parts in
        let both = length-append (staying_keys job column) (rebuilt_keys job column (length job.parts)) in
        let closed = length-first_seen (cells_at column job.closed) in
        let cells = length-map job.closed (key_at column) in
        let few = is.few in
        omega (arith, dicts, rows, split, both, closed, cells, few)
