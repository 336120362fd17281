-- What a column's bytes are read as: its own dictionary and its codes, and no other.
use Rattle.std.proofs.Common.{◌≡◌, inl, inr, ℕ, ◌+◌, ◌^◌, ◌<◌, ◌≤◌, Bool, true, false, not, nat_eq, nat_lt, ◌||◌, IsTrue, List, [], ◌∷◌, ◌++◌, length, map, get_or, replicate, refl, sym, ◌∙◌, ap, subst, arith, true≢false}
use Rattle.std.proofs.lemmas.Bool.{and_parts, and_from, or_cases, eqb-true, eq-eqb, leb-true}
use Rattle.std.proofs.lemmas.List.{append_assoc, length-append, length-map, get_or-append-add, get_or-replicate}
use Rattle.std.specs.List.{list_any}
use Rattle.ut_bits.specs.Bits.{AllBelow}
use Rattle.ut_codes.specs.Reached.{Reached}
use Rattle.ut_codes.specs.Forms.{code_bytes}
use Rattle.ut_own.specs.Own.{used, holds, own_dict, cells_of, In}
use Rattle.ut_own.proofs.ColumnLemmas.{column_own}
use Rattle.ut_prefix.specs.Chain.{end_to_end, LacksAll}
use Rattle.ut_prefix.specs.Spelling.{dict_bytes, IsDictionary}
use Rattle.ut_prefix.proofs.ChainLemmas.{end_to_end-push}
use Rattle.ut_value.specs.Text.{is_text_byte}
use Rattle.ut_value.specs.declared.value.Kind.{Kind}
use Rattle.ut_value.specs.declared.value.Kind.TheVariants.{Int, Text}
use Rattle.std.specs.List.{list_all}
use Rattle.std.proofs.Common.{nat_le}
use Rattle.ut_main.specs.Columns.{Chain, ColumnValue, chain_of, place_of, vector_of, earlier, AreDistinct, StandsBehind, IsColumn}
use Rattle.ut_main.specs.Spelling.{column_bytes, is_key, AreKeys}
use Rattle.ut_main.specs.Reading.{MayBeOwn, MayBeCodes, MayBeColumn, AreUsed}
use Rattle.ut_main.proofs.KeyLemmas.{holds-in, in-contains, in-at, ascends-from, place-get, cells-places, places-below}
use Rattle.ut_main.proofs.OwnLemmas.{own-held, own-lacks, own-length, own-ascending, cell-known}
use Rattle.ut_main.proofs.MainLemmas.{distinct-own, column-made, length-chain_of}
use Rattle.ut_main.proofs.ColumnLemmas.{column-vector}
use Rattle.ut_main.proofs.UniqueLemmas.{dict-one, codes-one}

-- ---- kinds

key-short : (kind : Kind) (key : List ℕ) → IsTrue (is_key kind key) → length key ≤ 255
key-short Int key h = let e = eqb-true (length key) 8 (and_parts (nat_eq (length key) 8) (list_all (λ b. nat_lt b 256) key) h).0 in omega (arith, e)
key-short Text key h = leb-true (length key) 255 (and_parts (nat_le (length key) 255) (list_all is_text_byte key) h).0

-- new keys of a kind are a dictionary
pub own-dictionary : (before : Chain) (cells : List (List ℕ)) (kind : Kind) → AreKeys kind (own_dict (end_to_end before) cells) → length cells < 2 ^ 31 → IsDictionary (own_dict (end_to_end before) cells)
own-dictionary before cells kind h few = record {
  ascending = own-ascending (end_to_end before) cells;
  short = λ i d lt. key-short kind (get_or (own_dict (end_to_end before) cells) i d) (h i d lt);
  few = let le = own-length (end_to_end before) cells in omega (arith, few, le);
}

-- ---- one column

known : (before : Chain) (cells : List (List ℕ)) (key : List ℕ) → In key cells → In key (end_to_end (chain_of before cells))
known before cells key h = subst (λ (l : List (List ℕ)). In key l) (sym (end_to_end-push before (own_dict (end_to_end before) cells))) (cell-known (end_to_end before) cells key h)

-- bytes begin with the bytes of but one column of so many rows behind dictionaries
pub cells-one : (before : Chain) (xs ys : List (List ℕ)) (rest more : List ℕ) → length xs ≡ length ys → length xs < 2 ^ 31
    → IsDictionary (own_dict (end_to_end before) xs) → IsDictionary (own_dict (end_to_end before) ys) → length (end_to_end (chain_of before xs)) ≤ 2 ^ 32
    → column_bytes (record { before = before; cells = xs }) ++ rest ≡ column_bytes (record { before = before; cells = ys }) ++ more → (xs ≡ ys) × (rest ≡ more)
unfolding column_bytes
cells-one before xs ys rest more same few h k low e =
    let vx = vector_of before xs in
    let vy = vector_of before ys in
    let a = append_assoc (dict_bytes (own_dict (end_to_end before) xs)) (code_bytes vx.codes vx.reach) rest in
    let b = append_assoc (dict_bytes (own_dict (end_to_end before) ys)) (code_bytes vy.codes vy.reach) more in
    let dicts = dict-one (own_dict (end_to_end before) xs) (own_dict (end_to_end before) ys) (code_bytes vx.codes vx.reach ++ rest) (code_bytes vy.codes vy.reach ++ more) h k (sym a ∙ e ∙ b) in
    let keys : List (List ℕ) = end_to_end (chain_of before xs) in
    let equal : end_to_end (chain_of before ys) ≡ end_to_end (chain_of before xs) = ap (λ (d : List (List ℕ)). end_to_end (before ++ d ∷ [])) (sym dicts.0) in
    let there : (key : List ℕ) → In key ys → In key (end_to_end (chain_of before xs)) = λ key at. subst (λ (l : List (List ℕ)). In key l) equal (known before ys key at) in
    let tails = dicts.1 ∙ ap (λ (l : List (List ℕ)). code_bytes (map (place_of l) ys) (length l) ++ more) equal in
    let size : length (map (place_of keys) xs) ≡ length (map (place_of keys) ys) = length-map xs (place_of keys) ∙ same ∙ sym (length-map ys (place_of keys)) in
    let small : length (map (place_of keys) xs) < 2 ^ 32 = omega (arith, few, length-map xs (place_of keys)) in
    let codes = codes-one (map (place_of keys) xs) (map (place_of keys) ys) rest more (length keys) low (places-below keys xs (known before xs)) (places-below keys ys there) size small tails in
    (sym (cells-places keys xs (known before xs)) ∙ ap (cells_of keys) codes.0 ∙ cells-places keys ys there, codes.1)

-- ---- codes that are used

any-place : (keys cells : List (List ℕ)) (key : List ℕ) (n : ℕ) → In key cells → place_of keys key ≡ n → list_any (nat_eq n) (map (place_of keys) cells) ≡ true
any-place keys [] key n h at = absurd h
any-place keys (cell ∷ cells) key n (inl here) at = or_left (nat_eq n (place_of keys cell)) (list_any (nat_eq n) (map (place_of keys) cells)) (eq-eqb n (place_of keys cell) (sym (sym (ap (place_of keys) here) ∙ at)))
  where
    or_left : (a b : Bool) → a ≡ true → (a || b) ≡ true
    or_left true b e = refl
    or_left false b e = absurd (true≢false (sym e))
any-place keys (cell ∷ cells) key n (inr there) at = or_right (nat_eq n (place_of keys cell)) (list_any (nat_eq n) (map (place_of keys) cells)) (any-place keys cells key n there at)
  where
    or_right : (a b : Bool) → b ≡ true → (a || b) ≡ true
    or_right true b e = refl
    or_right false b e = e

-- the codes of cells use each key of their own dictionary
own-used : (before : Chain) (cells : List (List ℕ)) → AreDistinct (end_to_end (chain_of before cells)) → AreUsed (length (end_to_end before)) (length (own_dict (end_to_end before) cells)) (vector_of before cells).codes
own-used before cells distinct i lt =
    let own = own_dict (end_to_end before) cells in
    let keys = end_to_end (chain_of before cells) in
    let start = length (end_to_end before) in
    let push = end_to_end-push before own in
    let size : length (end_to_end (chain_of before cells)) ≡ length (end_to_end before) + length (own_dict (end_to_end before) cells) = ap length push ∙ length-append (end_to_end before) own in
    let at : get_or keys (start + i) [] ≡ get_or own i [] = ap (λ (l : List (List ℕ)). get_or l (start + i) []) push ∙ get_or-append-add (end_to_end before) own i [] in
    let place : place_of keys (get_or own i []) ≡ start + i = ap (place_of keys) (sym at) ∙ place-get keys (start + i) distinct (omega (arith, size, lt)) in
    any-place keys cells (get_or own i []) (start + i) (own-held (end_to_end before) cells (get_or own i []) (in-at own i lt)).0 place

-- what a column's bytes hold, wherever they begin bytes
pub record IsSpelled (rows : ℕ) (kind : Kind) (chain : Chain) (bytes : List ℕ) : Type 0 where
  pub keys : List (List ℕ)
  pub codes : List ℕ
  pub rest : List ℕ
  pub own : MayBeOwn rows kind chain keys
  pub coded : MayBeCodes rows (length (end_to_end chain)) (length (end_to_end (chain ++ keys ∷ []))) codes
  pub spelled : bytes ≡ dict_bytes keys ++ (code_bytes codes (length (end_to_end (chain ++ keys ∷ []))) ++ rest)

pub column-spelled : (rows : ℕ) (kind : Kind) (chain : Chain) (bytes : List ℕ) (c : ColumnValue) (rest : List ℕ) → AreDistinct (end_to_end chain) → rows < 2 ^ 31 → MayBeColumn rows kind chain c → bytes ≡ column_bytes c ++ rest → IsSpelled rows kind chain bytes
unfolding column_bytes
column-spelled rows kind chain bytes c rest distinct few h e =
    let cells = c.cells in
    let own = own_dict (end_to_end chain) c.cells in
    let v = vector_of chain c.cells in
    let size = ap length (end_to_end-push chain (own_dict (end_to_end chain) c.cells)) ∙ length-append (end_to_end chain) (own_dict (end_to_end chain) c.cells) in
    let kinds = subst (λ (b : Chain). AreKeys kind (own_dict (end_to_end b) c.cells)) h.before h.kinds in
    record {
      keys = own_dict (end_to_end chain) c.cells;
      codes = (vector_of chain c.cells).codes;
      rest = rest;
      own = record {
        dictionary = own-dictionary chain c.cells kind kinds (omega (arith, few, h.count));
        few = let le = own-length (end_to_end chain) c.cells in omega (arith, le, h.count);
        kinds = kinds;
        apart = own-lacks chain c.cells;
      };
      coded = record {
        count = length-map c.cells (place_of (end_to_end (chain_of chain c.cells))) ∙ h.count;
        below = places-below (end_to_end (chain_of chain c.cells)) c.cells (known chain c.cells);
        used = λ i lt. own-used chain c.cells (distinct-own chain c.cells distinct) i (omega (arith, lt, size));
      };
      spelled =
          e ∙ ap (λ (b : Chain). (dict_bytes (own_dict (end_to_end b) c.cells) ++ code_bytes (vector_of b c.cells).codes (vector_of b c.cells).reach) ++ rest) h.before
          ∙ append_assoc (dict_bytes own) (code_bytes v.codes v.reach) rest;
    }

-- ---- a column that was read

used-all : (keys : List (List ℕ)) → used keys (replicate (length keys) true) ≡ keys
used-all [] = refl
used-all (k ∷ keys) = ap (λ (l : List (List ℕ)). k ∷ l) (used-all keys)

any-below : (codes : List ℕ) (n c : ℕ) → AllBelow n codes → list_any (nat_eq c) codes ≡ true → c < n
any-below [] n c h any = absurd (true≢false (sym any))
any-below (d ∷ codes) n c h any = elim (or_cases (nat_eq c d) (list_any (nat_eq c) codes) any) [
  | inl here ↦ let e = eqb-true c d here in omega (arith, e, h.0)
  | inr there ↦ any-below codes n c h.1 there
]

not-held : (chain : Chain) (keys : List (List ℕ)) (i : ℕ) → LacksAll chain keys → i < length keys → holds (end_to_end chain) (get_or keys i []) ≡ false
not-held chain keys i lacks lt = by (holds (end_to_end chain) (get_or keys i [])) refl
  where
    by : (b : Bool) → holds (end_to_end chain) (get_or keys i []) ≡ b → b ≡ false
    by true e = absurd (lacks (get_or keys i []) (in-contains keys (get_or keys i []) (in-at keys i lt)) (in-contains (end_to_end chain) (get_or keys i []) (holds-in (end_to_end chain) (get_or keys i []) e)))
    by false e = refl

module _ (rows : ℕ) (kind : Kind) (chain new : Chain) (dict : List (List ℕ)) (v : Reached) (distinct : AreDistinct (end_to_end chain)) (own : MayBeOwn rows kind chain dict) (push : new ≡ chain ++ dict ∷ [])
    (reach : v.reach ≡ length (end_to_end new)) (coded : MayBeCodes rows (length (end_to_end chain)) (length (end_to_end new)) v.codes) where
  stay : List (List ℕ)
  stay = end_to_end chain

  laid : end_to_end (chain ++ dict ∷ []) ≡ end_to_end chain ++ dict
  laid = end_to_end-push chain dict

  size : length (end_to_end new) ≡ length (end_to_end chain) + length dict
  size = ap (λ (c : Chain). length (end_to_end c)) push ∙ ap length laid ∙ length-append (end_to_end chain) dict

  is-own : dict ≡ own_dict (end_to_end chain) (cells_of (end_to_end chain ++ dict) v.codes)
  is-own =
      column_own (end_to_end chain) dict v.codes (replicate (length dict) true)
      (λ c any. subst (λ n. c < n) size (any-below v.codes (length (end_to_end new)) c coded.below any))
      (λ i lt.
      get_or-replicate (length dict) i true false lt
      ∙ sym (and_from (list_any (nat_eq (length (end_to_end chain) + i)) v.codes) (not (holds (end_to_end chain) (get_or dict i []))) (coded.used i (omega (arith, size, lt))) (ap not (not-held chain dict i own.apart lt))))
      dict (ascends-from dict own.dictionary.ascending)
      (λ k h. subst (λ (l : List (List ℕ)). In k l) (sym (used-all dict)) h)
      (λ k h. subst (λ (l : List (List ℕ)). In k l) (used-all dict) h)

  behind : StandsBehind chain dict v
  behind = record {
    reach = reach ∙ ap (λ (c : Chain). length (end_to_end c)) push;
    below = subst (λ n. AllBelow n v.codes) (sym reach) coded.below;
    own = is-own ∙ ap (λ (l : List (List ℕ)). own_dict (end_to_end chain) (cells_of l v.codes)) (sym laid);
  }

  pub column-read : IsColumn dict new v
  column-read = (column-made chain dict v new distinct behind push).1

  front : earlier new ≡ chain
  front = (column-made chain dict v new distinct behind push).0

  cells : List (List ℕ)
  cells = cells_of (end_to_end new) v.codes

  own-same : dict ≡ own_dict (end_to_end chain) (cells_of (end_to_end new) v.codes)
  own-same = behind.own ∙ ap (λ (c : Chain). own_dict (end_to_end chain) (cells_of (end_to_end c) v.codes)) (sym push)

  pub column-may : (c : ColumnValue) → c.before ≡ earlier new → c.cells ≡ cells_of (end_to_end new) v.codes → MayBeColumn rows kind chain c
  column-may c b e = record {
    before = b ∙ front;
    count = ap length e ∙ length-map v.codes (λ code. get_or (end_to_end new) code []) ∙ coded.count;
    kinds = subst (AreKeys kind) (own-same ∙ (let q = sym (b ∙ front) in let r = sym e in λ i. own_dict (end_to_end (q i)) (r i))) own.kinds;
  }

  pub column-bytes : (c : ColumnValue) (bytes behind_dict rest : List ℕ) → c.before ≡ earlier new → c.cells ≡ cells_of (end_to_end new) v.codes
      → bytes ≡ dict_bytes dict ++ behind_dict → behind_dict ≡ code_bytes v.codes (length (end_to_end new)) ++ rest → bytes ≡ column_bytes c ++ rest
  unfolding column_bytes
  column-bytes c bytes behind_dict rest b e first second =
      let whole = column-vector dict new v column-read in
      let vector : v ≡ vector_of c.before c.cells = whole ∙ (let q = sym b in let r = sym e in λ i. vector_of (q i) (r i)) in
      let keys : dict ≡ own_dict (end_to_end c.before) c.cells = own-same ∙ (let q = sym (b ∙ front) in let r = sym e in λ i. own_dict (end_to_end (q i)) (r i)) in
      first ∙ ap (λ (l : List ℕ). dict_bytes dict ++ l) (second ∙ ap (λ n. code_bytes v.codes n ++ rest) (sym reach))
      ∙ sym (append_assoc (dict_bytes dict) (code_bytes v.codes v.reach) rest)
      ∙ ap (λ (l : List (List ℕ)). (dict_bytes l ++ code_bytes v.codes v.reach) ++ rest) keys
      ∙ ap (λ (w : Reached). (dict_bytes (own_dict (end_to_end c.before) c.cells) ++ code_bytes w.codes w.reach) ++ rest) vector

-- a column that was written
pub column-written : (c : ColumnValue) (dict : List (List ℕ)) (v : Reached) (old mid new : List ℕ) → dict ≡ own_dict (end_to_end c.before) c.cells → v ≡ vector_of c.before c.cells
    → mid ≡ old ++ dict_bytes dict → new ≡ mid ++ code_bytes v.codes v.reach → new ≡ old ++ column_bytes c
unfolding column_bytes
column-written c dict v old mid new own vector first second =
    second ∙ ap (λ (l : List ℕ). l ++ code_bytes v.codes v.reach) first ∙ append_assoc old (dict_bytes dict) (code_bytes v.codes v.reach)
    ∙ ap (λ (l : List (List ℕ)). old ++ (dict_bytes l ++ code_bytes v.codes v.reach)) own
    ∙ ap (λ (w : Reached). old ++ (dict_bytes (own_dict (end_to_end c.before) c.cells) ++ code_bytes w.codes w.reach)) vector

-- ---- no other column

pub column-one : (rows : ℕ) (kind : Kind) (chain : Chain) (a b : ColumnValue) (rest more : List ℕ) → rows < 2 ^ 31 → length (end_to_end chain) + rows ≤ 2147483647 → MayBeColumn rows kind chain a → MayBeColumn rows kind chain b
    → column_bytes a ++ rest ≡ column_bytes b ++ more → (a ≡ b) × (rest ≡ more)
column-one rows kind chain a b rest more few low h k e =
    let one : (let c : ColumnValue = record { before = chain; cells = a.cells } in c) ≡ a = (let s = sym h.before in λ i. record { before = s i; cells = a.cells }) in
    let two : (let c : ColumnValue = record { before = chain; cells = b.cells } in c) ≡ b = (let s = sym k.before in λ i. record { before = s i; cells = b.cells }) in
    let ka = subst (λ (d : Chain). AreKeys kind (own_dict (end_to_end d) a.cells)) h.before h.kinds in
    let kb = subst (λ (d : Chain). AreKeys kind (own_dict (end_to_end d) b.cells)) k.before k.kinds in
    let sum = length-chain_of chain a.cells in
    let same = cells-one chain a.cells b.cells rest more (h.count ∙ sym k.count) (omega (arith, few, h.count))
    (own-dictionary chain a.cells kind ka (omega (arith, few, h.count))) (own-dictionary chain b.cells kind kb (omega (arith, few, k.count))) (omega (arith, sum, low, h.count))
    (ap (λ (c : ColumnValue). column_bytes c ++ rest) one ∙ e ∙ ap (λ (c : ColumnValue). column_bytes c ++ more) (sym two)) in
    (sym one ∙ (let s = same.0 in λ i. record { before = chain; cells = s i }) ∙ two, same.1)
