-- Keys of a kind: where the new keys of a part are, and all keys of the parts before, so are the keys of its rows.
use Rattle.std.proofs.Common.{◌≡◌, ◌⊎◌, inl, inr, ℕ, suc, ◌+◌, ◌<◌, All, IsTrue, IfOk, IfSome, Result, Ok, Err, Option, Some, None, List, [], ◌∷◌, ◌++◌, length, get_or, replicate, sym, ◌∙◌, ap, subst, arith}
use Rattle.std.proofs.lemmas.List.{get_or_default, get_or-map, get_or-replicate, length-replicate}
use Rattle.ut_l2.specs.KeyRows.{KeyRow, cells_at}
use Rattle.ut_own.specs.Own.{own_dict, In}
use Rattle.ut_prefix.specs.Chain.{end_to_end}
use Rattle.ut_prefix.proofs.ChainLemmas.{end_to_end-push}
use Rattle.ut_value.specs.declared.value.Column.{Column}
use Rattle.ut_value.specs.declared.value.Kind.{Kind}
use Rattle.ut_value.specs.declared.value.Kind.TheVariants.{Int}
use Rattle.ut_main.specs.Columns.{Chain, chain_of}
use Rattle.ut_main.specs.Parts.{PartValue, MainValue, with_own, dicts_of, dicts_behind}
use Rattle.ut_main.specs.Spelling.{is_key, AreKeys, HaveKinds, kind_at, MayStand}
use Rattle.ut_main.proofs.KeyLemmas.{in-at, in-get}
use Rattle.ut_main.proofs.OwnLemmas.{own-held, cell-known}
use Rattle.ut_main.proofs.MainLemmas.{length-with_own, get-with_own}

-- the kind of a column that was read out of the columns
pub kind-at : (columns : List Column) (j : ℕ) (c : Column) → j < length columns → (get_or columns j c).kind ≡ kind_at j columns
kind-at columns j c lt = sym (get_or-map (λ (x : Column). x.kind) columns j c Int lt)

pub keys-in : (kind : Kind) (keys : List (List ℕ)) → AreKeys kind keys → (key : List ℕ) → In key keys → IsTrue (is_key kind key)
keys-in kind keys h key there = let r = in-get keys key there in subst (λ (k : List ℕ). IsTrue (is_key kind k)) (sym r.2) (h r.0 [] r.1)

pub keys-from : (kind : Kind) (keys : List (List ℕ)) → ((key : List ℕ) → In key keys → IsTrue (is_key kind key)) → AreKeys kind keys
keys-from kind keys h = λ i d lt. h (get_or keys i d) (subst (λ (k : List ℕ). In k keys) (get_or_default keys i [] d lt) (in-at keys i lt))

in-either : (key : List ℕ) (xs ys : List (List ℕ)) → In key (xs ++ ys) → In key xs ⊎ In key ys
in-either key [] ys h = inr h
in-either key (x ∷ xs) ys (inl here) = inl (inl here)
in-either key (x ∷ xs) ys (inr there) = elim (in-either key xs ys there) [ inl a ↦ inl (inr a) | inr b ↦ inr b ]

dict-kinds : (kind : Kind) (j : ℕ) (dicts : List Chain) (parts : List (List KeyRow)) → j < length dicts → ((key : List ℕ) → In key (end_to_end (get_or dicts j [])) → IsTrue (is_key kind key))
    → All (λ rows. AreKeys kind (cells_at j rows)) parts → (key : List ℕ) → In key (end_to_end (get_or (dicts_of dicts parts) j [])) → IsTrue (is_key kind key)
dict-kinds kind j dicts [] lt h all key there = h key there
dict-kinds kind j dicts (rows ∷ parts) lt h all key there = dict-kinds kind j (with_own 0 dicts rows) parts (omega (arith, lt, length-with_own 0 dicts rows)) now (λ i d l. all (suc i) d (omega (arith, l))) key there
  where
    now : (key : List ℕ) → In key (end_to_end (get_or (with_own 0 dicts rows) j [])) → IsTrue (is_key kind key)
    now key there =
        let zero_more : j + 0 ≡ j = omega arith in
        let chain = get_or dicts j [] in
        let at = get-with_own 0 j dicts rows lt ∙ ap (λ n. chain_of (get_or dicts j []) (cells_at n rows)) zero_more in
        let laid : end_to_end (get_or (with_own 0 dicts rows) j []) ≡ end_to_end (get_or dicts j []) ++ own_dict (end_to_end (get_or dicts j [])) (cells_at j rows) =
        ap (λ (c : Chain). end_to_end c) at ∙ end_to_end-push (get_or dicts j []) (own_dict (end_to_end (get_or dicts j [])) (cells_at j rows)) in
        elim (in-either key (end_to_end (get_or dicts j [])) (own_dict (end_to_end (get_or dicts j [])) (cells_at j rows)) (subst (λ (l : List (List ℕ)). In key l) laid there)) [
          | inl old ↦ h key old
          | inr new ↦ keys-in kind (cells_at j rows) (all 0 rows (omega arith)) key (own-held (end_to_end (get_or dicts j [])) (cells_at j rows) key new).0
        ]

pub kinds-follow : (columns : List Column) (main : MainValue) (part : PartValue) → length columns ≡ main.width → MayStand columns main part → All (HaveKinds columns) main.parts → HaveKinds columns part.rows
kinds-follow columns main part wide h all j lt =
    keys-from (kind_at j columns) (cells_at j part.rows) (λ key there.
    let before : get_or part.before j [] ≡ get_or (dicts_behind main) j [] = ap (λ (l : List Chain). get_or l j []) h.before in
    let within : j < main.width = omega (arith, lt, wide) in
    let base : List Chain = replicate main.width [] in
    let size : length base ≡ main.width = length-replicate main.width [] in
    elim (in-either key (end_to_end (get_or part.before j [])) (own_dict (end_to_end (get_or part.before j [])) (cells_at j part.rows)) (cell-known (end_to_end (get_or part.before j [])) (cells_at j part.rows) key there)) [
      | inl old ↦
          dict-kinds (kind_at j columns) j base main.parts (omega (arith, within, size))
          (λ k none. absurd (subst (λ (c : Chain). In k (end_to_end c)) (get_or-replicate main.width j [] [] within) none))
          (λ i d l. all i d l j lt) key (subst (λ (c : Chain). In key (end_to_end c)) before old)
      | inr new ↦ keys-in (kind_at j columns) (own_dict (end_to_end (get_or part.before j [])) (cells_at j part.rows)) (h.kinds j lt) key new
    ])

-- what follows from a clause on an answer
pub some-follows : {X E : Type 0} (r : Result (Option X) E) {P Q : X → Type 0} → ((x : X) → P x → Q x) → IfOk r (λ o. IfSome o P) → IfOk r (λ o. IfSome o Q)
some-follows (Ok (Some x)) f h = f x h
some-follows (Ok None) f h = tt
some-follows (Err e) f h = tt
