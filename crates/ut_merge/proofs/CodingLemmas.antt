-- A column's own dictionary over all rebuilt parts, and its codes.
use Rattle.std.proofs.Common.{◌≡◌, ℕ, zero, suc, ◌+◌, ◌-◌, ◌<◌, ◌≤◌, List, [], ◌∷◌, ◌++◌, length, take, drop, get_or, All, refl, sym, ◌∙◌, ap, subst, arith, Bool, true, false, ltb, ◌||◌, nat_eq, Option, Some, None, true≢false}
use Rattle.std.specs.List.{list_any}
use Rattle.std.proofs.Math.Seq.{take-add}
use Rattle.std.proofs.lemmas.List.{append_assoc, length-append, length-take-le, get_or_past, take_more}
use Rattle.std.proofs.lemmas.List.Elements.{All-nil, All-cons}
use Rattle.std.proofs.lemmas.Bool.{eq-eqb, ltb-true, ltb-false}
use Rattle.ut_bits.specs.Bits.{AllBelow}
use Rattle.ut_own.specs.Own.{cells_of, own_dict, recoded}
use Rattle.ut_own.proofs.MemberLemmas.{recoded-is}
use Rattle.ut_prefix.specs.Chain.{end_to_end}
use Rattle.ut_l2.specs.KeyRows.{KeyRow, cells_at}
use Rattle.ut_dictmerge.specs.Merge.{place_of, place_behind, places}
use Rattle.ut_recode.specs.Recode.{with_staying, HaveEntries, IsBelow}
use Rattle.std.specs.declared.cmp.Ordering.{Ordering}
use Rattle.std.specs.declared.cmp.Ordering.TheVariants.{Less, Equal, Greater}
use Rattle.ut_key.specs.Keys.{key_cmp}
use Rattle.ut_merge.specs.declared.uniting.United.{United}
use Rattle.ut_merge.specs.Jobs.{JobValue, stay_of, IsJob}
use Rattle.ut_main.specs.Columns.{Chain}
use Rattle.ut_main.specs.Parts.{MainValue, PartValue, dicts_behind, first_parts}
use Rattle.ut_merge.specs.Columns.{chain_in, closed_keys, laid_keys, main_before, rebuilt_keys, staying_chain, staying_keys, AreCoded, IsColumn, IsRecoding}
use Rattle.ut_merge.specs.Uniting.{chosen, chosen_all, new_flags, entries_of, AddsDict, AreFound, IsUnited, IsUpTo}
use Rattle.ut_merge.proofs.GatherLemmas.{part-dict}
use Rattle.ut_merge.proofs.LayoutLemmas.{keys-few, laid-parts, parts-distinct, rebuilt-next}
use Rattle.ut_merge.proofs.OwnLemmas.{united-leads, united-own}

-- ---- one part after the other

-- the dictionaries of the parts up to one are united with the closed stage's new keys
pub record IsUnitedTo (job : JobValue) (column p at : ℕ) (flags new : List Bool) (united : United) : Type 0 where
  pub reached : at ≡ length (rebuilt_keys job column p)
  pub united_is : IsUnited (rebuilt_keys job column p) (take at flags) (closed_keys job column) new united.keys united.parts.items united.closed.items

-- the dictionary of a part that is rebuilt
pub record IsPartDict (job : JobValue) (column p : ℕ) (dict : List (List ℕ)) : Type 0 where
  pub stays : stay_of job ≤ p
  pub within : p < length job.parts
  pub is : dict ≡ own_dict (end_to_end (chain_in job column p)) (cells_at column (get_or job.parts p []))

pub part-read : (job : JobValue) (column p : ℕ) (main : MainValue) (arc part : PartValue) (dict keys : List (List ℕ)) → stay_of job ≤ p → p < length job.parts → main ≡ main_before job → part ≡ arc → arc.rows ≡ get_or main.parts p []
    → arc.before ≡ dicts_behind (first_parts p main) → keys ≡ own_dict (end_to_end (get_or part.before column [])) (cells_at column part.rows) → dict ≡ keys → IsPartDict job column p dict
part-read job column p main arc part dict keys le lt at same rows before is e = record {
  stays = le;
  within = lt;
  is = e ∙ is ∙ part-dict job column p main part at (ap (λ (x : PartValue). x.before) same ∙ before) (ap (λ (x : PartValue). x.rows) same ∙ rows);
}

module _ (job : JobValue) (column : ℕ) (wide : column < job.width) (stays : stay_of job ≤ length job.parts) where
  pub rebuilt-le : (p : ℕ) → stay_of job ≤ p → p < length job.parts → length (rebuilt_keys job column (p + 1)) ≤ length (rebuilt_keys job column (length job.parts))
  rebuilt-le p le lt = from (length job.parts - (p + 1)) (p + 1) (omega arith) (omega arith)
    where
      from : (k q : ℕ) → stay_of job ≤ q → q + k ≡ length job.parts → length (rebuilt_keys job column q) ≤ length (rebuilt_keys job column (length job.parts))
      from zero q le e = let same : q ≡ length job.parts = omega arith in subst (λ n. length (rebuilt_keys job column q) ≤ length (rebuilt_keys job column n)) same (omega arith)
      from (suc k) q le e =
          let next = rebuilt-next job column wide stays q le (omega arith) in
          let size = ap (λ (l : List (List ℕ)). length l) next in
          let both = length-append (rebuilt_keys job column q) (own_dict (end_to_end (chain_in job column q)) (cells_at column (get_or job.parts q []))) in
          let more = from k (q + 1) (omega arith) (omega arith) in
          omega (arith, size, both, more)

  module _ (p at : ℕ) (flags new : List Bool) (old : United) (dict : List (List ℕ)) (read : IsPartDict job column p dict) (h : IsUnitedTo job column p at flags new old) (sizes : length flags ≡ length (rebuilt_keys job column (length job.parts))) where
    next : rebuilt_keys job column (p + 1) ≡ rebuilt_keys job column p ++ dict
    next = rebuilt-next job column wide stays p read.stays read.within ∙ ap (λ (d : List (List ℕ)). rebuilt_keys job column p ++ d) (sym read.is)

    length-next : length (rebuilt_keys job column (p + 1)) ≡ at + length dict
    length-next = ap (λ (l : List (List ℕ)). length l) next ∙ length-append (rebuilt_keys job column p) dict ∙ ap (λ n. n + length dict) (sym h.reached)

    -- there are flags for the part's dictionary
    pub flags-there : at + length dict ≤ length flags
    flags-there = omega (arith, sizes, length-next, rebuilt-le p read.stays read.within)

    -- and room for all keys
    pub keys-room : IsJob job → length old.keys + length dict < 2147483648
    keys-room is =
        let few = keys-few job column wide stays is in
        let united = h.united_is.few in
        let reached = h.reached in
        omega (arith, few, united, reached, flags-there, sizes)

    pub united-next : (more : United) → AddsDict dict (take (length dict) (drop at flags)) old more → IsUnitedTo job column (p + 1) (at + length dict) flags new more
    united-next more adds = record {
      reached = sym length-next;
      united_is =
          let first : length (take at flags) ≡ length (rebuilt_keys job column p) = length-take-le at flags (omega (arith, flags-there)) ∙ h.reached in
          let both = adds (rebuilt_keys job column p) (take at flags) (closed_keys job column) new first h.united_is in
          subst (λ (l : List (List ℕ)). IsUnited l (take (at + length dict) flags) (closed_keys job column) new more.keys more.parts.items more.closed.items) (sym next)
          (subst (λ (fs : List Bool). IsUnited (rebuilt_keys job column p ++ dict) fs (closed_keys job column) new more.keys more.parts.items more.closed.items) (sym (take-add at (length dict) flags)) both);
    }

-- ---- places

place_of-few : (key : List ℕ) (keys : List (List ℕ)) → place_of key keys ≤ length keys
place_of-few key [] = omega arith
place_of-few key (first ∷ rest) = by (key_cmp key first) (place_of-few key rest)
  where
    by : (o : Ordering) → place_of key rest ≤ length rest → place_behind o (place_of key rest) ≤ suc (length rest)
    by Less h = omega arith
    by Equal h = omega arith
    by Greater h = omega arith

pub places-few : (all keys : List (List ℕ)) (flags : List Bool) (n : ℕ) → length all ≤ n → All (IsUpTo n) (places all keys flags)
places-few all [] flags n le = All-nil (IsUpTo n)
places-few all (key ∷ keys) [] n le = All-nil (IsUpTo n)
places-few all (key ∷ keys) (true ∷ flags) n le =
    let few = place_of-few key all in
    All-cons (IsUpTo n) (Some (place_of key all)) (places all keys flags) (omega (arith, few, le)) (places-few all keys flags n le)
places-few all (key ∷ keys) (false ∷ flags) n le = All-cons (IsUpTo n) None (places all keys flags) tt (places-few all keys flags n le)

chosen-append : (start : ℕ) (ps qs fs gs : List (Option ℕ)) → length fs ≡ length ps → chosen_all start (ps ++ qs) (fs ++ gs) ≡ chosen_all start ps fs ++ chosen_all start qs gs
chosen-append start [] qs [] gs e = refl
chosen-append start [] qs (f ∷ fs) gs e = absurd (omega arith)
chosen-append start (p ∷ ps) qs [] gs e = absurd (omega arith)
chosen-append start (p ∷ ps) qs (f ∷ fs) gs e = ap (λ l. chosen start p f ∷ l) (chosen-append start ps qs fs gs (omega arith))

pub chosen-more : (start : ℕ) (places found : List (Option ℕ)) (i : ℕ) → length found ≡ length places → i < length places
    → chosen_all start (take (i + 1) places) (take (i + 1) found) ≡ chosen_all start (take i places) (take i found) ++ chosen start (get_or places i None) (get_or found i None) ∷ []
chosen-more start places found i size lt =
    (λ k. chosen_all start (take_more places i None lt k) (take_more found i None (omega (arith, size, lt)) k))
    ∙ chosen-append start (take i places) (get_or places i None ∷ []) (take i found) (get_or found i None ∷ [])
    (length-take-le i found (omega (arith, size, lt)) ∙ sym (length-take-le i places (omega (arith, lt))))

pub chosen-pushed : (start : ℕ) (places found before entries new : List (Option ℕ)) (i : ℕ) (o : Option ℕ) → length found ≡ length places → i < length places → entries ≡ before ++ chosen_all start (take i places) (take i found)
    → get_or places i None ≡ o → new ≡ entries ++ chosen start o (get_or found i None) ∷ [] → new ≡ before ++ chosen_all start (take (i + 1) places) (take (i + 1) found)
chosen-pushed start places found before entries new i o size lt h at e =
    e ∙ (λ k. h k ++ chosen start (sym at k) (get_or found i None) ∷ [])
    ∙ append_assoc before (chosen_all start (take i places) (take i found)) (chosen start (get_or places i None) (get_or found i None) ∷ [])
    ∙ ap (λ l. before ++ l) (sym (chosen-more start places found i size lt))

-- ---- how many keys there are

module _ (job : JobValue) (column : ℕ) (wide : column < job.width) (stays : stay_of job ≤ length job.parts) where
  pub laid-size : length (laid_keys job column) ≡ length (staying_keys job column) + (length (rebuilt_keys job column (length job.parts)) + length (closed_keys job column))
  laid-size =
      ap (λ (l : List (List ℕ)). length l) (laid-parts job column wide stays)
      ∙ length-append (staying_keys job column) (rebuilt_keys job column (length job.parts) ++ closed_keys job column)
      ∙ ap (λ n. length (staying_keys job column) + n) (length-append (rebuilt_keys job column (length job.parts)) (closed_keys job column))

  pub main-size : length (end_to_end (get_or (dicts_behind (main_before job)) column [])) ≡ length (staying_keys job column) + length (rebuilt_keys job column (length job.parts))
  main-size = omega (arith, laid-size, length-append (end_to_end (get_or (dicts_behind (main_before job)) column [])) (closed_keys job column))

-- ---- how many keys there are

-- the dictionaries that stay and the closed stage's keys; of the keys that stay, of all in main, and of the closed stage there are so many
pub record AreCounted (job : JobValue) (column : ℕ) (chain : Chain) (keys : List (List ℕ)) (first total last : ℕ) : Type 0 where
  pub chain_is : chain ≡ staying_chain job column
  pub keys_are : keys ≡ closed_keys job column
  pub stay : first ≡ length (staying_keys job column)
  pub all : total ≡ length (staying_keys job column) + length (rebuilt_keys job column (length job.parts))
  pub others : total - first ≡ length (rebuilt_keys job column (length job.parts))
  pub closed : last ≡ length (closed_keys job column)
  pub laid : length (laid_keys job column) ≡ first + (total - first + last)

pub keys-counted : (job : JobValue) (column : ℕ) → column < job.width → stay_of job ≤ length job.parts → (chain : Chain) (main : MainValue) (keys : List (List ℕ)) (first total last : ℕ) → chain ≡ staying_chain job column → main ≡ main_before job → keys ≡ closed_keys job column
    → first ≡ length (end_to_end chain) → total ≡ length (end_to_end (get_or (dicts_behind main) column [])) → last ≡ length keys → AreCounted job column chain keys first total last
keys-counted job column wide stays chain main keys first total last chain_is main_is keys_are first_is total_is last_is =
    let stay : first ≡ length (staying_keys job column) = first_is ∙ ap (λ (l : Chain). length (end_to_end l)) chain_is in
    let all : total ≡ length (staying_keys job column) + length (rebuilt_keys job column (length job.parts)) = total_is ∙ ap (λ (m : MainValue). length (end_to_end (get_or (dicts_behind m) column []))) main_is ∙ main-size job column wide stays in
    let closed : last ≡ length (closed_keys job column) = last_is ∙ ap (λ (l : List (List ℕ)). length l) keys_are in
    record {
      chain_is = chain_is;
      keys_are = keys_are;
      stay = stay;
      all = all;
      others = omega (arith, stay, all);
      closed = closed;
      laid = omega (arith, laid-size job column wide stays, stay, all, closed);
    }

-- ---- marks

-- marks of the rebuilt dictionaries' keys and of the closed stage's, for those codes that stand in a list
pub record AreMarks (job : JobValue) (column : ℕ) (codes : List ℕ) (parts closed : List Bool) : Type 0 where
  pub parts_count : length parts ≡ length (rebuilt_keys job column (length job.parts))
  pub closed_count : length closed ≡ length (closed_keys job column)
  pub marked : (i : ℕ) → i < length (rebuilt_keys job column (length job.parts)) + length (closed_keys job column) → get_or (parts ++ closed) i false ≡ list_any (nat_eq (length (staying_keys job column) + i)) codes

pub marks-are : (job : JobValue) (column : ℕ) (codes : List ℕ) (marks parts closed : List Bool) (first others more : ℕ) → first ≡ length (staying_keys job column) → others ≡ length (rebuilt_keys job column (length job.parts)) → more ≡ length (closed_keys job column)
    → length marks ≡ others + more → ((i : ℕ) → i < others + more → get_or marks i false ≡ list_any (nat_eq (first + i)) codes) → marks ≡ parts ++ closed → length parts ≡ others → AreMarks job column codes parts closed
marks-are job column codes marks parts closed first others more at_first at_others at_more count each both front = record {
  parts_count = front ∙ at_others;
  closed_count = omega (arith, count, ap (λ (l : List Bool). length l) both, length-append parts closed, front, at_more);
  marked = λ i lt. ap (λ (l : List Bool). get_or l i false) (sym both) ∙ each i (omega (arith, lt, at_others, at_more)) ∙ ap (λ n. list_any (nat_eq (n + i)) codes) at_first;
}

-- ---- codes that are led on

any-at : (codes : List ℕ) (i : ℕ) → i < length codes → list_any (nat_eq (get_or codes i 0)) codes ≡ true
any-at [] i lt = absurd (omega arith)
any-at (c ∷ codes) zero lt = by (nat_eq c c) (eq-eqb c c refl)
  where
    by : (b : Bool) → b ≡ true → (b || list_any (nat_eq c) codes) ≡ true
    by true e = refl
    by false e = absurd (true≢false (sym e))
any-at (c ∷ codes) (suc i) lt = by (nat_eq (get_or codes i 0) c) (any-at codes i (omega arith))
  where
    by : (b : Bool) → list_any (nat_eq (get_or codes i 0)) codes ≡ true → (b || list_any (nat_eq (get_or codes i 0)) codes) ≡ true
    by true e = refl
    by false e = e

module _ (job : JobValue) (column : ℕ) (codes : List ℕ) (keys : List (List ℕ)) (entries : List (Option ℕ)) (h : IsRecoding job column codes keys entries) where
  abbrev all : List (Option ℕ)
  all = with_staying (length (staying_keys job column)) entries

  pub have-entries : (reach : ℕ) → reach ≡ length (staying_keys job column) + length keys → HaveEntries (with_staying (length (staying_keys job column)) entries) reach codes
  have-entries reach e i lt =
      let c = get_or codes i 0 in
      let r = h.leads c (any-at codes i lt) in
      (inside c r.0 r.1, subst (IsBelow reach) (sym r.1) (omega (arith, r.2, e, length-append (staying_keys job column) keys)))
    where
      inside : (c d : ℕ) → get_or all c None ≡ Some d → c < length all
      inside c d at = by (ltb c (length all)) refl
        where
          none : None ≡ Some d → ⊥
          none q = cc

          by : (b : Bool) → ltb c (length all) ≡ b → c < length all
          by true q = ltb-true c (length all) q
          by false q = absurd (none (sym (get_or_past all c None (ltb-false c (length all) q)) ∙ at))

  -- so the rows have the same cells, and the keys are their own dictionary
  pub recoded-column : (rows : List KeyRow) (new : List ℕ) → AreCoded (laid_keys job column) (cells_at column rows) codes → new ≡ recoded (with_staying (length (staying_keys job column)) entries) codes → AllBelow (length (staying_keys job column) + length keys) new → IsColumn job column rows keys new
  recoded-column rows new coded are low = record {
    own = h.own ∙ ap (own_dict (staying_keys job column)) coded.cells_are;
    coded = record {
      below = subst (λ n. AllBelow n new) (sym (length-append (staying_keys job column) keys)) low;
      cells_are =
          ap (cells_of (staying_keys job column ++ keys)) are
          ∙ recoded-is (laid_keys job column) (staying_keys job column ++ keys) all codes (λ c at. let r = h.leads c at in (r.0, r.1, r.3))
          ∙ coded.cells_are;
    };
  }

-- ---- the recoding

module _ (job : JobValue) (column : ℕ) (wide : column < job.width) (stays : stay_of job ≤ length job.parts) (is : IsJob job) (codes : List ℕ) (used_parts used_closed new : List Bool) (keys : List (List ℕ)) (from_parts from_closed found entries : List (Option ℕ))
    (size_parts : length used_parts ≡ length (rebuilt_keys job column (length job.parts))) (size_closed : length used_closed ≡ length (closed_keys job column)) (size_found : length found ≡ length (closed_keys job column))
    (marked : (i : ℕ) → i < length (rebuilt_keys job column (length job.parts)) + length (closed_keys job column) → get_or (used_parts ++ used_closed) i false ≡ list_any (nat_eq (length (staying_keys job column) + i)) codes)
    (below : AllBelow (length (laid_keys job column)) codes) (is_found : AreFound (staying_keys job column) (closed_keys job column) used_closed found) (new_is : new ≡ new_flags (staying_keys job column) (closed_keys job column) used_closed)
    (h : IsUnited (rebuilt_keys job column (length job.parts)) used_parts (closed_keys job column) new keys from_parts from_closed)
    (are : entries ≡ entries_of (length (staying_keys job column)) from_parts from_closed found) where
  abbrev stay : List (List ℕ)
  stay = staying_keys job column

  abbrev parts : List (List ℕ)
  parts = rebuilt_keys job column (length job.parts)

  abbrev closed : List (List ℕ)
  closed = closed_keys job column

  same : IsUnited (rebuilt_keys job column (length job.parts)) used_parts (closed_keys job column) (new_flags (staying_keys job column) (closed_keys job column) used_closed) keys from_parts from_closed
  same = subst (λ (fs : List Bool). IsUnited parts used_parts closed fs keys from_parts from_closed) new_is h

  laid : laid_keys job column ≡ stay ++ (parts ++ closed)
  laid = laid-parts job column wide stays

  low : AllBelow (length (staying_keys job column) + (length (rebuilt_keys job column (length job.parts)) + length (closed_keys job column))) codes
  low =
      subst (λ n. AllBelow n codes) (ap (λ (l : List (List ℕ)). length l) laid ∙ length-append stay (parts ++ closed) ∙ ap (λ n. length stay + n) (length-append parts closed)) below

  pub recoding-is : IsRecoding job column codes keys entries
  recoding-is = record {
    own =
        united-own stay parts closed codes used_parts used_closed keys from_parts from_closed found same size_parts size_closed size_found marked low (parts-distinct job column wide stays) is_found
        ∙ ap (λ (l : List (List ℕ)). own_dict stay (cells_of l codes)) (sym laid);
    few = let all = keys-few job column wide stays is in let more = h.few in omega (arith, all, more);
    leads = λ c at.
        let r = united-leads stay parts closed codes used_parts used_closed keys from_parts from_closed found same size_parts size_closed size_found marked low (parts-distinct job column wide stays) is_found c at in
        (r.0, ap (λ (l : List (Option ℕ)). get_or (with_staying (length stay) l) c None) are ∙ r.1, omega (arith, r.2, length-append stay keys), r.3 ∙ ap (λ (l : List (List ℕ)). get_or l c []) (sym laid));
  }
