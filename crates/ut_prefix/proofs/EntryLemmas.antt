-- Reading keys one by one: a key that may follow another, and what all of them spell.
use Rattle.std.proofs.Common.{◌≡◌, ◌≢◌, ℕ, ℤ, pos, ◌+ℤ◌, zero, suc, ◌+◌, ◌-◌, ◌*◌, ◌/◌, ◌%◌, ◌<◌, ◌≤◌, nat_eq, true, false, if◌then◌else◌, List, [], ◌∷◌, ◌++◌, append_assoc, append-nil, length, length-append, take, drop, get_or, refl, sym, ◌∙◌, ap, subst, arith, inl, inr}
use Rattle.std.specs.declared.cmp.Ordering.TheVariants.{Less, Equal, Greater}
use Rattle.std.specs.Ordering.{nat_cmp, ordering_then}
use Rattle.std.specs.Cmp.Lexicographic.{slice_cmp}
use Rattle.std.proofs.lemmas.Cmp.{nat_cmp_total, nat_list_cmp_total, tied_itself, ranked, by_ranked}
use Rattle.std.proofs.lemmas.Bool.{cases_lt}
use Rattle.std.proofs.lemmas.List.{length-drop, length-take-le, take-append-drop, drop-append-le, take-append-le, get_or_append_left, get_or-append-add}
use Rattle.std.proofs.lemmas.List.Elements.{All-push, All-nil}
use Rattle.std.proofs.Math.Seq.{take-append_seam, drop-append_seam, drop-cons}
use borrow.Author.Tests.{eqb-true, eq-eqb}
use Rattle.ut_key.specs.Keys.{key_cmp, IsAscending, AreShort}
use Rattle.ut_prefix.specs.Spelling.{IsDictionary, shared, key_bytes, rest_bytes, block_bytes, blocks_bytes}
use Rattle.ut_prefix.specs.Reading.{next_key, after_key, entry, entries, IsEntry, starts_of, CanFollow, IsRead}
use Rattle.ut_prefix.specs.Totals.{key_number, IsTotal, IsWithin}
use Rattle.ut_prefix.proofs.OrderLemmas.{either}
use Rattle.ut_prefix.proofs.LayoutLemmas.{IsShort}
use Rattle.ut_prefix.proofs.SpellingLemmas.{shared_le, next_key-key_bytes, after_key-key_bytes}
use Rattle.ut_prefix.proofs.TotalLemmas.{IsTotal-none, IsTotal-more}

unequal : (x y : ℕ) → x < y → nat_eq x y ≡ false
unequal x y lt = either (nat_eq x y) (λ yes. let e = eqb-true x y yes in absurd (omega (arith, e, lt))) (λ other. other)

below : (x y : ℕ) → x < y → nat_cmp x y ≡ Less
below x y lt =
    by_ranked (x < y) (x ≡ y) (y < x) (nat_cmp x y) (ranked x y (nat_cmp x y) refl) (λ e _. e) (λ _ e. absurd (omega (arith, e, lt))) (λ _ gt. absurd (omega (arith, gt, lt)))

-- a key of the first bytes of another and of bytes of its own shares no more, and is above it
pub shared-cut : (s : ℕ) (before own : List ℕ) → s ≤ length before → 0 < length own → (s < length before → get_or before s 0 < get_or own 0 0)
    → (shared before (take s before ++ own) ≡ s) × (key_cmp before (take s before ++ own) ≡ Less)
shared-cut s before [] le some up = absurd (omega (arith, some))
shared-cut zero [] (o ∷ os) le some up = (refl, refl)
shared-cut zero (x ∷ xs) (o ∷ os) le some up =
    let lt : x < o = up (omega arith) in
    (rw (unequal x o lt) refl, rw (below x o lt) refl)
shared-cut (suc s) [] (o ∷ os) le some up = absurd (omega (arith, le))
shared-cut (suc s) (x ∷ xs) (o ∷ os) le some up =
    let rest = shared-cut s xs (o ∷ os) (omega (arith, le)) some (λ lt. up (omega (arith, lt))) in
    (rw (eq-eqb x x refl) (ap suc rest.0), rw (tied_itself nat_cmp_total x) rest.1)

-- where a key is above another it goes on behind what they share, by a greater byte
pub above_differs : (before key : List ℕ) → key_cmp before key ≡ Less
    → (shared before key < length key) × (shared before key < length before → get_or before (shared before key) 0 < get_or key (shared before key) 0)
above_differs [] [] h = absurd (equal_less h)
  where
    equal_less : Equal ≡ Less → ⊥
    equal_less e = cc
above_differs [] (y ∷ ys) h = (omega arith, λ lt. absurd (omega (arith, lt)))
above_differs (x ∷ xs) [] h = absurd (greater_less h)
  where
    greater_less : Greater ≡ Less → ⊥
    greater_less e = cc
above_differs (x ∷ xs) (y ∷ ys) h =
    by_ranked (x < y) (x ≡ y) (y < x) (nat_cmp x y) (ranked x y (nat_cmp x y) refl)
    (λ _ lt. rw (unequal x y lt) (omega arith, λ _. lt))
    (λ e same.
    let rest = above_differs xs ys (ap (λ o. ordering_then o (slice_cmp nat_cmp xs ys)) (sym e) ∙ h) in
    rw (eq-eqb x y same) (omega (arith, rest.0), λ lt. rest.1 (omega (arith, lt))))
    (λ e _. absurd (greater_less (ap (λ o. ordering_then o (slice_cmp nat_cmp xs ys)) (sym e) ∙ h)))
  where
    greater_less : Greater ≡ Less → ⊥
    greater_less e = cc

-- a key behind another in a block is no first one
pub entry-next : (i : ℕ) (before key : List ℕ) → i % 16 ≢ 0 → entry i before key ≡ key_bytes before key
entry-next i before key h =
    either (nat_eq (i % 16) 0) (λ yes. absurd (h (eqb-true (i % 16) 0 yes))) (λ other. rw other refl)

pub entry-first : (i : ℕ) (before key : List ℕ) → i % 16 ≡ 0 → entry i before key ≡ length key ∷ key
entry-first i before key h = rw (eq-eqb (i % 16) 0 h) refl

not_first : (i : ℕ) → i % 16 ≢ 0 → i ≢ 0
not_first i h e = h (omega (arith, e))

-- what a key behind another spells passes the test
pub CanFollow-key_bytes : (before key rest : List ℕ) → length key ≤ 255 → key_cmp before key ≡ Less
    → CanFollow before (shared before key) (take (length key - shared before key) (drop (shared before key) key ++ rest))
CanFollow-key_bytes before key rest short less =
    let le = shared_le before key in
    let differs = above_differs before key less in
    let size : length (drop (shared before key) key) ≡ length key - shared before key = length-drop (shared before key) key in
    let own : take (length key - shared before key) (drop (shared before key) key ++ rest) ≡ drop (shared before key) key =
    ap (λ (k : ℕ). take k (drop (shared before key) key ++ rest)) (sym size) ∙ take-append_seam (drop (shared before key) key) rest in
    subst (λ (l : List ℕ). CanFollow before (shared before key) l) (sym own) (record {
      some = omega (arith, size, differs.0);
      within = le.0;
      short = omega (arith, size, le.1, short);
      above = λ lt. subst (λ (k : ℕ). get_or before (shared before key) 0 < k) (here (shared before key) key differs.0) (differs.1 lt);
    })
  where
    here : (s : ℕ) (key : List ℕ) → s < length key → get_or key s 0 ≡ get_or (drop s key) 0 0
    here s key lt = ap (λ (l : List ℕ). get_or l 0 0) (sym (drop-cons key s 0 lt))

-- a next key that is spelled passes the test
pub CanFollow-entry : (i : ℕ) (before key bytes rest own : List ℕ) (count : ℕ) → i % 16 ≢ 0 → IsEntry i before key bytes rest → count ≡ get_or bytes 0 0 → own ≡ take (get_or bytes 1 0) (drop 2 bytes)
    → CanFollow before count own
CanFollow-entry i before key bytes rest own count h e c o =
    let is : bytes ≡ key_bytes before key ++ rest = e.spelled ∙ ap (λ (l : List ℕ). l ++ rest) (entry-next i before key h) in
    let can = CanFollow-key_bytes before key rest e.short (e.above (not_first i h)) in
    let count_is : count ≡ shared before key = c ∙ ap (λ (l : List ℕ). get_or l 0 0) is in
    let own_is : own ≡ take (length key - shared before key) (drop (shared before key) key ++ rest) = o ∙ ap (λ (l : List ℕ). take (get_or l 1 0) (drop 2 l)) is in
    subst (λ (k : ℕ). CanFollow before k own) (sym count_is) (subst (λ (l : List ℕ). CanFollow before (shared before key) l) (sym own_is) can)

-- bytes are the first, the second, so many more, and the rest
parts : (bytes : List ℕ) (count : ℕ) → 2 ≤ length bytes → bytes ≡ get_or bytes 0 0 ∷ get_or bytes 1 0 ∷ (take count (drop 2 bytes) ++ drop (2 + count) bytes)
parts [] count le = absurd (omega (arith, le))
parts (x ∷ []) count le = absurd (omega (arith, le))
parts (x ∷ y ∷ bytes) count le =
    let e : 2 + count ≡ suc (suc count) = omega arith in
    ap (λ (l : List ℕ). x ∷ y ∷ l) (sym (take-append-drop count bytes) ∙ ap (λ (k : ℕ). take count bytes ++ drop k (x ∷ y ∷ bytes)) (sym e))

-- what passes the test is a next key
pub IsEntry-next : (i : ℕ) (before key bytes rest own : List ℕ) (count size : ℕ) → i % 16 ≢ 0 → CanFollow before count own → count ≡ get_or bytes 0 0 → size ≡ get_or bytes 1 0
    → own ≡ take size (drop 2 bytes) → 2 + size ≤ length bytes → key ≡ take count before ++ own → rest ≡ drop (2 + size) bytes → IsEntry i before key bytes rest
IsEntry-next i before key bytes rest own count size h can c s o le k r =
    let cut = shared-cut count before own can.within can.some can.above in
    let front : length (take count before) ≡ count = length-take-le count before can.within in
    let long : length key ≡ count + length own = ap (λ (l : List ℕ). length l) k ∙ length-append (take count before) own ∙ ap (λ (n : ℕ). n + length own) front in
    let own_size : length own ≡ size = ap (λ (l : List ℕ). length l) o ∙ length-take-le size (drop 2 bytes) (omega (arith, le, length-drop 2 bytes)) in
    let sharing : shared before key ≡ count = ap (λ (l : List ℕ). shared before l) k ∙ cut.0 in
    let left : length key - shared before key ≡ size = omega (arith, sharing, long, own_size) in
    let behind : drop (shared before key) key ≡ own =
    ap (λ (n : ℕ). drop n key) sharing ∙ ap (λ (l : List ℕ). drop count l) k ∙ ap (λ (n : ℕ). drop n (take count before ++ own)) (sym front) ∙ drop-append_seam (take count before) own in
    let spelled : key_bytes before key ≡ count ∷ size ∷ own =
    ap (λ (n : ℕ). n ∷ (length key - shared before key) ∷ drop (shared before key) key) sharing ∙ ap (λ (n : ℕ). count ∷ n ∷ drop (shared before key) key) left ∙ ap (λ (l : List ℕ). count ∷ size ∷ l) behind in
    record {
      short = omega (arith, long, can.short);
      above = λ _. ap (λ (l : List ℕ). key_cmp before l) k ∙ cut.1;
      spelled =
          parts bytes size (omega (arith, le)) ∙ ap (λ (n : ℕ). n ∷ get_or bytes 1 0 ∷ (take size (drop 2 bytes) ++ drop (2 + size) bytes)) (sym c)
          ∙ ap (λ (n : ℕ). count ∷ n ∷ (take size (drop 2 bytes) ++ drop (2 + size) bytes)) (sym s) ∙ ap (λ (l : List ℕ). count ∷ size ∷ (l ++ drop (2 + size) bytes)) (sym o)
          ∙ ap (λ (l : List ℕ). count ∷ size ∷ (own ++ l)) (sym r) ∙ ap (λ (l : List ℕ). l ++ rest) (sym (entry-next i before key h ∙ spelled));
    }

-- a block's first bytes don't depend on the key before it
entries-start : (i : ℕ) (before other : List ℕ) (keys : List (List ℕ)) → i % 16 ≡ 0 → entries i before keys ≡ entries i other keys
entries-start i before other [] h = refl
entries-start i before other (key ∷ keys) h = ap (λ (l : List ℕ). l ++ entries (suc i) key keys) (entry-first i before key h ∙ sym (entry-first i other key h))

-- the keys up to the end of a block, and those of the blocks behind it
entries-inside : (r i : ℕ) (before : List ℕ) (keys : List (List ℕ)) → r < 16 → (i + r) % 16 ≡ 0 → entries i before keys ≡ rest_bytes before (take r keys) ++ entries (i + r) [] (drop r keys)
entries-inside zero i before keys lt h =
    let e : i + 0 ≡ i = omega arith in entries-start i before [] keys (omega (arith, h)) ∙ ap (λ (k : ℕ). entries k [] keys) (sym e)
entries-inside (suc r) i before [] lt h = refl
entries-inside (suc r) i before (key ∷ keys) lt h =
    let e : suc i + r ≡ i + suc r = omega arith in
    let inside : i % 16 ≢ 0 = λ first. absurd (omega (arith, h, first, lt)) in
    ap (λ (l : List ℕ). l ++ entries (suc i) key keys) (entry-next i before key inside)
    ∙ ap (λ (l : List ℕ). key_bytes before key ++ l) (entries-inside r (suc i) key keys (omega (arith, lt)) (omega (arith, h)) ∙ ap (λ (k : ℕ). rest_bytes key (take r keys) ++ entries k [] (drop r keys)) e)
    ∙ sym (append_assoc (key_bytes before key) (rest_bytes key (take r keys)) (entries (i + suc r) [] (drop r keys)))

-- all keys, one by one or in blocks, are spelled alike
pub entries-blocks : (m i : ℕ) (before : List ℕ) (keys : List (List ℕ)) → i % 16 ≡ 0 → m ≡ (length keys + 15) / 16 → entries i before keys ≡ blocks_bytes m keys
entries-blocks zero i before [] h e = refl
entries-blocks zero i before (key ∷ keys) h e = absurd (omega (arith, e))
entries-blocks (suc m) i before [] h e = absurd (omega (arith, e))
entries-blocks (suc m) i before (key ∷ keys) h e =
    let next : (suc i + 15) % 16 ≡ 0 = omega (arith, h) in
    let left : m ≡ (length (drop 15 keys) + 15) / 16 = omega (arith, e, length-drop 15 keys) in
    let rest = entries-blocks m (suc i + 15) [] (drop 15 keys) next left in
    ap (λ (l : List ℕ). l ++ entries (suc i) key keys) (entry-first i before key h)
    ∙ ap (λ (l : List ℕ). length key ∷ (key ++ l)) (entries-inside 15 (suc i) key keys (omega arith) next ∙ ap (λ (l : List ℕ). rest_bytes key (take 15 keys) ++ l) rest)
    ∙ ap (λ (l : List ℕ). length key ∷ l) (sym (append_assoc key (rest_bytes key (take 15 keys)) (blocks_bytes m (drop 15 keys))))

-- one more key at the end
entries-push : (i : ℕ) (before : List ℕ) (keys : List (List ℕ)) (key : List ℕ) → entries i before (keys ++ key ∷ []) ≡ entries i before keys ++ entry (i + length keys) (get_or (before ∷ keys) (length keys) []) key
entries-push i before [] key =
    let e : i + 0 ≡ i = omega arith in
    append-nil (entry i before key) ∙ ap (λ (k : ℕ). entry k before key) (sym e)
entries-push i before (first ∷ keys) key =
    let e : suc i + length keys ≡ i + suc (length keys) = omega arith in
    ap (λ (l : List ℕ). entry i before first ++ l) (entries-push (suc i) first keys key ∙ ap (λ (k : ℕ). entries (suc i) first keys ++ entry k (get_or (first ∷ keys) (length keys) []) key) e)
    ∙ sym (append_assoc (entry i before first) (entries (suc i) first keys) (entry (i + suc (length keys)) (get_or (first ∷ keys) (length keys) []) key))

-- a key above the last of ascending keys may stand behind them
IsAscending-push : (keys : List (List ℕ)) (key : List ℕ) → IsAscending keys → (length keys ≢ 0 → key_cmp (get_or ([] ∷ keys) (length keys) []) key ≡ Less) → IsAscending (keys ++ key ∷ [])
IsAscending-push keys key up above i j lt within =
    let size : length (keys ++ key ∷ []) ≡ length keys + 1 = length-append keys (key ∷ []) in
    let first : get_or (keys ++ key ∷ []) i [] ≡ get_or keys i [] = get_or_append_left keys (key ∷ []) [] i (omega (arith, lt, within, size)) in
    elim (cases_lt j (length keys)) [
      | inl before ↦ ap (λ (l : List ℕ). key_cmp l (get_or (keys ++ key ∷ []) j [])) first ∙ ap (λ (l : List ℕ). key_cmp (get_or keys i []) l) (get_or_append_left keys (key ∷ []) [] j before) ∙ up i j lt before
      | inr last ↦
          let at : j ≡ length keys + 0 = omega (arith, within, size, last) in
          let second : get_or (keys ++ key ∷ []) j [] ≡ key = ap (λ (k : ℕ). get_or (keys ++ key ∷ []) k []) at ∙ get_or-append-add keys (key ∷ []) 0 [] in
          let less = above (omega (arith, lt, at)) in
          ap (λ (l : List ℕ). key_cmp l (get_or (keys ++ key ∷ []) j [])) first ∙ ap (λ (l : List ℕ). key_cmp (get_or keys i []) l) second
          ∙ last_less keys i key up (omega (arith, lt, at)) less
    ]
  where
    last_less : (keys : List (List ℕ)) (i : ℕ) (key : List ℕ) → IsAscending keys → i < length keys → key_cmp (get_or ([] ∷ keys) (length keys) []) key ≡ Less → key_cmp (get_or keys i []) key ≡ Less
    last_less keys i key up lt less =
        let here : length keys ≡ suc (length keys - 1) = omega (arith, lt) in
        let last : get_or ([] ∷ keys) (length keys) [] ≡ get_or keys (length keys - 1) [] = ap (λ (k : ℕ). get_or ([] ∷ keys) k []) here in
        let end : key_cmp (get_or keys (length keys - 1) []) key ≡ Less = ap (λ (l : List ℕ). key_cmp l key) (sym last) ∙ less in
        elim (cases_lt i (length keys - 1)) [
          | inl far ↦ nat_list_cmp_total.trans (get_or keys i []) (get_or keys (length keys - 1) []) key (up i (length keys - 1) far (omega (arith, lt))) end
          | inr near ↦ let e : i ≡ length keys - 1 = omega (arith, near, lt) in ap (λ (k : ℕ). key_cmp (get_or keys k []) key) e ∙ end
        ]

-- keys behind those of the last block that starts don't move a start
starts_of-front : (m at : ℕ) (keys more : List (List ℕ)) → 16 * m ≤ length keys → starts_of (suc m) at (keys ++ more) ≡ starts_of (suc m) at keys
starts_of-front zero at keys more le = refl
starts_of-front (suc m) at keys more le =
    let front : take 16 (keys ++ more) ≡ take 16 keys = take-append-le 16 keys more (omega (arith, le)) in
    let rest : drop 16 (keys ++ more) ≡ drop 16 keys ++ more = drop-append-le 16 keys more (omega (arith, le)) in
    ap (λ l. at ∷ starts_of (suc m) (at + length (block_bytes l)) (drop 16 (keys ++ more))) front
    ∙ ap (λ l. at ∷ starts_of (suc m) (at + length (block_bytes (take 16 keys))) l) rest
    ∙ ap (λ l. at ∷ l) (starts_of-front m (at + length (block_bytes (take 16 keys))) (drop 16 keys) more (omega (arith, le, length-drop 16 keys)))

-- where the next block starts
starts_of-next : (m at : ℕ) (keys : List (List ℕ)) → starts_of (suc m) at keys ≡ starts_of m at keys ++ (at + length (blocks_bytes m keys)) ∷ []
starts_of-next zero at keys = let e : at ≡ at + 0 = omega arith in ap (λ (n : ℕ). n ∷ []) e
starts_of-next (suc m) at keys =
    let here = at + length (block_bytes (take 16 keys)) in
    let e : here + length (blocks_bytes m (drop 16 keys)) ≡ at + length (block_bytes (take 16 keys) ++ blocks_bytes m (drop 16 keys)) = omega (arith, length-append (block_bytes (take 16 keys)) (blocks_bytes m (drop 16 keys))) in
    ap (λ l. at ∷ l) (starts_of-next m here (drop 16 keys) ∙ ap (λ (n : ℕ). starts_of m here (drop 16 keys) ++ n ∷ []) e)

-- the starts with one more key
pub starts_of-push : (i : ℕ) (keys : List (List ℕ)) (key : List ℕ) (at : ℕ) (starts new : List ℕ) → length keys ≡ i → at ≡ length (entries 0 [] keys) → starts ≡ starts_of ((i + 15) / 16) 0 keys
    → new ≡ (if nat_eq (i % 16) 0 then starts ++ at ∷ [] else starts) → new ≡ starts_of ((i + 1 + 15) / 16) 0 (keys ++ key ∷ [])
starts_of-push i keys key at starts new size is s n =
    either (nat_eq (i % 16) 0)
    (λ yes.
    let zero_rest = eqb-true (i % 16) 0 yes in
    let m : (i + 15) / 16 ≡ i / 16 = omega (arith, zero_rest) in
    let next : (i + 1 + 15) / 16 ≡ suc (i / 16) = omega (arith, zero_rest) in
    let blocks : entries 0 [] keys ≡ blocks_bytes (i / 16) keys = entries-blocks (i / 16) 0 [] keys refl (omega (arith, zero_rest, size)) in
    let here : at ≡ 0 + length (blocks_bytes (i / 16) keys) = is ∙ ap (λ (l : List ℕ). length l) blocks ∙ omega arith in
    n ∙ pick yes ∙ ap (λ (l : List ℕ). l ++ at ∷ []) (s ∙ ap (λ (k : ℕ). starts_of k 0 keys) m)
    ∙ ap (λ (k : ℕ). starts_of (i / 16) 0 keys ++ k ∷ []) here
    ∙ sym (starts_of-next (i / 16) 0 keys) ∙ sym (starts_of-front (i / 16) 0 keys (key ∷ []) (omega (arith, size)))
    ∙ ap (λ (k : ℕ). starts_of k 0 (keys ++ key ∷ [])) (sym next))
    (λ other.
    let some : i % 16 ≢ 0 = λ e. cc_false (sym (eq-eqb (i % 16) 0 e) ∙ other) in
    let m : (i + 15) / 16 ≡ suc (i / 16) = omega (arith, some) in
    let next : (i + 1 + 15) / 16 ≡ suc (i / 16) = omega (arith, some) in
    n ∙ pick_not other ∙ s ∙ ap (λ (k : ℕ). starts_of k 0 keys) m
    ∙ sym (starts_of-front (i / 16) 0 keys (key ∷ []) (omega (arith, size)))
    ∙ ap (λ (k : ℕ). starts_of k 0 (keys ++ key ∷ [])) (sym next))
  where
    cc_false : true ≡ false → ⊥
    cc_false e = cc

    pick : nat_eq (i % 16) 0 ≡ true → (if nat_eq (i % 16) 0 then starts ++ at ∷ [] else starts) ≡ starts ++ at ∷ []
    pick first = rw first refl

    pick_not : nat_eq (i % 16) 0 ≡ false → (if nat_eq (i % 16) 0 then starts ++ at ∷ [] else starts) ≡ starts
    pick_not other = rw other refl

-- what was read before key i: keys that may stand in a dictionary
pub record IsReading (i : ℕ) (bytes key rest starts : List ℕ) (total : ℤ) : Type 0 where
  pub keys : List (List ℕ)
  pub count : length keys ≡ i
  pub last : key ≡ get_or ([] ∷ keys) i []
  pub ascending : IsAscending keys
  pub short : AreShort keys
  pub spelled : bytes ≡ entries 0 [] keys ++ rest
  pub begins : starts ≡ starts_of ((i + 15) / 16) 0 keys
  pub sum : IsTotal keys total

pub IsReading-none : (bytes : List ℕ) → IsReading 0 bytes [] bytes [] (pos 0)
IsReading-none bytes = record {
  keys = [];
  count = refl;
  last = refl;
  ascending = λ i j lt within. absurd (omega (arith, within));
  short = All-nil IsShort;
  spelled = refl;
  begins = refl;
  sum = IsTotal-none;
}

-- where the next key begins
pub length-read : (i : ℕ) (bytes key rest starts : List ℕ) (total : ℤ) (h : IsReading i bytes key rest starts total) → length bytes ≡ length (entries 0 [] h.keys) + length rest
length-read i bytes key rest starts total h = ap (λ (l : List ℕ). length l) h.spelled ∙ length-append (entries 0 [] h.keys) rest

pub IsReading-more : (i : ℕ) (bytes key rest starts next later new : List ℕ) (at : ℕ) (total number more : ℤ) → IsReading i bytes key rest starts total → IsEntry i key next rest later → at + length rest ≡ length bytes
    → new ≡ (if nat_eq (i % 16) 0 then starts ++ at ∷ [] else starts) → number ≡ key_number next → IsWithin 9223372036854775808 1 number → more ≡ total +ℤ number → IsReading (i + 1) bytes next later new more
IsReading-more i bytes key rest starts next later new at total number more h e a n is size_of sum =
    let size : length (h.keys ++ next ∷ []) ≡ length h.keys + 1 = length-append h.keys (next ∷ []) in
    let here : get_or ([] ∷ h.keys) (length h.keys) [] ≡ key = ap (λ (k : ℕ). get_or ([] ∷ h.keys) k []) h.count ∙ sym h.last in
    let at_next : i + 1 ≡ suc (length h.keys + 0) = omega (arith, h.count) in
    record {
      keys = h.keys ++ next ∷ [];
      count = omega (arith, size, h.count);
      last = sym (ap (λ (k : ℕ). get_or ([] ∷ (h.keys ++ next ∷ [])) k []) at_next ∙ get_or-append-add h.keys (next ∷ []) 0 []);
      ascending = IsAscending-push h.keys next h.ascending (λ some. ap (λ (l : List ℕ). key_cmp l next) here ∙ e.above (λ zero_i. some (omega (arith, h.count, zero_i))));
      short = All-push IsShort h.keys next h.short e.short;
      spelled =
          h.spelled ∙ ap (λ (l : List ℕ). entries 0 [] h.keys ++ l) (e.spelled ∙ ap (λ (l : List ℕ). entry i l next ++ later) (sym here) ∙ ap (λ (k : ℕ). entry k (get_or ([] ∷ h.keys) (length h.keys) []) next ++ later) (count_is h))
          ∙ sym (append_assoc (entries 0 [] h.keys) (entry (0 + length h.keys) (get_or ([] ∷ h.keys) (length h.keys) []) next) later) ∙ ap (λ (l : List ℕ). l ++ later) (sym (entries-push 0 [] h.keys next));
      begins = starts_of-push i h.keys next at starts new h.count (omega (arith, a, length-read i bytes key rest starts total h)) h.begins n;
      sum = IsTotal-more h.keys next total number more h.sum is size_of sum;
    }
  where
    count_is : (h : IsReading i bytes key rest starts total) → i ≡ 0 + length h.keys
    count_is h = omega (arith, h.count)

-- all keys were read
pub IsRead-all : (n : ℕ) (bytes key rest starts : List ℕ) (taken : ℕ) (total : ℤ) → (h : IsReading n bytes key rest starts total) → taken + length rest ≡ length bytes → IsRead n bytes starts taken total h.keys
IsRead-all n bytes key rest starts taken total h t =
    let size : taken ≡ length (entries 0 [] h.keys) = omega (arith, t, length-read n bytes key rest starts total h) in
    record {
      count = h.count;
      ascending = h.ascending;
      short = h.short;
      within = omega (arith, t);
      spelled = ap (λ (k : ℕ). take k bytes) size ∙ ap (λ (l : List ℕ). take (length (entries 0 [] h.keys)) l) h.spelled ∙ take-append_seam (entries 0 [] h.keys) rest;
      begins = h.begins;
      sum = h.sum;
    }

-- whatever dictionary of n keys the bytes spell: it agrees with what was read
abbrev pub AgreesWith : (n i : ℕ) (bytes key rest : List ℕ) → Type 0
AgreesWith n i bytes key rest =
    (all : List (List ℕ)) (more : List ℕ) → IsDictionary all → length all ≡ n → bytes ≡ entries 0 [] all ++ more
    → (rest ≡ entries i key (drop i all) ++ more) × (key ≡ get_or ([] ∷ all) i [])

entries-from : (i : ℕ) (before : List ℕ) (all : List (List ℕ)) → i < length all → entries i before (drop i all) ≡ entry i before (get_or all i []) ++ entries (suc i) (get_or all i []) (drop (suc i) all)
entries-from i before all lt = ap (λ (l : List (List ℕ)). entries i before l) (drop-cons all i [] lt)

-- the next key of such a dictionary
pub next_of : (n i : ℕ) (bytes key rest : List ℕ) (all : List (List ℕ)) (more : List ℕ) → AgreesWith n i bytes key rest → i < n → IsDictionary all → length all ≡ n → bytes ≡ entries 0 [] all ++ more
    → IsEntry i key (get_or all i []) rest (entries (suc i) (get_or all i []) (drop (suc i) all) ++ more)
next_of n i bytes key rest all more h lt good size is =
    let agrees = h all more good size is in
    record {
      short = good.short i [] (omega (arith, lt, size));
      above = λ some.
          let at : i ≡ suc (i - 1) = from_some i some in
          let before : key ≡ get_or all (i - 1) [] = agrees.1 ∙ ap (λ (k : ℕ). get_or ([] ∷ all) k []) at in
          ap (λ (l : List ℕ). key_cmp l (get_or all i [])) before ∙ good.ascending (i - 1) i (omega (arith, at)) (omega (arith, lt, size));
      spelled =
          agrees.0 ∙ ap (λ (l : List ℕ). l ++ more) (entries-from i key all (omega (arith, lt, size)))
          ∙ append_assoc (entry i key (get_or all i [])) (entries (suc i) (get_or all i []) (drop (suc i) all)) more;
    }
  where
    from_some : (i : ℕ) → i ≢ 0 → i ≡ suc (i - 1)
    from_some i some = omega (arith, some)

-- what a key spells behind another is read in one way
entry-unique : (i : ℕ) (before key other rest more : List ℕ) → entry i before key ++ rest ≡ entry i before other ++ more → (key ≡ other) × (rest ≡ more)
entry-unique i before key other rest more e =
    either (nat_eq (i % 16) 0)
    (λ yes.
    let first = eqb-true (i % 16) 0 yes in
    let spelled : length key ∷ (key ++ rest) ≡ length other ∷ (other ++ more) = ap (λ (l : List ℕ). l ++ rest) (sym (entry-first i before key first)) ∙ e ∙ ap (λ (l : List ℕ). l ++ more) (entry-first i before other first) in
    let size : length key ≡ length other = ap (λ (l : List ℕ). get_or l 0 0) spelled in
    let text : key ++ rest ≡ other ++ more = ap (λ (l : List ℕ). drop 1 l) spelled in (
      sym (take-append_seam key rest) ∙ ap (λ (l : List ℕ). take (length key) l) text ∙ ap (λ (k : ℕ). take k (other ++ more)) size ∙ take-append_seam other more,
      sym (drop-append_seam key rest) ∙ ap (λ (l : List ℕ). drop (length key) l) text ∙ ap (λ (k : ℕ). drop k (other ++ more)) size ∙ drop-append_seam other more,
    ))
    (λ no_first.
    let next : i % 16 ≢ 0 = λ z. true_false (sym (eq-eqb (i % 16) 0 z) ∙ no_first) in
    let spelled : key_bytes before key ++ rest ≡ key_bytes before other ++ more = ap (λ (l : List ℕ). l ++ rest) (sym (entry-next i before key next)) ∙ e ∙ ap (λ (l : List ℕ). l ++ more) (entry-next i before other next) in (
      sym (next_key-key_bytes before key rest) ∙ ap (λ (l : List ℕ). next_key before l) spelled ∙ next_key-key_bytes before other more,
      sym (after_key-key_bytes before key rest) ∙ ap (λ (l : List ℕ). after_key l) spelled ∙ after_key-key_bytes before other more,
    ))
  where
    true_false : true ≡ false → ⊥
    true_false h = cc

pub AgreesWith-none : (n : ℕ) (bytes : List ℕ) → AgreesWith n 0 bytes [] bytes
AgreesWith-none n bytes all more good size is = (is, refl)

pub AgreesWith-more : (n i : ℕ) (bytes key rest next later : List ℕ) → AgreesWith n i bytes key rest → i < n → IsEntry i key next rest later → AgreesWith n (i + 1) bytes next later
AgreesWith-more n i bytes key rest next later h lt e all more good size is =
    let other = next_of n i bytes key rest all more h lt good size is in
    let one : suc i ≡ i + 1 = omega arith in
    let same = entry-unique i key next (get_or all i []) later (entries (suc i) (get_or all i []) (drop (suc i) all) ++ more) (sym e.spelled ∙ other.spelled) in (
      same.1 ∙ ap (λ (l : List ℕ). entries (suc i) l (drop (suc i) all) ++ more) (sym same.0) ∙ ap (λ (k : ℕ). entries k next (drop k all) ++ more) one,
      same.0 ∙ ap (λ (k : ℕ). get_or ([] ∷ all) k []) one,
    )
