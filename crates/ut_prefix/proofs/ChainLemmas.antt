-- Dictionaries one by one.
use Rattle.std.proofs.Common.{◌≡◌, ℕ, ◌+◌, ◌-◌, ◌*◌, ◌^◌, ◌<◌, ◌≤◌, Bool, true, false, ◌&&◌, ◌||◌, nat_lt, nat_le, Some, List, [], ◌∷◌, ◌++◌, append-nil, length, length-append, take, drop, get_or, refl, sym, ◌∙◌, ap, subst, arith, inl, inr}
use Rattle.std.specs.List.{Contains}
use Rattle.std.specs.Arc.{arc_value}
use Rattle.std.specs.declared.sync.Arc.{Arc}
use Rattle.std.specs.declared.cmp.Ordering.{Ordering}
use Rattle.std.specs.declared.cmp.Ordering.TheVariants.{Less, Equal, Greater}
use Rattle.std.proofs.lemmas.Bool.{cases_lt}
use Rattle.std.proofs.lemmas.Cmp.{nat_list_cmp_total, tied_itself}
use Rattle.std.specs.List.{slice_get}
use Rattle.std.proofs.lemmas.Option.{slice_get_within, slice_get-get_or, get_or_from_slice_get}
use Rattle.std.proofs.lemmas.List.{length-take-le, drop_all, length-map, take_more, take_all, take-append-le, drop-append-le, get_or_append_left, get_or-append-add, get_or-map, take-append-drop}
use Rattle.std.proofs.Math.Nat.{mul-le-mul_left}
use Rattle.std.proofs.lemmas.List.Sums.{sum_by_more, sum_by_more_le}
use Rattle.std.proofs.lemmas.List.Concat.{flat_map-append}
use Rattle.std.proofs.lemmas.List.Folds.{list_any-append}
use Rattle.std.proofs.lemmas.List.Elements.{Contains-append_cases}
use borrow.Author.Tests.{lt-ltb, le-ltb, le-leb, lt-leb}
use Rattle.ut_key.specs.declared.comparison.Cmp.{Cmp}
use Rattle.ut_key.specs.declared.comparison.Cmp.TheVariants.{Eq, Ne, Lt, Le, Gt, Ge}
use Rattle.ut_key.specs.Keys.{key_cmp, allows, meets}
use Rattle.ut_prefix.specs.Lookup.{IsSplit, search_steps}
use Rattle.ut_prefix.specs.Chain.{chain_steps, shared_dicts, end_to_end, IsChain, is_in, code_meets, ranges_each, ranges_between, AddsRanges, LacksAll}

-- the keys of one more dictionary
pub end_to_end-more : (chain : List (List (List ℕ))) (i : ℕ) → i < length chain → end_to_end (take (i + 1) chain) ≡ end_to_end (take i chain) ++ get_or chain i []
end_to_end-more chain i lt =
    ap (λ l. end_to_end l) (take_more chain i [] lt) ∙ flat_map-append (λ keys. keys) (take i chain) (get_or chain i [] ∷ [])
    ∙ ap (λ l. end_to_end (take i chain) ++ l) (append-nil (get_or chain i []))

-- one dictionary more at the end
pub end_to_end-push : (chain : List (List (List ℕ))) (keys : List (List ℕ)) → end_to_end (chain ++ keys ∷ []) ≡ end_to_end chain ++ keys
end_to_end-push chain keys = flat_map-append (λ k. k) chain (keys ∷ []) ∙ ap (λ l. end_to_end chain ++ l) (append-nil keys)

pub end_to_end-split : (chain : List (List (List ℕ))) (i : ℕ) → end_to_end chain ≡ end_to_end (take i chain) ++ end_to_end (drop i chain)
end_to_end-split chain i = ap (λ l. end_to_end l) (sym (take-append-drop i chain)) ∙ flat_map-append (λ keys. keys) (take i chain) (drop i chain)

-- the keys of the first dictionaries are the first keys
pub end_to_end-within : (chain : List (List (List ℕ))) (i : ℕ) → i < length chain → length (end_to_end (take i chain)) + length (get_or chain i []) ≤ length (end_to_end chain)
end_to_end-within chain i lt =
    omega (
      arith,
      ap (λ l. length l) (end_to_end-split chain (i + 1)),
      length-append (end_to_end (take (i + 1) chain)) (end_to_end (drop (i + 1) chain)),
      ap (λ l. length l) (end_to_end-more chain i lt),
      length-append (end_to_end (take i chain)) (get_or chain i []),
    )

-- a key of a dictionary, among all
pub get_or-end_to_end : (chain : List (List (List ℕ))) (i place : ℕ) → i < length chain → place < length (get_or chain i []) → get_or (end_to_end chain) (length (end_to_end (take i chain)) + place) [] ≡ get_or (get_or chain i []) place []
get_or-end_to_end chain i place lt within =
    let front = end_to_end (take i chain) in
    let more = end_to_end-more chain i lt in
    let size = ap (λ l. length l) more ∙ length-append front (get_or chain i []) in
    ap (λ l. get_or l (length front + place) []) (end_to_end-split chain (i + 1))
    ∙ get_or_append_left (end_to_end (take (i + 1) chain)) (end_to_end (drop (i + 1) chain)) [] (length front + place) (omega (arith, size, within))
    ∙ ap (λ l. get_or l (length front + place) []) more ∙ get_or-append-add front (get_or chain i []) place []

-- whether a range of a comparison holds a code, told by where the code stands
abbrev any_of : Cmp → Bool → Bool → Bool → Bool → Bool → Bool → Bool
any_of Eq on before from within past inside = (from && within) || false
any_of Ne on before from within past inside = (on && before) || ((past && inside) || false)
any_of Lt on before from within past inside = (on && before) || false
any_of Le on before from within past inside = (on && within) || false
any_of Gt on before from within past inside = (past && inside) || false
any_of Ge on before from within past inside = (from && inside) || false

is_in-between : (op : Cmp) (start below above end code : ℕ)
    → is_in (ranges_between op start below above end) code ≡ any_of op (nat_le start code) (nat_lt code below) (nat_le below code) (nat_lt code above) (nat_le above code) (nat_lt code end)
is_in-between Eq start below above end code = refl
is_in-between Ne start below above end code = refl
is_in-between Lt start below above end code = refl
is_in-between Le start below above end code = refl
is_in-between Gt start below above end code = refl
is_in-between Ge start below above end code = refl

outside_front : (op : Cmp) → any_of op false true false true false true ≡ false
outside_front Eq = refl
outside_front Ne = refl
outside_front Lt = refl
outside_front Le = refl
outside_front Gt = refl
outside_front Ge = refl

at_less : (op : Cmp) → any_of op true true false true false true ≡ allows op Less
at_less Eq = refl
at_less Ne = refl
at_less Lt = refl
at_less Le = refl
at_less Gt = refl
at_less Ge = refl

at_equal : (op : Cmp) → any_of op true false true true false true ≡ allows op Equal
at_equal Eq = refl
at_equal Ne = refl
at_equal Lt = refl
at_equal Le = refl
at_equal Gt = refl
at_equal Ge = refl

at_greater : (op : Cmp) → any_of op true false true false true true ≡ allows op Greater
at_greater Eq = refl
at_greater Ne = refl
at_greater Lt = refl
at_greater Le = refl
at_greater Gt = refl
at_greater Ge = refl

outside_back : (op : Cmp) → any_of op true false true false true false ≡ false
outside_back Eq = refl
outside_back Ne = refl
outside_back Lt = refl
outside_back Le = refl
outside_back Gt = refl
outside_back Ge = refl

-- `any_of` at equal tests
any_of-same : (op : Cmp) (a b c d e f a' b' c' d' e' f' : Bool) → a ≡ a' → b ≡ b' → c ≡ c' → d ≡ d' → e ≡ e' → f ≡ f' → any_of op a b c d e f ≡ any_of op a' b' c' d' e' f'
any_of-same op a b c d e f a' b' c' d' e' f' p q r s t u =
    ap (λ (x : Bool). any_of op x b c d e f) p ∙ ap (λ (x : Bool). any_of op a' x c d e f) q ∙ ap (λ (x : Bool). any_of op a' b' x d e f) r
    ∙ ap (λ (x : Bool). any_of op a' b' c' x e f) s ∙ ap (λ (x : Bool). any_of op a' b' c' d' x f) t ∙ ap (λ (x : Bool). any_of op a' b' c' d' e' x) u

-- the comparison of a key at a place with an order that is known
meets-at : (op : Cmp) (key : List ℕ) (keys : List (List ℕ)) (place : ℕ) (o : Ordering) → place < length keys → key_cmp (get_or keys place []) key ≡ o → code_meets op key keys place ≡ allows op o
meets-at op key keys place o lt e =
    ap (λ (b : Bool). b && meets op key (get_or keys place [])) (lt-ltb place (length keys) lt) ∙ ap (λ p. allows op p) e

meets-past : (op : Cmp) (key : List ℕ) (keys : List (List ℕ)) (place : ℕ) → length keys ≤ place → code_meets op key keys place ≡ false
meets-past op key keys place le = ap (λ (b : Bool). b && meets op key (get_or keys place [])) (le-ltb place (length keys) le)

-- the ranges of one dictionary hold exactly its codes whose key meets the comparison
between_exact : (op : Cmp) (key : List ℕ) (keys : List (List ℕ)) (start below above end code : ℕ) → IsSplit keys key below above → end ≡ start + length keys
    → is_in (ranges_between op start (start + below) (start + above) end) code ≡ (nat_le start code && code_meets op key keys (code - start))
between_exact op key keys start below above end code h e = is_in-between op start (start + below) (start + above) end code
    ∙ elim (cases_lt code start) [
      | inl front ↦ any_of-same op _ _ _ _ _ _ false true false true false true (lt-leb start code front) (lt-ltb code (start + below) (omega (arith, front))) (lt-leb (start + below) code (omega (arith, front))) (lt-ltb code (start + above) (omega (arith, front))) (lt-leb (start + above) code (omega (arith, front))) (lt-ltb code end (omega (arith, front, e)))
          ∙ outside_front op ∙ sym (ap (λ (b : Bool). b && code_meets op key keys (code - start)) (lt-leb start code front))
      | inr on ↦
          inside (le-leb start code on) on ∙ sym (ap (λ (b : Bool). b && code_meets op key keys (code - start)) (le-leb start code on))
    ]
  where
    inside : nat_le start code ≡ true → start ≤ code
        → any_of op (nat_le start code) (nat_lt code (start + below)) (nat_le (start + below) code) (nat_lt code (start + above)) (nat_le (start + above) code) (nat_lt code end) ≡ code_meets op key keys (code - start)
    inside lower on =
        elim (cases_lt code (start + below)) [
          | inl less ↦
              any_of-same op _ _ _ _ _ _ true true false true false true lower (lt-ltb code (start + below) less) (lt-leb (start + below) code less) (lt-ltb code (start + above) (omega (arith, less, h.ordered))) (lt-leb (start + above) code (omega (arith, less, h.ordered))) (lt-ltb code end (omega (arith, less, e, h.ordered, h.within)))
              ∙ at_less op ∙ sym (meets-at op key keys (code - start) Less (omega (arith, less, on, h.ordered, h.within)) (h.less (code - start) (omega (arith, less, on))))
          | inr from ↦ elim (cases_lt code (start + above)) [
            | inl equal ↦
                any_of-same op _ _ _ _ _ _ true false true true false true lower (le-ltb code (start + below) from) (le-leb (start + below) code from) (lt-ltb code (start + above) equal) (lt-leb (start + above) code equal) (lt-ltb code end (omega (arith, equal, e, h.within)))
                ∙ at_equal op
                ∙ sym (meets-at op key keys (code - start) Equal (omega (arith, equal, on, h.within)) (ap (λ (l : List ℕ). key_cmp l key) (h.same (code - start) (omega (arith, from, on)) (omega (arith, equal, on))) ∙ tied_itself nat_list_cmp_total key))
            | inr past ↦ elim (cases_lt code end) [
              | inl greater ↦
                  any_of-same op _ _ _ _ _ _ true false true false true true lower (le-ltb code (start + below) from) (le-leb (start + below) code from) (le-ltb code (start + above) past) (le-leb (start + above) code past) (lt-ltb code end greater)
                  ∙ at_greater op ∙ sym (meets-at op key keys (code - start) Greater (omega (arith, greater, e, on)) (h.greater (code - start) (omega (arith, past, on)) (omega (arith, greater, e, on))))
              | inr back ↦
                  any_of-same op _ _ _ _ _ _ true false true false true false lower (le-ltb code (start + below) from) (le-leb (start + below) code from) (le-ltb code (start + above) past) (le-leb (start + above) code past) (le-ltb code end back)
                  ∙ outside_back op ∙ sym (meets-past op key keys (code - start) (omega (arith, back, e, on)))
            ]
          ]
        ]

or-false : (b : Bool) → (b || false) ≡ b
or-false true = refl
or-false false = refl

-- the codes of keys and of others behind them
code_meets-append : (op : Cmp) (key : List ℕ) (front keys : List (List ℕ)) (code : ℕ)
    → code_meets op key (front ++ keys) code ≡ (code_meets op key front code || (nat_le (length front) code && code_meets op key keys (code - length front)))
code_meets-append op key front keys code =
    let size = length-append front keys in
    elim (cases_lt code (length front)) [
      | inl lt ↦
          meets-at op key (front ++ keys) code (key_cmp (get_or front code []) key) (omega (arith, lt, size)) (ap (λ (l : List ℕ). key_cmp l key) (get_or_append_left front keys [] code lt))
          ∙ sym (meets-at op key front code (key_cmp (get_or front code []) key) lt refl) ∙ sym (or-false (code_meets op key front code))
          ∙ ap (λ (b : Bool). code_meets op key front code || (b && code_meets op key keys (code - length front))) (sym (lt-leb (length front) code lt))
      | inr ge ↦
          let at : code ≡ length front + (code - length front) = omega (arith, ge) in
          let here : get_or (front ++ keys) code [] ≡ get_or keys (code - length front) [] = ap (λ (k : ℕ). get_or (front ++ keys) k []) at ∙ get_or-append-add front keys (code - length front) [] in
          let behind : code_meets op key (front ++ keys) code ≡ code_meets op key keys (code - length front) =
          elim (cases_lt (code - length front) (length keys)) [
            | inl within ↦
                meets-at op key (front ++ keys) code (key_cmp (get_or keys (code - length front) []) key) (omega (arith, within, at, size)) (ap (λ (l : List ℕ). key_cmp l key) here)
                ∙ sym (meets-at op key keys (code - length front) (key_cmp (get_or keys (code - length front) []) key) within refl)
            | inr past ↦ meets-past op key (front ++ keys) code (omega (arith, past, at, size)) ∙ sym (meets-past op key keys (code - length front) past)
          ] in
          behind ∙ ap (λ (b : Bool). b && code_meets op key keys (code - length front)) (sym (le-leb (length front) code ge))
          ∙ ap (λ (b : Bool). b || (nat_le (length front) code && code_meets op key keys (code - length front))) (sym (meets-past op key front code ge))
    ]

length-between : (op : Cmp) (start below above end : ℕ) → length (ranges_between op start below above end) ≡ ranges_each op
length-between Eq start below above end = refl
length-between Ne start below above end = refl
length-between Lt start below above end = refl
length-between Le start below above end = refl
length-between Gt start below above end = refl
length-between Ge start below above end = refl

pub AddsRanges-none : (op : Cmp) (key : List ℕ) (chain : List (List (List ℕ))) (old : List (ℕ × ℕ)) → AddsRanges op key (take 0 chain) old old
AddsRanges-none op key chain old = record {
  kept = take_all (length old) old (omega arith);
  exact = λ code. ap (λ l. is_in l code) (drop_all (length old) old (omega arith)) ∙ sym (meets-past op key [] code (omega arith));
  count = omega arith;
}

-- one more dictionary
pub AddsRanges-more : (op : Cmp) (key : List ℕ) (chain : List (List (List ℕ))) (i : ℕ) (old out new : List (ℕ × ℕ)) (start below above end : ℕ) → i < length chain
    → IsSplit (get_or chain i []) key below above → start ≡ length (end_to_end (take i chain)) → end ≡ start + length (get_or chain i [])
    → AddsRanges op key (take i chain) old out → new ≡ out ++ ranges_between op start (start + below) (start + above) end → AddsRanges op key (take (i + 1) chain) old new
AddsRanges-more op key chain i old out new start below above end lt split s e h n =
    let added = ranges_between op start (start + below) (start + above) end in
    let long : length old ≤ length out = omega (arith, h.count) in
    record {
      kept = ap (λ l. take (length old) l) n ∙ take-append-le (length old) out added long ∙ h.kept;
      exact = λ code.
          ap (λ l. is_in (drop (length old) l) code) n ∙ ap (λ l. is_in l code) (drop-append-le (length old) out added long)
          ∙ list_any-append (λ range. nat_le range.0 code && nat_lt code range.1) (drop (length old) out) added
          ∙ ap (λ (b : Bool). b || is_in added code) (h.exact code)
          ∙ ap (λ (b : Bool). code_meets op key (end_to_end (take i chain)) code || b) (between_exact op key (get_or chain i []) start below above end code split e)
          ∙ ap (λ (k : ℕ). code_meets op key (end_to_end (take i chain)) code || (nat_le k code && code_meets op key (get_or chain i []) (code - k))) s
          ∙ sym (code_meets-append op key (end_to_end (take i chain)) (get_or chain i []) code)
          ∙ ap (λ l. code_meets op key l code) (sym (end_to_end-more chain i lt));
      count =
          let one : length (take (i + 1) chain) ≡ length (take i chain) + 1 = length-take-le (i + 1) chain (omega (arith, lt)) ∙ ap (λ (k : ℕ). k + 1) (sym (length-take-le i chain (omega (arith, lt)))) in
          let two : ranges_each op * length (take (i + 1) chain) ≡ ranges_each op * length (take i chain) + ranges_each op = ap (λ (k : ℕ). ranges_each op * k) one ∙ omega arith in
          omega (arith, ap (λ l. length l) n, length-append out added, length-between op start (start + below) (start + above) end, h.count, two);
    }

-- all dictionaries
pub AddsRanges-all : (op : Cmp) (key : List ℕ) (chain : List (List (List ℕ))) (i : ℕ) (old new : List (ℕ × ℕ)) → length chain ≤ i → AddsRanges op key (take i chain) old new → AddsRanges op key chain old new
AddsRanges-all op key chain i old new le h = subst (λ l. AddsRanges op key l old new) (take_all i chain le) h

-- a key that the first dictionaries lack, and the next
pub absent-more : (chain : List (List (List ℕ))) (i : ℕ) (key : List ℕ) → i < length chain → (Contains (end_to_end (take i chain)) key → ⊥) → (Contains (get_or chain i []) key → ⊥) → Contains (end_to_end (take (i + 1) chain)) key → ⊥
absent-more chain i key lt front next h =
    elim (Contains-append_cases (end_to_end (take i chain)) (get_or chain i []) key (subst (λ l. Contains l key) (end_to_end-more chain i lt) h)) [ inl in_front ↦ front in_front | inr in_next ↦ next in_next ]

-- a key that a dictionary holds, among all
pub slice_get-end_to_end : (chain : List (List (List ℕ))) (i place : ℕ) (key : List ℕ) → i < length chain → slice_get (get_or chain i []) place ≡ Some key → slice_get (end_to_end chain) (length (end_to_end (take i chain)) + place) ≡ Some key
slice_get-end_to_end chain i place key lt found =
    let within : place < length (get_or chain i []) = slice_get_within (get_or chain i []) place key found in
    let here : get_or (get_or chain i []) place [] ≡ key = get_or_from_slice_get (get_or chain i []) place key [] found in
    slice_get-get_or (end_to_end chain) (length (end_to_end (take i chain)) + place) [] (omega (arith, within, end_to_end-within chain i lt))
    ∙ ap (λ (l : List ℕ). Some l) (get_or-end_to_end chain i place lt within ∙ here)

-- the dictionary at a place of the shared ones
pub dict_at : {Z : Type 0} (dicts : List (Arc (List (List ℕ)) Z)) (i : ℕ) (item : Arc (List (List ℕ)) Z) (keys : List (List ℕ)) → i < length dicts → item ≡ get_or dicts i item → keys ≡ arc_value item
    → (i < length (shared_dicts dicts)) × (keys ≡ get_or (shared_dicts dicts) i [])
dict_at dicts i item keys lt is here = (
  subst (λ (n : ℕ). i < n) (sym (length-map dicts (λ dict. arc_value dict))) lt,
  here ∙ ap (λ dict. arc_value dict) is ∙ sym (get_or-map (λ dict. arc_value dict) dicts i item [] lt),
)

-- a code behind the first dictionaries is in one of the others
pub end_to_end-reached : {Z : Type 0} (dicts : List (Arc (List (List ℕ)) Z)) (i place code : ℕ) → code ≡ length (end_to_end (take i (shared_dicts dicts))) + place → code < length (end_to_end (shared_dicts dicts)) → i < length dicts
end_to_end-reached dicts i place code at lt =
    elim (cases_lt i (length dicts)) [
      | inl within ↦ within
      | inr past ↦ absurd (omega (
        arith,
        at,
        lt,
        ap (λ l. length (end_to_end l)) (take_all i (shared_dicts dicts) (subst (λ (n : ℕ). n ≤ i) (sym (length-map dicts (λ dict. arc_value dict))) past)),
      ))
    ]

-- the steps of one more search
pub steps-more : (chain : List (List (List ℕ))) (i : ℕ) (keys : List (List ℕ)) (initial now new : ℕ) → i < length chain → keys ≡ get_or chain i [] → now ≤ initial + chain_steps (take i chain) → new ≤ now + search_steps keys
    → new ≤ initial + chain_steps (take (i + 1) chain)
steps-more chain i keys initial now new lt is before one =
    let here : new ≤ now + search_steps (get_or chain i []) = subst (λ l. new ≤ now + search_steps l) is one in
    subst (λ (n : ℕ). new ≤ initial + n) (sym (sum_by_more search_steps chain i [] lt)) (add new now initial (chain_steps (take i chain)) (search_steps (get_or chain i [])) before here)
  where
    add : (new now initial front one : ℕ) → now ≤ initial + front → new ≤ now + one → new ≤ initial + (front + one)
    add new now initial front one p q = omega arith

pub steps-within : (chain : List (List (List ℕ))) (i : ℕ) (keys : List (List ℕ)) (initial now new : ℕ) → i < length chain → keys ≡ get_or chain i [] → now ≤ initial + chain_steps (take i chain) → new ≤ now + search_steps keys
    → new ≤ initial + chain_steps chain
steps-within chain i keys initial now new lt is before one =
    let here : new ≤ now + search_steps (get_or chain i []) = subst (λ l. new ≤ now + search_steps l) is one in
    add new now initial (chain_steps (take i chain)) (search_steps (get_or chain i [])) (chain_steps chain) before here (sum_by_more_le search_steps chain i [] lt)
  where
    add : (new now initial front one all : ℕ) → now ≤ initial + front → new ≤ now + one → front + one ≤ all → new ≤ initial + all
    add new now initial front one all p q r = omega arith

-- a key at a place is there
pub Contains-found : (keys : List (List ℕ)) (place : ℕ) (key : List ℕ) → slice_get keys place ≡ Some key → Contains keys key
Contains-found keys place key found = (place, slice_get_within keys place key found, get_or_from_slice_get keys place key key found)

-- a key of a dictionary is among all
pub Contains-end_to_end : (chain : List (List (List ℕ))) (i : ℕ) (key : List ℕ) → i < length chain → Contains (get_or chain i []) key → Contains (end_to_end chain) key
Contains-end_to_end chain i key lt h =
    let found : slice_get (get_or chain i []) h.0 ≡ Some key = slice_get-get_or (get_or chain i []) h.0 key h.1 ∙ ap (λ (l : List ℕ). Some l) h.2 in
    let all = slice_get-end_to_end chain i h.0 key lt found in
    Contains-found (end_to_end chain) (length (end_to_end (take i chain)) + h.0) key all

-- one dictionary more keeps them apart
pub IsChain-push : (chain : List (List (List ℕ))) (keys : List (List ℕ)) → IsChain chain → LacksAll chain keys → length (end_to_end chain) + length keys < 2 ^ 31 → IsChain (chain ++ keys ∷ [])
IsChain-push chain keys h absent few = record {
  few = omega (arith, ap (λ l. length l) (end_to_end-push chain keys), length-append (end_to_end chain) keys, few);
  apart = λ c d key lt within in_c in_d.
      let size = length-append chain (keys ∷ []) in
      let front : c < length chain = omega (arith, lt, within, size) in
      let first : Contains (get_or chain c []) key = subst (λ l. Contains l key) (get_or_append_left chain (keys ∷ []) [] c front) in_c in
      elim (cases_lt d (length chain)) [
        | inl before ↦ h.apart c d key lt before first (subst (λ l. Contains l key) (get_or_append_left chain (keys ∷ []) [] d before) in_d)
        | inr last ↦
            let at : d ≡ length chain + 0 = omega (arith, last, within, size) in
            let here : get_or (chain ++ keys ∷ []) d [] ≡ keys = ap (λ (k : ℕ). get_or (chain ++ keys ∷ []) k []) at ∙ get_or-append-add chain (keys ∷ []) 0 [] in
            absent key (subst (λ l. Contains l key) here in_d) (Contains-end_to_end chain c key front first)
      ];
}

-- one more key that isn't in the chain
pub LacksAll-take : (chain : List (List (List ℕ))) (keys : List (List ℕ)) (n : ℕ) → length keys ≤ n → ((i : ℕ) → i < n → ¬ Contains (end_to_end chain) (get_or keys i [])) → LacksAll chain keys
LacksAll-take chain keys n le h = λ key there in_chain.
    let here : get_or keys there.0 [] ≡ key = get_or_from_slice_get keys there.0 key [] (slice_get-get_or keys there.0 key there.1 ∙ ap (λ (l : List ℕ). Some l) there.2) in
    h there.0 (omega (arith, le, there.1)) (subst (λ l. Contains (end_to_end chain) l) (sym here) in_chain)

-- the steps of reading a key and looking it up, so many times
pub steps_so_far : (most code initial now read new : ℕ) → now ≤ initial + code * (most + 1) → read ≡ now + 1 → new ≤ read + most → new ≤ initial + (code + 1) * (most + 1)
steps_so_far most code initial now read new h r n = omega (arith, h, r, n)

pub steps_in_all : (most code n initial new : ℕ) → code ≤ n → new ≤ initial + code * (most + 1) → new ≤ initial + n * (most + 1)
steps_in_all most code n initial new le h =
    let more = mul-le-mul_left (most + 1) le in
    omega (arith, h, more)
