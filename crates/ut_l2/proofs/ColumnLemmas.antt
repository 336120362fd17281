-- A column with one cell more, or one less.
use Rattle.std.proofs.Common.{◌≡◌, ℕ, zero, suc, ◌+◌, ◌-◌, ◌<◌, ◌≤◌, ◌≢◌, ◌^◌, Bool, true, false, cond, ◌||◌, nat_eq, List, [], ◌∷◌, ◌++◌, length, take, get_or, if◌then◌else◌, Some, None, ltb, position, ap, sym, ◌∙◌, subst, arith, refl}
use Rattle.std.specs.List.{list_any, position_or_len}
use Rattle.std.proofs.lemmas.Bool.{eqb-true, eq-eqb, ltb-false}
use Rattle.std.proofs.lemmas.List.Quantifiers.{position-Some}
use Rattle.std.proofs.lemmas.List.{length-map, length-append, map-append, get_or_append_left, get_or-map, append-nil, append_assoc, take_more, length-take-le}
use Rattle.std.proofs.Math.Seq.{get_or-append_seam, take-append_seam}
use Rattle.ut_unsorted.specs.FirstSeen.{key_eq, note, first_seen}
use Rattle.ut_unsorted.specs.Posted.{Posting, places_at}
use Rattle.ut_l2.specs.Places.{places_from, places_where}
use Rattle.ut_l2.specs.Cells.{cells_of, AreCodes, IsColumn}
use Rattle.ut_unsorted.proofs.FirstSeenLemmas.{found-within, absent-length, place-append, place-last, place-less, key_refl, same_key, first_seen-append, length-fold, any-fold, at-place}

-- places

pub places-append : {A : Type 0} (t : A → Bool) (i : ℕ) (xs ys : List A) → places_from t i (xs ++ ys) ≡ places_from t i xs ++ places_from t (i + length xs) ys
places-append t i [] ys = ap (λ n. places_from t n ys) (omega arith)
places-append t i (x ∷ xs) ys = by (places-append t (i + 1) xs ys ∙ ap (λ n. places_from t (i + 1) xs ++ places_from t n ys) (let s : i + 1 + length xs ≡ i + suc (length xs) = omega arith in s)) (t x)
  where
    by : places_from t (i + 1) (xs ++ ys) ≡ places_from t (i + 1) xs ++ places_from t (i + suc (length xs)) ys → (b : Bool) → (if b then i ∷ places_from t (i + 1) (xs ++ ys) else places_from t (i + 1) (xs ++ ys)) ≡ (if b then i ∷ places_from t (i + 1) xs else places_from t (i + 1) xs) ++ places_from t (i + suc (length xs)) ys
    by rest true = ap (λ l. i ∷ l) rest
    by rest false = rest

pub none-any : {A : Type 0} (t : A → Bool) (i : ℕ) (xs : List A) → places_from t i xs ≡ [] → list_any t xs ≡ false
none-any t i [] h = refl
none-any t i (x ∷ xs) h = by (none-any t (i + 1) xs) (t x) h
  where
    by : (places_from t (i + 1) xs ≡ [] → list_any t xs ≡ false) → (b : Bool) → (if b then i ∷ places_from t (i + 1) xs else places_from t (i + 1) xs) ≡ [] → (b || list_any t xs) ≡ false
    by rec true e = cc
    by rec false e = rec e

pub any-none : {A : Type 0} (t : A → Bool) (i : ℕ) (xs : List A) → list_any t xs ≡ false → places_from t i xs ≡ []
any-none t i [] h = refl
any-none t i (x ∷ xs) h = by (any-none t (i + 1) xs) (t x) h
  where
    by : (list_any t xs ≡ false → places_from t (i + 1) xs ≡ []) → (b : Bool) → (b || list_any t xs) ≡ false → (if b then i ∷ places_from t (i + 1) xs else places_from t (i + 1) xs) ≡ []
    by rec true e = cc
    by rec false e = rec e

pub places-last : {A : Type 0} (t : A → Bool) (xs : List A) (x : A) → t x ≡ true → places_where t (xs ++ x ∷ []) ≡ places_where t xs ++ length xs ∷ []
places-last t xs x e = places-append t 0 xs (x ∷ []) ∙ ap (λ b. places_where t xs ++ (if b then (0 + length xs) ∷ [] else [])) e ∙ ap (λ n. places_where t xs ++ n ∷ []) (omega arith)

pub places-other : {A : Type 0} (t : A → Bool) (xs : List A) (x : A) → t x ≡ false → places_where t (xs ++ x ∷ []) ≡ places_where t xs
places-other t xs x e = places-append t 0 xs (x ∷ []) ∙ ap (λ b. places_where t xs ++ (if b then (0 + length xs) ∷ [] else [])) e ∙ append-nil (places_where t xs)

-- codes

pub cells-same : (d e : List (List ℕ)) (cs : List ℕ) → AreCodes d cs → ((c : ℕ) → c < length d → get_or e c [] ≡ get_or d c []) → cells_of e cs ≡ cells_of d cs
cells-same d e [] h same = refl
cells-same d e (c ∷ cs) h same = cells_cons (same c h.0) (cells-same d e cs h.2 same)
  where
    cells_cons : {x y : List ℕ} {xs ys : List (List ℕ)} → x ≡ y → xs ≡ ys → x ∷ xs ≡ y ∷ ys
    cells_cons p q = cc

pub coded-append : (d : List (List ℕ)) (k : List ℕ) (cs : List ℕ) → AreCodes d cs → AreCodes (d ++ k ∷ []) cs
coded-append d k [] h = tt
coded-append d k (c ∷ cs) h =
    let at : get_or (d ++ k ∷ []) c [] ≡ get_or d c [] = get_or_append_left d (k ∷ []) [] c h.0 in
    let is = h.1 in
    let lt : position_or_len (key_eq (get_or d c [])) d < length d = omega (arith, h.0, h.1) in
    (omega (arith, h.0, length-append d (k ∷ [])), ap (λ q. position_or_len (key_eq q) (d ++ k ∷ [])) at ∙ place-append (key_eq (get_or d c [])) d k lt ∙ h.1, coded-append d k cs h.2)

pub coded-note : (d : List (List ℕ)) (k : List ℕ) (cs : List ℕ) → AreCodes d cs → AreCodes (note d k) cs
coded-note d k cs h = by (list_any (key_eq k) d)
  where
    by : (b : Bool) → AreCodes (if b then d else d ++ k ∷ []) cs
    by true = h
    by false = coded-append d k cs h

pub get-note : (d : List (List ℕ)) (k : List ℕ) (c : ℕ) → c < length d → get_or (note d k) c [] ≡ get_or d c []
get-note d k c h = by (list_any (key_eq k) d)
  where
    by : (b : Bool) → get_or (if b then d else d ++ k ∷ []) c [] ≡ get_or d c []
    by true = refl
    by false = get_or_append_left d (k ∷ []) [] c h

pub coded-more : (d : List (List ℕ)) (cs : List ℕ) (c : ℕ) → AreCodes d cs → c < length d → position_or_len (key_eq (get_or d c [])) d ≡ c → AreCodes d (cs ++ c ∷ [])
coded-more d [] c h lt e = (lt, e, tt)
coded-more d (x ∷ cs) c h lt e = (h.0, h.1, coded-more d cs c h.2 lt e)

pub coded-front : (d : List (List ℕ)) (cs : List ℕ) (c : ℕ) → AreCodes d (cs ++ c ∷ []) → AreCodes d cs
coded-front d [] c h = tt
coded-front d (x ∷ cs) c h = (h.0, h.1, coded-front d cs c h.2)

pub coded-last : (d : List (List ℕ)) (cs : List ℕ) (c : ℕ) → AreCodes d (cs ++ c ∷ []) → (c < length d) × (position_or_len (key_eq (get_or d c [])) d ≡ c)
coded-last d [] c h = (h.0, h.1)
coded-last d (x ∷ cs) c h = coded-last d cs c h.2

-- the code of a new cell
pub new-code : (d : List (List ℕ)) (k : List ℕ) → let c = position_or_len (key_eq k) d in (c < length (note d k)) × (get_or (note d k) c [] ≡ k) × (position_or_len (key_eq (get_or (note d k) c [])) (note d k) ≡ c)
new-code d k = by (list_any (key_eq k) d) refl
  where
    by : (b : Bool) → list_any (key_eq k) d ≡ b → let n = (if b then d else d ++ k ∷ []) in let c = position_or_len (key_eq k) d in (c < length n) × (get_or n c [] ≡ k) × (position_or_len (key_eq (get_or n c [])) n ≡ c)
    by true e =
        let at = sym (at-place k d e) in
        (found-within (key_eq k) d e, at, ap (λ q. position_or_len (key_eq q) d) at)
    by false e =
        let n = absent-length (key_eq k) d e in
        let at : get_or (d ++ k ∷ []) (position_or_len (key_eq k) d) [] ≡ k = ap (λ i. get_or (d ++ k ∷ []) i []) n ∙ get_or-append_seam d k [] [] in
        (omega (arith, length-append d (k ∷ [])), at, ap (λ q. position_or_len (key_eq q) (d ++ k ∷ [])) at ∙ place-last (key_eq k) d k e (key_refl k) ∙ sym n)

module _ (d : List (List ℕ)) (cs : List ℕ) (p : List Posting) (is : IsColumn d cs p) where
  pub few : length d ≤ length cs
  few = let e = ap length is.seen in let n = length-fold [] (cells_of d cs) in let m = length-map cs (λ c. get_or d c []) in omega arith

  module _ (k : List ℕ) (c : ℕ) (code : c ≡ position_or_len (key_eq k) d) where
    pub pushed-cells : cells_of (note d k) (cs ++ c ∷ []) ≡ cells_of d cs ++ k ∷ []
    pushed-cells =
        map-append (λ x. get_or (note d k) x []) cs (c ∷ []) ∙ ap (λ l. l ++ get_or (note d k) c [] ∷ []) (cells-same d (note d k) cs is.coded (get-note d k)) ∙ ap (λ x. cells_of d cs ++ x ∷ []) (ap (λ x. get_or (note d k) x []) code ∙ (new-code d k).1)

    pub pushed : (q : List Posting) → length cs < 2 ^ 31 → places_at q c ≡ places_at p c ++ length cs ∷ [] → ((x : ℕ) → x ≢ c → places_at q x ≡ places_at p x) → IsColumn (note d k) (cs ++ c ∷ []) q
    pushed q room added others =
        let n = new-code d k in
        record {
          seen = ap (λ x. note x k) is.seen ∙ sym (first_seen-append (cells_of d cs) k) ∙ ap first_seen (sym pushed-cells);
          coded = subst (λ x. AreCodes (note d k) (cs ++ x ∷ [])) (sym code) (coded-more (note d k) cs (position_or_len (key_eq k) d) (coded-note d k cs is.coded) n.0 n.2);
          posted = λ x. by x (nat_eq x c) refl;
          count = omega (arith, length-append cs (c ∷ []));
        }
      where
        by : (x : ℕ) → (b : Bool) → nat_eq x c ≡ b → places_at q x ≡ places_where (nat_eq x) (cs ++ c ∷ [])
        by x true e = ap (places_at q) (eqb-true x c e) ∙ added ∙ ap (λ y. places_at p y ++ length cs ∷ []) (sym (eqb-true x c e)) ∙ ap (λ l. l ++ length cs ∷ []) (is.posted x) ∙ sym (places-last (nat_eq x) cs c e)
        by x false e = others x (λ same. let f = eq-eqb x c same in cc) ∙ is.posted x ∙ sym (places-other (nat_eq x) cs c e)

-- the test of a key, by its code
pub tells : (d : List (List ℕ)) (q : List ℕ) (c x : ℕ) → position_or_len (key_eq q) d ≡ c → q ≡ get_or d c [] → position_or_len (key_eq (get_or d x [])) d ≡ x → key_eq q (get_or d x []) ≡ nat_eq c x
tells d q c x at is ax = by (key_eq q (get_or d x [])) (nat_eq c x) refl refl
  where
    by : (a b : Bool) → key_eq q (get_or d x []) ≡ a → nat_eq c x ≡ b → a ≡ b
    by true true e f = refl
    by false false e f = refl
    by true false e f =
        let same : c ≡ x = sym at ∙ ap (λ k. position_or_len (key_eq k) d) (same_key q (get_or d x []) e) ∙ ax in
        let g = eq-eqb c x same in cc
    by false true e f =
        let g : key_eq q (get_or d x []) ≡ true = ap (key_eq q) (ap (λ i. get_or d i []) (sym (eqb-true c x f)) ∙ sym is) ∙ key_refl q in cc

pub any-cells : (d : List (List ℕ)) (q : List ℕ) (c : ℕ) (cs : List ℕ) → position_or_len (key_eq q) d ≡ c → q ≡ get_or d c [] → AreCodes d cs → list_any (key_eq q) (cells_of d cs) ≡ list_any (nat_eq c) cs
any-cells d q c [] at is h = refl
any-cells d q c (x ∷ cs) at is h = ap (λ b. b || list_any (key_eq q) (cells_of d cs)) (tells d q c x at is h.1) ∙ ap (λ b. nat_eq c x || b) (any-cells d q c cs at is h.2)

pub places-cells : (d : List (List ℕ)) (q : List ℕ) (c i : ℕ) (cs : List ℕ) → position_or_len (key_eq q) d ≡ c → q ≡ get_or d c [] → AreCodes d cs → places_from (key_eq q) i (cells_of d cs) ≡ places_from (nat_eq c) i cs
places-cells d q c i [] at is h = refl
places-cells d q c i (x ∷ cs) at is h = ap (λ l. if key_eq q (get_or d x []) then i ∷ l else l) (places-cells d q c (i + 1) cs at is h.2) ∙ ap (λ b. if b then i ∷ places_from (nat_eq c) (i + 1) cs else places_from (nat_eq c) (i + 1) cs) (tells d q c x at is h.1)

or_left : (a b : Bool) → (a || b) ≡ false → a ≡ false
or_left true b h = cc
or_left false b h = refl

or_right : (a b : Bool) → (a || b) ≡ false → b ≡ false
or_right true b h = cc
or_right false b h = h

pub coded-less : (f : List (List ℕ)) (k : List ℕ) (cs : List ℕ) → AreCodes (f ++ k ∷ []) cs → list_any (nat_eq (length f)) cs ≡ false → AreCodes f cs
coded-less f k [] h none = tt
coded-less f k (x ∷ cs) h none =
    let ne : length f ≢ x = λ e. let g = eq-eqb (length f) x e in let z = or_left (nat_eq (length f) x) (list_any (nat_eq (length f)) cs) none in cc in
    let n = length-append f (k ∷ []) in
    let lt : x < length f = omega (arith, h.0) in
    let at : get_or (f ++ k ∷ []) x [] ≡ get_or f x [] = get_or_append_left f (k ∷ []) [] x lt in
    let place : position_or_len (key_eq (get_or f x [])) (f ++ k ∷ []) ≡ x = ap (λ q. position_or_len (key_eq q) (f ++ k ∷ [])) (sym at) ∙ h.1 in
    let below : position_or_len (key_eq (get_or f x [])) (f ++ k ∷ []) < length f = omega arith in
    (lt, place-less (key_eq (get_or f x [])) f k below ∙ place, coded-less f k cs h.2 (or_right (nat_eq (length f) x) (list_any (nat_eq (length f)) cs) none))

module _ (d : List (List ℕ)) (whole : List ℕ) (p : List Posting) (is : IsColumn d whole p) (cs : List ℕ) (c : ℕ) (e : whole ≡ cs ++ c ∷ []) where
  all_coded : AreCodes d (cs ++ c ∷ [])
  all_coded = subst (AreCodes d) e is.coded

  last : places_at p c ≡ places_where (nat_eq c) cs ++ length cs ∷ []
  last = is.posted c ∙ ap (places_where (nat_eq c)) e ∙ places-last (nat_eq c) cs c (eq-eqb c c refl)

  pub some-place : places_at p c ≡ [] → ⊥
  some-place h = let n = ap length (sym last ∙ h) in let m = length-append (places_where (nat_eq c) cs) (length cs ∷ []) in omega arith

  pub code-within : c ≤ length d
  code-within = omega (arith, (coded-last d cs c all_coded).0)

  seen-last : d ≡ note (first_seen (cells_of d cs)) (get_or d c [])
  seen-last = is.seen ∙ ap (λ l. first_seen (cells_of d l)) e ∙ ap first_seen (map-append (λ x. get_or d x []) cs (c ∷ [])) ∙ first_seen-append (cells_of d cs) (get_or d c [])

  any-seen : list_any (key_eq (get_or d c [])) (first_seen (cells_of d cs)) ≡ list_any (nat_eq c) cs
  any-seen = any-fold (get_or d c []) [] (cells_of d cs) ∙ any-cells d (get_or d c []) c cs (coded-last d cs c all_coded).1 refl (coded-front d cs c all_coded)

  pub seen-front : (b : Bool) → list_any (nat_eq c) cs ≡ b → d ≡ (if b then first_seen (cells_of d cs) else first_seen (cells_of d cs) ++ get_or d c [] ∷ [])
  seen-front b h = seen-last ∙ ap (λ x. if x then first_seen (cells_of d cs) else first_seen (cells_of d cs) ++ get_or d c [] ∷ []) (any-seen ∙ h)

  pub popped-cells : cells_of d whole ≡ cells_of d cs ++ get_or d c [] ∷ []
  popped-cells = ap (cells_of d) e ∙ map-append (λ x. get_or d x []) cs (c ∷ [])

  module _ (q : List Posting) (cut : (front : List ℕ) → places_at p c ≡ front ++ length cs ∷ [] → places_at q c ≡ front) (others : (x : ℕ) → x ≢ c → places_at q x ≡ places_at p x) where
    pub forgotten : (x : ℕ) → places_at q x ≡ places_where (nat_eq x) cs
    forgotten x = by (nat_eq x c) refl
      where
        by : (b : Bool) → nat_eq x c ≡ b → places_at q x ≡ places_where (nat_eq x) cs
        by true h = subst (λ y. places_at q y ≡ places_where (nat_eq y) cs) (sym (eqb-true x c h)) (cut (places_where (nat_eq c) cs) last)
        by false h = others x (λ same. let f = eq-eqb x c same in cc) ∙ is.posted x ∙ ap (places_where (nat_eq x)) e ∙ places-other (nat_eq x) cs c h

    few_codes : length cs ≤ 2 ^ 31
    few_codes = let n = ap length e in let m = length-append cs (c ∷ []) in omega (arith, is.count)

    pub popped-kept : (places_at q c ≡ [] → ⊥) → IsColumn d cs q
    popped-kept some = record {
      seen = by (list_any (nat_eq c) cs) refl;
      coded = coded-front d cs c all_coded;
      posted = forgotten;
      count = few_codes;
    }
      where
        by : (b : Bool) → list_any (nat_eq c) cs ≡ b → d ≡ first_seen (cells_of d cs)
        by true h = seen-front true h
        by false h = absurd (some (forgotten c ∙ any-none (nat_eq c) 0 cs h))

    module _ (empty : places_at q c ≡ []) where
      gone : list_any (nat_eq c) cs ≡ false
      gone = none-any (nat_eq c) 0 cs (sym (forgotten c) ∙ empty)

      split : d ≡ first_seen (cells_of d cs) ++ get_or d c [] ∷ []
      split = seen-front false gone

      at : c ≡ length (first_seen (cells_of d cs))
      at = sym (coded-last d cs c all_coded).1 ∙ ap (position_or_len (key_eq (get_or d c []))) split ∙ place-last (key_eq (get_or d c [])) (first_seen (cells_of d cs)) (get_or d c []) (any-seen ∙ gone) (key_refl (get_or d c []))

      front : take c d ≡ first_seen (cells_of d cs)
      front = ap (λ n. take n d) at ∙ ap (take (length (first_seen (cells_of d cs)))) split ∙ take-append_seam (first_seen (cells_of d cs)) (get_or d c [] ∷ [])

      coded_front : AreCodes (first_seen (cells_of d cs)) cs
      coded_front = coded-less (first_seen (cells_of d cs)) (get_or d c []) cs (subst (λ x. AreCodes x cs) split (coded-front d cs c all_coded)) (ap (λ n. list_any (nat_eq n) cs) (sym at) ∙ gone)

      same_cells : cells_of d cs ≡ cells_of (first_seen (cells_of d cs)) cs
      same_cells = cells-same (first_seen (cells_of d cs)) d cs coded_front (λ x lt. ap (λ y. get_or y x []) split ∙ get_or_append_left (first_seen (cells_of d cs)) (get_or d c [] ∷ []) [] x lt)

      pub gone-cells : cells_of (take c d) cs ≡ cells_of d cs
      gone-cells = ap (λ y. cells_of y cs) front ∙ sym same_cells

      pub popped-gone : IsColumn (take c d) cs q
      popped-gone = record {
        seen = front ∙ ap first_seen (sym gone-cells);
        coded = subst (λ y. AreCodes y cs) (sym front) coded_front;
        posted = forgotten;
        count = few_codes;
      }

pub take-front : {A : Type 0} (front : List A) (x : A) (xs : List A) → xs ≡ front ++ x ∷ [] → take (length xs - 1) xs ≡ front
take-front front x xs e =
    let n : length xs - 1 ≡ length front = (let m = ap length e ∙ length-append front (x ∷ []) in omega arith) in
    ap (λ k. take k xs) n ∙ ap (take (length front)) e ∙ take-append_seam front (x ∷ [])

pub nil-length : {A : Type 0} (xs : List A) → length xs ≡ 0 → xs ≡ []
nil-length [] h = refl
nil-length (x ∷ xs) h = absurd (omega (arith, h))

-- what is seen of a column
module _ (d : List (List ℕ)) (cs : List ℕ) (p : List Posting) (is : IsColumn d cs p) where
  pub code-key : (i : ℕ) → i < length cs → (get_or cs i 0 < length d) × (get_or d (get_or cs i 0) [] ≡ get_or (cells_of d cs) i [])
  code-key i lt = (at_code cs i is.coded lt, sym (get_or-map (λ c. get_or d c []) cs i 0 [] lt))
    where
      at_code : (xs : List ℕ) (k : ℕ) → AreCodes d xs → k < length xs → get_or xs k 0 < length d
      at_code [] k h l = absurd (omega (arith, l))
      at_code (x ∷ xs) zero h l = h.0
      at_code (x ∷ xs) (suc k) h l = at_code xs k h.2 (omega (arith, l))

  pub places-of : (q : List ℕ) (c : ℕ) → position (key_eq q) d ≡ Some c → places_at p c ≡ places_where (key_eq q) (cells_of d cs)
  places-of q c e =
      let s = position-Some (key_eq q) d c [] e in
      let at : position_or_len (key_eq q) d ≡ c = sym (found c (sym e)) in
      is.posted c ∙ sym (places-cells d q c 0 cs at (same_key q (get_or d c []) s.1) is.coded)
    where
      by : (i : ℕ) (b : Bool) → Some i ≡ cond b (Some (position_or_len (key_eq q) d)) None → i ≡ position_or_len (key_eq q) d
      by i true h = cc
      by i false h = cc

      found : (i : ℕ) → Some i ≡ position (key_eq q) d → i ≡ position_or_len (key_eq q) d
      found i h = by i (ltb (position_or_len (key_eq q) d) (length d)) h

  pub no-places : (q : List ℕ) → position (key_eq q) d ≡ None → [] ≡ places_where (key_eq q) (cells_of d cs)
  no-places q e = sym (any-none (key_eq q) 0 (cells_of d cs) (sym (any-fold q [] (cells_of d cs)) ∙ ap (list_any (key_eq q)) (sym is.seen) ∙ none (list_any (key_eq q) d) refl))
    where
      by : (b : Bool) → cond b (Some (position_or_len (key_eq q) d)) None ≡ None → b ≡ false
      by true h = cc
      by false h = refl

      none : (b : Bool) → list_any (key_eq q) d ≡ b → b ≡ false
      none false h = refl
      none true h =
          let lt = found-within (key_eq q) d h in
          let f : ltb (position_or_len (key_eq q) d) (length d) ≡ false = by (ltb (position_or_len (key_eq q) d) (length d)) e in
          absurd (omega (arith, ltb-false (position_or_len (key_eq q) d) (length d) f))

-- one more element looked at
module _ {A : Type 0} (t : A → Bool) (xs : List A) (i : ℕ) (d : A) (lt : i < length xs) (out base : List ℕ) (so_far : out ≡ base ++ places_where t (take i xs)) where
  pub places-more : t (get_or xs i d) ≡ true → out ++ i ∷ [] ≡ base ++ places_where t (take (i + 1) xs)
  places-more h =
      ap (λ l. l ++ i ∷ []) so_far ∙ append_assoc base (places_where t (take i xs)) (i ∷ [])
      ∙ sym (ap (λ l. base ++ places_where t l) (take_more xs i d lt) ∙ ap (λ l. base ++ l) (places-last t (take i xs) (get_or xs i d) h ∙ ap (λ n. places_where t (take i xs) ++ n ∷ []) (length-take-le i xs (omega (arith, lt)))))

  pub places-skip : t (get_or xs i d) ≡ false → out ≡ base ++ places_where t (take (i + 1) xs)
  places-skip h = so_far ∙ sym (ap (λ l. base ++ places_where t l) (take_more xs i d lt) ∙ ap (λ l. base ++ l) (places-other t (take i xs) (get_or xs i d) h))
