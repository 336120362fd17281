-- Values that were read, with their marks, and others behind them.
use Rattle.std.proofs.Common.{ℕ, zero, suc, ◌+◌, ◌-◌, ◌<◌, ◌≡◌, List, [], ◌∷◌, ◌++◌, length, map, get_or, set, take, All, Some, refl, sym, ap, ◌∙◌, arith, ◌⊎◌, inl, inr}
use Rattle.std.specs.Prelude.{slice_get, pos, unwrap_or}
use Rattle.std.specs.Option.{option_map}
use Rattle.std.proofs.lemmas.Bool.{cases_eq}
use Rattle.std.proofs.lemmas.List.{length-append, length-map, map-append, take_more, get_or-set_same, get_or-set_other, get_or_append_left}
use Rattle.std.proofs.lemmas.List.Elements.{All-head, All-tail, All-weaker, All-push}
use Rattle.std.proofs.lemmas.Option.{same_Some, slice_get-map, slice_get_within, slice_get_read, slice_get-get_or, get_or_from_slice_get}
use Rattle.ut_value.specs.declared.value.Value.{Value}
use Rattle.ut_value.specs.declared.value.Value.TheVariants.{Int}
use Rattle.ut_value.specs.declared.value.Kind.{Kind}
use Rattle.ut_value.specs.declared.value.Column.{Column}
use Rattle.ut_value.specs.KeyBytes.{IsKeyOf}
use Rattle.ut_rows.specs.Columns.{value_in, values_at}
use Rattle.ut_staged.specs.Staged.{Staged}
use Rattle.ut_scan.specs.Coded.{keys_in}
use Rattle.ut_table.specs.Coded.{no_column, keyed_main, delta_keys, coded_keys, coded_values}
use Rattle.ut_table.specs.Decoded.{decoded}
use Rattle.ut_table.proofs.CodedLemmas.{before}
use Rattle.ut_table.proofs.DecodedLemmas.{decoded-key_of}
use Rattle.ut_ops.specs.Seen.{AreSeen, IsMore, IsLast}

-- ---- a list and what stands behind it

pub left : {X : Type 0} (xs ys : List X) (n : ℕ) → n < length xs → slice_get (xs ++ ys) n ≡ slice_get xs n
left [] ys n lt = absurd (omega arith)
left (x ∷ xs) ys zero lt = refl
left (x ∷ xs) ys (suc n) lt = left xs ys n (omega (arith, lt))

pub last : {X : Type 0} (xs : List X) (x : X) → slice_get (xs ++ x ∷ []) (length xs) ≡ Some x
last [] x = refl
last (y ∷ xs) x = last xs x

-- one number more, where it isn't 0, stands in its place
one_more : (xs : List ℕ) (m k n : ℕ) → get_or (xs ++ m ∷ []) k 0 ≡ suc n → (get_or xs k 0 ≡ suc n) ⊎ ((k ≡ length xs) × (m ≡ suc n))
one_more [] m zero n e = inr (refl, e)
one_more [] m (suc k) n e = absurd (omega (arith, e))
one_more (x ∷ xs) m zero n e = inl e
one_more (x ∷ xs) m (suc k) n e = by (one_more xs m k n e)
  where
    by : (get_or xs k 0 ≡ suc n) ⊎ ((k ≡ length xs) × (m ≡ suc n)) → (get_or (x ∷ xs) (suc k) 0 ≡ suc n) ⊎ ((suc k ≡ length (x ∷ xs)) × (m ≡ suc n))
    by (inl here) = inl here
    by (inr new) = inr (ap suc new.0, new.1)

-- no mark, and one more
pub zeros-push : (xs : List ℕ) → ((code : ℕ) → get_or xs code 0 ≡ 0) → (code : ℕ) → get_or (xs ++ 0 ∷ []) code 0 ≡ 0
zeros-push [] h zero = refl
zeros-push [] h (suc code) = refl
zeros-push (x ∷ xs) h zero = h 0
zeros-push (x ∷ xs) h (suc code) = zeros-push xs (λ d. h (suc d)) code

-- ---- marks

pub seen-none : (s : Staged) (c : ℕ) (vs : List Value) (marks : List ℕ) → ((code : ℕ) → get_or marks code 0 ≡ 0) → AreSeen s c vs marks
seen-none s c vs marks h = record { each = λ code place e. absurd (omega (arith, h code, e)) }

pub seen-more : (s : Staged) (c : ℕ) (vs new : List Value) (marks : List ℕ) → IsMore vs new → AreSeen s c vs marks → AreSeen s c new marks
seen-more s c vs new marks m h = record {
  each = λ code place e.
      let r = h.each code place e in (
        omega (arith, r.0, ap length m.is, length-append vs m.more),
        ap (λ ws. slice_get ws place) m.is ∙ left vs m.more place r.0 ∙ r.1,
      );
}

pub seen-zero : (s : Staged) (c : ℕ) (vs : List Value) (marks : List ℕ) → AreSeen s c vs marks → AreSeen s c vs (marks ++ 0 ∷ [])
seen-zero s c vs marks h = record { each = λ code place e. by code place (one_more marks 0 code place e) }
  where
    by : (code place : ℕ) → (get_or marks code 0 ≡ suc place) ⊎ ((code ≡ length marks) × (0 ≡ suc place)) → (place < length vs) × (slice_get vs place ≡ slice_get (coded_values s c) code)
    by code place (inl here) = h.each code place here
    by code place (inr new) = absurd (omega (arith, new.1))

-- a value that was read now, and its mark
pub seen-set : (s : Staged) (c : ℕ) (vs : List Value) (v : Value) (marks : List ℕ) (code m : ℕ) → AreSeen s c vs marks → code < length marks → slice_get (coded_values s c) code ≡ Some v → m ≡ length vs + 1 → AreSeen s c (vs ++ v ∷ []) (set marks code m)
seen-set s c vs v marks code m h lt at is = record { each = λ k place e. by k place e (cases_eq k code) }
  where
    more : AreSeen s c (vs ++ v ∷ []) marks
    more = seen-more s c vs (vs ++ v ∷ []) marks (record { more = v ∷ []; is = refl }) h

    by : (k place : ℕ) → get_or (set marks code m) k 0 ≡ suc place → (k ≡ code) ⊎ (k ≡ code → ⊥) → (place < length (vs ++ v ∷ [])) × (slice_get (vs ++ v ∷ []) place ≡ slice_get (coded_values s c) k)
    by k place e (inl same) =
        let here : place ≡ length vs = omega (arith, is, sym (ap (λ n. get_or (set marks code m) n 0) same ∙ get_or-set_same marks code m 0 lt) ∙ e) in (
          omega (arith, here, length-append vs (v ∷ [])),
          ap (slice_get (vs ++ v ∷ [])) here ∙ last vs v ∙ sym (ap (slice_get (coded_values s c)) same ∙ at),
        )
    by k place e (inr other) = more.each k place (sym (get_or-set_other marks code k m 0 other) ∙ e)

-- the mark of the next of main's codes
pub seen-next : (s : Staged) (c : ℕ) (vs : List Value) (marks : List ℕ) (mark : ℕ) (kind : Kind) (key : List ℕ) → AreSeen s c vs marks → kind ≡ (get_or s.columns c no_column).kind → slice_get (keys_in (keyed_main s) c) (length marks) ≡ Some key
    → ((place : ℕ) → mark ≡ suc place → IsLast kind key vs place) → AreSeen s c vs (marks ++ mark ∷ [])
seen-next s c vs marks mark kind key h same at told = record { each = λ code place e. by code place (one_more marks mark code place e) }
  where
    here : Kind
    here = (get_or s.columns c no_column).kind

    by : (code place : ℕ) → (get_or marks code 0 ≡ suc place) ⊎ ((code ≡ length marks) × (mark ≡ suc place)) → (place < length vs) × (slice_get vs place ≡ slice_get (coded_values s c) code)
    by code place (inl old) = h.each code place old
    by code place (inr new) =
        let is = told place new.1 in (
          is.inside,
          is.value ∙ ap (λ k. Some (decoded k key)) same
              ∙ sym (ap (slice_get (coded_values s c)) new.0 ∙ slice_get-map (decoded here) (coded_keys s c) (length marks)
              ∙ ap (option_map (decoded here)) (before (keys_in (keyed_main s) c) (delta_keys c s.l2 ++ delta_keys c (unwrap_or s.closed [])) (length marks) key at)),
        )

-- the value of a key, behind others
pub last-is : (kind : Kind) (key : List ℕ) (vs new : List Value) (v : Value) (mark place : ℕ) → IsKeyOf kind key v → new ≡ vs ++ v ∷ [] → mark ≡ length vs + 1 → mark ≡ suc place → IsLast kind key new place
last-is kind key vs new v mark place of push m e =
    let at : place ≡ length vs = omega (arith, m, e) in
    record {
      inside = omega (arith, at, ap length push, length-append vs (v ∷ []));
      value = ap (λ ws. slice_get ws place) push ∙ ap (slice_get (vs ++ v ∷ [])) at ∙ last vs v ∙ ap Some (sym (ap (decoded kind) of.2 ∙ decoded-key_of kind v of.0 of.1));
    }

-- a value behind others stands in its place
pub added-is : (vs new : List Value) (v : Value) (p : ℕ) → new ≡ vs ++ v ∷ [] → p ≡ length vs → slice_get new p ≡ Some v
added-is vs new v p push at = ap (λ ws. slice_get ws p) push ∙ ap (slice_get (vs ++ v ∷ [])) at ∙ last vs v

-- a mark that was read
pub marked-value : (s : Staged) (c : ℕ) (vs : List Value) (marks : List ℕ) (code m : ℕ) (v : Value) → AreSeen s c vs marks → slice_get (coded_values s c) code ≡ Some v → code < length marks → m ≡ get_or marks code m → 0 < m → slice_get vs (m - 1) ≡ Some v
marked-value s c vs marks code m v h at lt is some =
    let read : get_or marks code 0 ≡ m = get_or_from_slice_get marks code m 0 (slice_get_read marks (length marks) code m refl lt is) in
    (h.each code (m - 1) (read ∙ (let next : m ≡ suc (m - 1) = omega (arith, some) in next))).1 ∙ at

-- the kind of a column that is there
pub kind-is : (columns : List Column) (c : ℕ) (x : Column) → c < length columns → (get_or columns c x).kind ≡ (get_or columns c no_column).kind
kind-is columns c x lt = ap (λ (d : Column). d.kind) (sym (get_or_from_slice_get columns c (get_or columns c x) no_column (slice_get-get_or columns c x lt)))

-- ---- the places of rows' values

kept : (vs more : List Value) (ps : List ℕ) → All (λ p. p < length vs) ps → values_at (vs ++ more) ps ≡ values_at vs ps
kept vs more [] h = refl
kept vs more (p ∷ ps) h = λ i. get_or_append_left vs more (Int (pos 0)) p (All-head (λ p. p < length vs) p ps h) i ∷ kept vs more ps (All-tail (λ p. p < length vs) p ps h) i

-- a value more among those that were read, or behind them
pub reads-next : (vs new : List Value) (ps : List ℕ) (xs : List Value) (p : ℕ) (v : Value) → IsMore vs new → All (λ p. p < length vs) ps → values_at vs ps ≡ xs → slice_get new p ≡ Some v
    → (All (λ p. p < length new) (ps ++ p ∷ [])) × (values_at new (ps ++ p ∷ []) ≡ xs ++ v ∷ [])
reads-next vs new ps xs p v m inside is at = (
  All-push (λ q. q < length new) ps p (All-weaker (λ q. q < length vs) (λ q. q < length new) (λ q lt. omega (arith, lt, ap length m.is, length-append vs m.more)) ps inside) (slice_get_within new p v at),
  map-append (value_in new) ps (p ∷ [])
      ∙ (λ i. (ap (λ ws. values_at ws ps) m.is ∙ kept vs m.more ps inside ∙ is) i ++ get_or_from_slice_get new p v (Int (pos 0)) at i ∷ []),
)

-- what is made of each so far, and of one more
pub one-more : {X Y : Type 0} (f : X → Y) (xs : List X) (i : ℕ) (d : X) → i < length xs → map f (take i xs) ++ f (get_or xs i d) ∷ [] ≡ map f (take (i + 1) xs)
one-more f xs i d lt = sym (map-append f (take i xs) (get_or xs i d ∷ [])) ∙ ap (map f) (sym (take_more xs i d lt))

-- each row has a place, at which there is a list where each value has one
pub place-there : {X : Type 0} (f : X → Value) (hits : List X) (vs : List Value) (ps : List ℕ) → values_at vs ps ≡ map f hits → length ps ≡ length hits
place-there f hits vs ps is = sym (length-map ps (value_in vs)) ∙ ap length is ∙ length-map hits f

pub place-inside : {A : Type 0} (h : Value → A) (vs : List Value) (ps : List ℕ) (lists : List A) (i p : ℕ) → All (λ q. q < length vs) ps → lists ≡ map h vs → i < length ps → p ≡ get_or ps i p → p < length lists
place-inside h vs ps lists i p inside is lt at = omega (arith, inside i p lt, at, ap length is ∙ length-map vs h)

-- what is there for the value of a row
pub at-place : {X A : Type 0} (f : X → Value) (h : Value → A) (hits : List X) (vs : List Value) (ps : List ℕ) (lists : List A) (i p : ℕ) (d : X) (a : A) → i < length hits → All (λ q. q < length vs) ps → values_at vs ps ≡ map f hits → lists ≡ map h vs
    → p ≡ get_or ps i p → slice_get lists p ≡ Some a → a ≡ h (f (get_or hits i d))
at-place f h hits vs ps lists i p d a lt inside read is at found =
    same_Some a (h (f (get_or hits i d)))
    (sym found ∙ ap (λ ls. slice_get ls p) is ∙ slice_get-map h vs p ∙ ap (option_map h) (slice_get-get_or vs p (Int (pos 0)) below) ∙ ap (λ v. Some (h v)) value)
  where
    there : i < length ps
    there = omega (arith, lt, place-there f hits vs ps read)

    below : p < length vs
    below = omega (arith, inside i p there, at)

    value : value_in vs p ≡ f (get_or hits i d)
    value = same_Some (value_in vs p) (f (get_or hits i d))
        (sym (slice_get-map (value_in vs) ps i ∙ ap (option_map (value_in vs)) (slice_get_read ps (length ps) i p refl there at))
        ∙ ap (λ ws. slice_get ws i) read ∙ slice_get-map f hits i ∙ ap (option_map f) (slice_get-get_or hits i d lt))
