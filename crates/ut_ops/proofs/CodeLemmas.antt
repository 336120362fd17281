-- What the codes of a column tell of rows that fit: their numbers, and the places of their sums.
use Rattle.std.proofs.Common.{ℕ, zero, suc, ◌+◌, ◌<◌, ◌≡◌, List, [], ◌∷◌, ◌++◌, length, map, get_or, set, Option, Some, IfSome, IsTrue, refl, sym, ap, ◌∙◌, subst, arith, ℤ, pos, negsuc, to_z, of_z, ltb-true, ◌^◌}
use Rattle.std.specs.Prelude.{slice_get, unwrap_or}
use Rattle.std.specs.Option.{option_map}
use Rattle.std.proofs.lemmas.List.{length-append, length-map, map-append}
use Rattle.std.proofs.lemmas.Option.{same_Some, slice_get-map}
use Rattle.ut_value.specs.declared.value.Value.{Value}
use Rattle.ut_value.specs.declared.value.Value.TheVariants.{Int, Text}
use Rattle.ut_value.specs.declared.value.Kind.{Kind}
use Rattle.ut_value.specs.declared.value.Kind.TheVariants as kinds
use Rattle.ut_value.specs.declared.value.Column.{Column}
use Rattle.ut_value.specs.KeyBytes.{is_int, is_value, int_key}
use Rattle.std.specs.Int.{w64}
use Rattle.std.proofs.lemmas.Int.{ints, to_z-of_z}
use Rattle.ut_plain.specs.Query.{number_of}
use Rattle.ut_plain.specs.declared.reply.Group as group
use Rattle.ut_scan.specs.declared.place.Found.{Found}
use Rattle.ut_exact.specs.Places.{StagedRow}
use Rattle.ut_staged.specs.Staged.{Staged, row_at}
use Rattle.ut_scan.specs.Coded.{keys_in}
use Rattle.ut_table.specs.Coded.{no_column, keyed_main, delta_keys, coded_keys, coded_values}
use Rattle.ut_table.specs.Decoded.{decoded}
use Rattle.ut_table.proofs.CodedLemmas.{before}
use Rattle.ut_table.proofs.DecodedLemmas.{decoded-key_of}
use Rattle.ut_ops.specs.declared.numbers.Noted.{Noted}
use Rattle.ut_ops.specs.Fit.{is_row, cell}
use Rattle.ut_ops.specs.Noted.{IsNoted}
use Rattle.ut_ops.specs.Gathered.{key_in, more_at, AreMarks, Adds}
use Rattle.ut_ops.proofs.CellLemmas.{is_cell}
use Rattle.ut_ops.specs.Seen.{AreSeen}
use Rattle.ut_ops.proofs.SeenLemmas.{seen-none, seen-more, seen-set}
use Rattle.ut_ops.proofs.GatherLemmas.{length-more, keys-more, IsNumber, sums-push, tallies-more, few-push, few-more}

-- what a code of a row tells
abbrev pub IsCodeOf : Staged → ℕ → Found → Option ℕ → Type 0
IsCodeOf s c f o = (row : StagedRow) → row_at s f.place ≡ Some row → IfSome o (λ code. slice_get (coded_values s c) code ≡ slice_get row.values c)

-- it stands for the row's value
pub code-cell : (s : Staged) (c : ℕ) (f : Found) (o : Option ℕ) (code : ℕ) → IsTrue (is_row s.columns (row_at s f.place)) → c < length s.columns → IsCodeOf s c f o → o ≡ Some code → slice_get (coded_values s c) code ≡ Some (cell s c f)
code-cell s c f o code fit small told is =
    let x = is_cell s c f fit small in
    subst (λ p. IfSome p (λ n. slice_get (coded_values s c) n ≡ slice_get x.row.values c)) is (told x.row x.there) ∙ x.is

-- ---- numbers

pub noted-cell : (s : Staged) (c : ℕ) (f : Found) (note : Noted) (code : ℕ) → slice_get (coded_values s c) code ≡ Some (cell s c f) → IsNoted s c note → note.mark ≡ code + 1 → cell s c f ≡ Int note.number
noted-cell s c f note code at noted mark = same_Some (cell s c f) (Int note.number) (sym at ∙ noted.number code (omega (arith, mark)))

-- a number that was noted has 64 bits
pub in-range : (v : Value) (x : ℤ) → v ≡ Int x → IsTrue (is_value v) → to_z w64 (of_z w64 x) ≡ x
in-range (Int y) x e kept = by y x (ap number_of e) kept
  where
    by : (y x : ℤ) → y ≡ x → IsTrue (is_value (Int y)) → to_z w64 (of_z w64 x) ≡ x
    by (pos n) x e kept = let lt = ltb-true n (2 ^ 63) kept in grind (arith, ints, to_z-of_z)
    by (negsuc n) x e kept = let lt = ltb-true n (2 ^ 63) kept in grind (arith, ints, to_z-of_z)
in-range (Text s) x e kept = cc

pub noted-value : (s : Staged) (c : ℕ) (f : Found) (note : Noted) (code : ℕ) → IsTrue (is_value (cell s c f)) → slice_get (coded_values s c) code ≡ Some (cell s c f) → IsNoted s c note → note.mark ≡ code + 1 → cell s c f ≡ Int (to_z w64 (of_z w64 note.number))
noted-value s c f note code kept at noted mark =
    let is = noted-cell s c f note code at noted mark in
    is ∙ ap Int (sym (in-range (cell s c f) note.number is kept))

pub noted-new : (s : Staged) (c : ℕ) (f : Found) (note : Noted) (code : ℕ) → slice_get (coded_values s c) code ≡ Some (cell s c f) → note.mark ≡ code + 1 → cell s c f ≡ Int note.number → IsNoted s c note
noted-new s c f note code at mark is = record { number = λ other e. let same : other ≡ code = omega (arith, mark, e) in ap (slice_get (coded_values s c)) same ∙ at ∙ ap Some is }

-- a kind that is told is that of the column
kind-there : (columns : List Column) (c : ℕ) (k : Kind) → option_map (λ (x : Column). x.kind) (slice_get columns c) ≡ Some k → (get_or columns c no_column).kind ≡ k
kind-there [] c k h = cc
kind-there (x ∷ xs) zero k h = same_Some x.kind k h
kind-there (x ∷ xs) (suc c) k h = kind-there xs c k h

-- the number of a key of main's dictionaries
pub noted-key : (s : Staged) (c code : ℕ) (key : List ℕ) (x : ℤ) (note : Noted) → option_map (λ (d : Column). d.kind) (slice_get s.columns c) ≡ Some kinds.Int → slice_get (keys_in (keyed_main s) c) code ≡ Some key
    → key ≡ int_key x → IsTrue (is_int x) → note.mark ≡ code + 1 → note.number ≡ x → IsNoted s c note
noted-key s c code key x note kind at is small mark number = record {
  number = λ other e.
      let here = (get_or s.columns c no_column).kind in
      let same : other ≡ code = omega (arith, mark, e) in
      ap (slice_get (coded_values s c)) same
      ∙ slice_get-map (decoded here) (coded_keys s c) code
      ∙ ap (option_map (decoded here)) (before (keys_in (keyed_main s) c) (delta_keys c s.l2 ++ delta_keys c (unwrap_or s.closed [])) code key at)
      ∙ (λ i. Some (decoded (kind-there s.columns c kinds.Int kind i) (is i)))
      ∙ ap Some (decoded-key_of kinds.Int (Int x) refl small ∙ ap Int (sym number));
}

pub noted-none : (s : Staged) (c : ℕ) (note : Noted) → note.mark ≡ 0 → IsNoted s c note
noted-none s c note mark = record { number = λ code e. absurd (omega (arith, mark, e)) }

-- ---- marks

-- the keys of sums, and marks for them
as_seen : (s : Staged) (c : ℕ) (marks : List ℕ) (gs : List group.Group) → AreMarks s c marks gs → AreSeen s c (map key_in gs) marks
as_seen s c marks gs h = record { each = λ code place e. let r = h.each code place e in (omega (arith, r.0, length-map gs key_in), r.1) }

as_marks : (s : Staged) (c : ℕ) (marks : List ℕ) (gs : List group.Group) → AreSeen s c (map key_in gs) marks → AreMarks s c marks gs
as_marks s c marks gs h = record { each = λ code place e. let r = h.each code place e in (omega (arith, r.0, length-map gs key_in), r.1) }

pub marks-none : (s : Staged) (c : ℕ) (marks : List ℕ) → ((code : ℕ) → get_or marks code 0 ≡ 0) → AreMarks s c marks []
marks-none s c marks h = as_marks s c marks [] (seen-none s c [] marks h)

pub marks-push : (s : Staged) (c : ℕ) (marks : List ℕ) (gs : List group.Group) (g : group.Group) → AreMarks s c marks gs → AreMarks s c marks (gs ++ g ∷ [])
marks-push s c marks gs g h = as_marks s c marks (gs ++ g ∷ []) (seen-more s c (map key_in gs) (map key_in (gs ++ g ∷ [])) marks (record { more = g.key ∷ []; is = map-append key_in gs (g ∷ []) }) (as_seen s c marks gs h))

pub marks-set : (s : Staged) (c : ℕ) (marks : List ℕ) (gs : List group.Group) (g : group.Group) (code m : ℕ) → AreMarks s c marks gs → code < length marks → slice_get (coded_values s c) code ≡ Some g.key → m ≡ length gs + 1
    → AreMarks s c (set marks code m) (gs ++ g ∷ [])
marks-set s c marks gs g code m h lt at is =
    as_marks s c (set marks code m) (gs ++ g ∷ [])
    (subst (λ vs. AreSeen s c vs (set marks code m)) (sym (map-append key_in gs (g ∷ []))) (seen-set s c (map key_in gs) g.key marks code m (as_seen s c marks gs h) lt at (omega (arith, is, length-map gs key_in))))

pub marks-more : (s : Staged) (c : ℕ) (marks : List ℕ) (gs : List group.Group) (i : ℕ) (x : ℤ) → AreMarks s c marks gs → AreMarks s c marks (more_at i x gs)
marks-more s c marks gs i x h = record {
  each = λ code place e.
      let r = h.each code place e in
      (omega (arith, r.0, length-more i x gs), ap (λ ks. slice_get ks place) (keys-more i x gs) ∙ r.1);
}

-- ---- a number more of a key

pub adds-new : (s : Staged) (c : ℕ) (k : Value) (n : ℤ) (marks : List ℕ) (gs new : List group.Group) (m : ℤ) → IsNumber n → AreMarks s c marks gs → new ≡ gs ++ record { key = k; sum = m } ∷ [] → m ≡ n → Adds s c k n gs marks new
adds-new s c k n marks gs new m x h is same =
    subst (Adds s c k n gs marks) (sym (is ∙ ap (λ t. gs ++ record { key = k; sum = t } ∷ []) same))
    (record { told = sums-push gs k n; marked = marks-push s c marks gs (record { key = k; sum = n }) h; few = λ j. few-push j gs (record { key = k; sum = n }) x })

pub adds-marked : (s : Staged) (c : ℕ) (k : Value) (n : ℤ) (marks : List ℕ) (gs : List group.Group) (code mark : ℕ) (new : List group.Group) (m : ℤ) → IsNumber n → AreMarks s c marks gs → code < length marks → slice_get (coded_values s c) code ≡ Some k → mark ≡ length new
    → new ≡ gs ++ record { key = k; sum = m } ∷ [] → m ≡ n → Adds s c k n gs (set marks code mark) new
adds-marked s c k n marks gs code mark new m x h lt at count is same =
    subst (Adds s c k n gs (set marks code mark)) (sym whole)
    (record { told = sums-push gs k n; marked = marks-set s c marks gs (record { key = k; sum = n }) code mark h lt at (count ∙ ap length whole ∙ length-append gs (record { key = k; sum = n } ∷ [])); few = λ j. few-push j gs (record { key = k; sum = n }) x })
  where
    whole : new ≡ gs ++ record { key = k; sum = n } ∷ []
    whole = is ∙ ap (λ t. gs ++ record { key = k; sum = t } ∷ []) same

pub adds-more : (s : Staged) (c : ℕ) (k : Value) (n : ℤ) (marks : List ℕ) (gs : List group.Group) (code place : ℕ) (new : List group.Group) (m : ℤ) → IsNumber n → AreMarks s c marks gs → slice_get (coded_values s c) code ≡ Some k → get_or marks code 0 ≡ suc place
    → new ≡ more_at place m gs → m ≡ n → Adds s c k n gs marks new
adds-more s c k n marks gs code place new m x h at mark is same =
    subst (Adds s c k n gs marks) (sym (is ∙ ap (λ t. more_at place t gs) same))
    (record { told = tallies-more gs place k n ((h.each code place mark).1 ∙ at); marked = marks-more s c marks gs place n h; few = λ j. few-more j place n gs x })
