-- How changes of rows are changes of the stages.
use Rattle.std.proofs.Common.{ℕ, zero, suc, ◌+◌, ◌≡◌, ◌≢◌, Bool, true, false, T, List, [], ◌∷◌, ◌++◌, append_assoc, append-nil, add-zero, length, map, get_or, Option, None, Some, refl, sym, ap, ◌∙◌, subst, arith, slice_get, slice_set}
use Rattle.std.proofs.lemmas.List.{map-append}
use Rattle.std.proofs.lemmas.List.Sums.{sum_by-cons, sum_by-append}
use Rattle.std.specs.Option.{option_map}
use Rattle.std.specs.Ordering.{nat_cmp, is_lt}
use Rattle.std.specs.FinMap.{is_sorted}
use Rattle.std.specs.FinMap.Entries.{below_all}
use Rattle.ut_value.specs.declared.value.Value.{Value}
use Rattle.ut_value.specs.declared.entry.Op.{Op}
use Rattle.ut_value.specs.declared.entry.Op.TheVariants as ops
use Rattle.ut_plain.specs.Rows.{inserts_of, op_inserts}
use Rattle.ut_plain.specs.Stages.{Stages, with_stages, with_inserts, entered, placed}
use Rattle.ut_plain.specs.Made.{inserts}
use Rattle.ut_stamps.specs.declared.place.Place.{Place}
use Rattle.ut_stamps.specs.declared.place.Place.TheVariants.{L1, L2, Closed, Main}
use Rattle.ut_exact.specs.Stamped.{Stamped}
use Rattle.ut_exact.specs.Exact.{with_row, begun_by}
use Rattle.ut_exact.specs.Work.{applied, with_ended, AreFree}
use Rattle.ut_exact.specs.Gone.{IsGone}
use Rattle.ut_exact.specs.Places.{StagedRow, is_dead, dead_number, AreHeld}
use Rattle.ut_exact.proofs.FateLemmas.{other_number}
use Rattle.ut_exact.proofs.OrderLemmas.{T_first, T_second, less}
use Rattle.ut_exact.proofs.WorkLemmas.{AreFree-insert, AreFree-delete}
use Rattle.ut_exact.proofs.PlaceLemmas.{AreHeld-pushed, AreHeld-ended}
use Rattle.ut_staged.specs.Staged.{Staged, row_at, placed_of, stages_of, entered_l1, entered_l2, end_at, ended_in}
use Rattle.ut_staged.specs.Tables.{place_at}
use Rattle.ut_staged.specs.Staging.{Staging, new_row, new_rows, ended_all, updated_all, written, AreFound}
use Rattle.ut_staged.proofs.ListLemmas.{some_same, get-appended, get-map, get-set_same, get-within, set-again, set-same}
use Rattle.ut_staged.proofs.TableLemmas.{stages-here, stages-set, map-kept}
use Rattle.ut_staged.proofs.StageLemmas.{pushed_l1, pushed_l2, ended_in_place, row-ended_other}

-- ---- one operation behind others

pub applied-append : (t : ℕ) (held : ℕ → Option Stamped) (os ps : List Op) → applied t held (os ++ ps) ≡ applied t (applied t held os) ps
applied-append t held [] ps = refl
applied-append t held (ops.Insert table id values ∷ os) ps = applied-append t (with_row held id (begun_by t (record { table = table; values = values }))) os ps
applied-append t held (ops.Delete table id ∷ os) ps = applied-append t (with_ended held id t) os ps

pub with_inserts-append : (bulk : Bool) (stages : Stages) (os ps : List Op) → with_inserts bulk stages (os ++ ps) ≡ with_inserts bulk (with_inserts bulk stages os) ps
with_inserts-append bulk stages [] ps = refl
with_inserts-append bulk stages (ops.Insert table id values ∷ os) ps = with_inserts-append bulk (with_stages (entered bulk (placed id values)) table stages) os ps
with_inserts-append bulk stages (ops.Delete table id ∷ os) ps = with_inserts-append bulk stages os ps

pub staging-none : (old : List Staged) (t : ℕ) (bulk : Bool) (next : ℕ) → Staging old old t bulk next []
staging-none old t bulk next = record { places = λ fates sessions held free h. h; free = λ held free. subst (λ n. AreFree held n) (sym (add-zero next)) free; stages = refl; columns = refl; merges = refl }

pub staging-then : (a b c : List Staged) (t : ℕ) (bulk : Bool) (next : ℕ) (os ps : List Op) → Staging a b t bulk next os → Staging b c t bulk (next + inserts_of os) ps → Staging a c t bulk next (os ++ ps)
staging-then a b c t bulk next os ps x y = record {
  places = λ fates sessions held free h. subst (λ f. AreHeld (place_at c) (IsGone fates sessions) f) (sym (applied-append t held os ps)) (y.places fates sessions (applied t held os) (x.free held free) (x.places fates sessions held free h));
  free = λ held free. subst (λ f. AreFree f (next + inserts_of (os ++ ps))) (sym (applied-append t held os ps))
      (subst (λ n. AreFree (applied t (applied t held os) ps) n) (omega (arith, sum_by-append op_inserts os ps)) (y.free (applied t held os) (x.free held free)));
  stages = y.stages ∙ ap (λ s. with_inserts bulk s ps) x.stages ∙ sym (with_inserts-append bulk (map stages_of a) os ps);
  columns = y.columns ∙ x.columns;
  merges = y.merges ∙ x.merges;
}

-- ---- a row enters

live : (t id : ℕ) (values : List Value) → t ≢ dead_number → is_dead (new_row t id values).stamp ≡ false
live t id values alive = other_number t dead_number alive

inserted_stages : (bulk : Bool) (old : List Staged) (n id t : ℕ) (values : List Value) (s new : Staged) → slice_get old n ≡ Some s → t ≢ dead_number → stages_of new ≡ entered bulk (placed_of (new_row t id values)) (stages_of s)
    → map stages_of (slice_set old n new) ≡ with_stages (entered bulk (placed id values)) n (map stages_of old)
inserted_stages bulk old n id t values s new is alive h =
    stages-set old n new ∙ ap (slice_set (map stages_of old) n) (h ∙ (λ i. entered bulk (record { id = id; values = values; dead = live t id values alive i }) (sym (stages-here old n s is) i)))

insert_free : (t next n : ℕ) (values : List Value) (held : ℕ → Option Stamped) → AreFree held next → AreFree (with_row held next (begun_by t (record { table = n; values = values }))) (next + inserts_of (ops.Insert n next values ∷ []))
insert_free t next n values held free = subst (λ m. AreFree (with_row held next (begun_by t (record { table = n; values = values }))) m) (omega (arith, sum_by-cons op_inserts (ops.Insert n next values) [])) (AreFree-insert held next next (begun_by t (record { table = n; values = values })) refl free)

pub staging-insert : (old : List Staged) (n t next : ℕ) (values : List Value) (s : Staged) → slice_get old n ≡ Some s → t ≢ dead_number
    → Staging old (slice_set old n (entered_l1 (new_row t next values) s)) t false next (ops.Insert n next values ∷ [])
staging-insert old n t next values s is alive =
    let row = new_row t next values in
    let new = slice_set old n (entered_l1 row s) in
    record {
      places = λ fates sessions held free h. AreHeld-pushed (place_at old) (place_at new) (IsGone fates sessions) held n (L1 (length s.l1)) row (free next (omega arith)) h (pushed_l1 old n s row is) (live t next values alive);
      free = insert_free t next n values;
      stages = inserted_stages false old n next t values s (entered_l1 row s) is alive (ap (λ rows. record (stages_of s) { l1 = rows }) (map-append placed_of s.l1 (row ∷ [])));
      columns = map-kept (λ (x : Staged). x.columns) old n s (entered_l1 row s) is refl;
      merges = map-kept (λ (x : Staged). x.merge) old n s (entered_l1 row s) is refl;
    }

pub staging-load : (old : List Staged) (n t next : ℕ) (values : List Value) (s : Staged) → slice_get old n ≡ Some s → t ≢ dead_number
    → Staging old (slice_set old n (entered_l2 (new_row t next values ∷ []) s)) t true next (ops.Insert n next values ∷ [])
staging-load old n t next values s is alive =
    let row = new_row t next values in
    let new = slice_set old n (entered_l2 (row ∷ []) s) in
    record {
      places = λ fates sessions held free h. AreHeld-pushed (place_at old) (place_at new) (IsGone fates sessions) held n (L2 (length s.l2)) row (free next (omega arith)) h (pushed_l2 old n s row is) (live t next values alive);
      free = insert_free t next n values;
      stages = inserted_stages true old n next t values s (entered_l2 (row ∷ []) s) is alive (ap (λ rows. record (stages_of s) { l2 = rows }) (map-append placed_of s.l2 (row ∷ [])));
      columns = map-kept (λ (x : Staged). x.columns) old n s (entered_l2 (row ∷ []) s) is refl;
      merges = map-kept (λ (x : Staged). x.merge) old n s (entered_l2 (row ∷ []) s) is refl;
    }

-- rows one after the other

one_more : (next : ℕ) (n : ℕ) (values : List Value) → next + inserts_of (ops.Insert n next values ∷ []) ≡ next + 1
one_more next n values = omega (arith, sum_by-cons op_inserts (ops.Insert n next values) [])

pub staging-bulk : (old : List Staged) (n t next : ℕ) (rows : List (List Value)) (s : Staged) → slice_get old n ≡ Some s → t ≢ dead_number
    → Staging old (slice_set old n (entered_l2 (new_rows t next rows) s)) t true next (inserts n next rows)
staging-bulk old n t next [] s is alive =
    subst (λ x. Staging old x t true next []) (sym (set-same old n s is) ∙ ap (λ xs. slice_set old n (record s { l2 = xs })) (sym (append-nil s.l2))) (staging-none old t true next)
staging-bulk old n t next (values ∷ rows) s is alive =
    let row = new_row t next values in
    let mid = entered_l2 (row ∷ []) s in
    let at : slice_get (slice_set old n mid) n ≡ Some mid = get-set_same old n mid (get-within old n s is) in
    let rest = staging-bulk (slice_set old n mid) n t (next + 1) rows mid at alive in
    let whole : slice_set (slice_set old n mid) n (entered_l2 (new_rows t (next + 1) rows) mid) ≡ slice_set old n (entered_l2 (row ∷ new_rows t (next + 1) rows) s) =
    set-again old n mid _ ∙ ap (λ xs. slice_set old n (record s { l2 = xs })) (append_assoc s.l2 (row ∷ []) (new_rows t (next + 1) rows)) in
    staging-then old (slice_set old n mid) _ t true next (ops.Insert n next values ∷ []) (inserts n (next + 1) rows) (staging-load old n t next values s is alive)
    (subst (λ m. Staging (slice_set old n mid) (slice_set old n (entered_l2 (row ∷ new_rows t (next + 1) rows) s)) t true m (inserts n (next + 1) rows)) (sym (one_more next n values))
    (subst (λ x. Staging (slice_set old n mid) x t true (next + 1) (inserts n (next + 1) rows)) whole rest))

-- ---- a row ends

map-end : (t i : ℕ) (rows : List StagedRow) → map placed_of (end_at t i rows) ≡ map placed_of rows
map-end t i [] = refl
map-end t zero (row ∷ rows) = refl
map-end t (suc i) (row ∷ rows) = ap (λ xs. placed_of row ∷ xs) (map-end t i rows)

map-end_in : (t i : ℕ) (rows : Option (List StagedRow)) → option_map (map placed_of) (option_map (end_at t i) rows) ≡ option_map (map placed_of) rows
map-end_in t i None = refl
map-end_in t i (Some rows) = ap Some (map-end t i rows)

map-end_part : (t i p : ℕ) (parts : List (List StagedRow)) → map (map placed_of) (slice_set parts p (end_at t i (get_or parts p []))) ≡ map (map placed_of) parts
map-end_part t i p [] = refl
map-end_part t i zero (rows ∷ parts) = ap (λ xs. xs ∷ map (map placed_of) parts) (map-end t i rows)
map-end_part t i (suc p) (rows ∷ parts) = ap (λ xs. map placed_of rows ∷ xs) (map-end_part t i p parts)

pub stages-ended : (t : ℕ) (p : Place) (s : Staged) → stages_of (ended_in t p s) ≡ stages_of s
stages-ended t (L1 i) s = ap (λ rows. record (stages_of s) { l1 = rows }) (map-end t i s.l1)
stages-ended t (L2 i) s = ap (λ rows. record (stages_of s) { l2 = rows }) (map-end t i s.l2)
stages-ended t (Closed i) s = ap (λ rows. record (stages_of s) { closed = rows }) (map-end_in t i s.closed)
stages-ended t (Main p i) s = ap (λ parts. record (stages_of s) { parts = parts }) (map-end_part t i p s.parts)

pub columns-ended : (t : ℕ) (p : Place) (s : Staged) → (ended_in t p s).columns ≡ s.columns
columns-ended t (L1 i) s = refl
columns-ended t (L2 i) s = refl
columns-ended t (Closed i) s = refl
columns-ended t (Main p i) s = refl

pub merge-ended : (t : ℕ) (p : Place) (s : Staged) → (ended_in t p s).merge ≡ s.merge
merge-ended t (L1 i) s = refl
merge-ended t (L2 i) s = refl
merge-ended t (Closed i) s = refl
merge-ended t (Main p i) s = refl

pub staging-end : (bulk : Bool) (old : List Staged) (n t next : ℕ) (p : Place) (s : Staged) (row : StagedRow) → slice_get old n ≡ Some s → row_at s p ≡ Some row → is_dead row.stamp ≡ false
    → Staging old (slice_set old n (ended_in t p s)) t bulk next (ops.Delete n row.id ∷ [])
staging-end bulk old n t next p s row is at lives =
    let new = slice_set old n (ended_in t p s) in
    record {
      places = λ fates sessions held free h. AreHeld-ended (place_at old) (place_at new) (IsGone fates sessions) held n p row t h (ended_in_place old n s p row t is at) lives;
      free = λ held free. subst (λ m. AreFree (with_ended held row.id t) m) (omega (arith, sum_by-cons op_inserts (ops.Delete n row.id) [])) (AreFree-delete held row.id t next free);
      stages = stages-set old n (ended_in t p s) ∙ ap (slice_set (map stages_of old) n) (stages-ended t p s) ∙ set-same (map stages_of old) n (stages_of s) (get-map stages_of old n s is);
      columns = map-kept (λ (x : Staged). x.columns) old n s (ended_in t p s) is (columns-ended t p s);
      merges = map-kept (λ (x : Staged). x.merge) old n s (ended_in t p s) is (merge-ended t p s);
    }

-- what was found elsewhere is still there
pub AreFound-ended : (t id : ℕ) (p : Place) (s : Staged) (row : StagedRow) (found : List (ℕ × Place)) → row_at s p ≡ Some row → row.id ≡ id → T (below_all nat_cmp id found) → AreFound s found → AreFound (ended_in t p s) found
AreFound-ended t id p s row [] at is below h = tt
AreFound-ended t id p s row (e ∷ es) at is below h =
    let lt = less id e.0 (T_first (is_lt (nat_cmp id e.0)) _ below) in
    let apart : e.1 ≢ p = λ same. absurd (omega (arith, lt, is, h.2, ap (λ (x : StagedRow). x.id) (some_same h.0 row (sym h.1 ∙ ap (row_at s) same ∙ at)))) in
    (h.0, row-ended_other t p e.1 s apart ∙ h.1, h.2, h.3, AreFound-ended t id p s row es at is (T_second (is_lt (nat_cmp id e.0)) _ below) h.4)

pub entered_stays : (s : Staged) (row r : StagedRow) (q : Place) → row_at s q ≡ Some r → row_at (entered_l1 row s) q ≡ Some r
entered_stays s row r (L1 i) h = get-appended s.l1 (row ∷ []) i r h
entered_stays s row r (L2 i) h = h
entered_stays s row r (Closed i) h = h
entered_stays s row r (Main p i) h = h

pub AreFound-entered : (s : Staged) (row : StagedRow) (found : List (ℕ × Place)) → AreFound s found → AreFound (entered_l1 row s) found
AreFound-entered s row [] h = tt
AreFound-entered s row (e ∷ es) h = (h.0, entered_stays s row h.0 e.1 h.1, h.2, h.3, AreFound-entered s row es h.4)

-- the rows that were found, as the plain store has them
abbrev pub ids_of : List (ℕ × Place) → List ℕ
ids_of found = map (λ (e : ℕ × Place). e.0) found

pub staging-deletes : (old : List Staged) (n t next : ℕ) (found : List (ℕ × Place)) (s : Staged) → slice_get old n ≡ Some s → T (is_sorted nat_cmp found) → AreFound s found
    → Staging old (slice_set old n (ended_all t found s)) t false next (map (λ (e : ℕ × Place). ops.Delete n e.0) found)
staging-deletes old n t next [] s is sorted h = subst (λ x. Staging old x t false next []) (sym (set-same old n s is)) (staging-none old t false next)
staging-deletes old n t next (e ∷ es) s is sorted h =
    let row = h.0 in
    let mid = ended_in t e.1 s in
    let at : slice_get (slice_set old n mid) n ≡ Some mid = get-set_same old n mid (get-within old n s is) in
    let first : Staging old (slice_set old n mid) t false next (ops.Delete n e.0 ∷ []) = subst (λ id. Staging old (slice_set old n mid) t false next (ops.Delete n id ∷ [])) h.2 (staging-end false old n t next e.1 s row is h.1 h.3) in
    let rest = staging-deletes (slice_set old n mid) n t next es mid at (T_second (below_all nat_cmp e.0 es) _ sorted) (AreFound-ended t e.0 e.1 s row es h.1 h.2 (T_first (below_all nat_cmp e.0 es) _ sorted) h.4) in
    staging-then old (slice_set old n mid) _ t false next (ops.Delete n e.0 ∷ []) (map (λ (x : ℕ × Place). ops.Delete n x.0) es) first
    (subst (λ m. Staging (slice_set old n mid) (slice_set old n (ended_all t es mid)) t false m (map (λ (x : ℕ × Place). ops.Delete n x.0) es)) (omega (arith, sum_by-cons op_inserts (ops.Delete n e.0) []))
    (subst (λ x. Staging (slice_set old n mid) x t false next (map (λ (y : ℕ × Place). ops.Delete n y.0) es)) (set-again old n mid (ended_all t es mid)) rest))

-- the operations of an update, from what was found and the changed rows
abbrev pub updates_of : ℕ → ℕ → List (ℕ × Place) → List (List Value) → List Op
updates_of n id [] rows = []
updates_of n id (e ∷ es) [] = []
updates_of n id (e ∷ es) (values ∷ rows) = ops.Delete n e.0 ∷ ops.Insert n id values ∷ updates_of n (id + 1) es rows

pub staging-updates : (old : List Staged) (n t next : ℕ) (found : List (ℕ × Place)) (rows : List (List Value)) (s : Staged) → slice_get old n ≡ Some s → t ≢ dead_number → T (is_sorted nat_cmp found) → AreFound s found
    → Staging old (slice_set old n (updated_all t next found rows s)) t false next (updates_of n next found rows)
staging-updates old n t next [] rows s is alive sorted h = subst (λ x. Staging old x t false next []) (sym (set-same old n s is)) (staging-none old t false next)
staging-updates old n t next (e ∷ es) [] s is alive sorted h = subst (λ x. Staging old x t false next []) (sym (set-same old n s is)) (staging-none old t false next)
staging-updates old n t next (e ∷ es) (values ∷ rows) s is alive sorted h =
    let row = h.0 in
    let mid = ended_in t e.1 s in
    let more = entered_l1 (new_row t next values) mid in
    let within = get-within old n s is in
    let at_mid : slice_get (slice_set old n mid) n ≡ Some mid = get-set_same old n mid within in
    let at_more : slice_get (slice_set old n more) n ≡ Some more = get-set_same old n more within in
    let first : Staging old (slice_set old n mid) t false next (ops.Delete n e.0 ∷ []) = subst (λ id. Staging old (slice_set old n mid) t false next (ops.Delete n id ∷ [])) h.2 (staging-end false old n t next e.1 s row is h.1 h.3) in
    let second : Staging (slice_set old n mid) (slice_set old n more) t false next (ops.Insert n next values ∷ []) =
    subst (λ x. Staging (slice_set old n mid) x t false next (ops.Insert n next values ∷ [])) (set-again old n mid more) (staging-insert (slice_set old n mid) n t next values mid at_mid alive) in
    let found = AreFound-entered mid (new_row t next values) es (AreFound-ended t e.0 e.1 s row es h.1 h.2 (T_first (below_all nat_cmp e.0 es) _ sorted) h.4) in
    let rest = staging-updates (slice_set old n more) n t (next + 1) es rows more at_more alive (T_second (below_all nat_cmp e.0 es) _ sorted) found in
    let none : next ≡ next + inserts_of (ops.Delete n e.0 ∷ []) = omega (arith, sum_by-cons op_inserts (ops.Delete n e.0) []) in
    staging-then old (slice_set old n mid) _ t false next (ops.Delete n e.0 ∷ []) (ops.Insert n next values ∷ updates_of n (next + 1) es rows) first
    (subst (λ m. Staging (slice_set old n mid) (slice_set old n (updated_all t (next + 1) es rows more)) t false m (ops.Insert n next values ∷ updates_of n (next + 1) es rows)) none
    (staging-then (slice_set old n mid) (slice_set old n more) _ t false next (ops.Insert n next values ∷ []) (updates_of n (next + 1) es rows) second
    (subst (λ m. Staging (slice_set old n more) (slice_set old n (updated_all t (next + 1) es rows more)) t false m (updates_of n (next + 1) es rows)) (sym (one_more next n values))
    (subst (λ x. Staging (slice_set old n more) x t false (next + 1) (updates_of n (next + 1) es rows)) (set-again old n more _) rest))))

-- ---- as they are written

pub written-deletes : (n t : ℕ) (found : List (ℕ × Place)) (s : Staged) → written t (map (λ (e : ℕ × Place). ops.Delete n e.0) found) found s ≡ ended_all t found s
written-deletes n t [] s = refl
written-deletes n t (e ∷ es) s = written-deletes n t es (ended_in t e.1 s)

pub written-updates : (n t next : ℕ) (found : List (ℕ × Place)) (rows : List (List Value)) (s : Staged) → written t (updates_of n next found rows) found s ≡ updated_all t next found rows s
written-updates n t next [] rows s = refl
written-updates n t next (e ∷ es) [] s = refl
written-updates n t next (e ∷ es) (values ∷ rows) s = written-updates n t (next + 1) es rows (entered_l1 (new_row t next values) (ended_in t e.1 s))
