-- A shot shows the rows of the tables that its question reads.
use Rattle.std.proofs.Common.{◌≡◌, ℕ, zero, suc, ◌+◌, Bool, true, false, cond, List, [], ◌∷◌, ◌++◌, map, take, Option, None, Some, refl, sym, ap, ◌∙◌, subst, arith}
use Rattle.std.specs.Prelude.{slice_get}
use Rattle.std.specs.Option.{option_and_then}
use Rattle.std.specs.Ordering.{nat_cmp}
use Rattle.std.specs.FinMap.{find}
use Rattle.ut_plain.specs.declared.table.Stored.{Stored}
use Rattle.ut_plain.specs.declared.statement.Query.{Query}
use Rattle.ut_stamps.specs.declared.place.Place.{Place}
use Rattle.ut_stamps.specs.Stamps.{sees}
use Rattle.ut_exact.specs.Places.{StagedRow}
use Rattle.ut_exact.specs.Scan.{AreSeen, stored_in}
use Rattle.ut_exact.proofs.OrderLemmas.{sorted_filter}
use Rattle.ut_staged.specs.Staged.{Staged, row_at, no_rows}
use Rattle.ut_staged.specs.Tables.{place_at}
use Rattle.ut_table.specs.Finds.{SeenOnce}
use Rattle.ut_look.specs.Look.{Sight}
use Rattle.ut_query.specs.Look.{Sees}
use Rattle.ut_shown.specs.Shown.{settled, shown_row, shown_stages}
use Rattle.ut_shot.specs.Reads.{eyes_of, is_read, read_rows, taken, taken_from, taken_all}
use Rattle.ut_shot.specs.Shot.{ShotValue, IsShot}
use Rattle.ut_shown.proofs.ListLemmas.{none_some, some_same, found-before, found-behind, fewer}
use Rattle.ut_shown.proofs.TableLemmas.{nowhere, was, shows, shown-once}

-- ---- tables one by one

taken-columns : (l : Sight) (query : Query) (n : ℕ) (s : Staged) → (taken l query n s).columns ≡ s.columns
taken-columns l query n s = by (is_read l.tables query n)
  where
    by : (b : Bool) → (cond b (shown_stages (eyes_of l) s) (no_rows s.columns)).columns ≡ s.columns
    by true = refl
    by false = refl

all-columns : (l : Sight) (query : Query) (n : ℕ) (ss : List Staged) → map (λ (s : Staged). s.columns) (taken_from l query n ss) ≡ map (λ (s : Staged). s.columns) ss
all-columns l query n [] = refl
all-columns l query n (s ∷ ss) = λ i. taken-columns l query n s i ∷ all-columns l query (suc n) ss i

-- the stages that a shot has at a place are made of those that stood there
pub record IsTakenAt (l : Sight) (query : Query) (n : ℕ) (ss : List Staged) (m : ℕ) (t : Staged) : Type 0 where
  pub old : Staged
  pub at : slice_get ss m ≡ Some old
  pub is : t ≡ taken l query (n + m) old

get-taken : (l : Sight) (query : Query) (n : ℕ) (ss : List Staged) (m : ℕ) (t : Staged) → slice_get (taken_from l query n ss) m ≡ Some t → IsTakenAt l query n ss m t
get-taken l query n [] m t is = absurd (none_some t is)
get-taken l query n (s ∷ ss) zero t is = let same : n ≡ n + zero = omega arith in record { old = s; at = refl; is = sym (some_same (taken l query n s) t is) ∙ ap (λ k. taken l query k s) same }
get-taken l query n (s ∷ ss) (suc m) t is = let rest = get-taken l query (suc n) ss m t is in let same : suc n + m ≡ n + suc m = omega arith in record { old = rest.old; at = rest.at; is = rest.is ∙ ap (λ k. taken l query k rest.old) same }

taken-get : (l : Sight) (query : Query) (n : ℕ) (ss : List Staged) (m : ℕ) (s : Staged) → slice_get ss m ≡ Some s → slice_get (taken_from l query n ss) m ≡ Some (taken l query (n + m) s)
taken-get l query n [] m s is = absurd (none_some s is)
taken-get l query n (x ∷ ss) zero s is = let same : n ≡ n + zero = omega arith in λ i. Some (taken l query (same i) (some_same x s is i))
taken-get l query n (x ∷ ss) (suc m) s is = let same : suc n + m ≡ n + suc m = omega arith in taken-get l query (suc n) ss m s is ∙ ap (λ k. Some (taken l query k s)) same

taken-next : (l : Sight) (query : Query) (n m : ℕ) (ss : List Staged) (s : Staged) → slice_get ss m ≡ Some s → taken_from l query n (take (suc m) ss) ≡ taken_from l query n (take m ss) ++ taken l query (n + m) s ∷ []
taken-next l query n m [] s is = absurd (none_some s is)
taken-next l query n zero (x ∷ ss) s is = let same : n ≡ n + zero = omega arith in λ i. taken l query (same i) (some_same x s is i) ∷ []
taken-next l query n (suc m) (x ∷ ss) s is = let same : suc n + m ≡ n + suc m = omega arith in ap (λ (r : List Staged). taken l query n x ∷ r) (taken-next l query (suc n) m ss s is ∙ ap (λ k. taken_from l query (suc n) (take m ss) ++ taken l query k s ∷ []) same)

pub taken-more : (l : Sight) (query : Query) (m : ℕ) (ss : List Staged) (s : Staged) → slice_get ss m ≡ Some s → taken_from l query 0 (take (m + 1) ss) ≡ taken_from l query 0 (take m ss) ++ taken l query m s ∷ []
taken-more l query m ss s is =
    let next : m + 1 ≡ suc m = omega arith in
    let same : 0 + m ≡ m = omega arith in
    ap (λ k. taken_from l query 0 (take k ss)) next ∙ taken-next l query 0 m ss s is ∙ ap (λ k. taken_from l query 0 (take m ss) ++ taken l query k s ∷ []) same

-- a place of a table among all
table-at : (staged : List Staged) (n : ℕ) (q : Place) (r : StagedRow) → place_at staged n q ≡ Some r → (s : Staged) × (slice_get staged n ≡ Some s) × (row_at s q ≡ Some r)
table-at staged n q r is = by (slice_get staged n) refl is
  where
    by : (o : Option Staged) → slice_get staged n ≡ o → option_and_then (λ s. row_at s q) o ≡ Some r → (s : Staged) × (slice_get staged n ≡ Some s) × (row_at s q ≡ Some r)
    by None e h = absurd (none_some r h)
    by (Some s) e h = (s, e, h)

at-table : (staged : List Staged) (n : ℕ) (q : Place) (s : Staged) → slice_get staged n ≡ Some s → place_at staged n q ≡ row_at s q
at-table staged n q s is = ap (λ o. option_and_then (λ t. row_at t q) o) is

-- ---- all rows

module _ (l : Sight) (query : Query) (rows : List (ℕ × Stored)) (given : Sees l rows) where
  abbrev shot : List Staged
  shot = taken_all l query

  abbrev read : ℕ × Stored → Bool
  read e = is_read l.tables query e.1.table

  none-taken : (n : ℕ) (s : Staged) → is_read l.tables query n ≡ false → taken l query n s ≡ no_rows s.columns
  none-taken n s e = ap (λ b. cond b (shown_stages (eyes_of l) s) (no_rows s.columns)) e

  all-taken : (n : ℕ) (s : Staged) → is_read l.tables query n ≡ true → taken l query n s ≡ shown_stages (eyes_of l) s
  all-taken n s e = ap (λ b. cond b (shown_stages (eyes_of l) s) (no_rows s.columns)) e

  -- the table at a place of a shot, where a row stands
  pub record Holds (n : ℕ) (q : Place) (r : StagedRow) : Type 0 where
    pub old : Staged
    pub at : slice_get l.staged n ≡ Some old
    pub is_read_there : is_read l.tables query n ≡ true
    pub here : row_at (shown_stages (eyes_of l) old) q ≡ Some r

  holds : (n : ℕ) (q : Place) (r : StagedRow) → place_at shot n q ≡ Some r → Holds n q r
  holds n q r is =
      let t = table-at shot n q r is in
      let o = get-taken l query 0 l.staged n t.0 t.1 in
      let same : 0 + n ≡ n = omega arith in
      by o.old o.at (ap (λ (x : Staged). row_at x q) (sym (o.is ∙ ap (λ k. taken l query k o.old) same)) ∙ t.2) (is_read l.tables query n) refl
    where
      by : (s : Staged) → slice_get l.staged n ≡ Some s → row_at (taken l query n s) q ≡ Some r → (b : Bool) → is_read l.tables query n ≡ b → Holds n q r
      by s at h true e = record { old = s; at = at; is_read_there = e; here = ap (λ (x : Staged). row_at x q) (sym (all-taken n s e)) ∙ h }
      by s at h false e = absurd (nowhere s q r (ap (λ (x : Staged). row_at x q) (sym (none-taken n s e)) ∙ h))

  seen-in : AreSeen (place_at shot) settled 0 None (read_rows l.tables query rows)
  seen-in = record { sorted = sorted_filter read rows given.seen.sorted; sound = sound; complete = complete }
    where
      sound : (id : ℕ) (stored : Stored) → find nat_cmp id (read_rows l.tables query rows) ≡ Some stored
          → (n : ℕ) × (p : Place) × (row : StagedRow) × (place_at shot n p ≡ Some row) × (row.id ≡ id) × (sees settled 0 None row.stamp ≡ true) × (stored_in n (Some row) ≡ stored)
      sound id stored found =
          let f = found-before read rows id stored given.seen.sorted found in
          let g = given.seen.sound id stored f.0 in
          let n = g.0 in
          let row = g.2 in
          let t = table-at l.staged n g.1 row g.3 in
          let is : is_read l.tables query n ≡ true = ap (λ (x : Stored). is_read l.tables query x.table) g.6 ∙ f.1 in
          let q = shows (eyes_of l) t.0 g.1 row t.2 g.5 in
          let same : 0 + n ≡ n = omega arith in
          let there : slice_get shot n ≡ Some (shown_stages (eyes_of l) t.0) = taken-get l query 0 l.staged n t.0 t.1 ∙ ap (λ k. Some (taken l query k t.0)) same ∙ ap Some (all-taken n t.0 is) in
          (n, q.0, shown_row true row, at-table shot n q.0 (shown_stages (eyes_of l) t.0) there ∙ q.1, g.4, refl, g.6)

      complete : (n : ℕ) (p : Place) (row : StagedRow) → place_at shot n p ≡ Some row → sees settled 0 None row.stamp ≡ true → find nat_cmp row.id (read_rows l.tables query rows) ≡ Some (stored_in n (Some row))
      complete n p row is seen =
          let h = holds n p row is in
          let w = was (eyes_of l) h.old p row h.here seen in
          let first : find nat_cmp w.row.id rows ≡ Some (stored_in n (Some w.row)) = given.seen.complete n w.place w.row (at-table l.staged n w.place h.old h.at ∙ w.at) w.seen in
          let behind : find nat_cmp w.row.id (read_rows l.tables query rows) ≡ Some (stored_in n (Some w.row)) = found-behind read rows w.row.id (stored_in n (Some w.row)) given.seen.sorted first h.is_read_there in
          ap (λ (x : StagedRow). find nat_cmp x.id (read_rows l.tables query rows)) w.same ∙ behind ∙ ap (λ (x : StagedRow). Some (stored_in n (Some x))) (sym w.same)

  once-in : (n : ℕ) (s : Staged) → slice_get shot n ≡ Some s → SeenOnce s settled 0 None
  once-in n s is =
      let o = get-taken l query 0 l.staged n s is in
      let same : 0 + n ≡ n = omega arith in
      subst (λ (x : Staged). SeenOnce x settled 0 None) (sym (o.is ∙ ap (λ k. taken l query k o.old) same)) (by o.old o.at (is_read l.tables query n) refl)
    where
      by : (x : Staged) → slice_get l.staged n ≡ Some x → (b : Bool) → is_read l.tables query n ≡ b → SeenOnce (taken l query n x) settled 0 None
      by x at true e = subst (λ (y : Staged). SeenOnce y settled 0 None) (sym (all-taken n x e)) (shown-once (eyes_of l) x (given.once n x at))
      by x at false e = subst (λ (y : Staged). SeenOnce y settled 0 None) (sym (none-taken n x e)) (record { each = λ p q a b is_a is_b sees_a sees_b ids. absurd (nowhere x p a is_a) })

  pub shot-is : (s : ShotValue) → s.tables ≡ l.tables → s.staged ≡ shot → s.fates ≡ settled → IsShot query l.tables rows s
  shot-is s tables staged fates = record {
    heads = tables;
    sees = subst (λ (x : Sight). Sees x (read_rows l.tables query rows)) (λ i. record { tables = sym tables i; staged = sym staged i; fates = sym fates i; snapshot = 0; own = None }) (record {
      seen = seen-in;
      columns = all-columns l query 0 l.staged ∙ given.columns;
      narrow = given.narrow;
      once = once-in;
      keep = λ id row found. given.keep id row (found-before read rows id row given.seen.sorted found).0;
      few = let few = given.few in omega (arith, few, fewer read rows);
    });
  }
