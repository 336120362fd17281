-- What a session looks at shows the rows that it sees.
use Rattle.std.proofs.Common.{ℕ, ◌+◌, ◌-◌, ◌<◌, ◌≤◌, ◌≡◌, ◌&&◌, T, nat_le, List, [], ◌∷◌, length, Some, IsTrue, sym, ◌∙◌, subst, arith, leb-true}
use Rattle.std.proofs.lemmas.List.Elements.{All-cons, All-nil}
use Rattle.std.specs.List.{list_all}
use Rattle.std.specs.Ordering.{nat_cmp, is_lt}
use Rattle.std.specs.FinMap as finmap
use Rattle.std.specs.FinMap.{find, is_sorted}
use Rattle.std.specs.FinMap.Entries.{below_all}
use Rattle.ut_value.specs.KeyBytes.{is_value}
use Rattle.ut_value.specs.Spelling.{are_columns, is_column, is_count, names_differ}
use Rattle.ut_value.specs.Text.{is_name}
use Rattle.ut_plain.specs.declared.table.Table.{Table}
use Rattle.ut_plain.specs.declared.table.Stored.{Stored}
use Rattle.ut_plain.specs.Tables.{columns_at, fits_table}
use Rattle.ut_plain.specs.State.{IsRow, is_table}
use Rattle.ut_plain.specs.Journal.{current}
use Rattle.ut_plain.specs.Plain.{Plain, seen}
use Rattle.ut_plain.specs.View.{view}
use Rattle.ut_plain.proofs.BoolLemmas.{and_left, and_right}
use Rattle.ut_plain.proofs.StateLaws.{IsState-current}
use Rattle.ut_exact.specs.Gone.{IsGone}
use Rattle.ut_exact.proofs.OrderLemmas.{AllFound, all_found, T_first, T_second, less}
use Rattle.ut_exact.proofs.ScanLemmas.{seen-held}
use Rattle.ut_staged.specs.Tables.{place_at}
use Rattle.ut_names.specs.Resolved.{AreNarrow}
use Rattle.ut_query.specs.Look.{CanLook, Sees}
use Rattle.ut_store.specs.Held.{Held}
use Rattle.ut_store.specs.Stands.{StandsFor}
use Rattle.ut_store.specs.Standing.{Stands}
use Rattle.ut_store.specs.Reads.{looks_at, own_at, sight_of}
use Rattle.ut_store.proofs.ReadLemmas.{reads}
use Rattle.ut_store.proofs.HitLemmas.{dead_never, gone_never}
use Rattle.ut_store.proofs.SearchLemmas.{seen_once}
use Rattle.ut_store.proofs.SeenRowLemmas.{seen_row}

-- a table that is spelled has no more than 64 columns
narrow : (tables : List Table) → IsTrue (list_all is_table tables) → AreNarrow tables
narrow [] h = All-nil (λ (t : Table). length t.columns ≤ 64)
narrow (t ∷ ts) h =
    All-cons (λ (x : Table). length x.columns ≤ 64) t ts (few (and_right (is_name t.name) (are_columns t.columns) (and_left (is_table t) (list_all is_table ts) h))) (narrow ts (and_right (is_table t) (list_all is_table ts) h))
  where
    few : IsTrue (are_columns t.columns) → length t.columns ≤ 64
    few is =
        let count : IsTrue (is_count 64 (length t.columns)) = and_left (is_count 64 (length t.columns)) (list_all is_column t.columns) (and_left (is_count 64 (length t.columns) && list_all is_column t.columns) (names_differ t.columns) is) in
        leb-true (length t.columns) 64 (and_right (nat_le 1 (length t.columns)) (nat_le (length t.columns) 64) count)

-- ---- how many rows there are

-- each id is from one on and below another
abbrev AreBetween : {X : Type 0} → ℕ → ℕ → List (ℕ × X) → Type 0
AreBetween low high [] = Unit {0}
AreBetween low high (e ∷ es) = (low ≤ e.0) × (e.0 < high) × AreBetween low high es

between_above : {X : Type 0} (low high x : ℕ) (es : List (ℕ × X)) → T (below_all nat_cmp x es) → AreBetween low high es → AreBetween (x + 1) high es
between_above low high x [] h b = tt
between_above low high x (e ∷ es) h b =
    let lt = less x e.0 (T_first (is_lt (nat_cmp x e.0)) _ h) in
    (omega (arith, lt), b.1, between_above low high x es (T_second (is_lt (nat_cmp x e.0)) _ h) b.2)

ids_few : {X : Type 0} (low high : ℕ) (es : List (ℕ × X)) → T (is_sorted nat_cmp es) → AreBetween low high es → length es ≤ high - low
ids_few low high [] h b = omega arith
ids_few low high (e ∷ es) h b =
    let rest = ids_few (e.0 + 1) high es (T_second (below_all nat_cmp e.0 es) _ h) (between_above low high e.0 es (T_first (below_all nat_cmp e.0 es) _ h) b.2) in
    let at_least = b.0 in let below = b.1 in
    omega (arith, rest, at_least, below)

-- ---- what a session sees

module _ (e : Held) (p : Plain) (session : ℕ) (small : session < 17) (s : StandsFor e p) where
  kept : (id : ℕ) (row : Stored) → find nat_cmp id (view p session).rows ≡ Some row → IsRow (current p.journal).tables p.next_id id row
  kept id row at = seen_row p session id row s.plain (finmap.get-entries (seen p session) id ∙ at)

  between : (some : List (ℕ × Stored)) → AllFound (view p session).rows some → AreBetween 1 p.next_id some
  between [] a = tt
  between (x ∷ xs) a = let given = (kept x.0 x.1 a.0).given in (given.0, given.1, between xs a.1)

  pub sees : Sees (sight_of e session) (view p session).rows
  sees =
      let r = reads e p session small s in
      let rows = (view p session).rows in
      let few = ids_few 1 p.next_id rows r.sorted (between rows (all_found rows r.sorted)) in
      let last = s.plain.last in
      record {
        seen = seen-held (place_at e.rows.staged) s.rows.held e.rows.fates (looks_at e session) (own_at e session) rows (IsGone e.rows.fates p.sessions) (gone_never e p session s) s.rows.places (dead_never e p session s) r.sorted r.shown;
        columns = s.rows.columns;
        narrow = narrow e.rows.tables (subst (λ (ts : List Table). IsTrue (list_all is_table ts)) (sym s.counts.tables) (IsState-current p.journal s.plain.base s.plain.journal).tables);
        once = λ n t at. seen_once e p session n t s at;
        keep = λ id row at. let k = kept id row at in record {
          fits = subst (λ (ts : List Table). IsTrue (fits_table (columns_at ts row.table) row.values)) (sym s.counts.tables) k.fits;
          values = and_right (is_count 64 (length row.values)) (list_all is_value row.values) k.spelled;
        };
        few = omega (arith, few, last);
      }

pub can_ask : (e : Held) (session : ℕ) → session < 17 → Stands e → CanLook (sight_of e session)
can_ask e session small st = record { rows = (view st.plain session).rows; sees = sees e st.plain session small st.stands }

pub are_narrow : (e : Held) → Stands e → AreNarrow e.rows.tables
are_narrow e st = narrow e.rows.tables (subst (λ (ts : List Table). IsTrue (list_all is_table ts)) (sym st.stands.counts.tables) (IsState-current st.plain.journal st.stands.plain.base st.stands.plain.journal).tables)
