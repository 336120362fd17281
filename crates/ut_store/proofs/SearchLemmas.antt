-- What is looked for is what the plain store finds.
use Rattle.std.proofs.Common.{ℕ, ◌+◌, ◌<◌, ◌≤◌, ◌≡◌, inl, inr, T, List, [], ◌∷◌, length, is_some, Option, None, Some, refl, sym, ap, ◌∙◌, subst, arith, slice_get, unwrap_or}
use Rattle.std.proofs.lemmas.Bool.{cases_lt}
use Rattle.std.specs.Ordering.{nat_cmp, is_lt}
use Rattle.std.specs.FinMap.{is_sorted}
use Rattle.std.specs.FinMap.Entries.{below_all}
use Rattle.ut_plain.specs.declared.statement.Pred.{Pred}
use Rattle.ut_plain.specs.Tables.{place_of, place_in, columns_in}
use Rattle.ut_plain.specs.Condition.{meets}
use Rattle.ut_plain.specs.Plain.{Plain}
use Rattle.ut_plain.specs.View.{view}
use Rattle.ut_plain.proofs.TableLemmas.{there}
use Rattle.ut_stamps.specs.declared.place.Place.{Place}
use Rattle.ut_exact.specs.Stamped.{Stamped}
use Rattle.ut_exact.specs.Places.{stamped_in}
use Rattle.ut_key.specs.declared.comparison.ColumnPred.{ColumnPred}
use Rattle.ut_plain.specs.Compiled.{Compiles}
use Rattle.ut_names.specs.declared.resolved.Selection.{Selection}
use Rattle.ut_names.specs.Resolved.{IsSelection}
use Rattle.ut_query.specs.Tells.{IsSelected}
use Rattle.ut_names.proofs.CompiledLemmas.{compiled_below}
use Rattle.ut_exact.proofs.OrderLemmas.{T_first, T_second, less}
use Rattle.ut_exact.proofs.ScanLemmas.{seen_is_live}
use Rattle.ut_staged.specs.Staged.{Staged}
use Rattle.ut_table.specs.Finds.{SeenOnce}
use Rattle.ut_change.proofs.MadeLemmas.{AreGiven}
use Rattle.ut_store.specs.Held.{Held}
use Rattle.ut_store.specs.Stands.{StandsFor}
use Rattle.ut_store.specs.Standing.{Stands}
use Rattle.ut_store.specs.Reads.{looks_at, own_at}
use Rattle.ut_store.specs.Hits.{Hits, first_taken_of}
use Rattle.ut_staged.specs.Staging.{AreFound}
use Rattle.ut_change.specs.Writes.{AreThere}
use Rattle.ut_store.specs.Changes.{CanLook, Looked}
use Rattle.ut_store.proofs.ReadLemmas.{reads}
use Rattle.ut_store.proofs.IndexLemmas.{some_inside}
use Rattle.ut_store.proofs.HitLemmas.{dead_never, AreFound-hits}
use Rattle.ut_store.proofs.MadeLemmas.{FindsFree}
use Rattle.ut_store.proofs.KindLemmas.{TableAt, table_at}
use Rattle.ut_staged.proofs.TableLemmas.{here}

-- ---- what can be looked for

pub seen_once : (e : Held) (p : Plain) (session n : ℕ) (table : Staged) → StandsFor e p → slice_get e.rows.staged n ≡ Some table → SeenOnce table e.rows.fates (looks_at e session) (own_at e session)
seen_once e p session n table s at = record {
  each = λ q r a b is_a is_b sees_a sees_b same.
      (s.rows.places.once n n q r a b (here e.rows.staged n table q at ∙ is_a) (here e.rows.staged n table r at ∙ is_b)
      (seen_is_live e.rows.fates (looks_at e session) (own_at e session) (dead_never e p session s) a.stamp sees_a)
      (seen_is_live e.rows.fates (looks_at e session) (own_at e session) (dead_never e p session s) b.stamp sees_b) same).1;
}

module _ (e : Held) (p : Plain) (session n : ℕ) (name : List ℕ) (asked : List Pred) (preds : List ColumnPred) (small : session < 17) (s : StandsFor e p) (t : TableAt e n (columns_in e.rows.tables name)) (h : Compiles (columns_in e.rows.tables name) asked preds) where
  can_look : CanLook e session n preds
  can_look = record {
    table = t.table;
    at = t.at;
    has = record {
      columns = compiled_below t.table.columns asked preds (subst (λ cs. Compiles cs asked preds) (sym t.has) h);
      once = seen_once e p session n t.table s t.at;
    };
  }

  -- what a look finds is what was asked for
  looked_for : (hits : List (ℕ × Place)) → ((table : Staged) (wanted : List Pred) → slice_get e.rows.staged n ≡ Some table → Compiles table.columns wanted preds → Hits e session n (meets table.columns wanted) hits) → Looked e session n asked hits
  looked_for hits f = record { table = t.table; at = t.at; hits_are = f t.table asked t.at (subst (λ cs. Compiles cs asked preds) (sym t.has) h) }

-- the table of a name
selected_table : (e : Held) (st : Stands e) (name : List ℕ) (n : ℕ) → place_of e.rows.tables name ≡ Some n → TableAt e n (columns_in e.rows.tables name)
selected_table e st name n at = table_at e st.plain name n st.stands (there e.rows.tables name (ap is_some at)) (sym (ap (λ (o : Option ℕ). unwrap_or o 0) at))

module _ (e : Held) (session : ℕ) (rows : Selection) (small : session < 17) (st : Stands e) where
  pub select_look : IsSelected e.rows.tables rows → CanLook e session rows.table rows.preds.items
  select_look h = can_look e st.plain session rows.table h.name h.asked rows.preds.items small st.stands (selected_table e st h.name rows.table h.is.table) h.is.preds

  pub select_looked : (hits : List (ℕ × Place)) → ((table : Staged) (wanted : List Pred) → slice_get e.rows.staged rows.table ≡ Some table → Compiles table.columns wanted rows.preds.items → Hits e session rows.table (meets table.columns wanted) hits)
      → (name : List ℕ) (asked : List Pred) → IsSelection e.rows.tables name asked rows → Looked e session rows.table asked hits
  select_looked hits f name asked is = looked_for e st.plain session rows.table name asked rows.preds.items small st.stands (selected_table e st name rows.table is.table) is.preds hits f

-- ---- what was found, in the plain store's words

module _ (e : Held) (session n : ℕ) (name : List ℕ) (preds : List Pred) (hits : List (ℕ × Place)) (small : session < 17) (is : n ≡ place_in e.rows.tables name) (t : TableAt e n (columns_in e.rows.tables name)) (l : Looked e session n preds hits) where
  columns_are : l.table.columns ≡ columns_in e.rows.tables name
  columns_are = ap (λ (s : Staged). s.columns) (some_inside l.table t.table (sym l.at ∙ t.at)) ∙ t.has

  pub place_view : (p : Plain) → StandsFor e p → place_in (view p session).tables name ≡ n
  place_view p s = ap (λ ts. place_in ts name) (reads e p session small s).tables ∙ sym is

  pub hits_view : (p : Plain) → StandsFor e p → Hits e session n (meets (columns_in (view p session).tables name) preds) hits
  hits_view p s = subst (λ cs. Hits e session n (meets cs preds) hits) (columns_are ∙ ap (λ ts. columns_in ts name) (sym (reads e p session small s).tables)) l.hits_are

  pub finds_free : first_taken_of e session n hits ≡ None → FindsFree e session n name preds hits
  finds_free free = record { place = place_view; hits_are = hits_view; none_taken = free }

-- ---- the places

are_there : (s : Staged) (hits : List (ℕ × Place)) → AreFound s hits → AreThere s hits
are_there s [] h = tt
are_there s (x ∷ xs) h = (ap is_some h.1, are_there s xs h.4)

are_given : (e : Held) (p : Plain) (n : ℕ) (table : Staged) (hits : List (ℕ × Place)) → StandsFor e p → slice_get e.rows.staged n ≡ Some table → AreFound table hits → AreGiven e.counts.next_id hits
are_given e p n table [] s at h = tt
are_given e p n table (x ∷ xs) s at h = (low, are_given e p n table xs s at h.4)
  where
    nothing : (y : Stamped) → None ≡ Some y → ⊥
    nothing y g = cc

    held_is : s.rows.held x.0 ≡ Some (stamped_in n h.0)
    held_is = ap s.rows.held (sym h.2) ∙ s.rows.places.each n x.1 h.0 (here e.rows.staged n table x.1 at ∙ h.1) h.3

    low : x.0 < e.counts.next_id
    low = elim (cases_lt x.0 e.counts.next_id) [ inl lt ↦ lt | inr le ↦ absurd (nothing (stamped_in n h.0) (sym (s.rows.free x.0 le) ∙ held_is)) ]

-- sorted ids below a number are at most so many
sorted_above : (a b : ℕ) (hits : List (ℕ × Place)) → T (is_sorted nat_cmp hits) → AreGiven b hits → ((x : ℕ × Place) (xs : List (ℕ × Place)) → hits ≡ x ∷ xs → a ≤ x.0) → a ≤ b → a + length hits ≤ b
sorted_above a b [] sorted g low le = omega arith
sorted_above a b (x ∷ xs) sorted g low le =
    let first : a ≤ x.0 = low x xs refl in
    let below : T (below_all nat_cmp x.0 xs) = T_first (below_all nat_cmp x.0 xs) _ sorted in
    let given = g.0 in
    let rest = sorted_above (x.0 + 1) b xs (T_second (below_all nat_cmp x.0 xs) _ sorted) g.1 (λ y ys is. above y ys is (subst (λ zs. T (below_all nat_cmp x.0 zs)) is below)) (omega arith) in
    omega arith
  where
    above : (y : ℕ × Place) (ys : List (ℕ × Place)) → xs ≡ y ∷ ys → T (below_all nat_cmp x.0 (y ∷ ys)) → x.0 + 1 ≤ y.0
    above y ys is below = let lt = less x.0 y.0 (T_first (is_lt (nat_cmp x.0 y.0)) _ below) in omega arith

-- what holds of the places that were found
pub record FoundAt (e : Held) (n : ℕ) (hits : List (ℕ × Place)) : Type 0 where
  pub table : Staged
  pub at : slice_get e.rows.staged n ≡ Some table
  pub found : AreFound table hits
  pub there : AreThere table hits
  pub given : AreGiven e.counts.next_id hits
  pub few : length hits ≤ e.counts.next_id

pub found_places : (e : Held) (p : Plain) (session n : ℕ) (preds : List Pred) (hits : List (ℕ × Place)) → session < 17 → StandsFor e p → Looked e session n preds hits → FoundAt e n hits
found_places e p session n preds hits small s l =
    let found = AreFound-hits e p session n (meets l.table.columns preds) hits l.table small s l.at l.hits_are in
    let given = are_given e p n l.table hits s l.at found in
    let few = sorted_above 0 e.counts.next_id hits l.hits_are.scan.sorted given (λ x xs is. omega arith) (omega arith) in
    record { table = l.table; at = l.at; found = found; there = are_there l.table hits found; given = given; few = omega arith }
