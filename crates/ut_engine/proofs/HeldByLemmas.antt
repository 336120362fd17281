-- The live places of a store's stages hold the rows of its journal's state.
use Rattle.std.proofs.Common.{◌≡◌, ⊎_elim, inl, inr, ℕ, zero, suc, ◌≤◌, Bool, true, false, not, ◌&&◌, cond, List, [], ◌∷◌, map, Option, None, Some, refl, sym, ◌∙◌, ap, subst, arith}
use Rattle.std.specs.Prelude.{Contains, is_some, slice_get}
use Rattle.std.specs.Option.{option_map, option_and_then, unwrap_or}
use Rattle.std.specs.FinMap as finmap
use Rattle.std.proofs.lemmas.Option.{slice_get-map}
use Rattle.ut_plain.specs.declared.table.Stored.{Stored}
use Rattle.ut_plain.specs.declared.stage.Placed.{Placed}
use Rattle.ut_plain.specs.declared.stage.TableStages.{TableStages}
use Rattle.ut_plain.specs.State.{State}
use Rattle.ut_plain.specs.Stages.{no_stages}
use Rattle.ut_plain.specs.Journal.{journal_len, current}
use Rattle.ut_plain.specs.Plain.{Plain}
use Rattle.ut_plain.specs.Capture.{is_live, row_of, StandsAnywhere, AreHeldBy}
use Rattle.ut_plain.proofs.JournalLaws.{state_at-last}
use Rattle.ut_stamps.specs.declared.place.Place.{Place}
use Rattle.ut_stamps.specs.declared.place.Place.TheVariants.{L1, L2, Closed, Main}
use Rattle.ut_stamps.specs.Stamps.{counts, has_ended, sees}
use Rattle.ut_exact.specs.Stamped.{Stamped}
use Rattle.ut_exact.specs.Exact.{shown_by}
use Rattle.ut_exact.specs.Gone.{IsGone}
use Rattle.ut_exact.proofs.GoneLemmas.{gone_unseen}
use Rattle.ut_exact.specs.Places.{StagedRow, is_dead, stamped_in}
use Rattle.ut_staged.specs.Staged.{Staged, row_in, row_at, placed_of, stages_of}
use Rattle.ut_store.specs.Held.{Held}
use Rattle.ut_store.specs.Stands.{AreRows}

-- ---- places by index

in_places : (rows : List StagedRow) (p : Placed) → Contains (map placed_of rows) p → (i : ℕ) × (row : StagedRow) × (slice_get rows i ≡ Some row) × (placed_of row ≡ p)
in_places [] p (i, lt, is) = absurd (omega (arith, lt))
in_places (r ∷ rows) p (zero, lt, is) = (zero, r, refl, is)
in_places (r ∷ rows) p (suc i, lt, is) = let more = in_places rows p (i, omega (arith, lt), is) in (suc more.0, more.1, more.2, more.3)

in_parts : (parts : List (List StagedRow)) (part : List Placed) → Contains (map (map placed_of) parts) part → (i : ℕ) × (rows : List StagedRow) × (slice_get parts i ≡ Some rows) × (map placed_of rows ≡ part)
in_parts [] part (i, lt, is) = absurd (omega (arith, lt))
in_parts (r ∷ parts) part (zero, lt, is) = (zero, r, refl, is)
in_parts (r ∷ parts) part (suc i, lt, is) = let more = in_parts parts part (i, omega (arith, lt), is) in (suc more.0, more.1, more.2, more.3)

to_places : (rows : List StagedRow) (i : ℕ) (row : StagedRow) → slice_get rows i ≡ Some row → Contains (map placed_of rows) (placed_of row)
to_places [] i row is = absurd cc
to_places (r ∷ rows) zero row is = let same : r ≡ row = cc in (zero, omega arith, ap placed_of same)
to_places (r ∷ rows) (suc i) row is = let more = to_places rows i row is in (suc more.0, omega (arith, more.1), more.2)

to_parts : (parts : List (List StagedRow)) (i : ℕ) (rows : List StagedRow) → slice_get parts i ≡ Some rows → Contains (map (map placed_of) parts) (map placed_of rows)
to_parts [] i rows is = absurd cc
to_parts (r ∷ parts) zero rows is = let same : r ≡ rows = cc in (zero, omega arith, ap (map placed_of) same)
to_parts (r ∷ parts) (suc i) rows is = let more = to_parts parts i rows is in (suc more.0, omega (arith, more.1), more.2)

no_element : {X : Type 0} (x : X) → Contains [] x → ⊥
no_element x (i, lt, is) = absurd (omega (arith, lt))

-- a place of a closed stage
from_closed : (closed : Option (List StagedRow)) (p : Placed) → Contains (unwrap_or (option_map (map placed_of) closed) []) p → (i : ℕ) × (row : StagedRow) × (row_in closed i ≡ Some row) × (placed_of row ≡ p)
from_closed None p has = absurd (no_element p has)
from_closed (Some rows) p has = in_places rows p has

to_closed : (closed : Option (List StagedRow)) (i : ℕ) (row : StagedRow) → row_in closed i ≡ Some row → Contains (unwrap_or (option_map (map placed_of) closed) []) (placed_of row)
to_closed None i row is = absurd cc
to_closed (Some rows) i row is = to_places rows i row is

to_part : (parts : List (List StagedRow)) (n i : ℕ) (row : StagedRow) (o : Option (List StagedRow)) → slice_get parts n ≡ o → row_in o i ≡ Some row → (part : List Placed) × Contains (map (map placed_of) parts) part × Contains part (placed_of row)
to_part parts n i row None at is = absurd cc
to_part parts n i row (Some rows) at is = (map placed_of rows, to_parts parts n rows at, to_places rows i row is)

-- a place of a table's plain stages is a place of the table
from_plain : (o : Option Staged) (p : Placed) → StandsAnywhere (unwrap_or (option_map stages_of o) no_stages) p → (q : Place) × (row : StagedRow) × (option_and_then (λ s. row_at s q) o ≡ Some row) × (placed_of row ≡ p)
from_plain None p (inl l1) = absurd (no_element p l1)
from_plain None p (inr (inl l2)) = absurd (no_element p l2)
from_plain None p (inr (inr (inl closed))) = absurd (no_element p closed)
from_plain None p (inr (inr (inr (part, in_main, in_part)))) = absurd (no_element part in_main)
from_plain (Some s) p (inl l1) = let at = in_places s.l1 p l1 in (L1 at.0, at.1, at.2, at.3)
from_plain (Some s) p (inr (inl l2)) = let at = in_places s.l2 p l2 in (L2 at.0, at.1, at.2, at.3)
from_plain (Some s) p (inr (inr (inl closed))) = let at = from_closed s.closed p closed in (Closed at.0, at.1, at.2, at.3)
from_plain (Some s) p (inr (inr (inr (part, in_main, in_part)))) =
    let main = in_parts s.parts part in_main in
    let at = in_places main.1 p (subst (λ (l : List Placed). Contains l p) (sym main.3) in_part) in
    (Main main.0 at.0, at.1, ap (λ (o : Option (List StagedRow)). row_in o at.0) main.2 ∙ at.2, at.3)

to_plain : (o : Option Staged) (q : Place) (row : StagedRow) → option_and_then (λ s. row_at s q) o ≡ Some row → StandsAnywhere (unwrap_or (option_map stages_of o) no_stages) (placed_of row)
to_plain None q row is = absurd cc
to_plain (Some s) (L1 i) row is = inl (to_places s.l1 i row is)
to_plain (Some s) (L2 i) row is = inr (inl (to_places s.l2 i row is))
to_plain (Some s) (Closed i) row is = inr (inr (inl (to_closed s.closed i row is)))
to_plain (Some s) (Main n i) row is = inr (inr (inr (to_part s.parts n i row (slice_get s.parts n) refl is)))

-- ---- what is shown

and_first : (a b : Bool) → (a && b) ≡ true → a ≡ true
and_first true b is = refl
and_first false b is = is

and_second : (a b : Bool) → (a && b) ≡ true → b ≡ true
and_second true b is = is
and_second false b is = absurd cc

not_true : (a : Bool) → not a ≡ true → a ≡ false
not_true true is = sym is
not_true false is = refl

shown_some : (b : Bool) (x : Stored) (o : Option Stored) → o ≡ cond b (Some x) None → is_some o ≡ true → o ≡ Some x
shown_some true x o is some = is
shown_some false x o is some = let none : is_some o ≡ false = ap is_some is in absurd cc

-- what is shown is seen
shown_seen : (b : Bool) (x row : Stored) → cond b (Some x) None ≡ Some row → b ≡ true
shown_seen true x row is = refl
shown_seen false x row is = absurd cc

pub held_some : (counting : ℕ → Bool) (h : Option Stamped) (row : Stored) → shown_by counting h ≡ Some row → (x : Stamped) × (h ≡ Some x) × (x.stored ≡ row)
held_some counting None row is = absurd cc
held_some counting (Some x) row is = (x, refl, by (counting x.stamp.begin && not (has_ended counting x.stamp.end)) is)
  where
    by : (b : Bool) → cond b (Some x.stored) None ≡ Some row → x.stored ≡ row
    by true is = cc
    by false is = absurd cc

module _ (e : Held) (p : Plain) (rows : AreRows e p) where
  -- the row of an id is what its stamp shows at the journal's end
  pub shows : p.opening ≤ journal_len p.journal → (id : ℕ) → finmap.get (current p.journal).rows id ≡ shown_by (counts e.rows.fates (journal_len p.journal) None) (rows.held id)
  shows opened id = ap (λ (s : State). finmap.get s.rows id) (sym (state_at-last p.journal (journal_len p.journal) (omega arith))) ∙ rows.exact.shows (journal_len p.journal) opened (omega arith) id

  -- a row that is there isn't gone
  pub not_gone : (id : ℕ) (x : Stamped) (row : Stored) → rows.held id ≡ Some x → shown_by (counts e.rows.fates (journal_len p.journal) None) (rows.held id) ≡ Some row → IsGone e.rows.fates p.sessions x.stamp → ⊥
  not_gone id x row has shown gone =
      let seen : sees e.rows.fates (journal_len p.journal) None x.stamp ≡ true = shown_seen (sees e.rows.fates (journal_len p.journal) None x.stamp) x.stored row (sym (ap (shown_by (counts e.rows.fates (journal_len p.journal) None)) has) ∙ shown) in
      let unseen : sees e.rows.fates (journal_len p.journal) None x.stamp ≡ false = gone_unseen e.rows.fates p.sessions x.stamp (journal_len p.journal) None (λ u h. absurd (nobody u h)) (λ b c t over behind le. rows.exact.within t c over) gone in
      let differ : true ≡ false = sym seen ∙ unseen in absurd cc
    where
      nobody : (n : ℕ) → None ≡ Some n → ⊥
      nobody n h = cc

pub held_by : (e : Held) (p : Plain) → AreRows e p → p.opening ≤ journal_len p.journal → AreHeldBy p.stages (current p.journal).rows
held_by e p rows opened = record {
  each = λ n pl stands live.
      let there : StandsAnywhere (unwrap_or (option_map stages_of (slice_get e.rows.staged n)) no_stages) pl = subst (λ (o : Option TableStages). StandsAnywhere (unwrap_or o no_stages) pl) (table n) stands in
      let at = from_plain (slice_get e.rows.staged n) pl there in
      row_is n pl at.0 at.1 at.2 at.3 live;
  only = λ id row is.
      let h = held_some (counts e.rows.fates (journal_len p.journal) None) (rows.held id) row (sym (shows e p rows opened id) ∙ is) in
      let at = ⊎_elim (λ g. absurd (not_gone e p rows id h.0 row h.1 (sym (shows e p rows opened id) ∙ is) g)) (λ found. found) (rows.places.only id h.0 h.1) in
      (at.0, placed_of at.2, stands_in at.0 at.1 at.2 at.3, live_at id row at.2 at.4 at.5 is, at.5, same_row at.0 at.2 h.0 row at.6 h.2);
}
  where
    table : (n : ℕ) → slice_get p.stages n ≡ option_map stages_of (slice_get e.rows.staged n)
    table n = ap (λ (l : List TableStages). slice_get l n) rows.stages ∙ slice_get-map stages_of e.rows.staged n

    stands_in : (n : ℕ) (q : Place) (r : StagedRow) → option_and_then (λ s. row_at s q) (slice_get e.rows.staged n) ≡ Some r → StandsAnywhere (unwrap_or (slice_get p.stages n) no_stages) (placed_of r)
    stands_in n q r at = subst (λ (o : Option TableStages). StandsAnywhere (unwrap_or o no_stages) (placed_of r)) (sym (table n)) (to_plain (slice_get e.rows.staged n) q r at)

    live_at : (id : ℕ) (row : Stored) (r : StagedRow) → is_dead r.stamp ≡ false → r.id ≡ id → finmap.get (current p.journal).rows id ≡ Some row → is_live (current p.journal).rows (placed_of r) ≡ true
    live_at id row r alive same is = ap (λ (b : Bool). not b && is_some (finmap.get (current p.journal).rows r.id)) alive ∙ ap (λ (i : ℕ). is_some (finmap.get (current p.journal).rows i)) same ∙ ap is_some is

    same_row : (n : ℕ) (r : StagedRow) (x : Stamped) (row : Stored) → stamped_in n r ≡ x → x.stored ≡ row → (stamped_in n r).stored ≡ row
    same_row n r x row same is = ap (λ (y : Stamped). y.stored) same ∙ is

    -- a live place holds its row
    row_is : (n : ℕ) (pl : Placed) (q : Place) (r : StagedRow) → option_and_then (λ s. row_at s q) (slice_get e.rows.staged n) ≡ Some r → placed_of r ≡ pl → is_live (current p.journal).rows pl ≡ true → finmap.get (current p.journal).rows pl.id ≡ Some (row_of n pl)
    row_is n pl q r at same live =
        let alive : is_dead r.stamp ≡ false = ap (λ (x : Placed). x.dead) same ∙ not_true pl.dead (and_first (not pl.dead) (is_some (finmap.get (current p.journal).rows pl.id)) live) in
        let id : r.id ≡ pl.id = ap (λ (x : Placed). x.id) same in
        let shown = shows e p rows opened r.id ∙ ap (shown_by (counts e.rows.fates (journal_len p.journal) None)) (rows.places.each n q r at alive) in
        let some : is_some (finmap.get (current p.journal).rows r.id) ≡ true = ap (λ (i : ℕ). is_some (finmap.get (current p.journal).rows i)) id ∙ and_second (not pl.dead) (is_some (finmap.get (current p.journal).rows pl.id)) live in
        let is = shown_some (counts e.rows.fates (journal_len p.journal) None r.stamp.begin && not (has_ended (counts e.rows.fates (journal_len p.journal) None) r.stamp.end)) (stamped_in n r).stored (finmap.get (current p.journal).rows r.id) shown some in
        ap (λ (i : ℕ). finmap.get (current p.journal).rows i) (sym id) ∙ is ∙ ap (λ (x : Placed). Some (row_of n x)) same
