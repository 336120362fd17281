-- A row is live by its stamp where the plain store has it.
use Rattle.std.proofs.Common.{◌≡◌, ℕ, Bool, not, List, [], ◌++◌, map, Option, None, Some, refl, sym, ◌∙◌, ap, slice_get, unwrap_or}
use Rattle.std.specs.Option.{option_map}
use Rattle.ut_plain.specs.Rows.{Rows}
use Rattle.ut_plain.specs.Journal.{current}
use Rattle.ut_plain.specs.Plain.{Plain}
use Rattle.ut_plain.specs.Capture.{is_live, captured_place, captured_rows, captured_table, capture}
use Rattle.ut_stamps.specs.declared.place.Place.{Place}
use Rattle.ut_stamps.specs.declared.place.Place.TheVariants as places
use Rattle.ut_stamps.specs.Stamps.{sees}
use Rattle.ut_exact.specs.Gone.{IsGone}
use Rattle.ut_exact.specs.Places.{StagedRow}
use Rattle.ut_exact.proofs.CaptureLemmas.{live_is_seen}
use Rattle.ut_staged.specs.Staged.{Staged, row_in, row_at, placed_of, stages_of}
use Rattle.ut_staged.specs.Tables.{place_at}
use Rattle.ut_staged.proofs.TableLemmas.{here}
use Rattle.ut_tables.specs.Rows as all
use Rattle.ut_tables.specs.Standing.{AreRowsOf}
use Rattle.ut_capture.specs.Live as live
use Rattle.ut_capture.specs.Live.{live_places, live_place, live_parts, live_stages}
use Rattle.ut_capture.proofs.ListLemmas.{filter-mapped, map-agree, map-twice}

-- whether each row of a table is live
abbrev pub AreLive : Rows → (StagedRow → Bool) → Staged → Type 0
AreLive rows seen s = (q : Place) (row : StagedRow) → row_at s q ≡ Some row → is_live rows (placed_of row) ≡ seen row

module _ (r : all.Rows) (entries : ℕ) (p : Plain) (stands : AreRowsOf r entries p) where
  abbrev rows : Rows
  rows = (current p.journal).rows

  abbrev seen : StagedRow → Bool
  seen = live.is_live r.fates entries

  are_live : (n : ℕ) (s : Staged) → slice_get r.staged n ≡ Some s → AreLive rows seen s
  are_live n s is = λ q row at.
      live_is_seen (place_at r.staged) (IsGone r.fates p.sessions) stands.rows.held r.fates p.journal p.opening n q row stands.rows.places stands.rows.exact stands.plain.opened.1 stands.rows.dead (here r.staged n s q is ∙ at)
      ∙ ap (λ (k : ℕ). sees r.fates k None row.stamp) (sym stands.length_is)

  closed-live : (o : Option (List StagedRow)) → ((i : ℕ) (row : StagedRow) → row_in o i ≡ Some row → is_live rows (placed_of row) ≡ seen row)
      → captured_rows rows (unwrap_or (option_map (map placed_of) o) []) ≡ live_places r.fates entries (unwrap_or o [])
  closed-live None are = refl
  closed-live (Some list) are = filter-mapped placed_of (is_live rows) seen list are

  part-live : (list : List StagedRow) → ((i : ℕ) (row : StagedRow) → slice_get list i ≡ Some row → is_live rows (placed_of row) ≡ seen row)
      → map (captured_place rows) (map placed_of list) ≡ map (live_place r.fates entries) list
  part-live list are = map-twice (captured_place rows) placed_of list
      ∙ map-agree (λ (row : StagedRow). captured_place rows (placed_of row)) (live_place r.fates entries) list (λ i row at. ap (λ (b : Bool). record { id = row.id; values = row.values; dead = not b }) (are i row at))

  parts-live : (parts : List (List StagedRow)) → ((n i : ℕ) (row : StagedRow) → row_in (slice_get parts n) i ≡ Some row → is_live rows (placed_of row) ≡ seen row)
      → map (map (captured_place rows)) (map (map placed_of) parts) ≡ live_parts r.fates entries parts
  parts-live parts are = map-twice (map (captured_place rows)) (map placed_of) parts
      ∙ map-agree (λ (list : List StagedRow). map (captured_place rows) (map placed_of list)) (map (live_place r.fates entries)) parts
      (λ n list at. part-live list (λ i row is. are n i row (ap (λ (o : Option (List StagedRow)). row_in o i) at ∙ is)))

  table-live : (n : ℕ) (s : Staged) → slice_get r.staged n ≡ Some s → captured_table rows (stages_of s) ≡ live_stages r.fates entries s
  table-live n s is =
      let are = are_live n s is in
      let l1 : captured_rows rows (map placed_of s.l1) ≡ live_places r.fates entries s.l1 = filter-mapped placed_of (is_live rows) seen s.l1 (λ i row at. are (places.L1 i) row at) in
      let l2 : captured_rows rows (map placed_of s.l2) ≡ live_places r.fates entries s.l2 = filter-mapped placed_of (is_live rows) seen s.l2 (λ i row at. are (places.L2 i) row at) in
      let closed = closed-live s.closed (λ i row at. are (places.Closed i) row at) in
      let parts = parts-live s.parts (λ n i row at. are (places.Main n i) row at) in
      λ i. record { l1 = l1 i; l2 = closed i ++ l2 i; closed = None; parts = parts i; keep = [] }

  -- the directory is that of the tables' live rows
  pub capture-live : capture (current p.journal) p.stages ≡ record { tables = r.tables; stages = map (live_stages r.fates entries) r.staged }
  capture-live =
      let stages : map (captured_table rows) p.stages ≡ map (live_stages r.fates entries) r.staged =
      ap (map (captured_table rows)) stands.rows.stages ∙ map-twice (captured_table rows) stages_of r.staged
      ∙ map-agree (λ (s : Staged). captured_table rows (stages_of s)) (live_stages r.fates entries) r.staged table-live in
      λ i. record { tables = sym stands.tables i; stages = stages i }
