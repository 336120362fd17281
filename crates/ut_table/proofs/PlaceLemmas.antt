-- What stands in a place of a table, whichever the stage.
use Rattle.std.proofs.Common.{◌≡◌, ℕ, zero, suc, ◌<◌, ◌≤◌, List, [], ◌∷◌, length, map, get_or, Option, None, Some, unwrap_or, All, refl, sym, ◌∙◌, ap, subst, arith, true≢false, inl, inr}
use Rattle.std.specs.Prelude.{slice_get, IsSome}
use Rattle.std.specs.Option.{option_map}
use Rattle.std.proofs.lemmas.Bool.{cases_lt}
use Rattle.std.proofs.lemmas.List.{length-map, get_or-map}
use Rattle.std.proofs.lemmas.List.Elements.{All-get_or}
use Rattle.std.proofs.lemmas.Option.{same_Some}
use Rattle.ut_stamps.specs.declared.visibility.Stamp.{Stamp}
use Rattle.ut_stamps.specs.declared.place.Place.{Place}
use Rattle.ut_stamps.specs.declared.place.Place.TheVariants.{L1, L2, Closed, Main}
use Rattle.ut_exact.specs.Places.{StagedRow}
use Rattle.ut_l2.specs.KeyRows.{KeyRow, keyed, no_row}
use Rattle.ut_stamps.specs.StampLists.{IsPlace, stamp_at}
use Rattle.ut_staged.specs.Staged.{row_at, row_in, stamped_row}
use Rattle.ut_table.specs.Decoded.{decoded_row}
use Rattle.ut_table.specs.Contents.{Contents, PendingValue, closed_rows, stamped_rows, held, held_parts, staged}
use Rattle.ut_table.specs.Kept.{IsRow, IsHeld, IsTable}
use Rattle.ut_table.proofs.DecodedLemmas.{decoded_row-keyed, All-keyed}
use Rattle.ut_table.proofs.StampedLemmas.{stamped_rows-length, stamped_rows-at, some-within, held-length, held-at, parts-same, part-at, part-within}

-- the rows of keys among which a place stands
abbrev pub key_rows : Contents → Place → List KeyRow
key_rows t (L1 i) = map keyed t.l1
key_rows t (L2 i) = t.l2.rows
key_rows t (Closed i) = closed_rows t.pending
key_rows t (Main p i) = get_or t.main.parts p []

abbrev pub number_of : Place → ℕ
number_of (L1 i) = i
number_of (L2 i) = i
number_of (Closed i) = i
number_of (Main p i) = i

-- the row of keys in a place
abbrev pub key_row_at : Contents → Place → KeyRow
key_row_at t p = get_or (key_rows t p) (number_of p) no_row

-- the row in a place, by its keys and its stamp
abbrev pub read_at : Contents → Place → StagedRow
read_at t p = stamped_row (stamp_at t.stamps p) (decoded_row t.columns (key_row_at t p))

past : (parts : List (List KeyRow)) (p : ℕ) → length parts ≤ p → get_or parts p [] ≡ []
past [] p le = refl
past (r ∷ rs) zero le = absurd (omega arith)
past (r ∷ rs) (suc p) le = past rs p (omega (arith, le))

-- a place of a part is one of a part that is there
pub part-there : (parts : List (List KeyRow)) (p i : ℕ) → i < length (get_or parts p []) → p < length parts
part-there [] p i lt = absurd (omega (arith, lt))
part-there (r ∷ rs) zero i lt = omega arith
part-there (r ∷ rs) (suc p) i lt = omega (arith, part-there rs p i lt)

closed-same : (stamps : Option (List Stamp)) (pending : Option PendingValue) → option_map length stamps ≡ option_map (λ (p : PendingValue). length p.closed.rows) pending → length (unwrap_or stamps []) ≡ length (closed_rows pending)
closed-same None None e = refl
closed-same None (Some p) e = cc
closed-same (Some l) None e = cc
closed-same (Some l) (Some p) e = same_Some (length l) (length p.closed.rows) e

module _ {t : Contents} (h : IsTable t) where
  pub closed-lengths : length (unwrap_or t.stamps.closed []) ≡ length (closed_rows t.pending)
  closed-lengths = closed-same t.stamps.closed t.pending h.stamped.closed

  -- each list of rows has a list of stamps
  pub stamps-place : (p : Place) → number_of p < length (key_rows t p) → IsPlace t.stamps p
  stamps-place (L1 i) lt = omega (arith, lt, length-map t.l1 keyed, h.stamped.l1)
  stamps-place (L2 i) lt = omega (arith, lt, h.stamped.l2)
  stamps-place (Closed i) lt = omega (arith, lt, closed-lengths)
  stamps-place (Main p i) lt =
      let counts : length t.stamps.parts ≡ length t.main.parts = sym (length-map t.stamps.parts length) ∙ ap length h.stamped.parts ∙ length-map t.main.parts length in
      (omega (arith, counts, part-there t.main.parts p i lt), omega (arith, lt, parts-same t.columns t.main.parts t.stamps.parts p h.stamped.parts))

  pub rows-held : (p : Place) → All (IsHeld t.columns) (key_rows t p)
  rows-held (L1 i) = All-keyed t.columns t.l1 h.rows.l1
  rows-held (L2 i) = h.rows.l2
  rows-held (Closed i) = h.rows.closed
  rows-held (Main p i) = elim (cases_lt p (length t.main.parts)) [
    | inl lt ↦ All-get_or (All (IsHeld t.columns)) t.main.parts p [] lt h.rows.parts
    | inr le ↦ subst (All (IsHeld t.columns)) (sym (past t.main.parts p le)) (λ k d lt. absurd (omega (arith, lt)))
  ]

  pub row-held : (p : Place) → number_of p < length (key_rows t p) → IsHeld t.columns (key_row_at t p)
  row-held p lt = All-get_or (IsHeld t.columns) (key_rows t p) (number_of p) no_row lt (rows-held p)

  pub at-place : (p : Place) → number_of p < length (key_rows t p) → row_at (staged t) p ≡ Some (read_at t p)
  at-place (L1 i) lt =
      let within : i < length t.l1 = omega (arith, lt, length-map t.l1 keyed) in
      let d = decoded_row t.columns no_row in
      let is : get_or (map keyed t.l1) i no_row ≡ keyed (get_or t.l1 i d) = get_or-map keyed t.l1 i d no_row within in
      stamped_rows-at t.l1 t.stamps.l1.items i d h.stamped.l1 within
      ∙ ap (λ r. Some (stamped_row (stamp_at t.stamps (L1 i)) r)) (sym (ap (decoded_row t.columns) is ∙ decoded_row-keyed t.columns (get_or t.l1 i d) (All-get_or (IsRow t.columns) t.l1 i d within h.rows.l1)))
  at-place (L2 i) lt = held-at t.columns t.l2.rows t.stamps.l2.items i h.stamped.l2 lt
  at-place (Closed i) lt = by t.pending closed-lengths lt
    where
      by : (q : Option PendingValue) → length (unwrap_or t.stamps.closed []) ≡ length (closed_rows q) → i < length (closed_rows q)
          → row_in (option_map (λ (p : PendingValue). held t.columns p.closed.rows (unwrap_or t.stamps.closed [])) q) i ≡ Some (stamped_row (stamp_at t.stamps (Closed i)) (decoded_row t.columns (get_or (closed_rows q) i no_row)))
      by None e lt = absurd (omega (arith, lt))
      by (Some p) e lt = held-at t.columns p.closed.rows (unwrap_or t.stamps.closed []) i e lt
  at-place (Main p i) lt =
      ap (λ o. row_in o i) (part-at t.columns t.main.parts t.stamps.parts p h.stamped.parts (part-there t.main.parts p i lt))
      ∙ held-at t.columns (get_or t.main.parts p []) (get_or t.stamps.parts p []) i (parts-same t.columns t.main.parts t.stamps.parts p h.stamped.parts) lt

  pub place-within : (p : Place) → IsSome (row_at (staged t) p) → number_of p < length (key_rows t p)
  place-within (L1 i) some = omega (arith, some-within (stamped_rows t.l1 t.stamps.l1.items) i some, stamped_rows-length t.l1 t.stamps.l1.items h.stamped.l1, length-map t.l1 keyed)
  place-within (L2 i) some = omega (arith, some-within (held t.columns t.l2.rows t.stamps.l2.items) i some, held-length t.columns t.l2.rows t.stamps.l2.items h.stamped.l2)
  place-within (Closed i) some = by t.pending closed-lengths some
    where
      by : (q : Option PendingValue) → length (unwrap_or t.stamps.closed []) ≡ length (closed_rows q) → IsSome (row_in (option_map (λ (p : PendingValue). held t.columns p.closed.rows (unwrap_or t.stamps.closed [])) q) i) → i < length (closed_rows q)
      by None e some = absurd (true≢false (sym some))
      by (Some p) e some = omega (arith, some-within (held t.columns p.closed.rows (unwrap_or t.stamps.closed [])) i some, held-length t.columns p.closed.rows (unwrap_or t.stamps.closed []) e)
  place-within (Main p i) some = by (slice_get (held_parts t.columns t.main.parts t.stamps.parts) p) refl some
    where
      by : (o : Option (List StagedRow)) → slice_get (held_parts t.columns t.main.parts t.stamps.parts) p ≡ o → IsSome (row_in o i) → i < length (get_or t.main.parts p [])
      by None e some = absurd (true≢false (sym some))
      by (Some list) e some =
          let there = part-within t.columns t.main.parts t.stamps.parts p (subst IsSome (sym e) refl) in
          let is : held t.columns (get_or t.main.parts p []) (get_or t.stamps.parts p []) ≡ list = same_Some (held t.columns (get_or t.main.parts p []) (get_or t.stamps.parts p [])) list (sym (part-at t.columns t.main.parts t.stamps.parts p h.stamped.parts there) ∙ e) in
          omega (arith, some-within list i some, sym (ap length is) ∙ held-length t.columns (get_or t.main.parts p []) (get_or t.stamps.parts p []) (parts-same t.columns t.main.parts t.stamps.parts p h.stamped.parts))

  -- the row in a place is the one that is read there
  pub is-read : (p : Place) (row : StagedRow) → row_at (staged t) p ≡ Some row → row ≡ read_at t p
  is-read p row e = same_Some row (read_at t p) (sym e ∙ at-place p (place-within p (subst IsSome (sym e) refl)))
