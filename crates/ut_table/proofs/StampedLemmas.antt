-- Rows with their stamps, as either list changes.
use Rattle.std.proofs.Common.{◌≡◌, ℕ, zero, suc, ◌<◌, List, [], ◌∷◌, ◌++◌, length, map, take, drop, get_or, set, replicate, Some, All, true≢false, refl, sym, ◌∙◌, ap, arith}
use Rattle.std.specs.Prelude.{slice_get, IsSome}
use Rattle.std.proofs.lemmas.List.{length-map, map-append, get_or-map}
use Rattle.std.proofs.lemmas.List.Elements.{All-head, All-tail}
use Rattle.ut_value.specs.declared.value.Column.{Column}
use Rattle.ut_value.specs.declared.value.Row.{Row}
use Rattle.ut_stamps.specs.declared.visibility.Stamp.{Stamp}
use Rattle.ut_l2.specs.KeyRows.{KeyRow, no_row}
use Rattle.ut_stamps.specs.StampLists.{no_stamp}
use Rattle.ut_staged.specs.Staged.{stamped_row, end_at}
use Rattle.ut_table.specs.Decoded.{decoded_row}
use Rattle.ut_table.specs.Contents.{stamped_rows, decoded_rows, held, held_parts}
use Rattle.ut_table.specs.Kept.{IsHeld}
use Rattle.ut_table.specs.Pending.{key_row}

pub stamped_rows-length : (rows : List Row) (stamps : List Stamp) → length stamps ≡ length rows → length (stamped_rows rows stamps) ≡ length rows
stamped_rows-length [] stamps e = refl
stamped_rows-length (r ∷ rs) [] e = absurd (omega arith)
stamped_rows-length (r ∷ rs) (s ∷ ss) e = ap suc (stamped_rows-length rs ss (omega (arith, e)))

pub stamped_rows-append : (rows more : List Row) (stamps news : List Stamp) → length stamps ≡ length rows → stamped_rows (rows ++ more) (stamps ++ news) ≡ stamped_rows rows stamps ++ stamped_rows more news
stamped_rows-append [] more [] news e = refl
stamped_rows-append [] more (s ∷ ss) news e = absurd (omega arith)
stamped_rows-append (r ∷ rs) more [] news e = absurd (omega arith)
stamped_rows-append (r ∷ rs) more (s ∷ ss) news e = ap (λ l. stamped_row s r ∷ l) (stamped_rows-append rs more ss news (omega (arith, e)))

pub stamped_rows-take : (n : ℕ) (rows : List Row) (stamps : List Stamp) → stamped_rows (take n rows) (take n stamps) ≡ take n (stamped_rows rows stamps)
stamped_rows-take zero rows stamps = refl
stamped_rows-take (suc n) [] stamps = refl
stamped_rows-take (suc n) (r ∷ rs) [] = refl
stamped_rows-take (suc n) (r ∷ rs) (s ∷ ss) = ap (λ l. stamped_row s r ∷ l) (stamped_rows-take n rs ss)

pub stamped_rows-drop : (n : ℕ) (rows : List Row) (stamps : List Stamp) → length stamps ≡ length rows → stamped_rows (drop n rows) (drop n stamps) ≡ drop n (stamped_rows rows stamps)
stamped_rows-drop zero rows stamps e = refl
stamped_rows-drop (suc n) [] stamps e = refl
stamped_rows-drop (suc n) (r ∷ rs) [] e = absurd (omega arith)
stamped_rows-drop (suc n) (r ∷ rs) (s ∷ ss) e = stamped_rows-drop n rs ss (omega (arith, e))

pub stamped_rows-same : (rows : List Row) (stamp : Stamp) → stamped_rows rows (replicate (length rows) stamp) ≡ map (stamped_row stamp) rows
stamped_rows-same [] stamp = refl
stamped_rows-same (r ∷ rs) stamp = ap (λ l. stamped_row stamp r ∷ l) (stamped_rows-same rs stamp)

-- the row at a place ends with its stamp
pub stamped_rows-end : (t i : ℕ) (rows : List Row) (stamps : List Stamp) → stamped_rows rows (set stamps i (record { begin = (get_or stamps i no_stamp).begin; end = Some t })) ≡ end_at t i (stamped_rows rows stamps)
stamped_rows-end t zero [] stamps = refl
stamped_rows-end t (suc i) [] stamps = refl
stamped_rows-end t zero (r ∷ rs) [] = refl
stamped_rows-end t (suc i) (r ∷ rs) [] = refl
stamped_rows-end t zero (r ∷ rs) (s ∷ ss) = refl
stamped_rows-end t (suc i) (r ∷ rs) (s ∷ ss) = ap (λ l. stamped_row s r ∷ l) (stamped_rows-end t i rs ss)

-- the row at a place
pub stamped_rows-at : (rows : List Row) (stamps : List Stamp) (i : ℕ) (d : Row) → length stamps ≡ length rows → i < length rows → slice_get (stamped_rows rows stamps) i ≡ Some (stamped_row (get_or stamps i no_stamp) (get_or rows i d))
stamped_rows-at [] stamps i d e lt = absurd (omega arith)
stamped_rows-at (r ∷ rs) [] i d e lt = absurd (omega arith)
stamped_rows-at (r ∷ rs) (s ∷ ss) zero d e lt = refl
stamped_rows-at (r ∷ rs) (s ∷ ss) (suc i) d e lt = stamped_rows-at rs ss i d (omega (arith, e)) (omega (arith, lt))

pub some-within : {X : Type 0} (xs : List X) (i : ℕ) → IsSome (slice_get xs i) → i < length xs
some-within [] i h = absurd (true≢false (sym h))
some-within (x ∷ xs) zero h = omega arith
some-within (x ∷ xs) (suc i) h = omega (arith, some-within xs i h)

-- ---- rows that are held as keys

module _ (columns : List Column) where
  pub decoded-length : (rows : List KeyRow) (stamps : List Stamp) → length stamps ≡ length rows → length stamps ≡ length (decoded_rows columns rows)
  decoded-length rows stamps e = e ∙ sym (length-map rows (decoded_row columns))

  pub held-length : (rows : List KeyRow) (stamps : List Stamp) → length stamps ≡ length rows → length (held columns rows stamps) ≡ length rows
  held-length rows stamps e = stamped_rows-length (decoded_rows columns rows) stamps (decoded-length rows stamps e) ∙ length-map rows (decoded_row columns)

  pub held-at : (rows : List KeyRow) (stamps : List Stamp) (i : ℕ) → length stamps ≡ length rows → i < length rows → slice_get (held columns rows stamps) i ≡ Some (stamped_row (get_or stamps i no_stamp) (decoded_row columns (get_or rows i no_row)))
  held-at rows stamps i e lt =
      stamped_rows-at (decoded_rows columns rows) stamps i (decoded_row columns no_row) (decoded-length rows stamps e) (omega (arith, lt, length-map rows (decoded_row columns)))
      ∙ ap (λ r. Some (stamped_row (get_or stamps i no_stamp) r)) (get_or-map (decoded_row columns) rows i no_row (decoded_row columns no_row) lt)

  pub held-append : (rows more : List KeyRow) (stamps news : List Stamp) → length stamps ≡ length rows → held columns (rows ++ more) (stamps ++ news) ≡ held columns rows stamps ++ held columns more news
  held-append rows more stamps news e =
      ap (λ l. stamped_rows l (stamps ++ news)) (map-append (decoded_row columns) rows more)
      ∙ stamped_rows-append (decoded_rows columns rows) (decoded_rows columns more) stamps news (decoded-length rows stamps e)

  pub held-keys : (rows : List KeyRow) (stamps : List Stamp) → All (IsHeld columns) rows → length stamps ≡ length rows → map key_row (held columns rows stamps) ≡ rows
  held-keys [] stamps h e = refl
  held-keys (row ∷ rows) [] h e = absurd (omega arith)
  held-keys (row ∷ rows) (s ∷ ss) h e = λ i. (All-head (IsHeld columns) row rows h).keys i ∷ held-keys rows ss (All-tail (IsHeld columns) row rows h) (omega (arith, e)) i

  -- ---- parts

  abbrev pub same_lengths : List (List KeyRow) → List (List Stamp) → Type 0
  same_lengths parts stamps = map length stamps ≡ map length parts

  pub parts-same : (parts : List (List KeyRow)) (stamps : List (List Stamp)) (p : ℕ) → same_lengths parts stamps → length (get_or stamps p []) ≡ length (get_or parts p [])
  parts-same [] [] p e = refl
  parts-same [] (s ∷ ss) p e = absurd (omega (arith, ap length e))
  parts-same (r ∷ rs) [] p e = absurd (omega (arith, ap length e))
  parts-same (r ∷ rs) (s ∷ ss) zero e = ap (λ (l : List ℕ). get_or l 0 0) e
  parts-same (r ∷ rs) (s ∷ ss) (suc p) e = parts-same rs ss p (ap (drop 1) e)

  pub part-at : (parts : List (List KeyRow)) (stamps : List (List Stamp)) (p : ℕ) → same_lengths parts stamps → p < length parts → slice_get (held_parts columns parts stamps) p ≡ Some (held columns (get_or parts p []) (get_or stamps p []))
  part-at [] stamps p e lt = absurd (omega arith)
  part-at (r ∷ rs) [] p e lt = absurd (omega (arith, ap length e))
  part-at (r ∷ rs) (s ∷ ss) zero e lt = refl
  part-at (r ∷ rs) (s ∷ ss) (suc p) e lt = part-at rs ss p (ap (drop 1) e) (omega (arith, lt))

  pub part-within : (parts : List (List KeyRow)) (stamps : List (List Stamp)) (p : ℕ) → IsSome (slice_get (held_parts columns parts stamps) p) → p < length parts
  part-within [] stamps p some = absurd (true≢false (sym some))
  part-within (r ∷ rs) [] p some = absurd (true≢false (sym some))
  part-within (r ∷ rs) (s ∷ ss) zero some = omega arith
  part-within (r ∷ rs) (s ∷ ss) (suc p) some = omega (arith, part-within rs ss p some)

  pub parts-length : (parts : List (List KeyRow)) (stamps : List (List Stamp)) → same_lengths parts stamps → length (held_parts columns parts stamps) ≡ length parts
  parts-length [] stamps e = refl
  parts-length (r ∷ rs) [] e = absurd (omega (arith, ap length e))
  parts-length (r ∷ rs) (s ∷ ss) e = ap suc (parts-length rs ss (ap (drop 1) e))

  -- the first parts, and another behind them
  pub parts-rebuilt : (n : ℕ) (parts : List (List KeyRow)) (stamps : List (List Stamp)) (rows : List KeyRow) (list : List Stamp) → same_lengths parts stamps
      → held_parts columns (take n parts ++ rows ∷ []) (take n stamps ++ list ∷ []) ≡ take n (held_parts columns parts stamps) ++ held columns rows list ∷ []
  parts-rebuilt zero parts stamps rows list e = refl
  parts-rebuilt (suc n) [] [] rows list e = refl
  parts-rebuilt (suc n) [] (s ∷ ss) rows list e = absurd (omega (arith, ap length e))
  parts-rebuilt (suc n) (r ∷ rs) [] rows list e = absurd (omega (arith, ap length e))
  parts-rebuilt (suc n) (r ∷ rs) (s ∷ ss) rows list e = ap (λ l. held columns r s ∷ l) (parts-rebuilt n rs ss rows list (ap (drop 1) e))

  -- the row at a place of a part ends
  pub parts-end : (t p i : ℕ) (parts : List (List KeyRow)) (stamps : List (List Stamp)) → same_lengths parts stamps
      → (let list = get_or stamps p [] in
      held_parts columns parts (set stamps p (set list i (record { begin = (get_or list i no_stamp).begin; end = Some t }))))
      ≡ set (held_parts columns parts stamps) p (end_at t i (get_or (held_parts columns parts stamps) p []))
  parts-end t p i [] [] e = refl
  parts-end t p i [] (s ∷ ss) e = absurd (omega (arith, ap length e))
  parts-end t p i (r ∷ rs) [] e = absurd (omega (arith, ap length e))
  parts-end t zero i (r ∷ rs) (s ∷ ss) e = ap (λ l. l ∷ held_parts columns rs ss) (stamped_rows-end t i (decoded_rows columns r) s)
  parts-end t (suc p) i (r ∷ rs) (s ∷ ss) e = ap (λ l. held columns r s ∷ l) (parts-end t p i rs ss (ap (drop 1) e))
