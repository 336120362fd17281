-- The flags by lists of stamps are those of the stages.
use Rattle.std.proofs.Common.{◌≡◌, inl, inr, ℕ, zero, suc, ◌+◌, ◌<◌, ◌≤◌, Bool, true, false, ◌||◌, nat_lt, List, [], ◌∷◌, ◌++◌, length, map, take, drop, get_or, refl, sym, ◌∙◌, ap, arith, length-append, lt-ltb, le-ltb}
use Rattle.std.proofs.lemmas.Bool.{cases_lt}
use Rattle.std.proofs.lemmas.List.{length-map, map-append, get_or-map, get_or_append_left, take_more, take_all}
use Rattle.std.proofs.Math.Seq.{get_or-append_seam}
use Rattle.ut_value.specs.declared.value.Column.{Column}
use Rattle.ut_value.specs.declared.value.Row.{Row}
use Rattle.ut_value.specs.declared.entry.MergeKind.{MergeKind}
use Rattle.ut_plain.specs.Merges.{staying}
use Rattle.ut_stamps.specs.declared.fates.Fate.{Fate}
use Rattle.ut_stamps.specs.declared.visibility.Stamp.{Stamp}
use Rattle.ut_stamps.specs.Kept.{stamp_keeps}
use Rattle.ut_exact.specs.Places.{StagedRow}
use Rattle.ut_l2.specs.KeyRows.{KeyRow}
use Rattle.ut_staged.specs.Keeping.{all_of, needed_of, stamp_flags}
use Rattle.ut_staged.proofs.OrderLemmas.{staying-fits}
use Rattle.ut_table.specs.Contents.{Contents, stamped_rows, decoded_rows, held_parts, staged}
use Rattle.ut_table.specs.Kept.{IsTable}
use Rattle.ut_table.specs.Flags.{flags_behind}
use Rattle.ut_table.proofs.StampedLemmas.{decoded-length, parts-length}

module _ (fates : List Fate) (snapshots : List ℕ) where
  abbrev pub flag : Bool → Stamp → Bool
  flag stays stamp = stays || stamp_keeps fates snapshots stamp

  next : (q n : ℕ) → nat_lt q n ≡ nat_lt (suc q) (suc n)
  next q n = elim (cases_lt q n) [
    | inl lt ↦ lt-ltb q n lt ∙ sym (lt-ltb (suc q) (suc n) (omega (arith, lt)))
    | inr le ↦ le-ltb q n le ∙ sym (le-ltb (suc q) (suc n) (omega (arith, le)))
  ]

  -- the flags of one list
  pub flags-at : (stay p : ℕ) (lists : List (List Stamp)) → p < length lists → get_or (flags_behind fates snapshots stay lists) p [] ≡ map (flag (nat_lt p stay)) (get_or lists p [])
  flags-at zero p lists lt =
      get_or-map (map (stamp_keeps fates snapshots)) lists p [] [] lt
      ∙ (λ i. map (flag (sym (le-ltb p 0 (omega arith)) i)) (get_or lists p []))
  flags-at (suc n) p [] lt = absurd (omega (arith, lt))
  flags-at (suc n) zero (l ∷ ls) lt = λ i. map (flag (sym (lt-ltb 0 (suc n) (omega arith)) i)) l
  flags-at (suc n) (suc q) (l ∷ ls) lt = flags-at n q ls (omega (arith, lt)) ∙ (λ i. map (flag (next q n i)) (get_or ls q []))

  pub flags-length : (stay : ℕ) (lists : List (List Stamp)) → length (flags_behind fates snapshots stay lists) ≡ length lists
  flags-length zero [] = refl
  flags-length zero (l ∷ ls) = ap suc (flags-length zero ls)
  flags-length (suc n) [] = refl
  flags-length (suc n) (l ∷ ls) = ap suc (flags-length n ls)

  -- one list more
  pub flags-next : (stay p : ℕ) (parts : List (List Stamp)) (last : List Stamp) (flags : List Bool) → p < length parts → flags ≡ map (flag (nat_lt p stay)) (get_or parts p [])
      → take p (flags_behind fates snapshots stay (parts ++ last ∷ [])) ++ flags ∷ [] ≡ take (p + 1) (flags_behind fates snapshots stay (parts ++ last ∷ []))
  flags-next stay p parts last flags lt e =
      let lists = parts ++ last ∷ [] in
      let within : p < length lists = omega (arith, lt, length-append parts (last ∷ [])) in
      let is : flags ≡ get_or (flags_behind fates snapshots stay lists) p [] =
      e ∙ ap (map (flag (nat_lt p stay))) (sym (get_or_append_left parts (last ∷ []) [] p lt)) ∙ sym (flags-at stay p lists within) in
      (λ i. take p (flags_behind fates snapshots stay lists) ++ is i ∷ []) ∙ sym (take_more (flags_behind fates snapshots stay lists) p [] (omega (arith, within, flags-length stay lists)))

  -- and the last one
  pub flags-last : (stay p : ℕ) (parts : List (List Stamp)) (last : List Stamp) (flags : List Bool) → p ≡ length parts → stay ≤ length parts → flags ≡ map (flag false) last
      → take p (flags_behind fates snapshots stay (parts ++ last ∷ [])) ++ flags ∷ [] ≡ flags_behind fates snapshots stay (parts ++ last ∷ [])
  flags-last stay p parts last flags at le e =
      let lists = parts ++ last ∷ [] in
      let count = length-append parts (last ∷ []) in
      let within : p < length lists = omega (arith, at, count) in
      let is : flags ≡ get_or (flags_behind fates snapshots stay lists) p [] =
      e ∙ (λ i. map (flag (sym (le-ltb p stay (omega (arith, at, le))) i)) last)
      ∙ ap (map (flag (nat_lt p stay))) (sym (ap (λ k. get_or lists k []) at ∙ get_or-append_seam parts last [] []))
      ∙ sym (flags-at stay p lists within) in
      (λ i. take p (flags_behind fates snapshots stay lists) ++ is i ∷ [])
      ∙ sym (take_more (flags_behind fates snapshots stay lists) p [] (omega (arith, within, flags-length stay lists)))
      ∙ take_all (p + 1) (flags_behind fates snapshots stay lists) (omega (arith, flags-length stay lists, count, at))

  -- ---- of rows with these stamps

  abbrev stamps_of : List StagedRow → List Stamp
  stamps_of rows = map (λ (r : StagedRow). r.stamp) rows

  flags-of_rows : (f : Stamp → Bool) (rows : List StagedRow) → map f (stamps_of rows) ≡ map (λ (r : StagedRow). f r.stamp) rows
  flags-of_rows f [] = refl
  flags-of_rows f (r ∷ rs) = ap (λ l. f r.stamp ∷ l) (flags-of_rows f rs)

  flags-of_lists : (stay : ℕ) (lists : List (List StagedRow)) → flags_behind fates snapshots stay (map stamps_of lists) ≡ map all_of (take stay lists) ++ map (needed_of fates snapshots) (drop stay lists)
  flags-of_lists zero [] = refl
  flags-of_lists zero (l ∷ ls) = λ i. flags-of_rows (stamp_keeps fates snapshots) l i ∷ flags-of_lists zero ls i
  flags-of_lists (suc n) [] = refl
  flags-of_lists (suc n) (l ∷ ls) = λ i. flags-of_rows (λ (s : Stamp). true) l i ∷ flags-of_lists n ls i

  stamps-of_rows : (rows : List Row) (stamps : List Stamp) → length stamps ≡ length rows → stamps_of (stamped_rows rows stamps) ≡ stamps
  stamps-of_rows [] [] e = refl
  stamps-of_rows [] (s ∷ ss) e = absurd (omega (arith, e))
  stamps-of_rows (r ∷ rs) [] e = absurd (omega (arith, e))
  stamps-of_rows (r ∷ rs) (s ∷ ss) e = ap (λ l. s ∷ l) (stamps-of_rows rs ss (omega (arith, e)))

  stamps-of_parts : (columns : List Column) (parts : List (List KeyRow)) (stamps : List (List Stamp)) → map length stamps ≡ map length parts → map stamps_of (held_parts columns parts stamps) ≡ stamps
  stamps-of_parts columns [] [] e = refl
  stamps-of_parts columns [] (s ∷ ss) e = absurd (omega (arith, ap length e))
  stamps-of_parts columns (r ∷ rs) [] e = absurd (omega (arith, ap length e))
  stamps-of_parts columns (r ∷ rs) (s ∷ ss) e = λ i.
      stamps-of_rows (decoded_rows columns r) s (decoded-length columns r s (ap (λ (l : List ℕ). get_or l 0 0) e)) i ∷ stamps-of_parts columns rs ss (ap (drop 1) e) i

  pub flags-staged : {t : Contents} (h : IsTable t) (kind : MergeKind) (stay : ℕ) → stay ≡ staying kind (length t.main.parts) → flags_behind fates snapshots stay (t.stamps.parts ++ t.stamps.l2.items ∷ []) ≡ stamp_flags fates snapshots kind (staged t)
  flags-staged {t} h kind stay e =
      let lists = (staged t).parts ++ (staged t).l2 ∷ [] in
      let stamps : map stamps_of ((staged t).parts ++ (staged t).l2 ∷ []) ≡ t.stamps.parts ++ t.stamps.l2.items ∷ [] =
      map-append stamps_of (staged t).parts ((staged t).l2 ∷ [])
      ∙ (λ i. stamps-of_parts t.columns t.main.parts t.stamps.parts h.stamped.parts i ++ stamps-of_rows (decoded_rows t.columns t.l2.rows) t.stamps.l2.items (decoded-length t.columns t.l2.rows t.stamps.l2.items h.stamped.l2) i ∷ []) in
      let same : stay ≡ staying kind (length (staged t).parts) = e ∙ ap (staying kind) (sym (parts-length t.columns t.main.parts t.stamps.parts h.stamped.parts)) in
      (λ i. flags_behind fates snapshots (same i) (sym stamps i)) ∙ flags-of_lists (staying kind (length (staged t).parts)) lists

-- no more parts stay than there are
pub stays-in : {t : Contents} (h : IsTable t) (kind : MergeKind) (stay : ℕ) → stay ≡ staying kind (length t.main.parts) → stay ≤ length t.stamps.parts
stays-in {t} h kind stay e =
    let counts : length t.stamps.parts ≡ length t.main.parts = sym (length-map t.stamps.parts length) ∙ ap length h.stamped.parts ∙ length-map t.main.parts length in
    omega (arith, e, counts, staying-fits kind (length t.main.parts))
